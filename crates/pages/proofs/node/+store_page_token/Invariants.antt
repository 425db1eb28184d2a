-- store_page_token: opens on the way down, stores below, merges on the way up. Assumes nothing.
use Rattle.sizes.specs.Size.{code_of}
use Rattle.pages.proofs.node.+store_page_token.Given as goal

abbrev pub decreases-store_page_token : goal.decreases-store_page_token
decreases-store_page_token l = code_of l.size
