-- acquire_page_token: opens and hands on along the way down, takes below, refreshes on the way up. Assumes nothing.
use Rattle.sizes.specs.Size.{code_of}
use Rattle.pages.proofs.node.+acquire_page_token.Given as goal

abbrev pub decreases-acquire_page_token : goal.decreases-acquire_page_token
decreases-acquire_page_token l = code_of l.size
