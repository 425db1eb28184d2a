-- first_base: the block that an acquire takes, read on the way down. Assumes nothing.
use Rattle.sizes.specs.Size.{code_of}
use Rattle.pages.proofs.room.+first_base.Given as goal

abbrev pub decreases-first_base : goal.decreases-first_base
decreases-first_base l = code_of l.size
