-- any_frame_free: whether some frame of a block is free, read on the way down. Assumes nothing.
use Rattle.sizes.specs.Size.{code_of}
use Rattle.pages.proofs.read.+any_frame_free.Given as goal

abbrev pub decreases-any_frame_free : goal.decreases-any_frame_free
decreases-any_frame_free l = code_of l.size
