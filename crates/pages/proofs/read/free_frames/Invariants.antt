-- `free_frames` sweeps from block to block: what it has counted and the frames of the blocks left are those of the tree. The measure is the words left. Assumes nothing.
use Prim.Native.Nat.{◌-◌}
use Rattle.sizes.specs.Six.{six}
use Rattle.model.specs.Ladder.{top}
use Rattle.pool.proofs.FreeFrames.{Swept}
use Rattle.pages.proofs.read.free_frames.Given as goal

abbrev pub invariant-loop-header : goal.invariant-loop-header
invariant-loop-header l = Swept six (top six) l.pool l.used l.total l.header

abbrev pub decreases-loop-header : goal.decreases-loop-header
decreases-loop-header l = l.used - l.header
