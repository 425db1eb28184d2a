-- `first_child_with_room` counts on to the first child that has enough. Assumes nothing.
use Rattle.std.proofs.Common.{◌≡◌, ◌+◌, ◌-◌, ◌<◌, length, drop, leb}
use Rattle.sizes.specs.Size.{code_of}
use Rattle.model.specs.Lists.{first}
use Rattle.pool.specs.Words.{max_of}
use Rattle.pages.proofs.children.first_child_with_room.Given as goal

abbrev pub invariant-loop-size : goal.invariant-loop-size
invariant-loop-size l =
    (l.number < length l.children) × (l.number + first (λ v. leb (code_of l.size) (max_of v)) (drop l.number l.children) ≡ first (λ v. leb (code_of l.size) (max_of v)) l.children)

abbrev pub decreases-loop-size : goal.decreases-loop-size
decreases-loop-size l = length l.children - l.number
