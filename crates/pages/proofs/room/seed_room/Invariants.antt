-- seed_room: the words that a seed would open, block by block. Assumes nothing.
use Prim.Native.Nat.{suc, ◌+◌, ◌*◌, ◌-◌, ◌≤◌}
use mathlib.Core.Path.{◌≡◌}
use Rattle.sizes.specs.Six.{six, most_code, most_children}
use Rattle.pool.specs.Room.{seed_openings_w}
use Rattle.pages.specs.Before.{left_by}
use Rattle.pages.proofs.room.seed_room.Given as goal

-- the total so far and what is left are the seed's; a block has a frame at least, and opens a block of children a size at most
abbrev pub invariant-loop-at : goal.invariant-loop-at
invariant-loop-at l = record {
  counted : l.total + left_by l.before (l.end.0 - l.at.0) l.pool l.at.0 l.end.0 ≡ seed_openings_w six (l.end.0 - l.fn.start.0) l.pool l.fn.start.0 l.end.0;
  small : l.total ≤ suc most_children * most_code * l.at.0;
  within : l.at.0 ≤ l.end.0;
}

abbrev pub decreases-loop-at : goal.decreases-loop-at
decreases-loop-at l = l.end.0 - l.at.0
