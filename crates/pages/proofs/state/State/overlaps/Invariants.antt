-- Proof of `overlaps`: the total and what the regions from i on have make up what those from `first` on have. Assumes nothing.
use mathlib.Core.Path.{◌≡◌}
use mathlib.Core.List.{List}
use Prim.Native.Nat.{ℕ, ◌+◌, ◌*◌, ◌-◌, ◌≤◌}
use lib.ListN.{drop}
use Rattle.sizes.specs.Six.{six}
use Rattle.model.specs.Lists.{sum}
use Rattle.model.specs.TreeStore.{overlap}
use Rattle.pool.specs.Limits.{most_frames}
use Rattle.pool.specs.Regions.{regions_of}
use Rattle.pages.proofs.state.State.overlaps.Given as goal

-- the frames of the block in the regions from the place i on
abbrev pub from : (starts ends : List ℕ) (base size i : ℕ) → ℕ
from starts ends base size i = sum (overlap base size) (regions_of six (drop i starts) (drop i ends))

abbrev pub invariant-loop-i : goal.invariant-loop-i
invariant-loop-i l =
    (l.total ≤ l.i * most_frames) × (from l.self.starts l.self.ends l.span.start.0 (l.span.end.0 - l.span.start.0) l.fn.first ≡ l.total + from l.self.starts l.self.ends l.span.start.0 (l.span.end.0 - l.span.start.0) l.i)
