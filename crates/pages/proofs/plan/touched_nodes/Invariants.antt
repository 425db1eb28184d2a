-- Proof of `touched_nodes`: the total and what the regions from i on touch make up what all touch. Assumes nothing.
use mathlib.Core.Bool.{true}
use mathlib.Core.List.{List}
use mathlib.Core.Path.{◌≡◌}
use Prim.Native.Nat.{ℕ, ◌+◌, ◌*◌, ◌≤◌}
use lib.ListN.{drop}
use Rattle.sizes.specs.Six.{six}
use Rattle.sizes.specs.Size.{code_of}
use Rattle.pool.specs.Limits.{most_frames}
use Rattle.pool.specs.Planned.{touched_by}
use Rattle.pool.specs.Regions.{regions_of}
use Rattle.pool.specs.RegionTest.{regions_pass}
use Rattle.pool.specs.Words.{frames_of}
use Rattle.pages.proofs.plan.touched_nodes.Given as goal

-- what the regions from the place i on touch
abbrev pub from : (starts ends : List ℕ) (size i : ℕ) → ℕ
from starts ends size i = touched_by (regions_of six (drop i starts) (drop i ends)) size

abbrev pub invariant-loop-i : goal.invariant-loop-i
invariant-loop-i l =
    (l.total ≤ (l.i + 1) * most_frames) × (regions_pass six (drop l.i l.state.starts) (drop l.i l.state.ends) ≡ true) × (l.initial.total + from l.state.starts l.state.ends (frames_of six (code_of l.size)) 0 ≡ l.total + from l.state.starts l.state.ends (frames_of six (code_of l.size)) l.i)
