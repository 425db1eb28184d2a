-- Proof of `regions_pass`: the regions from i on pass exactly if all do. Assumes nothing.
use mathlib.Core.Path.{◌≡◌}
use lib.ListN.{drop}
use Rattle.sizes.specs.Six.{six}
use Rattle.pool.specs.RegionTest.{regions_pass}
use Rattle.pages.proofs.state.State.regions_pass.Given as goal

abbrev pub invariant-loop-i : goal.invariant-loop-i
invariant-loop-i l = regions_pass six l.self.starts l.self.ends ≡ regions_pass six (drop l.i l.self.starts) (drop l.i l.self.ends)
