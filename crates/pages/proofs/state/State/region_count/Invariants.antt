-- Proof of `region_count`: the regions are i and those of the places from i on. Assumes nothing.
use mathlib.Core.Path.{◌≡◌}
use Prim.Native.Nat.{◌+◌}
use lib.ListN.{length, drop}
use Rattle.sizes.specs.Six.{six}
use Rattle.pool.specs.Regions.{regions_of}
use Rattle.pages.proofs.state.State.region_count.Given as goal

abbrev pub invariant-loop-i : goal.invariant-loop-i
invariant-loop-i l = length (regions_of six l.self.starts l.self.ends) ≡ l.i + length (regions_of six (drop l.i l.self.starts) (drop l.i l.self.ends))
