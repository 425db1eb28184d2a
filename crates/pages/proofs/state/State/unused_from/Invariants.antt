-- Proof of `unused_from`: the places from i on are zero exactly if those from `first` on are. Assumes nothing.
use mathlib.Core.Path.{◌≡◌}
use lib.ListN.{drop}
use Rattle.pool.specs.RegionTest.{zeros}
use Rattle.pages.proofs.state.State.unused_from.Given as goal

abbrev pub invariant-loop-i : goal.invariant-loop-i
invariant-loop-i l = zeros (drop l.fn.first l.self.starts) (drop l.fn.first l.self.ends) ≡ zeros (drop l.i l.self.starts) (drop l.i l.self.ends)
