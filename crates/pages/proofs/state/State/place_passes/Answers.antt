-- The region passes, and its frames in the regions behind it are none. Assumes nothing.
use mathlib.Core.Path.{sym, ap, ap₂, ◌∙◌}
use mathlib.Core.List.{List}
use Prim.Native.Nat.{ℕ, ◌+◌}
use native.Mathlib.Omega.{arith}
use lib.Dec.{eqb}
use lib.ListN.{drop, get_or}
use Rattle.sizes.specs.Six.{six}
use Rattle.model.specs.Calls.{Region}
use Rattle.model.specs.TreeStore.{apart}
use Rattle.pool.specs.Regions.{regions_of}
use Rattle.pool.proofs.RegionTest.{apart-sum, at-refused, at-passed}
use Rattle.pages.specs.Answers.{number_of}
use Rattle.pages.proofs.Refused.{number_of-some}
use Rattle.pages.proofs.SeedTests.{spans-passes, refused-fails}
use Rattle.pages.proofs.state.State.place_passes.Goals as goal

pub returns-in-Ok : goal.returns-in-Ok
returns-in-Ok c =
    let ss : List ℕ = c.args.self.now.starts in
    let es : List ℕ = c.args.self.now.ends in
    let i : ℕ = c.args.place in
    let k = c.in-Ok in
    let rs : List Region = regions_of six (drop (i + 1) ss) (drop (i + 1) es) in
    ap (λ (n : ℕ). eqb n 0) c.overlaps.ensures
    ∙ apart-sum k.span.start.0 k.span.end.0 rs (omega (arith, k.span.some))
    ∙ ap₂ (λ (x y : ℕ). apart x y rs) k.ensures.first k.ensures.last
    ∙ sym (at-passed six ss es i (spans-passes six (get_or ss i 0) (get_or es i 0) k.ensures.spans))

pub returns-in-Err : goal.returns-in-Err
returns-in-Err c =
    let ss : List ℕ = c.args.self.now.starts in
    let es : List ℕ = c.args.self.now.ends in
    let i : ℕ = c.args.place in
    sym (at-refused six ss es i (refused-fails six (get_or ss i 0) (get_or es i 0) (number_of c.in-Err.field-0) c.in-Err.ensures.refusal (number_of-some c.in-Err.field-0)))
