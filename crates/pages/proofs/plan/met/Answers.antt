-- The node is met exactly if it shares a frame with the regions. Assumes nothing.
use mathlib.Core.Path.{◌≡◌, sym, ap, ap₂, ◌∙◌}
use mathlib.Core.List.{List}
use Prim.Native.Nat.{ℕ, ◌*◌, ◌-◌}
use native.Mathlib.Omega.{arith}
use lib.ListN.{drop}
use Rattle.sizes.specs.Six.{six}
use Rattle.sizes.specs.Size.{code_of}
use Rattle.model.specs.Calls.{Region}
use Rattle.model.specs.Lists.{sum}
use Rattle.model.specs.TreeStore.{overlap}
use Rattle.pool.specs.Regions.{regions_of}
use Rattle.pool.specs.Words.{frames_of}
use Rattle.pages.proofs.Touched.{met-none, met_some}
use Rattle.pages.proofs.plan.met.Goals as goal
use Rattle.pages.proofs.plan.met.Goals.{After-overlaps, Start}

-- the regions from the place `first` on
abbrev rest : Start → List Region
rest s = regions_of six (drop s.args.first s.args.state.now.starts) (drop s.args.first s.args.state.now.ends)

-- the node's frames in them
shared : (c : After-overlaps) → c.overlaps.result ≡ sum (overlap (c.args.number * frames_of six (code_of c.args.size)) (frames_of six (code_of c.args.size))) (regions_of six (drop c.args.first c.args.state.now.starts) (drop c.args.first c.args.state.now.ends))
shared c =
    let n = c.block-node.result in
    let f = c.frames_in-frames.ensures.exact in
    let start : n.start.0 ≡ c.args.number * c.frames_in-frames.result = c.block-node.ensures.start in
    let size : n.end.0 - n.start.0 ≡ c.frames_in-frames.result = omega (arith, c.block-node.ensures.start, c.block-node.ensures.end) in
    c.overlaps.ensures ∙ ap₂ (λ (b n : ℕ). sum (overlap b n) (regions_of six (drop c.args.first c.args.state.now.starts) (drop c.args.first c.args.state.now.ends))) (start ∙ ap (λ (f : ℕ). c.args.number * f) f) (size ∙ f)

pub returns-then-overlaps-eq0-clause-exact : goal.returns-then-overlaps-eq0-clause-exact
returns-then-overlaps-eq0-clause-exact c =
    sym (met-none (rest (goal.at.returns-then-overlaps-eq0-clause-exact c).Start) (frames_of six (code_of c.args.size)) c.args.number c.overlaps.result (shared (goal.at.returns-then-overlaps-eq0-clause-exact c).After-overlaps) c.if-overlaps-eq0.true)

pub returns-clause-exact : goal.returns-clause-exact
returns-clause-exact c =
    sym (met_some (rest (goal.at.returns-clause-exact c).Start) (frames_of six (code_of c.args.size)) c.args.number c.overlaps.result (shared (goal.at.returns-clause-exact c).After-overlaps) c.if-overlaps-eq0.false)
