-- The nodes from the first to the last, less these two where they are met. Assumes nothing.
use mathlib.Core.List.{List}
use mathlib.Core.Path.{◌≡◌, refl, sym, ap, ◌∙◌, subst}
use Prim.Native.Nat.{ℕ, suc, ◌*◌, ◌-◌, ◌/◌, ◌%◌, ◌≤◌, ◌<◌}
use native.Mathlib.Omega.{arith}
use native.Mathlib.Nat.{div-le_self}
use native.Mathlib.Numerals.{sub-one}
use lib.ListN.{drop}
use Rattle.sizes.specs.Six.{six}
use Rattle.sizes.specs.Size.{code_of}
use Rattle.sizes.specs.declared.page_size.PageSize.{PageSize}
use Rattle.model.specs.Calls.{Region}
use Rattle.model.specs.Frames.{bit}
use Rattle.pool.specs.Limits.{most_frames}
use Rattle.pool.specs.Planned.{meets, new_nodes}
use Rattle.pool.specs.Regions.{regions_of}
use Rattle.pool.specs.Words.{frames_of}
use Rattle.pool.proofs.Planned.{first-last}
use Rattle.pages.proofs.Touched.{new-one, new-more, node-within, size-divides}
use Rattle.pages.proofs.plan.new_nodes.Goals as goal
use Rattle.pages.proofs.plan.new_nodes.Goals.{Start}

-- the regions from the place `first` on
abbrev rest : Start → List Region
rest s = regions_of six (drop s.args.first s.args.state.now.starts) (drop s.args.first s.args.state.now.ends)

-- what is read of one node
met-at : (rs : List Region) (f n i : ℕ) → f ≡ n → bit (meets rs n i) ≡ bit (meets rs f i)
met-at rs f n i e = ap (λ (m : ℕ). bit (meets rs m i)) (sym e)

-- the first node and the last
order : (s : Start) (f : ℕ) → 1 ≤ f → s.args.span.start.0 / f ≤ (s.args.span.end.0 - 1) / f
order s f some = rw (sub-one s.args.span.end.0) (first-last s.args.span.start.0 s.args.span.end.0 f s.args.span.some some)

most : (s : Start) (f : ℕ) → (s.args.span.end.0 - 1) / f < most_frames
most s f = omega (arith, div-le_self (s.args.span.end.0 - 1) f, s.args.span.some, s.args.span.within)

-- a frame's node of f frames ends within memory
ends : (size : PageSize) (f x : ℕ) → f ≡ frames_of six (code_of size) → 1 ≤ f → x < most_frames → suc (x / f) * frames_of six (code_of size) ≤ most_frames
ends size f x e some l = subst (λ (n : ℕ). suc (x / f) * n ≤ most_frames) e (node-within f x some (ap (λ (n : ℕ). most_frames % n) e ∙ size-divides size) l)

pub met-requires-clause-within : goal.met-requires-clause-within
met-requires-clause-within c =
    let f = c.frames_in-frames in
    ends c.args.size f.result c.args.span.start.0 f.ensures.exact f.ensures.some (omega (arith, c.args.span.some, c.args.span.within))

pub met-requires-2-clause-within : goal.met-requires-2-clause-within
met-requires-2-clause-within c =
    let f = c.frames_in-frames in
    ends c.args.size f.result (c.args.span.end.0 - 1) f.ensures.exact f.ensures.some (omega (arith, c.args.span.some, c.args.span.within))

pub returns-then-low-high-clause-exact : goal.returns-then-low-high-clause-exact
returns-then-low-high-clause-exact c =
    let f = c.frames_in-frames in
    let g = rest (goal.at.returns-then-low-high-clause-exact c).Start in
    let k = c.met in
    new-one g c.args.span.start.0 c.args.span.end.0 f.result _ k.result c.if-low-high.true (k.ensures.exact ∙ met-at g f.result _ _ f.ensures.exact) k.ensures.most refl
    ∙ ap (new_nodes g c.args.span.start.0 c.args.span.end.0) f.ensures.exact

pub returns-clause-exact : goal.returns-clause-exact
returns-clause-exact c =
    let f = c.frames_in-frames in
    let s = (goal.at.returns-clause-exact c).Start in
    let k = c.met in
    new-more (rest s) c.args.span.start.0 c.args.span.end.0 f.result _ k.result c.met-2.result c.if-low-high.false (order s f.result f.ensures.some)
    (k.ensures.exact ∙ met-at (rest s) f.result _ _ f.ensures.exact) k.ensures.most (c.met-2.ensures.exact ∙ met-at (rest s) f.result _ _ f.ensures.exact) c.met-2.ensures.most refl
    ∙ ap (new_nodes (rest s) c.args.span.start.0 c.args.span.end.0) f.ensures.exact
