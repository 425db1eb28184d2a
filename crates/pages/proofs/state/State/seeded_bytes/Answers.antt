-- What the whole memory shares with the regions is all of them, and their bytes fit. Assumes nothing.
use mathlib.Core.Path.{◌≡◌, ap, ap₂, ◌∙◌}
use mathlib.Core.List.{List}
use Prim.Native.Nat.{ℕ, ◌*◌, ◌-◌}
use native.Mathlib.Omega.{arith}
use Rattle.sizes.specs.Six.{six}
use Rattle.model.specs.Lists.{sum}
use Rattle.model.specs.TreeStore.{overlap, seeded_frames}
use Rattle.pool.specs.Limits.{most_frames}
use Rattle.pool.specs.Regions.{regions_of}
use Rattle.pool.proofs.Sizes.{page, root-frames}
use Rattle.pool.proofs.With.{seeded-six}
use Rattle.pages.proofs.state.State.seeded_bytes.Goals as goal
use Rattle.pages.proofs.state.State.seeded_bytes.Goals.{After-overlaps}

-- the code counts all frames of the regions
all-frames : (c : After-overlaps) → c.overlaps.result ≡ seeded_frames (regions_of six c.args.self.now.starts c.args.self.now.ends)
all-frames c =
    let ss : List ℕ = c.args.self.now.starts in
    let es : List ℕ = c.args.self.now.ends in
    let m = c.block-memory.result in
    let start : m.start.0 ≡ 0 = c.block-memory.ensures.start in
    let size : m.end.0 - m.start.0 ≡ most_frames = omega (arith, start, c.block-memory.ensures.end, c.frames_in.ensures.exact, root-frames) in
    c.overlaps.ensures ∙ ap₂ (λ (b n : ℕ). sum (overlap b n) (regions_of six ss es)) start size ∙ (seeded-six ss es c.requires).0

pub overflow_mul-result : goal.overflow_mul-result
overflow_mul-result c =
    let n : ℕ = c.overlaps.result in
    let e : n * c.in_bytes.result ≡ n * 4096 = ap (λ (x : ℕ). n * x) (c.in_bytes.ensures.exact ∙ page) in
    omega (arith, e, all-frames (goal.at.overflow_mul-result c).After-overlaps, (seeded-six c.args.self.now.starts c.args.self.now.ends c.requires).1)

pub returns : goal.returns
returns c = ap₂ (λ (x y : ℕ). x * y) (all-frames (goal.at.returns c).After-overlaps) c.in_bytes.ensures.exact
