-- Each turn takes the blocks of one size more. Assumes nothing.
use mathlib.Core.List.{[], ◌∷◌}
use mathlib.Core.Path.{◌≡◌, refl, sym, ap, ◌∙◌}
use Prim.Native.Nat.{ℕ, zero, suc, pred, ◌+◌, ◌*◌, ◌<◌}
use native.Mathlib.Omega.{arith}
use lib.ListN.{get_or}
use Rattle.sizes.specs.Six.{six}
use Rattle.sizes.specs.Size.{code_of}
use Rattle.sizes.specs.declared.page_size.PageSize.{PageSize}
use Rattle.sizes.specs.declared.page_size.PageSize.TheVariants.{Size16KiB, Size2MiB, Size1GiB, Size512GiB, Size128TiB}
use Rattle.pool.specs.Planned.{touched_by, blocks_by}
use Rattle.pool.specs.Words.{fan_out_of, frames_of}
use Rattle.pages.proofs.Touched.{blocks-next, blocks-most, room-all}
use Rattle.pages.proofs.plan.room_of.Goals as goal
use Rattle.pages.proofs.plan.room_of.Goals.{In-loop-size}
use Rattle.pages.proofs.plan.room_of.Invariants.{all}

-- the sizes with children, by their turn
parent : (i : ℕ) (d : PageSize) → i < 5 → code_of (get_or (Size16KiB ∷ Size2MiB ∷ Size1GiB ∷ Size512GiB ∷ Size128TiB ∷ []) i d) ≡ i + 2
parent zero d h = refl
parent (suc zero) d h = refl
parent (suc (suc zero)) d h = refl
parent (suc (suc (suc zero))) d h = refl
parent (suc (suc (suc (suc zero)))) d h = refl
parent (suc (suc (suc (suc (suc i))))) d h = absurd (omega arith)

before : (i : ℕ) → pred (pred (i + 2)) ≡ i
before i = omega arith

behind : (i : ℕ) → pred (pred (i + 2 + 1)) ≡ i + 1
behind i = omega arith

pub loop-size-init : goal.loop-size-init
unfolding blocks_by
loop-size-init c = (omega arith, refl)

pub loop-size-preserved : goal.loop-size-preserved
loop-size-preserved c =
    let i : ℕ = c.loop-size.size-index in
    let code = parent i _ c.loop-size-test.true in
    let one = blocks-most c.children_in.result c.touched_nodes.result c.children_in.ensures.most c.touched_nodes.ensures.most in
    let next = blocks-next (all c.args.state.now c.args.span) (i + 2) c.children_in.result (frames_of six (i + 2)) c.touched_nodes.result (omega arith) (c.children_in.ensures.exact ∙ ap (fan_out_of six) code) refl (c.touched_nodes.ensures.exact ∙ ap (λ (k : ℕ). touched_by (all c.args.state.now c.args.span) (frames_of six k)) code) in
    let gs = all c.args.state.now c.args.span in
    let more : blocks_by six gs (i + 1) ≡ (c.children_in.result + 1) * c.touched_nodes.result + blocks_by six gs i = sym (ap (blocks_by six gs) (behind i)) ∙ next ∙ ap (λ (k : ℕ). (c.children_in.result + 1) * c.touched_nodes.result + blocks_by six gs k) (before i) in
    (omega (arith, c.loop-size.invariant.0, one), omega (arith, c.loop-size.invariant.1, more))

pub returns : goal.returns
returns c =
    let i : ℕ = c.loop-size.size-index in
    let last : i ≡ 5 = omega arith in
    c.loop-size.invariant.1 ∙ ap (λ (k : ℕ). suc (blocks_by six (all c.args.state.now c.args.span) k)) (sym (before i)) ∙ room-all (all c.args.state.now c.args.span) (i + 2) (omega arith)
