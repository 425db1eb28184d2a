use mathlib.Core.List.{List}
use mathlib.Core.Bool.{false}
use mathlib.Core.Path.{◌≡◌, sym, ap, ◌∙◌, subst}
use Prim.Native.Nat.{ℕ, ◌+◌, ◌*◌, ◌<◌}
use native.Mathlib.Omega.{arith}
use lib.Dec.{leb}
use lib.ListN.{length}
use Rattle.sizes.specs.Six.{six}
use Rattle.sizes.specs.Size.{code_of}
use Rattle.sizes.proofs.Size.{code-some}
use Rattle.model.specs.Lists.{first}
use Rattle.pool.specs.Words.{word, max_of, has_token, fan_out_of, frames_of}
use Rattle.pool.proofs.Need.{PickDown}
use Rattle.pages.proofs.Picks.{pick-run, pick-found, pick-down}
use Rattle.pages.proofs.room.+first_base.Goals as goal
use Rattle.pages.proofs.room.+first_base.Goals.{Else-has_token, After-first_child_with_room-number}

abbrev none : (t : ℕ) (c : Else-has_token t) → has_token (word c.args.pool.now c.args.node.0) ≡ false
none t c = ap has_token (sym c.at-node.ensures) ∙ sym c.has_token.ensures ∙ c.if-has_token.false

-- what the call below asks for and gives
step : (t : ℕ) (c : After-first_child_with_room-number t) →
    (let s = c.args in let first : ℕ = c.in-Some.first.0 in let number : ℕ = c.first_child_with_room-number.result in let below = c.in-Some-smaller.below in
    PickDown (code_of s.size) (code_of s.wanted) s.pool.now s.node.0 first (fan_out_of six (code_of s.size)) number (frames_of six (code_of below)) (code_of below) (first + number))
step t c =
    let s = c.args in
    pick-down s.size s.wanted c.in-Some-smaller.below s.pool.now s.node.0 c.in-Some.first.0 c.first_child_with_room-number.result c.requires
    (ap has_token (sym c.at-node.ensures) ∙ sym c.has_token.ensures ∙ c.if-has_token.false) c.in-Some-smaller.ensures.below (omega (arith, c.in-Some.ensures.opened, c.at-node.ensures))
    (c.first_child_with_room-number.ensures ∙ ap (first (λ v. leb (code_of s.wanted) (max_of v))) c.children-block.ensures)

pub children-block-requires-clause-within : goal.children-block-requires-clause-within
children-block-requires-clause-within t c = grind (arith, pick-run _ _ _ _ c.requires)

pub first_child_with_room-number-requires : goal.first_child_with_room-number-requires
first_child_with_room-number-requires t c =
    subst (λ (xs : List ℕ). first (λ v. leb (code_of c.args.wanted) (max_of v)) xs < length xs) (sym c.children-block.ensures)
    (pick-found (code_of c.args.size) (code_of c.args.wanted) c.args.pool.now c.args.node.0 c.requires (none t (goal.at.first_child_with_room-number-requires t c).Else-has_token) c.in-Some.first.0 (omega (arith, c.in-Some.ensures.opened, c.at-node.ensures)))

pub overflow_add-first : goal.overflow_add-first
overflow_add-first t c = let k = (step t (goal.at.overflow_add-first t c).After-first_child_with_room-number).ask in omega (arith, k.readable.at, k.readable.fit)

pub first_base-within-requires : goal.first_base-within-requires
first_base-within-requires t c = (omega (arith, c.in-Some-smaller.ensures.below, code-some c.args.size), (step t (goal.at.first_base-within-requires t c).After-first_child_with_room-number).ask)

pub overflow_mul-result : goal.overflow_mul-result
overflow_mul-result t c =
    let k = (step t (goal.at.overflow_mul-result t c).After-first_child_with_room-number).small in
    omega (arith, k, ap (λ (f : ℕ). c.first_child_with_room-number.result * f) c.frames_in.ensures.exact)

pub overflow_add-result : goal.overflow_add-result
overflow_add-result t c =
    let k = (step t (goal.at.overflow_add-result t c).After-first_child_with_room-number).small in
    omega (arith, k, ap (λ (f : ℕ). c.first_child_with_room-number.result * f) c.frames_in.ensures.exact, c.first_base-within.ensures.exact)

pub returns-clause-within : goal.returns-clause-within
returns-clause-within t c =
    let k = (step t (goal.at.returns-clause-within t c).After-first_child_with_room-number).small in
    omega (arith, k, ap (λ (f : ℕ). c.first_child_with_room-number.result * f) c.frames_in.ensures.exact, c.first_base-within.ensures.exact)
