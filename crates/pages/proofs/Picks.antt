-- The block that an acquire takes, by what the code reads of a node on the way down to it. Assumes nothing.
use mathlib.Core.Bool.{true, false}
use mathlib.Core.List.{List}
use mathlib.Core.Path.{◌≡◌, refl, ap, ◌∙◌}
use Prim.Native.Nat.{ℕ, zero, suc, pred, ◌+◌, ◌-◌, ◌*◌, ◌/◌, ◌%◌, ◌≤◌, ◌<◌}
use native.Mathlib.Numerals.{sub-one}
use native.Mathlib.Omega.{arith}
use lib.Dec.{leb}
use lib.ListN.{length, drop}
use borrow.Author.Tests.{eqb-true, eqb-false}
use Rattle.std.proofs.lemmas.List.{length-drop, length-take-le}
use Rattle.sizes.specs.Six.{six}
use Rattle.sizes.specs.Size.{code_of}
use Rattle.sizes.specs.declared.page_size.PageSize.{PageSize}
use Rattle.model.specs.Lists.{first as first_of}
use Rattle.pool.specs.Asks.{PickAsk}
use Rattle.pool.specs.Nodes.{children_first}
use Rattle.pool.specs.Room.{pick_w}
use Rattle.pool.specs.Words.{word, max_of, has_token, link_of, fan_out_of, frames_of, run, first_child}
use Rattle.pool.proofs.Need.{pick-here, pick-look, PickDown, pick-down-at}
use Rattle.pool.proofs.Pick.{looks}
use Rattle.pool.proofs.Sizes.{frames-below}

pub pick-token : (level code : ℕ) (p : List ℕ) (q : ℕ) → has_token (word p q) ≡ true → pick_w six (pred level) (pred code) p q ≡ 0
pick-token level code p q t = pick-here level code p q (eqb-true (word p q / 8 % 2) 1 t)

-- a node without token is opened, and of more than the smallest size
module _ (level code : ℕ) (p : List ℕ) (q : ℕ) (ask : PickAsk level code p q) (none : has_token (word p q) ≡ false) where
  none_is : word p q / 8 % 2 ≡ 1 → ⊥
  none_is = eqb-false (word p q / 8 % 2) 1 none

  look : (code < level) × (first_child p q + fan_out_of six level ≤ length p) × (children_first code p (first_child p q) (fan_out_of six level) < fan_out_of six level)
  look = pick-look level code p q ask none_is

  pub pick-open : link_of (word p q) ≡ 0 → ⊥
  pick-open = go level code ask look.0
    where
      go : (level code : ℕ) → PickAsk level code p q → code < level → link_of (word p q) ≡ 0 → ⊥
      go zero code a l z = absurd (omega arith)
      go (suc zero) code a l z = absurd (omega (arith, a.lo))
      go (suc (suc d)) zero a l z = absurd (omega (arith, a.lo))
      go (suc (suc d)) (suc d') a l z = let k = looks six d d' p a.used q a.readable a.sound a.maxed a.offers none in omega (arith, z, k.link)

  pub pick-small_none : level - 1 ≡ 0 → pick_w six (pred level) (pred code) p q ≡ 0
  pick-small_none e = absurd (omega (arith, ask.lo, look.0))

  pub pick-shut_none : link_of (word p q) ≡ 0 → pick_w six (pred level) (pred code) p q ≡ 0
  pick-shut_none z = absurd (pick-open z)

  module _ (first : ℕ) (first_is : first ≡ link_of (word p q) + 1) where
    at : first ≡ first_child p q
    at = omega (arith, first_is)

    pub pick-run : first + fan_out_of six level ≤ length p
    pick-run = omega (arith, at, look.1)

    pub pick-found : first_of (λ v. leb code (max_of v)) (run p first (fan_out_of six level)) < length (run p first (fan_out_of six level))
    unfolding children_first
    pick-found =
        let n : ℕ = fan_out_of six level in
        let long : length (run p first n) ≡ n = length-take-le n (drop first p) (omega (arith, pick-run, length-drop first p)) in
        let same : first_of (λ v. leb code (max_of v)) (run p first n) ≡ children_first code p (first_child p q) n = ap (λ (x : ℕ). first_of (λ v. leb code (max_of v)) (run p x n)) at in
        omega (arith, long, same, look.2)

-- one size down, to the first child with room
module _ (size wanted below : PageSize) (p : List ℕ) (q first number : ℕ) (ask : PickAsk (code_of size) (code_of wanted) p q) (none : has_token (word p q) ≡ false) (below_is : code_of below ≡ code_of size - 1)
    (first_is : first ≡ link_of (word p q) + 1) (number_is : number ≡ first_of (λ v. leb (code_of wanted) (max_of v)) (run p first (fan_out_of six (code_of size)))) where
  pub pick-down : PickDown (code_of size) (code_of wanted) p q first (fan_out_of six (code_of size)) number (frames_of six (code_of below)) (code_of below) (first + number)
  unfolding children_first
  pick-down =
      let l = look (code_of size) (code_of wanted) p q ask none in
      pick-down-at (code_of size) (code_of wanted) p q first (fan_out_of six (code_of size)) number (frames_of six (code_of below)) (code_of below) (first + number)
      ask (none_is (code_of size) (code_of wanted) p q ask none) l.0 (omega (arith, first_is)) refl number_is
      (ap (frames_of six) below_is ∙ frames-below (code_of size) (omega (arith, l.0, ask.lo))) (below_is ∙ sub-one (code_of size)) refl

  pub pick-step : (y : ℕ) → y ≡ first + number → PickAsk (code_of below) (code_of wanted) p y
  pick-step y e = rw e pick-down.ask

  pub pick-same : pick_w six (pred (code_of size)) (pred (code_of wanted)) p q ≡ number * frames_of six (code_of below) + pick_w six (pred (code_of below)) (pred (code_of wanted)) p (first + number)
  pick-same = pick-down.same

pub ruleset picks = (pick-token, pick-small_none, pick-shut_none, pick-run, pick-step, pick-same)
