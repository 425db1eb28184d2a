-- What the frame store's definitions say: its tests over all frames of a block, and the lowest block that is wholly free. Assumes nothing.
use mathlib.Core.Path.{◌≡◌, refl, sym, ap, ◌∙◌}
use mathlib.Core.Logic.{◌↔◌}
use mathlib.Core.Bool.{Bool, true, false, not, and-eq-true_iff, true≢false}
use Prim.Native.Nat.{ℕ, zero, suc, ◌+◌, ◌*◌, ◌-◌, ◌/◌, ◌%◌, ◌≤◌, ◌<◌}
use native.Mathlib.Omega.{arith}
use native.Mathlib.Decide.{dec_lt}
use native.Mathlib.Nat.{add-sub_of_le, div-add-mod', mul-le-mul_right, lt_of_mul-lt-mul_right, mul-mod_left, le_of_suc-le-suc}
use lib.Dec.{leb, ltb, eqb}
use borrow.Author.Tests.{eqb-true, not-false, ltb-false, not-true, lt-ltb, le-ltb, le-leb, lt-leb}
use Rattle.sizes.specs.Ladder.{Ladder}
use Rattle.model.specs.Ladder.{frames, top}
use Rattle.model.specs.Frames.{Wholly, Lowest}
use Rattle.model.specs.FrameStore.{all_below, first_below, whole, bare, Frames, memory, blocks, lowest_free, Same}
use Rattle.model.specs.Laws.{BlockIn, FrameLaws}
use Rattle.model.proofs.Ladder.{frames-pos}
use Rattle.model.proofs.Free.{frames-mod, frames-le}

-- two tests that pass together are one
pub same_test : (x y : Bool) → (x ≡ true → y ≡ true) → (y ≡ true → x ≡ true) → x ≡ y
same_test true y h k = sym (h refl)
same_test false true h k = k refl
same_test false false h k = refl

-- ... so a test that a is too small and one that x is too large are one, where b is in reach of a exactly if x is below y
pub same-order : (a b x y : ℕ) → (b ≤ a) ↔ (x < y) → ltb a b ≡ leb y x
same-order a b x y k = go (dec_lt x y) (dec_lt a b)
  where
    go : Dec (x < y) → Dec (a < b) → ltb a b ≡ leb y x
    go (yes l) m = le-ltb a b (k.1 l) ∙ sym (lt-leb y x l)
    go (no l) (yes m) = lt-ltb a b m ∙ sym (le-leb y x (omega arith))
    go (no l) (no m) = absurd (l (k.0 (omega arith)))

-- all numbers below n pass: each does
all_below-iff : (p : ℕ → Bool) (n : ℕ) → (all_below p n ≡ true) ↔ ((i : ℕ) → i < n → p i ≡ true)
unfolding all_below
all_below-iff p zero = (λ e i h. absurd (omega arith), λ h. refl)
all_below-iff p (suc n) = (
  λ e i h. let x = (and-eq-true_iff (all_below p n) (p n)).0 e in elim (dec_lt i n) [
    | yes l ↦ (all_below-iff p n).0 x.0 i l
    | no l ↦ let q : i ≡ n = omega arith in rw q x.1
  ],
  λ h. (and-eq-true_iff (all_below p n) (p n)).1 ((all_below-iff p n).1 (λ i k. h i (omega arith)), h n (omega arith)),
)

-- every frame of the block is in g
pub whole-iff : (g : ℕ → Bool) (b s : ℕ) → (whole g b s ≡ true) ↔ Wholly g b s true
unfolding whole
whole-iff g b s = (
  λ e f p q. rw (add-sub_of_le p) at ((all_below-iff (λ j. g (b + j)) s).0 e (f - b) (omega arith)),
  λ h. (all_below-iff (λ j. g (b + j)) s).1 (λ j l. h (b + j) (omega arith) (omega arith)),
)

-- none is
pub bare-iff : (g : ℕ → Bool) (b s : ℕ) → (bare g b s ≡ true) ↔ Wholly g b s false
unfolding bare
bare-iff g b s = (
  λ e f p q. not-true (g f) (rw (add-sub_of_le p) at ((all_below-iff (λ j. not (g (b + j))) s).0 e (f - b) (omega arith))),
  λ h. (all_below-iff (λ j. not (g (b + j))) s).1 (λ j l. ap not (h (b + j) (omega arith) (omega arith))),
)

-- a block with a frame in g is not bare
pub not-bare : (g : ℕ → Bool) (b s f : ℕ) → b ≤ f → f < b + s → g f ≡ true → bare g b s ≡ false
not-bare g b s f p q e = go (bare g b s) refl
  where
    go : (v : Bool) → bare g b s ≡ v → bare g b s ≡ false
    go true x = absurd (true≢false (sym e ∙ (bare-iff g b s).0 x f p q))
    go false x = x

-- i is the first number below n that passes, or n where none does
pub record FirstBelow (p : ℕ → Bool) (n i : ℕ) : Type 0 where
  pub passes : i < n → p i ≡ true
  pub before : (j : ℕ) → j < i → p j ≡ false
  pub ends : i ≤ n

-- `first_below` is the first
pub first_below-first : (p : ℕ → Bool) (n : ℕ) → FirstBelow p n (first_below p n)
unfolding first_below
first_below-first p zero = record { passes = λ h. absurd (omega arith); before = λ j h. absurd (omega arith); ends = omega arith }
first_below-first p (suc n) = go (p 0) refl (first_below-first (λ i. p (suc i)) n)
  where
    go : (v : Bool) → p 0 ≡ v → FirstBelow (λ i. p (suc i)) n (first_below (λ i. p (suc i)) n) → FirstBelow p (suc n) (first_below p (suc n))
    go true e r = rw (e, first_below) (record { passes = λ h. e; before = λ j h. absurd (omega arith); ends = omega arith })
    go false e r = rw (e, first_below) (record {
      passes = λ h. r.passes (le_of_suc-le-suc h);
      before = λ j. elim j as (λ k. k < suc (first_below (λ i. p (suc i)) n) → p k ≡ false) [ zero ↦ λ h. e | suc i ↦ λ h. r.before i (le_of_suc-le-suc h) ];
      ends = omega (arith, r.ends);
    })

module _ (L : Ladder) (g : ℕ → Bool) (d : ℕ) (deep : d ≤ top L) where
  -- `lowest_free` is the first number whose block is wholly in g
  lowest_free-first : FirstBelow (λ i. whole g (i * frames L d) (frames L d)) (blocks L (suc d)) (lowest_free L g (suc d))
  unfolding lowest_free
  lowest_free-first = first_below-first (λ i. whole g (i * frames L d) (frames L d)) (blocks L (suc d))

  -- the blocks of the code fill memory
  pub blocks-memory : blocks L (suc d) * frames L d ≡ memory L
  blocks-memory = omega (arith, div-add-mod' (memory L) (frames L d), frames-mod L d (top L) deep)

  -- where some aligned block is wholly in g, `lowest_free` is a block's number, and its block is no higher
  pub lowest_free-le : (b : ℕ) → b % frames L d ≡ 0 → b + frames L d ≤ memory L → Wholly g b (frames L d) true
      → (lowest_free L g (suc d) * frames L d ≤ b) × (lowest_free L g (suc d) < blocks L (suc d))
  lowest_free-le b al h w = go (dec_lt k i)
    where
      s : ℕ
      s = frames L d

      i : ℕ
      i = lowest_free L g (suc d)

      k : ℕ
      k = b / s

      e : k * s ≡ b
      e = omega (arith, div-add-mod' b s)

      last : k < blocks L (suc d)
      last = lt_of_mul-lt-mul_right s (omega (arith, e, blocks-memory, frames-pos L d))

      go : Dec (k < i) → (i * s ≤ b) × (i < blocks L (suc d))
      go (yes l) = absurd (true≢false (sym ((whole-iff g (k * s) s).1 (rw e w)) ∙ lowest_free-first.before k l))
      go (no l) = let m : i ≤ k = omega arith in (omega (arith, e, mul-le-mul_right s m), omega (arith, last))

  -- the frame store's block, where there is one, is the lowest
  pub lowest_free-lowest : lowest_free L g (suc d) < blocks L (suc d) → Lowest g (memory L) (frames L d) (lowest_free L g (suc d) * frames L d)
  lowest_free-lowest h = record {
    aligned = mul-mod_left (lowest_free L g (suc d)) (frames L d);
    fits = omega (arith, mul-le-mul_right (frames L d) h, blocks-memory);
    whole = (whole-iff g (lowest_free L g (suc d) * frames L d) (frames L d)).0 (lowest_free-first.passes h);
    lowest = λ b al k w. (lowest_free-le b al k w).0;
  }

-- the search of the frame store, for any code of the ladder
pub frame_laws : (L : Ladder) (g : ℕ → Bool) (d : ℕ) → d ≤ top L → FrameLaws L g d
frame_laws L g d deep = record {
  found = lowest_free-lowest L g d deep;
  none = (λ h b p w. omega (arith, (lowest_free-le L g d deep b p.aligned p.fits w).1), λ h. go h (dec_lt (lowest_free L g (suc d)) (blocks L (suc d))));
}
  where
    go : ((b : ℕ) → BlockIn L (top L) d b → Wholly g b (frames L d) true → ⊥) → Dec (lowest_free L g (suc d) < blocks L (suc d)) → blocks L (suc d) ≤ lowest_free L g (suc d)
    go h (no l) = omega arith
    go h (yes l) =
        let q = lowest_free-lowest L g d deep l in
        absurd (h (lowest_free L g (suc d) * frames L d) (record { deep = deep; aligned = q.aligned; fits = q.fits }) q.whole)

pub same_self : (L : Ladder) (g : Frames) → Same L g g
same_self L g = record { regions = refl; frames = λ f l. refl }

module _ (L : Ladder) where
  -- a block that passes tests 1 to 3 of a release stands in memory
  pub block-stands : (b d : ℕ) → d ≤ top L → not (eqb (b % frames L d) 0) ≡ false → ltb (memory L - frames L d) b ≡ false → BlockIn L (top L) d b
  block-stands b d deep h k = record {
    deep = deep;
    aligned = eqb-true (b % frames L d) 0 (not-false (eqb (b % frames L d) 0) h);
    fits = omega (arith, frames-le L d (top L) deep, ltb-false (memory L - frames L d) b k);
  }
