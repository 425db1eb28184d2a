-- Laws of the words' lists: a run of words rewritten, and a run read. Assumes nothing.
use mathlib.Core.List.{List, [], ◌∷◌}
use mathlib.Core.Logic.{◌≢◌}
use mathlib.Core.Path.{◌≡◌, refl, sym, ap, ap₂, ◌∙◌}
use Prim.Native.Nat.{ℕ, zero, suc, ◌+◌, ◌≤◌, ◌<◌}
use native.Mathlib.Decide.{ℕ_discrete}
use native.Mathlib.Nat.{le_of_suc-le-suc, not-suc-le-zero}
use native.Mathlib.Omega.{arith}
use lib.ListN.{length, set, take, length-set}
use lib.Seq.{get_or-set_same, get_or-set_other, drop-cons, ext_get_or}
use Rattle.pool.specs.Nodes.{map_run}
use Rattle.pool.specs.View.{tab}
use Rattle.pool.specs.Words.{run, word}
use Rattle.pool.specs.Blocks.{In}

module _ (f : ℕ → ℕ) where
  pub length-map_run : (p : List ℕ) (a n : ℕ) → length (map_run f p a n) ≡ length p
  unfolding map_run
  length-map_run [] a n = refl
  length-map_run (x ∷ p) (suc a) n = ap suc (length-map_run p a n)
  length-map_run (x ∷ p) zero zero = refl
  length-map_run (x ∷ p) zero (suc n) = ap suc (length-map_run p zero n)

  pub map_run-in : (p : List ℕ) (a n x : ℕ) → x < length p → a ≤ x → x < a + n → word (map_run f p a n) x ≡ f (word p x)
  unfolding map_run
  map_run-in [] a n x h lo hi = absurd (not-suc-le-zero h)
  map_run-in (y ∷ p) (suc a) n zero h lo hi = absurd (not-suc-le-zero lo)
  map_run-in (y ∷ p) (suc a) n (suc x) h lo hi = map_run-in p a n x (le_of_suc-le-suc h) (le_of_suc-le-suc lo) (omega arith)
  map_run-in (y ∷ p) zero zero x h lo hi = absurd (omega arith)
  map_run-in (y ∷ p) zero (suc n) zero h lo hi = refl
  map_run-in (y ∷ p) zero (suc n) (suc x) h lo hi = map_run-in p zero n x (le_of_suc-le-suc h) (omega arith) (omega arith)

  pub map_run-out : (p : List ℕ) (a n x : ℕ) → (In a n x → ⊥) → word (map_run f p a n) x ≡ word p x
  unfolding map_run
  map_run-out [] a n x h = refl
  map_run-out (y ∷ p) (suc a) n zero h = refl
  map_run-out (y ∷ p) (suc a) n (suc x) h = map_run-out p a n x (λ i. h (omega arith))
  map_run-out (y ∷ p) zero zero x h = refl
  map_run-out (y ∷ p) zero (suc n) zero h = absurd (h (omega arith))
  map_run-out (y ∷ p) zero (suc n) (suc x) h = map_run-out p zero n x (λ i. h (omega arith))

  pub map_run-none : (p : List ℕ) (a : ℕ) → map_run f p a 0 ≡ p
  unfolding map_run
  map_run-none [] a = refl
  map_run-none (x ∷ p) (suc a) = ap {B = List ℕ} (λ (l : List ℕ). x ∷ l) (map_run-none p a)
  map_run-none (x ∷ p) zero = refl

  -- one word more
  map_run-more : (p : List ℕ) (a n : ℕ) → a + n < length p → map_run f p a (n + 1) ≡ set (map_run f p a n) (a + n) (f (word p (a + n)))
  map_run-more p a n h = ext_get_or 0 (map_run f p a (n + 1)) R (length-map_run p a (n + 1) ∙ sym (length-set (map_run f p a n) (a + n) v ∙ length-map_run p a n)) at
    where
      v : ℕ
      v = f (word p (a + n))

      R : List ℕ
      R = set (map_run f p a n) (a + n) v

      at : (x : ℕ) → x < length (map_run f p a (n + 1)) → word (map_run f p a (n + 1)) x ≡ word R x
      at x l = elim (ℕ_discrete x (a + n)) [
        | yes e ↦ map_run-in p a (n + 1) x (omega (arith, length-map_run p a (n + 1))) (omega arith) (omega arith)
            ∙ ap (λ (y : ℕ). f (word p y)) e ∙ sym (ap (word R) e ∙ get_or-set_same (map_run f p a n) (a + n) v 0 (omega (arith, length-map_run p a n)))
        | no e ↦ other x e (omega (arith, length-map_run p a (n + 1)))
      ]
        where
          other : (x : ℕ) → x ≢ a + n → x < length p → word (map_run f p a (n + 1)) x ≡ word R x
          other x e l = go (native.Mathlib.Decide.dec_le a x) (native.Mathlib.Decide.dec_lt x (a + n))
            where
              right : word R x ≡ word (map_run f p a n) x
              right = get_or-set_other (map_run f p a n) (a + n) x v 0 e

              go : Dec (a ≤ x) → Dec (x < a + n) → word (map_run f p a (n + 1)) x ≡ word R x
              go (yes u) (yes z) = map_run-in p a (n + 1) x l u (omega arith) ∙ sym (right ∙ map_run-in p a n x l u z)
              go (yes u) (no z) = map_run-out p a (n + 1) x (λ i. z (omega arith)) ∙ sym (right ∙ map_run-out p a n x (λ i. z i.1))
              go (no u) z = map_run-out p a (n + 1) x (λ i. u i.0) ∙ sym (right ∙ map_run-out p a n x (λ i. u i.0))

-- a loop's next turn
pub map_run-next : (f : ℕ → ℕ) (p₀ p : List ℕ) (a n r : ℕ) → p ≡ map_run f p₀ a n → a + n < length p₀ → r ≡ f (word p (a + n)) → set p (a + n) r ≡ map_run f p₀ a (n + 1)
map_run-next f p₀ p a n r e h v =
    ap₂ (λ (x : List ℕ) (y : ℕ). set x (a + n) y) e (v ∙ ap (λ (x : List ℕ). f (word x (a + n))) e ∙ ap f (map_run-out f p₀ a n (a + n) (λ i. omega (arith, i))))
    ∙ sym (map_run-more f p₀ a n h)

-- the words of a run that lies in the pool, one by one
pub run-tab : (p : List ℕ) (a n : ℕ) → a + n ≤ length p → run p a n ≡ tab (word p) a n
unfolding tab
run-tab p a zero h = refl
run-tab p a (suc n) h = ap (λ (l : List ℕ). take (suc n) l) (drop-cons p a 0 (omega arith)) ∙ ap {B = List ℕ} (λ (l : List ℕ). word p a ∷ l) (run-tab p (suc a) n (omega arith))
