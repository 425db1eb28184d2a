-- Sums of a function over a run of n numbers from a on, and the pigeonhole by sums. Assumes nothing.
use mathlib.Core.Path.{◌≡◌, refl, sym, ap, ap₂, ◌∙◌}
use Prim.Native.Nat.{ℕ, zero, suc, ◌+◌, ◌*◌, ◌≤◌, ◌<◌}
use native.Mathlib.Decide.{dec_le, ℕ_discrete}
use native.Mathlib.Nat.{add-zero, zero-add}
use native.Mathlib.Omega.{arith}
use Rattle.pool.specs.Words.{sum_over}
use Rattle.pool.specs.Blocks.{In}

pub sum-cong : (a n : ℕ) (f g : ℕ → ℕ) → ((x : ℕ) → In a n x → f x ≡ g x) → sum_over a n f ≡ sum_over a n g
unfolding sum_over
sum-cong a zero f g h = refl
sum-cong a (suc n) f g h = ap₂ ◌+◌ (h a (omega arith)) (sum-cong (suc a) n f g (λ x r. h x (omega arith)))

pub sum-add : (a n : ℕ) (f g : ℕ → ℕ) → sum_over a n (λ x. f x + g x) ≡ sum_over a n f + sum_over a n g
unfolding sum_over
sum-add a zero f g = refl
sum-add a (suc n) f g = omega (arith, sum-add (suc a) n f g)

pub sum-zero : (a n : ℕ) (f : ℕ → ℕ) → ((x : ℕ) → In a n x → f x ≡ 0) → sum_over a n f ≡ 0
unfolding sum_over
sum-zero a zero f h = refl
sum-zero a (suc n) f h = omega (arith, h a (omega arith), sum-zero (suc a) n f (λ x r. h x (omega arith)))

pub sum-mul : (a n : ℕ) (f : ℕ → ℕ) (k : ℕ) → sum_over a n (λ x. f x * k) ≡ sum_over a n f * k
unfolding sum_over
sum-mul a zero f k = omega arith
sum-mul a (suc n) f k = omega (arith, sum-mul (suc a) n f k)

-- two sums change places
pub sum-swap : (a n b m : ℕ) (f : ℕ → ℕ → ℕ) → sum_over a n (λ x. sum_over b m (λ y. f x y)) ≡ sum_over b m (λ y. sum_over a n (λ x. f x y))
unfolding sum_over
sum-swap a zero b m f = sym (sum-zero b m (λ y. 0) (λ y r. refl))
sum-swap a (suc n) b m f = ap (λ (t : ℕ). sum_over b m (λ y. f a y) + t) (sum-swap (suc a) n b m f) ∙ sym (sum-add b m (λ y. f a y) (λ y. sum_over (suc a) n (λ x. f x y)))

-- one summand is at most the sum
pub sum-ge : (a n : ℕ) (f : ℕ → ℕ) (x : ℕ) → In a n x → f x ≤ sum_over a n f
unfolding sum_over
sum-ge a zero f x r = omega arith
sum-ge a (suc n) f x r = elim (ℕ_discrete a x) [
  | yes e ↦ omega (arith, ap f e)
  | no e ↦ omega (arith, sum-ge (suc a) n f x (omega arith))
]

-- two different summands together are at most the sum
pub sum-ge2 : (a n : ℕ) (f : ℕ → ℕ) (x y : ℕ) → In a n x → In a n y → x < y → f x + f y ≤ sum_over a n f
unfolding sum_over
sum-ge2 a zero f x y r s lt = omega arith
sum-ge2 a (suc n) f x y r s lt = elim (ℕ_discrete a x) [
  | yes e ↦ omega (arith, ap f e, sum-ge (suc a) n f y (omega arith))
  | no e ↦ omega (arith, sum-ge2 (suc a) n f x y (omega arith) (omega arith) lt)
]

-- a sum that is not zero has a summand that is not
pub sum-find : (a n : ℕ) (f : ℕ → ℕ) → 1 ≤ sum_over a n f → (x : ℕ) × In a n x × (1 ≤ f x)
unfolding sum_over
sum-find a zero f h = absurd (omega arith)
sum-find a (suc n) f h = elim (dec_le 1 (f a)) [
  | yes e ↦ (a, omega arith, e)
  | no e ↦ let r = sum-find (suc a) n f (omega arith) in (r.0, omega (arith, r.1), r.2)
]

-- the pigeonhole: g lies below f everywhere, and the sums are equal: then so are the functions
pub sum-le : (a n : ℕ) (f g : ℕ → ℕ) → ((x : ℕ) → In a n x → g x ≤ f x) → sum_over a n g ≤ sum_over a n f
unfolding sum_over
sum-le a zero f g h = omega arith
sum-le a (suc n) f g h = omega (arith, h a (omega arith), sum-le (suc a) n f g (λ x r. h x (omega arith)))

pub pigeon : (a n : ℕ) (f g : ℕ → ℕ) → ((x : ℕ) → In a n x → g x ≤ f x) → sum_over a n f ≡ sum_over a n g → (x : ℕ) → In a n x → f x ≡ g x
unfolding sum_over
pigeon a zero f g h e x r = absurd (omega arith)
pigeon a (suc n) f g h e x r =
    let max_below : (y : ℕ) → In (suc a) n y → g y ≤ f y = λ y r'. h y (omega arith) in
    elim (ℕ_discrete a x) [
      | yes q ↦ omega (arith, h a (omega arith), sum-le (suc a) n f g max_below, ap f q, ap g q)
      | no q ↦ pigeon (suc a) n f g max_below (omega (arith, h a (omega arith), sum-le (suc a) n f g max_below)) x (omega arith)
    ]

-- a run split in two
pub sum-split : (a n m : ℕ) (f : ℕ → ℕ) → sum_over a (n + m) f ≡ sum_over a n f + sum_over (a + n) m f
unfolding sum_over
sum-split a zero m f = ap₂ (λ (k b : ℕ). sum_over b k f) (zero-add m) (sym (add-zero a)) ∙ omega arith
sum-split a (suc n) m f =
    let e : suc n + m ≡ suc (n + m) = omega arith in
    let e₂ : suc a + n ≡ a + suc n = omega arith in
    ap (λ (k : ℕ). sum_over a k f) e ∙ ap (λ (t : ℕ). f a + t) (sum-split (suc a) n m f ∙ ap (λ (b : ℕ). sum_over (suc a) n f + sum_over b m f) e₂) ∙ omega arith

pub sum_one : (a n : ℕ) → sum_over a n (λ x. 1) ≡ n
unfolding sum_over
sum_one a zero = refl
sum_one a (suc n) = omega (arith, sum_one (suc a) n)
