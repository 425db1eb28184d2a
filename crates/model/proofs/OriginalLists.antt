-- What the original's small functions on options and lists answer, for a list that is spread over addresses. Assumes nothing.
use mathlib.Core.Path.{◌≡◌, refl, sym, ap, ◌∙◌}
use mathlib.Core.Bool.{Bool}
use mathlib.Core.Option.{Option, some}
use mathlib.Core.List.{List, [], ◌∷◌, ◌++◌}
use Prim.Native.Nat.{ℕ, zero, suc, ◌+◌, ◌*◌, ◌≤◌, ◌<◌, max}
use native.Mathlib.Omega.{arith}
use native.Mathlib.Nat.{not-suc-le-zero, le_of_suc-le-suc}
use lib.Dec.{leb}
use lib.ListN.{length, get_or, set, replicate}
use borrow.Author.Tests.{lt-ltb, lt-leb}
use Rattle.model.specs.Lists.{maximum, all, first}
use Rattle.model.specs.Rust.{gives, unwrap, at_least, max_option, element, position, max_of_all}
use Rattle.model.specs.StandIns.{coded}
use Rattle.model.proofs.Picture.{spread}

-- a code that is not 0
pub unwrap-coded : (n : ℕ) → 0 < n → unwrap (coded n) ≡ gives n
unwrap-coded zero h = absurd (not-suc-le-zero h)
unwrap-coded (suc n) h = refl

pub some-coded : (n : ℕ) → 0 < n → some n ≡ coded n
some-coded zero h = absurd (not-suc-le-zero h)
some-coded (suc n) h = refl

-- the order of Option is that of the codes
pub at-least-coded : (n want : ℕ) → 0 < want → at_least (coded n) want ≡ leb want n
at-least-coded zero want h = sym (lt-leb want 0 h)
at-least-coded (suc n) want h = refl

pub max-coded : (m n : ℕ) → max_option (coded m) (coded n) ≡ coded (max m n)
max-coded zero n = let e : max 0 n ≡ n = omega arith in rw e
max-coded (suc m) zero = let e : max (suc m) 0 ≡ suc m = omega arith in rw e
max-coded (suc m) (suc n) = let e : max (suc m) (suc n) ≡ suc (max m n) = omega arith in rw e

module _ {A B : Type 0} (f : ℕ → A → B) where
  pub spread-length : (base step : ℕ) (xs : List A) → length (spread f base step xs) ≡ length xs
  unfolding spread
  spread-length base step [] = refl
  spread-length base step (x ∷ xs) = ap suc (spread-length (base + step) step xs)

  -- the element i is f of element i, i steps on
  pub spread-element : (base step : ℕ) (xs : List A) (i : ℕ) (z : A) → i < length xs → element (spread f base step xs) i ≡ gives (f (base + i * step) (get_or xs i z))
  unfolding spread element
  spread-element base step [] i z h = absurd (not-suc-le-zero h)
  spread-element base step (x ∷ xs) zero z h = let e : base ≡ base + 0 * step = omega arith in ap (λ (a : ℕ). gives (f a x)) e
  spread-element base step (x ∷ xs) (suc i) z h =
      let e : base + step + i * step ≡ base + suc i * step = omega arith in
      spread-element (base + step) step xs i z (le_of_suc-le-suc h) ∙ ap (λ (a : ℕ). gives (f a (get_or xs i z))) e

  pub spread-set : (base step : ℕ) (xs : List A) (i : ℕ) (y : A) → set (spread f base step xs) i (f (base + i * step) y) ≡ spread f base step (set xs i y)
  unfolding spread
  spread-set base step [] i y = refl
  spread-set base step (x ∷ xs) zero y = let e : base + 0 * step ≡ base = omega arith in ap (λ (a : ℕ). f a y ∷ spread f (base + step) step xs) e
  spread-set base step (x ∷ xs) (suc i) y =
      let e : base + suc i * step ≡ base + step + i * step = omega arith in
      ap (λ (a : ℕ). f base x ∷ set (spread f (base + step) step xs) i (f a y)) e ∙ ap (λ ys. f base x ∷ ys) (spread-set (base + step) step xs i y)

  -- a test, a place and a maximum that do not look at the address
  pub spread-all : (p : B → Bool) (q : A → Bool) → ((a : ℕ) (x : A) → p (f a x) ≡ q x) → (base step : ℕ) (xs : List A) → all p (spread f base step xs) ≡ all q xs
  unfolding spread all
  spread-all p q e base step [] = refl
  spread-all p q e base step (x ∷ xs) = rw (e base x, spread-all p q e (base + step) step xs)

  spread-first : (p : B → Bool) (q : A → Bool) → ((a : ℕ) (x : A) → p (f a x) ≡ q x) → (base step : ℕ) (xs : List A) → first p (spread f base step xs) ≡ first q xs
  unfolding spread first
  spread-first p q e base step [] = refl
  spread-first p q e base step (x ∷ xs) = rw (e base x, spread-first p q e (base + step) step xs)

  pub spread-position : (p : B → Bool) (q : A → Bool) → ((a : ℕ) (x : A) → p (f a x) ≡ q x) → (base step : ℕ) (xs : List A) → first q xs < length xs
      → position p (spread f base step xs) ≡ gives (first q xs)
  unfolding position
  spread-position p q e base step xs h = rw (spread-first p q e base step xs, spread-length base step xs, lt-ltb (first q xs) (length xs) h)

  pub spread-max : (p : B → Option ℕ) (q : A → ℕ) → ((a : ℕ) (x : A) → p (f a x) ≡ coded (q x)) → (base step : ℕ) (xs : List A) → max_of_all p (spread f base step xs) ≡ coded (maximum q xs)
  unfolding spread max_of_all maximum
  spread-max p q e base step [] = refl
  spread-max p q e base step (x ∷ xs) = rw (e base x, spread-max p q e (base + step) step xs) (max-coded (q x) (maximum q xs))

  -- n times one element that looks alike everywhere
  pub spread-replicate : (z : A) (y : B) → ((a : ℕ) → f a z ≡ y) → (base step n : ℕ) → spread f base step (replicate n z) ≡ replicate n y
  unfolding spread
  spread-replicate z y e base step zero = refl
  spread-replicate z y e base step (suc n) = rw (e base, spread-replicate z y e (base + step) step n)

-- the maximum after an element was replaced by one that reaches as far
pub maximum-set : {A : Type 0} (g : A → ℕ) (xs : List A) (i : ℕ) (y z : A) → i < length xs → g (get_or xs i z) ≤ g y → maximum g (set xs i y) ≡ max (maximum g xs) (g y)
unfolding maximum
maximum-set g [] i y z h k = absurd (not-suc-le-zero h)
maximum-set g (x ∷ xs) zero y z h k = omega arith
maximum-set g (x ∷ xs) (suc i) y z h k = let e = maximum-set g xs i y z (le_of_suc-le-suc h) k in omega arith

-- the element behind a list
pub element-behind : {A : Type 0} (pre : List A) (x : A) (xs : List A) → element (pre ++ x ∷ xs) (length pre) ≡ gives x
unfolding element
element-behind [] x xs = refl
element-behind (y ∷ pre) x xs = element-behind pre x xs
