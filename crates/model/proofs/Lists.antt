-- Facts on maximum, all, first, by the elements' places. Assumes nothing.
use mathlib.Core.Path.{◌≡◌, refl}
use mathlib.Core.Bool.{Bool, true, false, and-eq-true_iff, true≢false}
use mathlib.Core.List.{List, [], ◌∷◌, map}
use Prim.Native.Nat.{ℕ, zero, suc, ◌≤◌, ◌<◌, zero-le}
use native.Mathlib.Omega.{arith}
use native.Mathlib.Nat.{not-suc-le-zero, le_of_suc-le-suc}
use lib.Dec.{leb}
use borrow.Author.Tests.{leb-true, leb-false}
use lib.ListN.{length, get_or, replicate}
use Rattle.model.specs.Lists.{maximum, all, first}

module _ {A : Type 0} where
  -- no element is above the maximum
  pub maximum-get_or : (g : A → ℕ) (xs : List A) (i : ℕ) (z : A) → g z ≡ 0 → g (get_or xs i z) ≤ maximum g xs
  unfolding maximum
  maximum-get_or g [] i z e = omega arith
  maximum-get_or g (x ∷ xs) zero z e = omega arith
  maximum-get_or g (x ∷ xs) (suc i) z e = omega (arith, maximum-get_or g xs i z e)

  -- a bound of all is one of the maximum
  pub maximum-le : (g : A → ℕ) (m : ℕ) (xs : List A) → ((x : A) → g x ≤ m) → maximum g xs ≤ m
  unfolding maximum
  maximum-le g m [] h = zero-le
  maximum-le g m (x ∷ xs) h = omega (arith, h x, maximum-le g m xs h)

  -- the maximum is 0 if each element's value is
  pub maximum-zero : (g : A → ℕ) (xs : List A) (z : A) → ((i : ℕ) → g (get_or xs i z) ≡ 0) → maximum g xs ≡ 0
  unfolding maximum
  maximum-zero g [] z h = refl
  maximum-zero g (x ∷ xs) z h = omega (arith, h 0, maximum-zero g xs z (λ i. h (suc i)))

  -- the first element that reaches c, where the maximum does
  pub record First (g : A → ℕ) (c : ℕ) (xs : List A) (z : A) (i : ℕ) : Type 0 where
    pub in_range : i < length xs
    pub reaches : c ≤ g (get_or xs i z)
    pub before : (j : ℕ) → j < i → g (get_or xs j z) < c

  pub first-first : (g : A → ℕ) (c : ℕ) (xs : List A) (z : A) → 0 < c → c ≤ maximum g xs → First g c xs z (first (λ x. leb c (g x)) xs)
  unfolding maximum first
  first-first g c [] z p h = absurd (omega arith)
  first-first g c (x ∷ xs) z p h = go (leb c (g x)) refl (first-first g c xs z p)
    where
      go : (b : Bool) → leb c (g x) ≡ b → (c ≤ maximum g xs → First g c xs z (first (λ y. leb c (g y)) xs)) → First g c (x ∷ xs) z (first (λ y. leb c (g y)) (x ∷ xs))
      go true e ih = rw (e, first) (record { in_range = omega arith; reaches = leb-true c (g x) e; before = λ j k. absurd (omega arith) })
      go false e ih = let r = ih (omega (arith, leb-false c (g x) e)) in
          rw (e, first) (record { in_range = omega (arith, r.in_range); reaches = r.reaches; before = λ j. elim j as (λ n. n < suc (first (λ y. leb c (g y)) xs) → g (get_or (x ∷ xs) n z) < c) [ zero ↦ λ k. leb-false c (g x) e | suc i ↦ λ k. r.before i (le_of_suc-le-suc k) ] })

  -- all pass: each does
  pub all_true : (p : A → Bool) (xs : List A) (z : A) → all p xs ≡ true → (i : ℕ) → i < length xs → p (get_or xs i z) ≡ true
  unfolding all
  all_true p [] z e i h = absurd (not-suc-le-zero h)
  all_true p (x ∷ xs) z e zero h = ((and-eq-true_iff (p x) (all p xs)).0 e).0
  all_true p (x ∷ xs) z e (suc i) h = all_true p xs z ((and-eq-true_iff (p x) (all p xs)).0 e).1 i (le_of_suc-le-suc h)

  -- not all pass: one does not
  pub all-false : (p : A → Bool) (xs : List A) (z : A) → all p xs ≡ false → (i : ℕ) × (i < length xs) × (p (get_or xs i z) ≡ false)
  unfolding all
  all-false p [] z e = absurd (true≢false e)
  all-false p (x ∷ xs) z e = go (p x) refl (all-false p xs z)
    where
      go : (b : Bool) → p x ≡ b → (all p xs ≡ false → (i : ℕ) × (i < length xs) × (p (get_or xs i z) ≡ false)) → (i : ℕ) × (i < length (x ∷ xs)) × (p (get_or (x ∷ xs) i z) ≡ false)
      go false q ih = (0, omega arith, q)
      go true q ih = let r = ih (rw q at e) in (suc r.0, omega (arith, r.1), r.2)

  -- a list of one value has it everywhere
  pub get_or-rep : (n i : ℕ) (a : A) → get_or (replicate n a) i a ≡ a
  get_or-rep zero i a = refl
  get_or-rep (suc n) zero a = refl
  get_or-rep (suc n) (suc i) a = get_or-rep n i a

-- a list's map, at a place in it
pub get_or-map-lt : {A : Type 0} (f : A → A) (xs : List A) (i : ℕ) (z : A) → i < length xs → get_or (map f xs) i z ≡ f (get_or xs i z)
get_or-map-lt f [] i z h = absurd (not-suc-le-zero h)
get_or-map-lt f (x ∷ xs) zero z h = refl
get_or-map-lt f (x ∷ xs) (suc i) z h = get_or-map-lt f xs i z (le_of_suc-le-suc h)

-- the first element passes
pub first-zero : {A : Type 0} (p : A → Bool) (xs : List A) (z : A) → 0 < length xs → p (get_or xs 0 z) ≡ true → first p xs ≡ 0
unfolding first
first-zero p [] z h e = absurd (not-suc-le-zero h)
first-zero p (x ∷ xs) z h e = rw e
