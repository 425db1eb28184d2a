-- The refusals in bytes are the frame store's in frames, for addresses that are multiples of a page; others get 2. Assumes a ladder of at most 7 codes whose sizes multiply up.
use mathlib.Core.Path.{◌≡◌, refl, sym, ap, ap₂, ◌∙◌}
use mathlib.Core.Logic.{◌⊎◌, inl, inr}
use mathlib.Core.Bool.{Bool, true, false, ◌&&◌, not, and-eq-true_iff, true≢false, false≢true}
use mathlib.Core.List.{List, ◌∷◌}
use Prim.Native.Nat.{ℕ, zero, suc, ◌*◌, ◌-◌, ◌%◌, ◌≤◌, ◌<◌}
use native.Mathlib.Omega.{arith}
use native.Mathlib.Nat.{pos_of_ne-zero, div-add-mod', mul_comm, mul-sub, mul-lt-mul_of_pos_right, lt_of_mul-lt-mul_right, mul-le-mul_right, le_of_mul-le-mul_right, mul-dvd-mul_right, dvd_of_mul-dvd-mul_right, dvd_of_mod-eq-zero, mod-eq-zero_of_dvd}
use lib.Dec.{leb, ltb, eqb}
use borrow.Author.Tests.{ltb-true, ltb-false, leb-true, leb-false, eqb-true, eqb-false, lt-ltb, le-ltb, le-leb, eq-eqb, ne_eqb, not-true}
use Rattle.sizes.specs.Ladder.{Ladder, smallest, largest, bytes, address_frame}
use Rattle.sizes.specs.Laws.{MultipliesUp, IsCode}
use Rattle.sizes.proofs.Ladder.{aligned-below}
use Rattle.model.specs.Ladder.{top}
use Rattle.model.specs.Calls.{Call, seed, acquire, release, report, Test, refuse, verdict}
use Rattle.model.specs.FrameStore.{Frames, memory, size, refusals as frame_refusals}
use Rattle.model.proofs.FrameStore.{same_test}
use Rattle.model.proofs.Ladder.{bytes-is, largest-top}
use Rattle.pages.specs.Calls.{refusals}
use Rattle.demands.specs.Demands.{in_frames, unaligned}

module _ (L : Ladder) where
  -- addresses are multiples of a page
  abbrev pub Aligned : Call → Type 0
  Aligned (seed a e) = (a % bytes L smallest ≡ 0) × (e % bytes L smallest ≡ 0)
  Aligned (acquire c) = Unit {0}
  Aligned (release b c) = b % bytes L smallest ≡ 0
  Aligned report = Unit {0}

-- ---- tests of multiples of a number are tests of the multipliers

multiple-less : (x y n : ℕ) → 0 < n → ltb (x * n) (y * n) ≡ ltb x y
multiple-less x y n h =
    same_test (ltb (x * n) (y * n)) (ltb x y) (λ e. lt-ltb x y (lt_of_mul-lt-mul_right n (ltb-true (x * n) (y * n) e))) (λ e. lt-ltb (x * n) (y * n) (mul-lt-mul_of_pos_right (ltb-true x y e) h))

multiple-most : (x y n : ℕ) → 0 < n → leb (x * n) (y * n) ≡ leb x y
multiple-most x y n h =
    same_test (leb (x * n) (y * n)) (leb x y) (λ e. le-leb x y (le_of_mul-le-mul_right (leb-true (x * n) (y * n) e) h)) (λ e. le-leb (x * n) (y * n) (mul-le-mul_right n (leb-true x y e)))

multiple-rest : (x y n : ℕ) → 0 < n → eqb (x * n % (y * n)) 0 ≡ eqb (x % y) 0
multiple-rest x y n h = same_test (eqb (x * n % (y * n)) 0) (eqb (x % y) 0) (
    λ e. eq-eqb (x % y) 0 (mod-eq-zero_of_dvd y (dvd_of_mul-dvd-mul_right y h (dvd_of_mod-eq-zero (y * n) (eqb-true (x * n % (y * n)) 0 e))))
    ) (λ e. eq-eqb (x * n % (y * n)) 0 (mod-eq-zero_of_dvd (y * n) (mul-dvd-mul_right y (dvd_of_mod-eq-zero y (eqb-true (x % y) 0 e)) n)))

multiple-minus : (x y n : ℕ) → x * n - y * n ≡ (x - y) * n
multiple-minus x y n = ap₂ (λ (a b : ℕ). a - b) (mul_comm x n) (mul_comm y n) ∙ sym (mul-sub n x y) ∙ mul_comm n (x - y)

-- two lists of tests: the first may have some more that fail, each other pair says the same where those before it fail, and some last ones are shared
data Alike : List Test → List Test → Type 0 where
  shared : {ts : List Test} → Alike ts ts
  passed : {x : Bool} {ts us : List Test} (k : ℕ) → x ≡ false → Alike ts us → Alike (refuse k x ∷ ts) us
  pair : {x y : Bool} {ts us : List Test} (k : ℕ) → x ≡ y → (x ≡ false → Alike ts us) → Alike (refuse k x ∷ ts) (refuse k y ∷ us)

-- their verdicts are the same
alike-verdict : (ts us : List Test) → Alike ts us → verdict ts ≡ verdict us
alike-verdict ts us shared = refl
alike-verdict ts us (passed {x = true} k e r) = absurd (true≢false e)
alike-verdict ts us (passed {x = false} {ts = ts'} k e r) = alike-verdict ts' us r
alike-verdict ts us (pair {x = true} {y = true} k e r) = refl
alike-verdict ts us (pair {x = true} {y = false} k e r) = absurd (true≢false e)
alike-verdict ts us (pair {x = false} {y = true} k e r) = absurd (false≢true e)
alike-verdict ts us (pair {x = false} {y = false} {ts = ts'} {us = us'} k e r) = alike-verdict ts' us' (r refl)

module _ (L : Ladder) (most limit : ℕ) (m : MultipliesUp L) (small : suc (top L) < 8) where
  -- an address that is a multiple of a page is its frame's
  address_is : (a : ℕ) → a % bytes L smallest ≡ 0 → a ≡ address_frame L a * bytes L smallest
  unfolding address_frame
  address_is a h = omega (arith, div-add-mod' a (bytes L smallest))

  -- the bytes of the largest code, and of any, are its frames'
  memory-is : bytes L (largest L) ≡ memory L * bytes L smallest
  memory-is = ap (bytes L) (largest-top L m) ∙ bytes-is L m (top L) (omega (arith, largest-top L m))

  size_is : (c : ℕ) → 0 < c → c ≤ largest L → bytes L c ≡ size L c * bytes L smallest
  size_is zero h k = absurd (omega arith)
  size_is (suc d) h k = bytes-is L m d k

  -- the tests of an address, in bytes and in frames
  ends_same : (a e : ℕ) → a % bytes L smallest ≡ 0 → e % bytes L smallest ≡ 0 → leb e a ≡ leb (address_frame L e) (address_frame L a)
  ends_same a e h k = ap₂ leb (address_is e k) (address_is a h) ∙ multiple-most (address_frame L e) (address_frame L a) (bytes L smallest) m.page

  past_same : (e : ℕ) → e % bytes L smallest ≡ 0 → ltb (bytes L (largest L)) e ≡ ltb (memory L) (address_frame L e)
  past_same e k = ap₂ ltb memory-is (address_is e k) ∙ multiple-less (memory L) (address_frame L e) (bytes L smallest) m.page

  whole_same : (b c : ℕ) → 0 < c → c ≤ largest L → b % bytes L smallest ≡ 0 → eqb (b % bytes L c) 0 ≡ eqb (address_frame L b % size L c) 0
  whole_same b c h k a = ap₂ (λ (x y : ℕ). eqb (x % y) 0) (address_is b a) (size_is c h k) ∙ multiple-rest (address_frame L b) (size L c) (bytes L smallest) m.page

  room-same : (b c : ℕ) → 0 < c → c ≤ largest L → b % bytes L smallest ≡ 0 → ltb (bytes L (largest L) - bytes L c) b ≡ ltb (memory L - size L c) (address_frame L b)
  room-same b c h k a =
      ap₂ ltb (ap₂ (λ (x y : ℕ). x - y) memory-is (size_is c h k) ∙ multiple-minus (memory L) (size L c) (bytes L smallest)) (address_is b a)
      ∙ multiple-less (memory L - size L c) (address_frame L b) (bytes L smallest) m.page

  -- a code past the largest, on either side
  code_same : (c : ℕ) → ltb (largest L) c ≡ ltb (suc (top L)) c
  code_same c = ap (λ (n : ℕ). ltb n c) (largest-top L m)

  -- the refusals of a call whose addresses are multiples of a page, beside the frame store's
  tests-alike : (g : Frames) (c : Call) → Aligned L c → Alike (refusals L most limit g c) (frame_refusals L most g (in_frames L most limit c))
  unfolding refusals frame_refusals
  tests-alike g (seed a e) h =
      passed 2 (ap not (eq-eqb (a % bytes L smallest) 0 h.0)) (passed 2 (ap not (eq-eqb (e % bytes L smallest) 0 h.1))
      (pair 2 (ends_same a e h.0 h.1) (λ x. pair 3 (past_same e h.1) (λ y. shared))))
  tests-alike g (acquire c) h = pair 1 refl (λ x. pair 1 (code_same c) (λ y. shared))
  tests-alike g (release b c) h = pair 1 refl (λ x. pair 1 (code_same c) (λ y.
      let low : 0 < c = pos_of_ne-zero (eqb-false c 0 x) in
      let high : c ≤ largest L = ltb-false (largest L) c y in
      pair 2 (ap not (whole_same b c low high h)) (λ z. pair 3 (room-same b c low high h) (λ t. shared))
      ))
  tests-alike g report h = shared

  -- the refusals of a call whose addresses are whole pages are the frame store's
  pub refusals-frames : (g : Frames) (c : Call) → Aligned L c → verdict (refusals L most limit g c) ≡ verdict (frame_refusals L most g (in_frames L most limit c))
  refusals-frames g c a = alike-verdict (refusals L most limit g c) (frame_refusals L most g (in_frames L most limit c)) (tests-alike g c a)

  -- others get 2: the address of a release that is no multiple of a page is none of a larger size
  pub refusals-unaligned : (g : Frames) (c : Call) → unaligned L most limit c ≡ true → verdict (refusals L most limit g c) ≡ 2
  unfolding refusals
  refusals-unaligned g (seed a e) o = go (eqb (a % bytes L smallest) 0) (eqb (e % bytes L smallest) 0) refl refl
    where
      go : (x y : Bool) → eqb (a % bytes L smallest) 0 ≡ x → eqb (e % bytes L smallest) 0 ≡ y → verdict (refusals L most limit g (seed a e)) ≡ 2
      go true true h j = absurd (false≢true (rw (h, j) at o))
      go true false h j = rw (h, j)
      go false y h j = rw h
  refusals-unaligned g (acquire c) o = absurd (false≢true o)
  refusals-unaligned g (release b c) o =
      let x = (and-eq-true_iff (not (eqb (b % bytes L smallest) 0)) (leb smallest c && leb c (largest L))).0 o in
      let y = (and-eq-true_iff (leb smallest c) (leb c (largest L))).0 x.1 in
      let low : 1 ≤ c = leb-true smallest c y.0 in
      let high : c ≤ largest L = leb-true c (largest L) y.1 in
      let page : IsCode L smallest = record { low = omega arith; high = m.some } in
      let some = eqb-false (b % bytes L smallest) 0 (not-true (eqb (b % bytes L smallest) 0) x.0) in
      rw (
        ne_eqb c 0 (λ e. omega arith),
        le-ltb (largest L) c high,
        ne_eqb (b % bytes L c) 0 (λ e. some (aligned-below L m b smallest c page (record { low = low; high = high }) low e)),
      )
  refusals-unaligned g report o = absurd (false≢true o)

  -- a call is unaligned, or its addresses are multiples of a page, or it is a release whose code is none
  pub unaligned-or : (c : Call) → (unaligned L most limit c ≡ true) ⊎ (Aligned L c ⊎ ((b k : ℕ) × (c ≡ release b k) × ((k ≡ 0) ⊎ (largest L < k))))
  unaligned-or (seed a e) = go (eqb (a % bytes L smallest) 0) (eqb (e % bytes L smallest) 0) refl refl
    where
      go : (x y : Bool) → eqb (a % bytes L smallest) 0 ≡ x → eqb (e % bytes L smallest) 0 ≡ y
          → (not (x && y) ≡ true) ⊎ (((a % bytes L smallest ≡ 0) × (e % bytes L smallest ≡ 0)) ⊎ ((b k : ℕ) × (seed a e ≡ release b k) × ((k ≡ 0) ⊎ (largest L < k))))
      go true true h j = inr (inl (eqb-true (a % bytes L smallest) 0 h, eqb-true (e % bytes L smallest) 0 j))
      go true false h j = inl refl
      go false y h j = inl refl
  unaligned-or (acquire c) = inr (inl tt)
  unaligned-or (release b c) = go (eqb (b % bytes L smallest) 0) (leb smallest c) (leb c (largest L)) refl refl refl
    where
      go : (x y z : Bool) → eqb (b % bytes L smallest) 0 ≡ x → leb smallest c ≡ y → leb c (largest L) ≡ z
          → ((not x && (y && z)) ≡ true) ⊎ ((b % bytes L smallest ≡ 0) ⊎ ((b' k : ℕ) × (release b c ≡ release b' k) × ((k ≡ 0) ⊎ (largest L < k))))
      go true y z h i j = inr (inl (eqb-true (b % bytes L smallest) 0 h))
      go false true true h i j = inl refl
      go false true false h i j = inr (inr (b, c, refl, inr (leb-false c (largest L) j)))
      go false false z h i j = let e : c ≡ 0 = omega (arith, leb-false smallest c i) in inr (inr (b, c, refl, inl e))
  unaligned-or report = inr (inl tt)

  -- the refusals of such a release are 1, in bytes and in frames
  pub refusals-none : (g : Frames) (b k : ℕ) → (k ≡ 0) ⊎ (largest L < k) → (verdict (refusals L most limit g (release b k)) ≡ 1) × (verdict (frame_refusals L most g (in_frames L most limit (release b k))) ≡ 1)
  unfolding refusals frame_refusals
  refusals-none g b k (inl e) = rw (eq-eqb k 0 e) (refl, refl)
  refusals-none g b k (inr h) =
      let some : eqb k 0 ≡ false = ne_eqb k 0 (λ e. omega arith) in
      let past : ltb (suc (top L)) k ≡ true = lt-ltb (suc (top L)) k (omega (arith, largest-top L m)) in
      (rw (some, lt-ltb (largest L) k h), rw (some, past))
