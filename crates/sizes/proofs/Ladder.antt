-- The laws of any ladder whose sizes multiply up, each once over the code. Assumes nothing.
use mathlib.Core.Path.{◌≡◌, refl, sym, ap, ◌∙◌, subst}
use mathlib.Core.Bool.{Bool, true, false, cond, and-eq-true_iff, and-false, false≢true}
use Prim.Native.Nat.{ℕ, zero, suc, ◌+◌, ◌*◌, ◌-◌, ◌/◌, ◌%◌, ◌≤◌, ◌<◌, ◌∣◌}
use native.Mathlib.Omega.{arith}
use native.Mathlib.Nat.{mul-pos, mul-le-mul_right, mul-lt-mul_of_pos_right, mul_assoc, mul_comm, mul-div_cancel, div-le_of_le-mul, min-eq_left, dvd_refl, dvd_trans, dvd-mul_left_of_dvd, dvd_of_mod-eq-zero, mod-eq-zero_of_dvd, div-lt_iff_lt-mul, div-add-mod', mod-lt}
use native.Mathlib.Decide.{le_ind, ℕ_discrete}
use lib.Dec.{leb, ltb, eqb}
use borrow.Author.Tests.{lt-ltb, le-ltb, le-leb, lt-leb, eq-eqb, ne_eqb, eqb-true, leb-true}
use Rattle.sizes.specs.Ladder.{Ladder, smallest, largest, bytes, fan_out, frames, smaller, child_index, is_child, child_address, child_size, fits, largest_up_to, largest_at, frame_address, address_frame}
use Rattle.sizes.specs.Laws.{MultipliesUp, IsCode, Fits, LargestFit, Holds, ChildAt, LadderLaws}

module _ (L : Ladder) where
  -- the test says that the block fits
  fits-of : (a e c : ℕ) → IsCode L c → fits L a e c ≡ true → Fits L a e c
  unfolding fits
  fits-of a e c k h =
      let x = (and-eq-true_iff (eqb (a % bytes L c) 0) (leb (a + bytes L c) e)).0 h in
      record { code = k; aligned = eqb-true (a % bytes L c) 0 x.0; ends = leb-true (a + bytes L c) e x.1 }

  fits-if : (a e c : ℕ) → Fits L a e c → fits L a e c ≡ true
  unfolding fits
  fits-if a e c f = rw (eq-eqb (a % bytes L c) 0 f.aligned) (le-leb (a + bytes L c) e f.ends)

  fits-not-aligned : (a e c : ℕ) → (a % bytes L c ≡ 0 → ⊥) → fits L a e c ≡ false
  unfolding fits
  fits-not-aligned a e c h = rw (ne_eqb (a % bytes L c) 0 h)

  fits-not-end : (a e c : ℕ) → e < a + bytes L c → fits L a e c ≡ false
  unfolding fits
  fits-not-end a e c h = rw (lt-leb (a + bytes L c) e h) (and-false (eqb (a % bytes L c) 0))

  -- one turn of the look for the largest: the block of code c fits, is not aligned, ends too late
  pub up-to-here : (a e c : ℕ) → Fits L a e c → largest_up_to L c a e ≡ c
  unfolding largest_up_to
  up-to-here a e zero f = refl
  up-to-here a e (suc c) f = rw (fits-if a e (suc c) f)

  past : (a e c : ℕ) → 0 < c → fits L a e c ≡ false → largest_up_to L c a e ≡ largest_up_to L (c - 1) a e
  unfolding largest_up_to
  past a e zero h x = absurd (omega arith)
  past a e (suc c) h x = let z : c ≡ suc c - 1 = omega arith in rw x (ap (λ (d : ℕ). largest_up_to L d a e) z)

  pub up-to-not-aligned : (a e c : ℕ) → 0 < c → (a % bytes L c ≡ 0 → ⊥) → largest_up_to L c a e ≡ largest_up_to L (c - 1) a e
  up-to-not-aligned a e c h q = past a e c h (fits-not-aligned a e c q)

  pub up-to-not-end : (a e c : ℕ) → 0 < c → e < a + bytes L c → largest_up_to L c a e ≡ largest_up_to L (c - 1) a e
  up-to-not-end a e c h q = past a e c h (fits-not-end a e c q)

  pub up-to-none : (a e c : ℕ) → c ≡ 0 → largest_up_to L c a e ≡ 0
  unfolding largest_up_to
  up-to-none a e c h = rw h

  -- the largest up to c: it fits, and no larger one up to c does
  record UpTo (a e c m : ℕ) : Type 0 where
    pub fits : 0 < m → Fits L a e m
    pub most : (d : ℕ) → d ≤ c → Fits L a e d → d ≤ m

  up_to : (a e c : ℕ) → c ≤ largest L → UpTo a e c (largest_up_to L c a e)
  unfolding largest_up_to
  up_to a e zero h = record { fits = λ p. absurd (omega arith); most = λ d k f. k }
  up_to a e (suc c) h = go (fits L a e (suc c)) refl (up_to a e c (omega arith))
    where
      go : (b : Bool) → fits L a e (suc c) ≡ b → UpTo a e c (largest_up_to L c a e) → UpTo a e (suc c) (cond b (suc c) (largest_up_to L c a e))
      go true x ih = record { fits = λ p. fits-of a e (suc c) (record { low = omega arith; high = h }) x; most = λ d k f. k }
      go false x ih = record { fits = ih.fits; most = λ d k f. below d k f (ℕ_discrete d (suc c)) }
        where
          below : (d : ℕ) → d ≤ suc c → Fits L a e d → Dec (d ≡ suc c) → d ≤ largest_up_to L c a e
          below d k f (no q) = ih.most d (omega arith) f
          below d k f (yes q) = absurd (false≢true (sym x ∙ fits-if a e (suc c) (subst (λ (n : ℕ). Fits L a e n) q f)))

  pub largest_at-is : (a e : ℕ) → LargestFit L a e (largest_at L a e)
  unfolding largest_at
  largest_at-is a e = let u = up_to a e (largest L) (omega arith) in record { fits = u.fits; most = λ c f. u.most c f.code.high f }

  pub smaller-is : (c : ℕ) → IsCode L c → smallest < c → smaller L c ≡ c - 1
  unfolding smaller
  smaller-is c k h = rw (lt-ltb smallest c h, le-leb c (largest L) k.high)

  -- a child's answer by the two tests of `is_child`
  pub record Child (base c i address size : ℕ) : Type 0 where
    pub address_is : child_address L base c i ≡ address
    pub size_is : child_size L base c i ≡ size

  pub child-is : (base c i : ℕ) → i < fan_out L c → base ≤ bytes L (largest L) - bytes L c → Child base c i (base + i * bytes L (smaller L c)) (smaller L c)
  unfolding child_address child_size is_child
  child-is base c i h k =
      record {
        address_is = rw (lt-ltb i (fan_out L c) h, le-leb base (bytes L (largest L) - bytes L c) k);
        size_is = rw (lt-ltb i (fan_out L c) h, le-leb base (bytes L (largest L) - bytes L c) k);
      }

  no-child : (base c i : ℕ) → is_child L base c i ≡ false → Child base c i 0 0
  unfolding child_address child_size
  no-child base c i h = record { address_is = rw h; size_is = rw h }

  pub no-child-index : (base c i : ℕ) → fan_out L c ≤ i → Child base c i 0 0
  unfolding is_child
  no-child-index base c i h = no-child base c i (rw (le-ltb i (fan_out L c) h))

  pub no-child-room : (base c i : ℕ) → bytes L (largest L) - bytes L c < base → Child base c i 0 0
  unfolding is_child
  no-child-room base c i h = no-child base c i (rw (lt-leb base (bytes L (largest L) - bytes L c) h) (and-false (ltb i (fan_out L c))))

module _ (L : Ladder) (m : MultipliesUp L) where
  pub bytes_pos : (c : ℕ) → IsCode L c → 0 < bytes L c
  bytes_pos zero k = absurd (omega (arith, k.low))
  bytes_pos (suc zero) k = m.page
  bytes_pos (suc (suc c)) k =
      rw (m.multiply (suc c) (omega arith) k.high)
      (mul-pos (omega (arith, m.wide (suc c) (omega arith) k.high)) (bytes_pos (suc c) (record { low = omega arith; high = omega (arith, k.high) })))

  pub bytes-divides : (c d : ℕ) → IsCode L c → IsCode L d → c ≤ d → bytes L c ∣ bytes L d
  bytes-divides c d j k h = le_ind (λ (n : ℕ). n ≤ largest L → bytes L c ∣ bytes L n) (λ l. dvd_refl (bytes L c)) step d h k.high
    where
      step : (n : ℕ) → c ≤ n → (n ≤ largest L → bytes L c ∣ bytes L n) → suc n ≤ largest L → bytes L c ∣ bytes L (suc n)
      step n g ih l = rw (m.multiply n (omega (arith, j.low)) l) (dvd-mul_left_of_dvd (bytes L c) (ih (omega arith)) (fan_out L (suc n)))

  pub aligned-below : (a c d : ℕ) → IsCode L c → IsCode L d → c ≤ d → a % bytes L d ≡ 0 → a % bytes L c ≡ 0
  aligned-below a c d j k h e =
      mod-eq-zero_of_dvd (bytes L c) (dvd_trans (bytes L c) (bytes-divides c d j k h) (dvd_of_mod-eq-zero (bytes L d) e))

  pub bytes_product : (c : ℕ) → IsCode L c → bytes L c ≡ frames L c * bytes L smallest
  unfolding frames
  bytes_product zero k = absurd (omega (arith, k.low))
  bytes_product (suc zero) k = omega arith
  bytes_product (suc (suc c)) k =
      m.multiply (suc c) (omega arith) k.high
      ∙ ap (λ n. fan_out L (suc (suc c)) * n) (bytes_product (suc c) (record { low = omega arith; high = omega (arith, k.high) }))
      ∙ sym (mul_assoc (fan_out L (suc (suc c))) (frames L (suc c)) (bytes L smallest))

  pub bytes-grow : (c d : ℕ) → IsCode L c → IsCode L d → c < d → bytes L c < bytes L d
  bytes-grow c d j k h = le_ind (λ (n : ℕ). n ≤ largest L → bytes L c < bytes L n) (λ l. once c j.low l) step d h k.high
    where
      once : (n : ℕ) → smallest ≤ n → suc n ≤ largest L → bytes L n < bytes L (suc n)
      once n g l =
          let z : 2 * bytes L n ≤ fan_out L (suc n) * bytes L n = mul-le-mul_right (bytes L n) (m.wide n g l) in
          omega (arith, m.multiply n g l, bytes_pos n (record { low = g; high = omega arith }))

      step : (n : ℕ) → suc c ≤ n → (n ≤ largest L → bytes L c < bytes L n) → suc n ≤ largest L → bytes L c < bytes L (suc n)
      step n g ih l = omega (arith, ih (omega arith), once n (omega (arith, j.low)) l)

  -- bytes are the fan-out times the bytes of the next smaller code
  pub bytes_below : (c : ℕ) → IsCode L c → smallest < c → bytes L c ≡ fan_out L c * bytes L (smaller L c)
  bytes_below zero k h = absurd (omega arith)
  bytes_below (suc c) k h =
      let z : smaller L (suc c) ≡ c = smaller-is L (suc c) k h ∙ omega arith in
      rw z (m.multiply c (omega arith) k.high)

  smaller-code : (c : ℕ) → IsCode L c → smallest < c → IsCode L (smaller L c)
  smaller-code c k h = rw (smaller-is L c k h) (record { low = omega arith; high = omega (arith, k.high) })

  pub child-holds : (base c a : ℕ) → IsCode L c → smallest < c → base ≤ a → a < base + bytes L c → Holds L base c (child_index L base c a) a
  unfolding child_index
  child-holds base c a k h l g =
      let n : ℕ = bytes L (smaller L c) in
      let p : 0 < n = bytes_pos (smaller L c) (smaller-code c k h) in
      let d = div-add-mod' (a - base) n in
      let r = mod-lt (a - base) p in
      record { child = (div-lt_iff_lt-mul p).1 (omega (arith, bytes_below c k h)); low = omega arith; high = omega arith }

  -- the start of the child i, from its node's base on, lies in the node
  pub child-below : (c i : ℕ) → i < fan_out L c → i * bytes L (smaller L c) < bytes L c
  child-below c i h =
      let p = m.parents c (omega arith) in
      let k : IsCode L c = record { low = omega (arith, p.0); high = p.1 } in
      rw (bytes_below c k p.0) (mul-lt-mul_of_pos_right h (bytes_pos (smaller L c) (smaller-code c k p.0)))

  pub children-at : (base c i : ℕ) → base + bytes L c ≤ bytes L (largest L) → i < fan_out L c → ChildAt L base c i (base + i * bytes L (smaller L c)) (c - 1)
  unfolding child_index
  children-at base c i h k =
      let p = m.parents c (omega arith) in
      let code : IsCode L c = record { low = omega (arith, p.0); high = p.1 } in
      let is = child-is L base c i k (omega arith) in
      let z : base + i * bytes L (smaller L c) - base ≡ i * bytes L (smaller L c) = omega arith in
      record {
        address = is.address_is;
        size = is.size_is ∙ smaller-is L c code p.0;
        index = rw z (mul-div_cancel i (bytes_pos (smaller L c) (smaller-code c code p.0)));
      }

  top : IsCode L (largest L)
  top = record { low = m.some; high = omega arith }

  pub frame_back : (f : ℕ) → f ≤ frames L (largest L) → address_frame L (frame_address L f) ≡ f
  unfolding address_frame frame_address
  frame_back f h = rw (min-eq_left h) (mul-div_cancel f m.page)

  pub address_back : (a : ℕ) → a % bytes L smallest ≡ 0 → a ≤ bytes L (largest L) → frame_address L (address_frame L a) ≡ a
  unfolding address_frame frame_address
  address_back a e h =
      let k : a / bytes L smallest ≤ frames L (largest L) = div-le_of_le-mul (bytes L smallest) (omega (arith, bytes_product (largest L) top, mul_comm (frames L (largest L)) (bytes L smallest))) in
      rw (min-eq_left k) (omega (arith, div-add-mod' a (bytes L smallest)))

  pub ladder-laws : LadderLaws L
  ladder-laws =
      record {
        divides = bytes-divides;
        aligned = aligned-below;
        product = bytes_product;
        grows = bytes-grow;
        largest_at_is = largest_at-is L;
        children = children-at;
        holds = child-holds;
        frame_back = frame_back;
        address_back = address_back;
      }
