-- The test of the regions passes exactly when they are as document 01 wants them, and in frames they are then the model's. Assumes nothing.
use mathlib.Core.Path.{◌≡◌, refl, sym, ap, ◌∙◌, subst}
use mathlib.Core.Bool.{Bool, true, false, ◌&&◌, cond}
use mathlib.Core.List.{List, [], ◌∷◌}
use Prim.Native.Nat.{ℕ, zero, suc, ◌*◌, ◌-◌, ◌%◌, ◌≤◌, ◌<◌, max, min}
use native.Mathlib.Omega.{arith}
use native.Mathlib.Nat.{div-add-mod', mul-le-mul_right, mul-lt-mul_of_pos_right}
use native.Mathlib.Decide.{dec_le, dec_lt}
use lib.Dec.{leb, eqb}
use lib.ListN.{length, get_or}
use borrow.Author.Tests.{leb-true, eqb-true, eqb-false, le-leb, eq-eqb}
use Rattle.sizes.specs.Ladder.{Ladder, smallest, largest, bytes, address_frame}
use Rattle.sizes.specs.Laws.{MultipliesUp}
use Rattle.model.specs.Ladder.{frames, top}
use Rattle.model.specs.Lists.{all}
use Rattle.model.specs.Calls.{Regions as FrameRegions}
use Rattle.model.specs.TreeStore.{apart}
use Rattle.model.proofs.Ladder.{bytes-is, largest-top}
use Rattle.model.proofs.Regions.{apart-iff}
use Rattle.pool.specs.Regions.{Holds, Regions, regions_of}
use Rattle.pool.specs.RegionTest.{region_passes, zeros, regions_pass}
use Rattle.pool.proofs.Cover.{and-true, and_intro}
use Rattle.pool.proofs.RegionTest.{Passes, passes_of, passes-if}

-- all places are zero
zeros_of : (ss es : List ℕ) → length ss ≡ length es → zeros ss es ≡ true → (i : ℕ) → (get_or ss i 0 ≡ 0) × (get_or es i 0 ≡ 0)
unfolding zeros
zeros_of [] [] l h i = (refl, refl)
zeros_of [] (e ∷ es) l h i = absurd (omega arith)
zeros_of (s ∷ ss) [] l h i = absurd (omega arith)
zeros_of (s ∷ ss) (e ∷ es) l h zero =
    let x = and-true {a = eqb s 0} h in
    let y = and-true {a = eqb e 0} x.1 in
    (eqb-true s 0 x.0, eqb-true e 0 y.0)
zeros_of (s ∷ ss) (e ∷ es) l h (suc i) =
    let x = and-true {a = eqb s 0} h in
    let y = and-true {a = eqb e 0} x.1 in
    zeros_of ss es (omega arith) y.1 i

zeros-if : (ss es : List ℕ) → ((i : ℕ) → (get_or ss i 0 ≡ 0) × (get_or es i 0 ≡ 0)) → zeros ss es ≡ true
unfolding zeros
zeros-if [] es h = refl
zeros-if (s ∷ ss) [] h = refl
zeros-if (s ∷ ss) (e ∷ es) h = and_intro (eq-eqb s 0 (h 0).0) (and_intro (eq-eqb e 0 (h 0).1) (zeros-if ss es (λ i. h (suc i))))

-- an aligned address is the bytes of the frames before it
module _ (L : Ladder) (m : MultipliesUp L) where
  pub frame-bytes : (a : ℕ) → a % bytes L smallest ≡ 0 → address_frame L a * bytes L smallest ≡ a
  unfolding address_frame
  frame-bytes a h = omega (arith, div-add-mod' a (bytes L smallest))

  -- the order of frames is that of their bytes
  frame-le : (a b : ℕ) → a * bytes L smallest ≤ b * bytes L smallest → a ≤ b
  frame-le a b h = elim (dec_le a b) [ yes k ↦ k | no k ↦ absurd (omega (arith, mul-lt-mul_of_pos_right {m = b} {n = a} (omega arith) m.page)) ]

  frame-lt : (a b : ℕ) → a * bytes L smallest < b * bytes L smallest → a < b
  frame-lt a b h = elim (dec_lt a b) [ yes k ↦ k | no k ↦ absurd (omega (arith, mul-le-mul_right {m = b} {n = a} (bytes L smallest) (omega arith))) ]

  pub all-bytes : bytes L (largest L) ≡ frames L (top L) * bytes L smallest
  all-bytes = ap (bytes L) (largest-top L m) ∙ bytes-is L m (top L) (omega (arith, largest-top L m))

  -- a region's frames: some, up to the last
  pub record InFrames (s e : ℕ) : Type 0 where
    pub some : address_frame L s < address_frame L e
    pub within : address_frame L e ≤ frames L (top L)

  pub passes-frames : (s e : ℕ) → Passes L s e → InFrames s e
  passes-frames s e w = record {
    some = frame-lt (address_frame L s) (address_frame L e) (omega (arith, w.some, frame-bytes s w.start_aligned, frame-bytes e w.end_aligned));
    within = frame-le (address_frame L e) (frames L (top L)) (omega (arith, w.within, frame-bytes e w.end_aligned, all-bytes));
  }

  -- regions that pass are the model's, in frames
  pub regions-fit : (starts ends : List ℕ) → regions_pass L starts ends ≡ true → FrameRegions (frames L (top L)) (regions_of L starts ends)
  unfolding regions_pass regions_of
  regions-fit [] es h = tt
  regions-fit (s ∷ ss) [] h = tt
  regions-fit (s ∷ ss) (e ∷ es) h = go (eqb e 0) refl (regions-fit ss es)
    where
      go : (x : Bool) → eqb e 0 ≡ x → (regions_pass L ss es ≡ true → FrameRegions (frames L (top L)) (regions_of L ss es))
          → FrameRegions (frames L (top L)) (cond x [] (record { start = address_frame L s; end = address_frame L e } ∷ regions_of L ss es))
      go true x ih = tt
      go false x ih =
          let k : (region_passes L s e && (apart (address_frame L s) (address_frame L e) (regions_of L ss es) && regions_pass L ss es)) ≡ true = rw x at h in
          let y = and-true k in
          let z = and-true y.1 in
          let w = passes-frames s e (passes_of L s e y.0) in
          let rest = ih z.1 in
          (record { some = w.some; ends = w.within; alone = (apart-iff (frames L (top L)) (address_frame L s) (address_frame L e) (regions_of L ss es) rest w.some).0 z.0 }, rest)

  -- a frame lies between two aligned addresses exactly if it lies between their frames
  holds-if : (s e f : ℕ) → s % bytes L smallest ≡ 0 → e % bytes L smallest ≡ 0 → address_frame L s ≤ f → f < address_frame L e → Holds L s e f
  holds-if s e f p q l h = record {
    low = omega (arith, frame-bytes s p, mul-le-mul_right {m = address_frame L s} {n = f} (bytes L smallest) l);
    high = omega (arith, frame-bytes e q, mul-lt-mul_of_pos_right {m = f} {n = address_frame L e} h m.page);
  }

  holds_of : (s e f : ℕ) → s % bytes L smallest ≡ 0 → e % bytes L smallest ≡ 0 → Holds L s e f → (address_frame L s ≤ f) × (f < address_frame L e)
  holds_of s e f p q h = (
    frame-le (address_frame L s) f (omega (arith, frame-bytes s p, h.low)),
    frame-lt f (address_frame L e) (omega (arith, frame-bytes e q, h.high)),
  )

  -- the first place, and the others
  module _ (most s e : ℕ) (ss es : List ℕ) (r : Regions L most (s ∷ ss) (e ∷ es)) where
    first-filled : (e ≡ 0 → ⊥) → 0 < r.count
    first-filled h = go (dec_lt 0 r.count)
      where
        go : Dec (0 < r.count) → 0 < r.count
        go (yes x) = x
        go (no x) = absurd (h (r.rest 0 (omega arith)).1)

    none_filled : e ≡ 0 → r.count ≡ 0
    none_filled h = go (dec_lt 0 r.count)
      where
        go : Dec (0 < r.count) → r.count ≡ 0
        go (yes x) = absurd (omega (arith, r.some 0 x))
        go (no x) = omega arith

    abbrev others : 0 < r.count → Regions L (most - 1) ss es
    others p = record {
      count = r.count - 1;
      few = omega (arith, r.few);
      rest = λ i k. r.rest (suc i) (omega arith);
      aligned = λ i k. r.aligned (suc i) (omega arith);
      some = λ i k. r.some (suc i) (omega arith);
      within = λ i k. r.within (suc i) (omega arith);
      alone = λ i j f k l. r.alone (suc i) (suc j) f (omega arith) (omega arith);
    }

  -- the region shares no frame with any of those
  abbrev Alone : (a e most : ℕ) (ss es : List ℕ) → Regions L most ss es → Type 0
  Alone a e most ss es r = (j f : ℕ) → j < r.count → Holds L a e f → Holds L (get_or ss j 0) (get_or es j 0) f → ⊥

  -- a region that shares no frame with the others passes the test
  apart_if : (a e : ℕ) → a % bytes L smallest ≡ 0 → e % bytes L smallest ≡ 0 → (ss es : List ℕ) (most : ℕ) (r : Regions L most ss es)
      → Alone a e most ss es r → apart (address_frame L a) (address_frame L e) (regions_of L ss es) ≡ true
  unfolding regions_of all
  apart_if a e p q [] es most r h = refl
  apart_if a e p q (s ∷ ss) [] most r h = refl
  apart_if a e p q (s ∷ ss) (t ∷ es) most r h = go (eqb t 0) refl (apart_if a e p q ss es)
    where
      go : (x : Bool) → eqb t 0 ≡ x
          → ((most : ℕ) (r : Regions L most ss es) → Alone a e most ss es r → apart (address_frame L a) (address_frame L e) (regions_of L ss es) ≡ true)
          → apart (address_frame L a) (address_frame L e) (cond x [] (record { start = address_frame L s; end = address_frame L t } ∷ regions_of L ss es)) ≡ true
      go true x ih = refl
      go false x ih = and_intro (le-leb (min (address_frame L e) (address_frame L t)) (max (address_frame L a) (address_frame L s)) (near (dec_le (min (address_frame L e) (address_frame L t)) (max (address_frame L a) (address_frame L s)))))
          (ih (most - 1) (others most s t ss es r c) (λ j f k. h (suc j) f (omega arith)))
        where
          c : 0 < r.count
          c = first-filled most s t ss es r (eqb-false t 0 x)

          near : Dec (min (address_frame L e) (address_frame L t) ≤ max (address_frame L a) (address_frame L s)) → min (address_frame L e) (address_frame L t) ≤ max (address_frame L a) (address_frame L s)
          near (yes y) = y
          near (no y) =
              let f = max (address_frame L a) (address_frame L s) in
              let u = r.aligned 0 c in
              absurd (h 0 f c (holds-if a e f p q (omega arith) (omega arith)) (holds-if s t f u.0 u.1 (omega arith) (omega arith)))

  -- ... and one that passes the test shares no frame
  apart_of : (a e : ℕ) → a % bytes L smallest ≡ 0 → e % bytes L smallest ≡ 0 → (ss es : List ℕ) → length ss ≡ length es → (most : ℕ) (r : Regions L most ss es)
      → apart (address_frame L a) (address_frame L e) (regions_of L ss es) ≡ true → Alone a e most ss es r
  unfolding regions_of all
  apart_of a e p q [] [] l most r h j f k x y = omega (arith, r.some j k)
  apart_of a e p q [] (t ∷ es) l most r h j f k x y = omega arith
  apart_of a e p q (s ∷ ss) [] l most r h j f k x y = omega arith
  apart_of a e p q (s ∷ ss) (t ∷ es) l most r h j f k x y = go (eqb t 0) refl (apart_of a e p q ss es (omega arith))
    where
      go : (b : Bool) → eqb t 0 ≡ b
          → ((most : ℕ) (r : Regions L most ss es) → apart (address_frame L a) (address_frame L e) (regions_of L ss es) ≡ true → Alone a e most ss es r)
          → ⊥
      go true b ih = omega (arith, none_filled most s t ss es r (eqb-true t 0 b))
      go false b ih = at j k y
        where
          c : 0 < r.count
          c = omega arith

          m' : (leb (min (address_frame L e) (address_frame L t)) (max (address_frame L a) (address_frame L s)) && apart (address_frame L a) (address_frame L e) (regions_of L ss es)) ≡ true
          m' = rw b at h

          n : (leb (min (address_frame L e) (address_frame L t)) (max (address_frame L a) (address_frame L s)) ≡ true) × (apart (address_frame L a) (address_frame L e) (regions_of L ss es) ≡ true)
          n = and-true m'

          at : (j : ℕ) → j < r.count → Holds L (get_or (s ∷ ss) j 0) (get_or (t ∷ es) j 0) f → ⊥
          at zero k y =
              let u = r.aligned 0 c in
              let v = holds_of a e f p q x in
              let w = holds_of s t f u.0 u.1 y in
              omega (arith, leb-true (min (address_frame L e) (address_frame L t)) (max (address_frame L a) (address_frame L s)) n.0)
          at (suc j) k y = ih (most - 1) (others most s t ss es r c) n.1 j f (omega arith) x y

  pass-if : (ss es : List ℕ) (most : ℕ) → Regions L most ss es → regions_pass L ss es ≡ true
  unfolding regions_pass
  pass-if [] es most r = refl
  pass-if (s ∷ ss) [] most r = refl
  pass-if (s ∷ ss) (e ∷ es) most r = go (eqb e 0) refl (pass-if ss es)
    where
      go : (x : Bool) → eqb e 0 ≡ x → ((most : ℕ) → Regions L most ss es → regions_pass L ss es ≡ true)
          → cond x (zeros (s ∷ ss) (e ∷ es)) (region_passes L s e && (apart (address_frame L s) (address_frame L e) (regions_of L ss es) && regions_pass L ss es)) ≡ true
      go true x ih = zeros-if (s ∷ ss) (e ∷ es) (λ i. r.rest i (omega (arith, none_filled most s e ss es r (eqb-true e 0 x))))
      go false x ih = and_intro (passes-if L s e (record { start_aligned = (r.aligned 0 c).0; end_aligned = (r.aligned 0 c).1; some = r.some 0 c; within = r.within 0 c }))
          (and_intro (apart_if s e (r.aligned 0 c).0 (r.aligned 0 c).1 ss es (most - 1) (others most s e ss es r c) (λ j f k. r.alone 0 (suc j) f (omega arith) (omega arith)))
          (ih (most - 1) (others most s e ss es r c)))
        where
          c : 0 < r.count
          c = first-filled most s e ss es r (eqb-false e 0 x)

  -- one place more in front
  module _ (s e : ℕ) (ss es : List ℕ) (len : length ss ≡ length es) (w : Passes L s e) (most : ℕ) (r : Regions L most ss es)
      (h : apart (address_frame L s) (address_frame L e) (regions_of L ss es) ≡ true) where
    more-rest : (i : ℕ) → suc r.count ≤ i → (get_or (s ∷ ss) i 0 ≡ 0) × (get_or (e ∷ es) i 0 ≡ 0)
    more-rest zero k = absurd (omega arith)
    more-rest (suc i) k = r.rest i (omega arith)

    more-aligned : (i : ℕ) → i < suc r.count → (get_or (s ∷ ss) i 0 % bytes L smallest ≡ 0) × (get_or (e ∷ es) i 0 % bytes L smallest ≡ 0)
    more-aligned zero k = (w.start_aligned, w.end_aligned)
    more-aligned (suc i) k = r.aligned i (omega arith)

    more-some : (i : ℕ) → i < suc r.count → get_or (s ∷ ss) i 0 < get_or (e ∷ es) i 0
    more-some zero k = w.some
    more-some (suc i) k = r.some i (omega arith)

    more_within : (i : ℕ) → i < suc r.count → get_or (e ∷ es) i 0 ≤ bytes L (largest L)
    more_within zero k = w.within
    more_within (suc i) k = r.within i (omega arith)

    more-alone : (i j f : ℕ) → i < j → j < suc r.count → Holds L (get_or (s ∷ ss) i 0) (get_or (e ∷ es) i 0) f → Holds L (get_or (s ∷ ss) j 0) (get_or (e ∷ es) j 0) f → ⊥
    more-alone zero zero f k l = absurd (omega arith)
    more-alone zero (suc j) f k l = apart_of s e w.start_aligned w.end_aligned ss es len most r h j f (omega arith)
    more-alone (suc i) zero f k l = absurd (omega arith)
    more-alone (suc i) (suc j) f k l = r.alone i j f (omega arith) (omega arith)

    more : Regions L (suc most) (s ∷ ss) (e ∷ es)
    more = record { count = suc r.count; few = omega (arith, r.few); rest = more-rest; aligned = more-aligned; some = more-some; within = more_within; alone = more-alone }

  none : (most : ℕ) (ss es : List ℕ) → ((i : ℕ) → (get_or ss i 0 ≡ 0) × (get_or es i 0 ≡ 0)) → Regions L most ss es
  none most ss es h = record {
    count = 0;
    few = omega arith;
    rest = λ i k. h i;
    aligned = λ i k. absurd (omega arith);
    some = λ i k. absurd (omega arith);
    within = λ i k. absurd (omega arith);
    alone = λ i j f k l. absurd (omega arith);
  }

  pass_of : (ss es : List ℕ) → length ss ≡ length es → regions_pass L ss es ≡ true → Regions L (length ss) ss es
  unfolding regions_pass
  pass_of [] [] l h = none 0 [] [] (λ i. (refl, refl))
  pass_of [] (e ∷ es) l h = absurd (omega arith)
  pass_of (s ∷ ss) [] l h = absurd (omega arith)
  pass_of (s ∷ ss) (e ∷ es) l h = go (eqb e 0) refl (pass_of ss es)
    where
      go : (x : Bool) → eqb e 0 ≡ x → (length ss ≡ length es → regions_pass L ss es ≡ true → Regions L (length ss) ss es) → Regions L (suc (length ss)) (s ∷ ss) (e ∷ es)
      go true x ih = none (suc (length ss)) (s ∷ ss) (e ∷ es) (zeros_of (s ∷ ss) (e ∷ es) l (rw x at h))
      go false x ih =
          let k : (region_passes L s e && (apart (address_frame L s) (address_frame L e) (regions_of L ss es) && regions_pass L ss es)) ≡ true = rw x at h in
          let y = and-true k in
          let z = and-true y.1 in
          more s e ss es (omega arith) (passes_of L s e y.0) (length ss) (ih (omega arith) z.1) z.0

  pub regions-of : (most : ℕ) (starts ends : List ℕ) → length starts ≡ most → length ends ≡ most → regions_pass L starts ends ≡ true → Regions L most starts ends
  regions-of most ss es k l h = subst (λ (n : ℕ). Regions L n ss es) k (pass_of ss es (k ∙ sym l) h)

  pub regions-if : (most : ℕ) (starts ends : List ℕ) → length starts ≡ most → length ends ≡ most → Regions L most starts ends → regions_pass L starts ends ≡ true
  regions-if most ss es k l r = pass-if ss es most r
