-- Laws of the test of the regions, one place each, as the loops over the places need them. Assumes nothing.
use mathlib.Core.Path.{◌≡◌, refl, sym}
use mathlib.Core.Bool.{Bool, true, false, ◌&&◌, true≢false}
use mathlib.Core.List.{List, [], ◌∷◌}
use Prim.Native.Nat.{ℕ, suc, ◌+◌, ◌-◌, ◌%◌, ◌≤◌, ◌<◌, max, min}
use native.Mathlib.Omega.{arith}
use native.Mathlib.Numerals.{add-one}
use lib.Dec.{leb, eqb}
use lib.ListN.{length, get_or, drop, drop_of_length-le}
use lib.Seq.{drop-cons}
use borrow.Author.Tests.{ltb-true, leb-true, leb-false, eqb-true, lt-ltb, le-leb, eq-eqb, ne_eqb}
use Rattle.sizes.specs.Ladder.{Ladder, smallest, largest, bytes, address_frame}
use Rattle.sizes.specs.Six.{six}
use Rattle.model.specs.Lists.{sum, all}
use Rattle.model.specs.Calls.{Region}
use Rattle.model.specs.TreeStore.{overlap, apart}
use Rattle.pool.specs.Limits.{most_frames}
use Rattle.pool.specs.Regions.{regions_of}
use Rattle.pool.specs.RegionTest.{region_passes, zeros, regions_pass, region_at}
use Rattle.pool.proofs.Cover.{and-true, and_intro}

-- the frames from a to e share none with the regions exactly if these have none of them
pub apart-sum : (a e : ℕ) (rs : List Region) → a ≤ e → eqb (sum (overlap a (e - a)) rs) 0 ≡ apart a e rs
unfolding sum all
apart-sum a e [] h = refl
apart-sum a e (r ∷ rs) h = go (leb (min e r.end) (max a r.start)) refl (apart-sum a e rs h)
  where
    o : ℕ
    o = overlap a (e - a) r

    go : (x : Bool) → leb (min e r.end) (max a r.start) ≡ x → eqb (sum (overlap a (e - a)) rs) 0 ≡ apart a e rs → eqb (o + sum (overlap a (e - a)) rs) 0 ≡ (x && apart a e rs)
    go true x ih =
        let l = leb-true (min e r.end) (max a r.start) x in
        let z : overlap a (e - a) r + sum (overlap a (e - a)) rs ≡ sum (overlap a (e - a)) rs = omega arith in
        rw z ih
    go false x ih =
        let l = leb-false (min e r.end) (max a r.start) x in
        let z : 0 < overlap a (e - a) r = omega arith in
        ne_eqb (o + sum (overlap a (e - a)) rs) 0 (λ y. omega arith)

-- two tests before a third
and-refused : (x y z : Bool) → (x && y) ≡ false → (x && (y && z)) ≡ false
and-refused true true z h = absurd (true≢false h)
and-refused true false z h = refl
and-refused false y z h = refl

and-passed : (x y z : Bool) → (x && y) ≡ true → (x && (y && z)) ≡ z
and-passed true true z h = refl
and-passed true false z h = absurd (true≢false (sym h))
and-passed false y z h = absurd (true≢false (sym h))

-- the places from i on are zero
module _ (ss es : List ℕ) (i : ℕ) (hs : i < length ss) (he : i < length es) where
  pub zeros-start : (get_or ss i 0 ≡ 0 → ⊥) → zeros (drop i ss) (drop i es) ≡ false
  unfolding zeros
  zeros-start e = rw (drop-cons ss i 0 hs, drop-cons es i 0 he) (simp (ne_eqb _ _ e))

  pub zeros-stop : get_or ss i 0 ≡ 0 → (get_or es i 0 ≡ 0 → ⊥) → zeros (drop i ss) (drop i es) ≡ false
  unfolding zeros
  zeros-stop d e = rw (drop-cons ss i 0 hs, drop-cons es i 0 he) (simp (eq-eqb _ _ d, ne_eqb _ _ e))

  pub zeros-past : get_or ss i 0 ≡ 0 → get_or es i 0 ≡ 0 → zeros (drop i ss) (drop i es) ≡ zeros (drop (i + 1) ss) (drop (i + 1) es)
  unfolding zeros
  zeros-past d e = rw (add-one i, drop-cons ss i 0 hs, drop-cons es i 0 he) (simp (eq-eqb _ _ d, eq-eqb _ _ e))

pub zeros-end : (ss es : List ℕ) (i : ℕ) → length ss ≤ i → zeros (drop i ss) (drop i es) ≡ true
unfolding zeros
zeros-end ss es i h = rw (drop_of_length-le ss {i = i} h)

module _ (L : Ladder) where
  -- page-aligned, not empty, ends at or below the largest block's end
  pub record Passes (s e : ℕ) : Type 0 where
    pub start_aligned : s % bytes L smallest ≡ 0
    pub end_aligned : e % bytes L smallest ≡ 0
    pub some : s < e
    pub within : e ≤ bytes L (largest L)

  pub passes_of : (s e : ℕ) → region_passes L s e ≡ true → Passes s e
  unfolding region_passes
  passes_of s e h =
      let x = and-true h in
      let y = and-true x.1 in
      let z = and-true y.1 in
      record { start_aligned = eqb-true (s % bytes L smallest) 0 x.0; end_aligned = eqb-true (e % bytes L smallest) 0 y.0; some = ltb-true s e z.0; within = leb-true e (bytes L (largest L)) z.1 }

  pub passes-if : (s e : ℕ) → Passes s e → region_passes L s e ≡ true
  unfolding region_passes
  passes-if s e w = and_intro (eq-eqb (s % bytes L smallest) 0 w.start_aligned) (and_intro (eq-eqb (e % bytes L smallest) 0 w.end_aligned) (and_intro (lt-ltb s e w.some) (le-leb e (bytes L (largest L)) w.within)))

  module _ (ss es : List ℕ) (i : ℕ) (hs : i < length ss) (he : i < length es) where
    pub regions-here : get_or es i 0 ≡ 0 → regions_of L (drop i ss) (drop i es) ≡ []
    unfolding regions_of
    regions-here e = rw (drop-cons ss i 0 hs, drop-cons es i 0 he) (simp (eq-eqb _ _ e))

    pub regions-past : (get_or es i 0 ≡ 0 → ⊥) → regions_of L (drop i ss) (drop i es) ≡ record { start = address_frame L (get_or ss i 0); end = address_frame L (get_or es i 0) } ∷ regions_of L (drop (i + 1) ss) (drop (i + 1) es)
    unfolding regions_of
    regions-past e = rw (add-one i, drop-cons ss i 0 hs, drop-cons es i 0 he) (simp (ne_eqb _ _ e))

    pub sum-here : (b n : ℕ) → get_or es i 0 ≡ 0 → sum (overlap b n) (regions_of L (drop i ss) (drop i es)) ≡ 0
    unfolding sum
    sum-here b n e = rw (regions-here e)

    pub sum_past : (b n : ℕ) → (get_or es i 0 ≡ 0 → ⊥)
        → sum (overlap b n) (regions_of L (drop i ss) (drop i es))
        ≡ overlap b n (record { start = address_frame L (get_or ss i 0); end = address_frame L (get_or es i 0) }) + sum (overlap b n) (regions_of L (drop (i + 1) ss) (drop (i + 1) es))
    unfolding sum
    sum_past b n e = rw (regions-past e)

    pub length-here : get_or es i 0 ≡ 0 → length (regions_of L (drop i ss) (drop i es)) ≡ 0
    length-here e = rw (regions-here e)

    pub length-past : (get_or es i 0 ≡ 0 → ⊥) → length (regions_of L (drop i ss) (drop i es)) ≡ suc (length (regions_of L (drop (i + 1) ss) (drop (i + 1) es)))
    length-past e = rw (regions-past e)

    pub pass-here : get_or es i 0 ≡ 0 → regions_pass L (drop i ss) (drop i es) ≡ zeros (drop i ss) (drop i es)
    unfolding regions_pass
    pass-here e = rw (drop-cons ss i 0 hs, drop-cons es i 0 he) (simp (eq-eqb _ _ e))

    pub pass-stop : (get_or es i 0 ≡ 0 → ⊥) → region_at L ss es i ≡ false → regions_pass L (drop i ss) (drop i es) ≡ false
    unfolding regions_pass region_at
    pass-stop e h = rw (drop-cons ss i 0 hs, drop-cons es i 0 he) (simp (ne_eqb _ _ e)
        (and-refused (region_passes L (get_or ss i 0) (get_or es i 0)) (apart (address_frame L (get_or ss i 0)) (address_frame L (get_or es i 0)) (regions_of L (drop (suc i) ss) (drop (suc i) es))) (regions_pass L (drop (suc i) ss) (drop (suc i) es)) h))

    pub pass-past : (get_or es i 0 ≡ 0 → ⊥) → region_at L ss es i ≡ true → regions_pass L (drop i ss) (drop i es) ≡ regions_pass L (drop (i + 1) ss) (drop (i + 1) es)
    unfolding regions_pass region_at
    pass-past e h = rw (add-one i, drop-cons ss i 0 hs, drop-cons es i 0 he) (simp (ne_eqb _ _ e)
        (and-passed (region_passes L (get_or ss i 0) (get_or es i 0)) (apart (address_frame L (get_or ss i 0)) (address_frame L (get_or es i 0)) (regions_of L (drop (suc i) ss) (drop (suc i) es))) (regions_pass L (drop (suc i) ss) (drop (suc i) es)) h))

  module _ (ss es : List ℕ) (i : ℕ) (h : length ss ≤ i) where
    pub sum-end : (b n : ℕ) → sum (overlap b n) (regions_of L (drop i ss) (drop i es)) ≡ 0
    unfolding sum regions_of
    sum-end b n = rw (drop_of_length-le ss {i = i} h)

    pub length-end : length (regions_of L (drop i ss) (drop i es)) ≡ 0
    unfolding regions_of
    length-end = rw (drop_of_length-le ss {i = i} h)

    pub pass-end : regions_pass L (drop i ss) (drop i es) ≡ true
    unfolding regions_pass
    pass-end = rw (drop_of_length-le ss {i = i} h)

  pub at-refused : (ss es : List ℕ) (i : ℕ) → region_passes L (get_or ss i 0) (get_or es i 0) ≡ false → region_at L ss es i ≡ false
  unfolding region_at
  at-refused ss es i h = rw h

  pub at-passed : (ss es : List ℕ) (i : ℕ) → region_passes L (get_or ss i 0) (get_or es i 0) ≡ true
      → region_at L ss es i ≡ apart (address_frame L (get_or ss i 0)) (address_frame L (get_or es i 0)) (regions_of L (drop (i + 1) ss) (drop (i + 1) es))
  unfolding region_at
  at-passed ss es i h = rw (add-one i, h)

-- a region of the six sizes, in frames
pub six-frames : (s e : ℕ) → Passes six s e → (address_frame six s ≤ address_frame six e) × (address_frame six e ≤ most_frames)
unfolding address_frame bytes largest
six-frames s e w = (omega arith, omega arith)
