-- One region more, behind the others: the regions still pass. And the regions turned round, the newest first: nothing that the model asks of them hangs on their order. Assumes nothing.
use mathlib.Core.Path.{◌≡◌, refl, sym, ap, ◌∙◌, subst}
use mathlib.Core.Bool.{Bool, true, false, ◌&&◌, cond, true≢false}
use mathlib.Core.Bool.{and-true as and-unit}
use mathlib.Core.List.{List, [], ◌∷◌, ◌++◌, reverse, reverse_aux, reverse_aux-append}
use Prim.Native.Nat.{ℕ, zero, suc, ◌+◌, ◌-◌, ◌≤◌, ◌<◌, max, min}
use native.Mathlib.Omega.{arith}
use lib.Dec.{leb, eqb}
use lib.ListN.{length, get_or, set, length-reverse}
use borrow.Author.Tests.{leb-true, ltb-true, le-leb, eq-eqb, ne_eqb}
use Rattle.sizes.specs.Ladder.{Ladder, address_frame}
use Rattle.sizes.specs.Laws.{MultipliesUp}
use Rattle.sizes.specs.Six.{six}
use Rattle.sizes.proofs.Six.{six-multiplies}
use Rattle.model.specs.Frames.{within, paint}
use Rattle.model.specs.Ladder.{frames, top}
use Rattle.model.specs.Lists.{sum, all}
use Rattle.model.specs.Calls.{Region, seeded, Regions as FrameRegions}
use Rattle.model.specs.TreeStore.{overlap, covered, apart, seeded_frames}
use Rattle.model.proofs.Frames.{painted, painted-more, count-le}
use Rattle.model.proofs.Regions.{seeded-count}
use Rattle.pool.specs.Limits.{most_frames}
use Rattle.pool.specs.Regions.{Regions, regions_of, newest}
use Rattle.pool.specs.RegionTest.{region_passes, zeros, regions_pass}
use Rattle.pool.proofs.Cover.{and-true, and_intro}
use Rattle.pool.proofs.RegionTest.{passes_of}
use Rattle.pool.proofs.Regions.{regions-fit}
use Rattle.pool.proofs.Sizes.{top-frames}

-- ---- the regions turned round

-- the last comes first
pub newest-append : (rs : List Region) (r : Region) → reverse (rs ++ (r ∷ [])) ≡ r ∷ reverse rs
newest-append rs r = reverse_aux-append rs (r ∷ []) []

-- there are as many
pub newest-length : (rs : List Region) → length (reverse rs) ≡ length rs
newest-length rs = length-reverse rs

turned-sum : (g : Region → ℕ) (rs qs : List Region) → sum g (reverse_aux rs qs) ≡ sum g rs + sum g qs
unfolding sum
turned-sum g [] qs = omega arith
turned-sum g (r ∷ rs) qs = omega (arith, turned-sum g rs (r ∷ qs))

-- sums do not hang on the order
pub sum-newest : (g : Region → ℕ) (rs : List Region) → sum g (reverse rs) ≡ sum g rs
unfolding sum
sum-newest g rs = omega (arith, turned-sum g rs [])

-- they have as many frames
pub newest-sum : (rs : List Region) → seeded_frames (reverse rs) ≡ seeded_frames rs
newest-sum rs = sum-newest (λ r. r.end - r.start) rs

-- they cover the same blocks
pub newest-covered : (rs : List Region) (b s : ℕ) → covered (reverse rs) b s ≡ covered rs b s
newest-covered rs b s = ap (λ (x : ℕ). eqb x s) (sum-newest (overlap b s) rs)

turned-all : (p : Region → Bool) (rs qs : List Region) → all p (reverse_aux rs qs) ≡ (all p rs && all p qs)
unfolding all
turned-all p [] qs = refl
turned-all p (r ∷ rs) qs = turned-all p rs (r ∷ qs) ∙ swap (all p rs) (p r) (all p qs)
  where
    swap : (a b c : Bool) → (a && (b && c)) ≡ ((b && a) && c)
    swap true true c = refl
    swap true false c = refl
    swap false true c = refl
    swap false false c = refl

-- they share frames with the same regions
pub newest-apart : (a e : ℕ) (rs : List Region) → apart a e (reverse rs) ≡ apart a e rs
unfolding all
newest-apart a e rs = turned-all (λ r. leb (min e r.end) (max a r.start)) rs [] ∙ and-unit (apart a e rs)

turned-seeded : (rs qs : List Region) (f : ℕ) → seeded (reverse_aux rs qs) f ≡ cond (seeded rs f) true (seeded qs f)
unfolding seeded
turned-seeded [] qs f = refl
turned-seeded (r ∷ rs) qs f = turned-seeded rs (r ∷ qs) f ∙ swap (seeded rs f) (within r.start (r.end - r.start) f) (seeded qs f)
  where
    swap : (a b c : Bool) → cond a true (cond b true c) ≡ cond (cond b true a) true c
    swap true true c = refl
    swap true false c = refl
    swap false true c = refl
    swap false false c = refl

-- the same frames are seeded
pub newest-seeded : (rs : List Region) (f : ℕ) → seeded (reverse rs) f ≡ seeded rs f
unfolding seeded
newest-seeded rs f = turned-seeded rs [] f ∙ unit (seeded rs f)
  where
    unit : (b : Bool) → cond b true false ≡ b
    unit true = refl
    unit false = refl

-- the regions qs have no frame of rs
abbrev Cross : (rs qs : List Region) → Type 0
Cross rs qs = (f : ℕ) → seeded rs f ≡ true → seeded qs f ≡ false

-- regions turned round in front of others fit, where the two share no frame
turned-fit : (N : ℕ) (rs qs : List Region) → FrameRegions N rs → FrameRegions N qs → Cross rs qs → FrameRegions N (reverse_aux rs qs)
unfolding seeded
turned-fit N [] qs k o c = o
turned-fit N (r ∷ rs) qs k o c = turned-fit N rs (r ∷ qs) k.1 (
  record {
    some = k.0.some;
    ends = k.0.ends;
    alone = λ f p q. c f ((painted (seeded rs) (suc f) r.start (r.end - r.start) true).inside f p q);
  },
  o,
) cross
  where
    cross : (f : ℕ) → seeded rs f ≡ true → paint r.start (r.end - r.start) true (seeded qs) f ≡ false
    cross f h = go (within r.start (r.end - r.start) f) refl
      where
        go : (x : Bool) → within r.start (r.end - r.start) f ≡ x → cond x true (seeded qs f) ≡ false
        go true x =
            let y = and-true x in
            absurd (true≢false (sym h ∙ k.0.alone f (leb-true r.start f y.0) (ltb-true f (r.start + (r.end - r.start)) y.1)))
        go false x = c f (painted-more r.start (r.end - r.start) (seeded rs) f h)

-- the regions of a frame store stay so when they are turned round
pub fit-newest : (N : ℕ) (rs : List Region) → FrameRegions N rs → FrameRegions N (reverse rs)
unfolding seeded
fit-newest N rs k = turned-fit N rs [] k tt (λ f h. refl)

-- ---- all frames of regions that lie below N

-- the first N frames share with the regions all that these have
overlap-all : (N : ℕ) (rs : List Region) → FrameRegions N rs → sum (overlap 0 N) rs ≡ seeded_frames rs
unfolding sum
overlap-all N [] k = refl
overlap-all N (r ∷ rs) k = omega (arith, k.0.some, k.0.ends, overlap-all N rs k.1)

-- the seeded frames of the six sizes' regions: those that the whole memory shares with them, and no more than it has
pub seeded-six : (starts ends : List ℕ) → regions_pass six starts ends ≡ true
    → (sum (overlap 0 most_frames) (regions_of six starts ends) ≡ seeded_frames (regions_of six starts ends)) × (seeded_frames (regions_of six starts ends) ≤ most_frames)
seeded-six ss es h =
    let rs : List Region = regions_of six ss es in
    let k : FrameRegions most_frames rs = subst (λ (n : ℕ). FrameRegions n rs) top-frames (regions-fit six six-multiplies ss es h) in
    (overlap-all most_frames rs k, omega (arith, seeded-count most_frames rs k, count-le (seeded rs) most_frames))

-- ---- one region more

-- zero places behind a zero place
zeros-rest : (s e : ℕ) (ss es : List ℕ) → zeros (s ∷ ss) (e ∷ es) ≡ true → zeros ss es ≡ true
unfolding zeros
zeros-rest s e ss es h = (and-true {a = eqb e 0} (and-true {a = eqb s 0} h).1).1

-- to share no frame with two lists of regions is to share none with either
apart-append : (a e : ℕ) (rs qs : List Region) → apart a e (rs ++ qs) ≡ (apart a e rs && apart a e qs)
unfolding all
apart-append a e [] qs = refl
apart-append a e (r ∷ rs) qs = go (leb (min e r.end) (max a r.start)) (apart-append a e rs qs)
  where
    go : (x : Bool) → apart a e (rs ++ qs) ≡ (apart a e rs && apart a e qs) → (x && apart a e (rs ++ qs)) ≡ ((x && apart a e rs) && apart a e qs)
    go true ih = ih
    go false ih = refl

apart-rest : (a e : ℕ) (r : Region) (rs : List Region) → apart a e (r ∷ rs) ≡ true → (leb (min e r.end) (max a r.start) ≡ true) × (apart a e rs ≡ true)
unfolding all
apart-rest a e r rs h = and-true h

-- what shares no frame with the regions nor with a to e shares none with all of these
apart_more : (a e s t : ℕ) (rs : List Region) → leb (min e t) (max a s) ≡ true → apart s t rs ≡ true → apart s t (rs ++ (record { start = a; end = e } ∷ [])) ≡ true
unfolding all
apart_more a e s t rs h k = apart-append s t rs (record { start = a; end = e } ∷ [])
    ∙ and_intro k (and_intro (le-leb (min t e) (max s a) (omega (arith, leb-true (min e t) (max a s) h))) refl)

module _ (L : Ladder) where
  -- the region from the address a to e, in frames
  abbrev region : (a e : ℕ) → Region
  region a e = record { start = address_frame L a; end = address_frame L e }

  -- zero places have no region, and pass
  zeros-regions : (ss es : List ℕ) → zeros ss es ≡ true → regions_of L ss es ≡ []
  unfolding zeros regions_of
  zeros-regions [] es h = refl
  zeros-regions (s ∷ ss) [] h = refl
  zeros-regions (s ∷ ss) (e ∷ es) h = rw (and-true {a = eqb e 0} (and-true {a = eqb s 0} h).1).0

  zeros-pass : (ss es : List ℕ) → zeros ss es ≡ true → regions_pass L ss es ≡ true
  unfolding zeros regions_pass
  zeros-pass [] es h = refl
  zeros-pass (s ∷ ss) [] h = refl
  zeros-pass (s ∷ ss) (e ∷ es) h =
      let x = and-true {a = eqb s 0} h in
      let y = and-true {a = eqb e 0} x.1 in
      rw y.0 (and_intro x.0 y.1)

  -- regions of which the first place is filled: it passes, and so do the others
  pass-rest : (s e : ℕ) (ss es : List ℕ) → eqb e 0 ≡ false → regions_pass L (s ∷ ss) (e ∷ es) ≡ true
      → (region_passes L s e ≡ true) × (apart (address_frame L s) (address_frame L e) (regions_of L ss es) ≡ true) × (regions_pass L ss es ≡ true)
  unfolding regions_pass
  pass-rest s e ss es x h =
      let m : (region_passes L s e && (apart (address_frame L s) (address_frame L e) (regions_of L ss es) && regions_pass L ss es)) ≡ true = rw x at h in
      let y = and-true m in
      let z = and-true y.1 in
      (y.0, z.0, z.1)

  -- a count of places that are filled, with none filled behind them, is the number of regions
  count_of : (ss es : List ℕ) (c : ℕ) → length ss ≡ length es → c ≤ length es → ((i : ℕ) → i < c → 0 < get_or es i 0) → ((i : ℕ) → c ≤ i → get_or es i 0 ≡ 0) → c ≡ length (regions_of L ss es)
  unfolding regions_of
  count_of [] [] c l k f z = omega arith
  count_of [] (e ∷ es) c l k f z = absurd (omega arith)
  count_of (s ∷ ss) [] c l k f z = absurd (omega arith)
  count_of (s ∷ ss) (e ∷ es) zero l k f z = rw (eq-eqb e 0 (z 0 (omega arith)))
  count_of (s ∷ ss) (e ∷ es) (suc c) l k f z =
      rw (ne_eqb e 0 (λ x. omega (arith, f 0 (omega arith)))) (ap suc (count_of ss es c (omega arith) (omega arith) (λ i j. f (suc i) (omega arith)) (λ i j. z (suc i) (omega arith))))

  -- a sound state's count is that of its regions
  pub count-is : (most : ℕ) (starts ends : List ℕ) (r : Regions L most starts ends) → length starts ≡ most → length ends ≡ most → r.count ≡ length (regions_of L starts ends)
  count-is most ss es r k l = count_of ss es r.count (k ∙ sym l) (omega (arith, r.few)) (λ i j. omega (arith, r.some i j)) (λ i j. (r.rest i j).1)

  module _ (a e : ℕ) (w : region_passes L a e ≡ true) where
    filled : eqb e 0 ≡ false
    filled = ne_eqb e 0 (λ x. omega (arith, (passes_of L a e w).some))

    -- the regions of the places, with a to e at the first that is free
    pub with-regions : (starts ends : List ℕ) → length starts ≡ length ends → regions_pass L starts ends ≡ true → length (regions_of L starts ends) < length starts
        → regions_of L (set starts (length (regions_of L starts ends)) a) (set ends (length (regions_of L starts ends)) e) ≡ regions_of L starts ends ++ (record { start = address_frame L a; end = address_frame L e } ∷ [])
    unfolding regions_of regions_pass
    with-regions [] es l h k = absurd (omega arith)
    with-regions (s ∷ ss) [] l h k = absurd (omega arith)
    with-regions (s ∷ ss) (t ∷ es) l h k = go (eqb t 0) refl (with-regions ss es (omega arith))
      where
        go : (x : Bool) → eqb t 0 ≡ x
            → (regions_pass L ss es ≡ true → length (regions_of L ss es) < length ss → regions_of L (set ss (length (regions_of L ss es)) a) (set es (length (regions_of L ss es)) e) ≡ regions_of L ss es ++ (region a e ∷ []))
            → regions_of L (set (s ∷ ss) (length (cond x [] (region s t ∷ regions_of L ss es))) a) (set (t ∷ es) (length (cond x [] (region s t ∷ regions_of L ss es))) e) ≡ cond x [] (region s t ∷ regions_of L ss es) ++ (region a e ∷ [])
        go true x ih = rw (filled, zeros-regions ss es (zeros-rest s t ss es (rw x at h)))
        go false x ih =
            let c : length (regions_of L ss es) < length ss = omega (arith, rw x at k) in
            rw x (ap (λ (q : List Region). region s t ∷ q) (ih (pass-rest s t ss es x h).2 c))

    -- ... pass, where a to e shares no frame with the others
    pub with-pass : (starts ends : List ℕ) → length starts ≡ length ends → regions_pass L starts ends ≡ true → length (regions_of L starts ends) < length starts
        → apart (address_frame L a) (address_frame L e) (regions_of L starts ends) ≡ true
        → regions_pass L (set starts (length (regions_of L starts ends)) a) (set ends (length (regions_of L starts ends)) e) ≡ true
    unfolding regions_of regions_pass all
    with-pass [] es l h k p = absurd (omega arith)
    with-pass (s ∷ ss) [] l h k p = absurd (omega arith)
    with-pass (s ∷ ss) (t ∷ es) l h k p = go (eqb t 0) refl (with-pass ss es (omega arith))
      where
        go : (x : Bool) → eqb t 0 ≡ x
            → (regions_pass L ss es ≡ true → length (regions_of L ss es) < length ss → apart (address_frame L a) (address_frame L e) (regions_of L ss es) ≡ true
            → regions_pass L (set ss (length (regions_of L ss es)) a) (set es (length (regions_of L ss es)) e) ≡ true)
            → regions_pass L (set (s ∷ ss) (length (cond x [] (region s t ∷ regions_of L ss es))) a) (set (t ∷ es) (length (cond x [] (region s t ∷ regions_of L ss es))) e) ≡ true
        go true x ih =
            let z = zeros-rest s t ss es (rw x at h) in
            rw (filled, zeros-regions ss es z) (and_intro w (zeros-pass ss es z))
        go false x ih =
            let c : length (regions_of L ss es) < length ss = omega (arith, rw x at k) in
            let y = pass-rest s t ss es x h in
            let n : apart (address_frame L a) (address_frame L e) (region s t ∷ regions_of L ss es) ≡ true = rw x at p in
            let u = apart-rest (address_frame L a) (address_frame L e) (region s t) (regions_of L ss es) n in
            rw (x, with-regions ss es (omega arith) y.2 c)
            (and_intro y.0 (and_intro (apart_more (address_frame L a) (address_frame L e) (address_frame L s) (address_frame L t) (regions_of L ss es) u.0 y.1) (ih y.2 c u.1)))

    -- ... and have a to e in front, turned round
    pub with-newest : (starts ends : List ℕ) → length starts ≡ length ends → regions_pass L starts ends ≡ true → length (regions_of L starts ends) < length starts
        → newest L (set starts (length (regions_of L starts ends)) a) (set ends (length (regions_of L starts ends)) e) ≡ record { start = address_frame L a; end = address_frame L e } ∷ newest L starts ends
    with-newest ss es l h k = ap reverse (with-regions ss es l h k) ∙ newest-append (regions_of L ss es) (region a e)

-- regions that pass are the frame store's, the newest first
pub newest-fit : (L : Ladder) → MultipliesUp L → (starts ends : List ℕ) → regions_pass L starts ends ≡ true → FrameRegions (frames L (top L)) (newest L starts ends)
newest-fit L m ss es h = fit-newest (frames L (top L)) (regions_of L ss es) (regions-fit L m ss es h)
