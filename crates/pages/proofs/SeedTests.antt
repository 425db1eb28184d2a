-- The refusal number of a seed by its addresses and the regions, before the pool is looked at. Assumes a ladder whose sizes multiply up.
use mathlib.Core.Path.{◌≡◌, refl, sym, ◌∙◌}
use mathlib.Core.Logic.{◌⊎◌, inl, inr, ◌≢◌}
use mathlib.Core.Bool.{Bool, true, false, not}
use mathlib.Core.List.{List, [], ◌∷◌, ◌++◌}
use Prim.Native.Nat.{ℕ, zero, suc, ◌-◌, ◌%◌, ◌≤◌, ◌<◌}
use native.Mathlib.Omega.{arith}
use lib.Dec.{leb, ltb, eqb}
use lib.ListN.{length}
use borrow.Author.Tests.{lt-ltb, le-ltb, le-leb, lt-leb, leb-false, ltb-false, eqb-true, eq-eqb, not-false}
use Rattle.sizes.specs.Ladder.{Ladder, smallest, largest, bytes, address_frame}
use Rattle.sizes.specs.Laws.{MultipliesUp}
use Rattle.model.specs.Calls.{Region, seeded, seed, Test, refuse, verdict}
use Rattle.model.specs.FrameStore.{bare, memory}
use Rattle.model.specs.TreeStore.{apart}
use Rattle.model.proofs.FrameStore.{bare-iff, same_test}
use Rattle.model.proofs.Regions.{apart-iff}
use Rattle.model.proofs.Verdict.{clear}
use Rattle.pool.specs.Regions.{regions_of, newest}
use Rattle.pool.specs.RegionTest.{region_passes, regions_pass}
use Rattle.pool.proofs.RegionTest.{passes_of}
use Rattle.pool.proofs.Regions.{InFrames, passes-frames, regions-if}
use Rattle.pool.proofs.With.{newest-length, newest-apart, newest-fit}
use Rattle.pages.specs.declared.state.State.{State}
use Rattle.pages.specs.Calls.{Store, Places, SoundStore, shown, refusals, lacks_room, refusal_of}
use Rattle.pages.specs.Room.{region_refusal}
use Rattle.pages.specs.Span.{Spans, span_refusal}

-- the first refusal in order wins, whatever tests stand behind it
front : (ts us : List Test) (n : ℕ) → verdict ts ≡ suc n → verdict (ts ++ us) ≡ suc n
front [] us n e = absurd (omega arith)
front (refuse k true ∷ ts) us n e = e
front (refuse k false ∷ ts) us n e = front ts us n e

module _ (L : Ladder) where
  -- the pages that a seed names are frames of memory
  pub spans-frames : (m : MultipliesUp L) (x y : ℕ) → Spans L x y → InFrames L m x y
  spans-frames m x y n = passes-frames L m x y (record { start_aligned = n.start; end_aligned = n.end; some = n.some; within = n.within })

-- ... and whole pages are not refused
pub spans-pass : (L : Ladder) (x y : ℕ) → Spans L x y → span_refusal L x y ≡ 0
unfolding span_refusal
spans-pass L x y n = rw (eq-eqb (x % bytes L smallest) 0 n.start, eq-eqb (y % bytes L smallest) 0 n.end, lt-leb y x n.some, le-ltb (bytes L (largest L)) y n.within)

-- pages that end behind memory
pub span-past : (L : Ladder) (x y : ℕ) → x % bytes L smallest ≡ 0 → y % bytes L smallest ≡ 0 → x < y → bytes L (largest L) < y → span_refusal L x y ≡ 3
unfolding span_refusal
span-past L x y e f l k = rw (eq-eqb (x % bytes L smallest) 0 e, eq-eqb (y % bytes L smallest) 0 f, lt-leb y x l, lt-ltb (bytes L (largest L)) y k)

-- a refusal of theirs is the seed's
pub span-front : (L : Ladder) (most limit : ℕ) (s : State) (x y n : ℕ) → span_refusal L x y ≡ suc n → region_refusal L most limit s x y ≡ suc n
unfolding span_refusal region_refusal refusals
span-front L most limit s x y n e =
    front (refuse 2 (not (eqb (x % bytes L smallest) 0)) ∷ refuse 2 (not (eqb (y % bytes L smallest) 0)) ∷ refuse 2 (leb y x) ∷ refuse 3 (ltb (bytes L (largest L)) y) ∷ []) _ n e

pub span-refused : (L : Ladder) (most limit : ℕ) (s : State) (x y n : ℕ) → n ≡ span_refusal L x y → (n ≡ 0 → ⊥) → n ≡ region_refusal L most limit s x y
span-refused L most limit s x y zero e z = absurd (z refl)
span-refused L most limit s x y (suc n) e z = sym (span-front L most limit s x y n (sym e))

-- the test of a region's place is that of a seed's start and end
pub spans-passes : (L : Ladder) (x y : ℕ) → Spans L x y → region_passes L x y ≡ true
unfolding region_passes
spans-passes L x y n = rw (eq-eqb (x % bytes L smallest) 0 n.start, eq-eqb (y % bytes L smallest) 0 n.end, lt-ltb x y n.some, le-leb y (bytes L (largest L)) n.within)

pub refused-fails : (L : Ladder) (x y n : ℕ) → n ≡ span_refusal L x y → (n ≡ 0 → ⊥) → region_passes L x y ≡ false
refused-fails L x y n e z = go (region_passes L x y) refl
  where
    go : (v : Bool) → region_passes L x y ≡ v → region_passes L x y ≡ false
    go false f = f
    go true f = let p = passes_of L x y f in absurd (z (e ∙ spans-pass L x y (record { start = p.start_aligned; end = p.end_aligned; some = p.some; within = p.within })))

-- the refusals of a seed before 9 are its own
pub seed-front : (L : Ladder) (most limit : ℕ) (s : Store) (x y n : ℕ) → region_refusal L most limit s.state x y ≡ suc n → refusal_of L most limit s (seed x y) ≡ suc n
unfolding region_refusal refusal_of refusals
seed-front L most limit s x y n e = front (refusals L most limit (shown L most limit s) (seed x y)) (refuse 9 (lacks_room L most limit s (seed x y)) ∷ []) n e

-- ... as the code reads them
pub seed-refused : (L : Ladder) (most limit : ℕ) (s : Store) (x y n : ℕ) → n ≡ region_refusal L most limit s.state x y → (n ≡ 0 → ⊥) → n ≡ refusal_of L most limit s (seed x y)
seed-refused L most limit s x y zero e z = absurd (z refl)
seed-refused L most limit s x y (suc n) e z = sym (seed-front L most limit s x y n (sym e))

-- the regions of a sound store pass their test
pub passing : (L : Ladder) (most limit : ℕ) (m : MultipliesUp L) (s : Store) → Places L most limit s → SoundStore L most limit s → regions_pass L s.state.starts s.state.ends ≡ true
passing L most limit m s a h = regions-if L m most s.state.starts s.state.ends a.starts a.ends h.regions

module _ (L : Ladder) (most limit : ℕ) (m : MultipliesUp L) (s : State) (h : regions_pass L s.starts s.ends ≡ true) where
  -- the regions in seeding order
  abbrev regions : List Region
  regions = regions_of L s.starts s.ends

  -- test 4 by the regions' ends
  pub test-4 : (f k : ℕ) → f < k → bare (seeded (newest L s.starts s.ends)) f (k - f) ≡ apart f k (regions_of L s.starts s.ends)
  test-4 f k l =
      let x = apart-iff (memory L) f k (newest L s.starts s.ends) (newest-fit L m s.starts s.ends h) l in
      let y = bare-iff (seeded (newest L s.starts s.ends)) f (k - f) in
      same_test (bare (seeded (newest L s.starts s.ends)) f (k - f)) (apart f k (newest L s.starts s.ends)) (λ b. x.1 (y.0 b)) (λ b. y.1 (x.0 b)) ∙ newest-apart f k regions

  -- the tests of a seed of whole pages
  region-tests : (x y : ℕ) → Spans L x y → region_refusal L most limit s x y ≡ verdict (refuse 5 (leb most (length regions)) ∷ refuse 4 (not (apart (address_frame L x) (address_frame L y) regions)) ∷ [])
  unfolding region_refusal refusals
  region-tests x y n = rw (
    eq-eqb (x % bytes L smallest) 0 n.start,
    eq-eqb (y % bytes L smallest) 0 n.end,
    lt-leb y x n.some,
    le-ltb (bytes L (largest L)) y n.within,
    newest-length regions,
    test-4 (address_frame L x) (address_frame L y) (spans-frames L m x y n).some,
  )

  -- 2: no whole pages, or none
  pub region-2 : (x y : ℕ) → (x % bytes L smallest ≢ 0) ⊎ ((y % bytes L smallest ≢ 0) ⊎ (y ≤ x)) → region_refusal L most limit s x y ≡ 2
  unfolding region_refusal refusals
  region-2 x y z = go (eqb (x % bytes L smallest) 0) (eqb (y % bytes L smallest) 0) refl refl z
    where
      go : (v w : Bool) → eqb (x % bytes L smallest) 0 ≡ v → eqb (y % bytes L smallest) 0 ≡ w → (x % bytes L smallest ≢ 0) ⊎ ((y % bytes L smallest ≢ 0) ⊎ (y ≤ x)) → region_refusal L most limit s x y ≡ 2
      go false w e f z = rw (e, region_refusal, refusals)
      go true false e f z = rw (e, f, region_refusal, refusals)
      go true true e f (inl z) = absurd (z (eqb-true (x % bytes L smallest) 0 e))
      go true true e f (inr (inl z)) = absurd (z (eqb-true (y % bytes L smallest) 0 f))
      go true true e f (inr (inr z)) = rw (e, f, le-leb y x z, region_refusal, refusals)

  -- 5: every place has a region
  pub region-5 : (x y : ℕ) → Spans L x y → most ≤ length (regions_of L s.starts s.ends) → region_refusal L most limit s x y ≡ 5
  region-5 x y n l = region-tests x y n ∙ rw (le-leb most (length regions) l)

  -- 4: they share a frame with a region
  pub region-4 : (x y : ℕ) → Spans L x y → length (regions_of L s.starts s.ends) < most → apart (address_frame L x) (address_frame L y) (regions_of L s.starts s.ends) ≡ false → region_refusal L most limit s x y ≡ 4
  region-4 x y n l e = region-tests x y n ∙ rw (lt-leb most (length regions) l, e)

  -- what no refusal says
  pub record Joins (x y : ℕ) : Type 0 where
    pub spans : Spans L x y
    pub few : length (regions_of L s.starts s.ends) < most
    pub alone : apart (address_frame L x) (address_frame L y) (regions_of L s.starts s.ends) ≡ true

  pub region-0 : (x y : ℕ) → Joins x y → region_refusal L most limit s x y ≡ 0
  region-0 x y j = region-tests x y j.spans ∙ rw (lt-leb most (length regions) j.few, j.alone)

  pub joins : (x y : ℕ) → region_refusal L most limit s x y ≡ 0 → Joins x y
  unfolding region_refusal refusals
  joins x y z =
      let c = clear (refusals L most limit (record { free = λ f. false; regions = newest L s.starts s.ends }) (seed x y)) (omega arith) z in
      let n : Spans L x y = record {
        start = eqb-true (x % bytes L smallest) 0 (not-false (eqb (x % bytes L smallest) 0) c.0);
        end = eqb-true (y % bytes L smallest) 0 (not-false (eqb (y % bytes L smallest) 0) c.1.0);
        some = leb-false y x c.1.1.0;
        within = ltb-false (bytes L (largest L)) y c.1.1.1.0;
      } in
      record {
        spans = n;
        few = omega (arith, newest-length regions, leb-false most (length (newest L s.starts s.ends)) c.1.1.1.1.0);
        alone = sym (test-4 (address_frame L x) (address_frame L y) (spans-frames L m x y n).some) ∙ not-false (bare (seeded (newest L s.starts s.ends)) (address_frame L x) (address_frame L y - address_frame L x)) c.1.1.1.1.1.0;
      }
