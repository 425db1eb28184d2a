-- The laws of `specs/Laws`, gathered. Assumes nothing.
use mathlib.Core.Path.{◌≡◌, refl, sym, ap, ◌∙◌}
use mathlib.Core.Logic.{◌↔◌}
use mathlib.Core.Bool.{Bool, true, false, true≢false}
use mathlib.Core.List.{List, [], ◌∷◌}
use Prim.Native.Nat.{ℕ, suc, pred, ◌*◌, ◌%◌, ◌+◌, ◌-◌, ◌≤◌, ◌<◌}
use native.Mathlib.Omega.{arith}
use native.Mathlib.Nat.{add-mul, mul-pos, mul-le-mul_right, mul-lt-mul_of_pos_right}
use native.Mathlib.Decide.{dec_lt}
use Rattle.sizes.specs.Ladder.{Ladder, smallest, largest as largest_code, bytes, largest_at}
use Rattle.sizes.proofs.Ladder.{largest_at-is}
use Rattle.sizes.specs.Laws.{MultipliesUp, Fits, LargestFit}
use Rattle.model.specs.Ladder.{frames, top}
use Rattle.model.specs.Frames.{Wholly, Changed, paint}
use Rattle.model.specs.Calls.{Region, seeded, Regions}
use Rattle.model.specs.FrameStore.{memory}
use Rattle.model.specs.Tree.{Tree, free, free_frames, Sound, pick}
use Rattle.model.specs.TreeStore.{any_free, largest_fit, seed_from}
use Rattle.model.specs.Laws.{RegionLaws, Straddles, OfTables, ProbeLaws, BlockIn, Alike, TreeLaws, SeedLaws, Laws}
use Rattle.model.proofs.Ladder.{frames-pos, fan-is, frames-is, bytes-is, largest-top}
use Rattle.model.proofs.Range.{scale-mod}
use Rattle.model.proofs.Frames.{changed-append, changed-same, within_in, within-below, within-above, count-stored}
use Rattle.model.proofs.Free.{lowest-same, block-largest, pick-lowest, largest-more}
use Rattle.model.proofs.Change.{remove-done, store-done}
use Rattle.model.proofs.Count.{free_frames-count, stored-frames, taken-frames}
use Rattle.model.proofs.Words.{words-store, words-remove}
use Rattle.model.proofs.Regions.{apart-iff, covered-iff}
use Rattle.model.proofs.Seed.{largest_fit-ok, largest_fit-most, seed-turns, seed-done, any_free-false, any_free-true}
use Rattle.model.proofs.Probes.{probes-own, probes-fans, looked-probes}
use Rattle.model.proofs.FrameStore.{frame_laws}

pub region_laws : (N : ℕ) (rs : List Region) → Regions N rs → RegionLaws rs
region_laws N rs k = record { apart_is = λ a e l. apart-iff N a e rs k l; covered_is = λ b s. covered-iff N b s rs k }

-- of two regions that touch at m every frame from a to e is seeded
touch : (a m e f : ℕ) → a ≤ f → f < e → seeded (record { start = m; end = e } ∷ record { start = a; end = m } ∷ []) f ≡ true
unfolding seeded
touch a m e f p q = go (dec_lt f m)
  where
    go : Dec (f < m) → paint m (e - m) true (paint a (m - a) true (λ x. false)) f ≡ true
    go (yes l) = rw (within-below m (e - m) f l, within_in a (m - a) f p (omega arith)) refl
    go (no l) = rw (within_in m (e - m) f (omega arith) (omega arith)) refl

pub straddles : Straddles
unfolding seeded
straddles a m e b s l k p q = (covered-iff e b s (record { start = m; end = e } ∷ record { start = a; end = m } ∷ []) (
  record { some = k; ends = omega arith; alone = λ f x y. rw (within-above a (m - a) f (omega arith)) refl },
  (record { some = l; ends = omega arith; alone = λ f x y. refl }, tt),
)).1 (λ f x y. touch a m e f (omega arith) (omega arith))

module _ (L : Ladder) where
  pub probe_laws : ProbeLaws L
  probe_laws = record { bounded = probes-fans L; none = probes-own L }

  -- a block fits at an address in bytes exactly if it fits at its frame
  pub fits-frames : MultipliesUp L → (a e d : ℕ) → suc d ≤ largest_code L → Fits L (a * bytes L smallest) (e * bytes L smallest) (suc d) ↔ ((a % frames L d ≡ 0) × (a + frames L d ≤ e))
  fits-frames m a e d c = (
    λ x. (aligned (dec_lt 0 (a % n)) (sym rest ∙ x.aligned), ends (dec_lt e (a + n)) x.ends),
    λ x. record { code = record { low = omega arith; high = c }; aligned = rest ∙ (let z : a % n * p ≡ 0 = ap (λ (k : ℕ). k * p) x.0 ∙ omega arith in z); ends = omega (arith, size, add-mul a n p, mul-le-mul_right p x.1) },
  )
    where
      p : ℕ
      p = bytes L smallest

      n : ℕ
      n = frames L d

      size : bytes L (suc d) ≡ frames L d * bytes L smallest
      size = bytes-is L m d c

      rest : a * bytes L smallest % bytes L (suc d) ≡ a % frames L d * bytes L smallest
      rest = rw (bytes-is L m d c) (scale-mod a (frames L d) (bytes L smallest) m.page)

      aligned : Dec (0 < a % frames L d) → a % frames L d * bytes L smallest ≡ 0 → a % frames L d ≡ 0
      aligned (yes l) e = absurd (omega (arith, mul-pos l m.page))
      aligned (no l) e = omega arith

      ends : Dec (e < a + frames L d) → a * bytes L smallest + bytes L (suc d) ≤ e * bytes L smallest → a + frames L d ≤ e
      ends (yes l) h = absurd (omega (arith, bytes-is L m d c, add-mul a (frames L d) (bytes L smallest), mul-lt-mul_of_pos_right l m.page))
      ends (no l) h = omega arith

  -- so the largest that fits is the same
  largest_at-largest_fit : MultipliesUp L → (a e : ℕ) → a < e → largest_at L (a * bytes L smallest) (e * bytes L smallest) ≡ suc (largest_fit L (top L) a e)
  largest_at-largest_fit m a e l = go (largest_at L (a * bytes L smallest) (e * bytes L smallest)) (largest_at-is L (a * bytes L smallest) (e * bytes L smallest))
    where
      d : ℕ
      d = largest_fit L (top L) a e

      go : (c : ℕ) → LargestFit L (a * bytes L smallest) (e * bytes L smallest) c → c ≡ suc (largest_fit L (top L) a e)
      go c f =
          let x = largest_fit-ok L (top L) a e l in
          let t = largest-top L m in
          let low : suc d ≤ c = f.most (suc d) ((fits-frames m a e d (omega (arith, x))).1 (x.1, x.2)) in
          let z : suc (pred c) ≡ c = omega (arith, low) in
          let y = f.fits (omega (arith, low)) in
          let k = (fits-frames m a e (pred c) (omega (arith, y.code.high))).0 (rw z y) in
          omega (arith, low, largest_fit-most L (top L) a e (pred c) (omega (arith, y.code.high)) k.0 k.1)

  pub of_tables : MultipliesUp L → OfTables L
  of_tables m = record { fan_agrees = λ d h. fan-is L m d h; frames_agree = λ d h. frames-is L m d h; in_bytes = λ d h. bytes-is L m d h; largest_agrees = largest_at-largest_fit m }

  pub tree_laws : (d : ℕ) (t : Tree d) → Sound L d t → TreeLaws L d t
  tree_laws d t s = record {
    offers = λ d' l. (
      λ h. let q = pick-lowest L d d' t s h in (pick L d d' t, record { deep = l; aligned = q.aligned; fits = q.fits }, q.whole),
      λ x. block-largest L d d' t x.0 s l x.1.aligned x.1.fits x.2,
    );
    lowest = λ d' h. pick-lowest L d d' t s h;
    looked = λ d' h. looked-probes L d d' t s h;
    same_largest = λ t' a. omega (arith, largest-more L d t t' s a.sound (λ f l e. sym (a.frames f l) ∙ e), largest-more L d t' t a.sound s (λ f l e. a.frames f l ∙ e));
    same_pick = λ t' a d' h. lowest-same (free L d t) (free L d t') (frames L d) (frames L d') (pick L d d' t) (pick L d d' t') a.frames
        (pick-lowest L d d' t s h) (pick-lowest L d d' t' a.sound (omega (arith, largest-more L d t t' s a.sound (λ f l e. sym (a.frames f l) ∙ e))));
    any_free_is = λ d' b p. (any_free-false L d d' t b s p, λ h. not-any d' b p h (any_free L d d' t b) refl);
    counted = free_frames-count L d t s;
    taken = λ d' b p h. remove-done L d d' t b s p h;
    fewer = λ d' b p h. taken-frames L d d' t b s p h;
    stored = λ d' b p h. store-done L d d' t b s p h;
    more = λ d' b p h. stored-frames L d d' t b s p h;
    taken_words = λ d' b p. words-remove L d d' t b s (omega (arith, p.fits, frames-pos L d'));
    stored_words = λ d' b p. words-store L d d' t b s (omega (arith, p.fits, frames-pos L d'));
  }
    where
      not-any : (d' b : ℕ) → BlockIn L d d' b → Wholly (free L d t) b (frames L d') false → (v : Bool) → any_free L d d' t b ≡ v → v ≡ false
      not-any d' b p h true e = let x = any_free-true L d d' t b s p e in absurd (true≢false (sym x.3 ∙ h x.0 x.1 x.2))
      not-any d' b p h false e = refl

  -- one seed of the frames from a to e
  module _ (t : Tree (top L)) (a e : ℕ) (s : Sound L (top L) t) (l : a ≤ e) (k : e ≤ frames L (top L)) (h : Wholly (free L (top L) t) a (e - a) false) where
    seed-makes : Changed (free L (top L) t) (free L (top L) (seed_from L (e - a) t a e)) (frames L (top L)) a (e - a) true × Sound L (top L) (seed_from L (e - a) t a e)
    seed-makes = seed-done L (e - a) t a e (e - a) s (omega arith) k (omega arith) h

    seed-more : free_frames L (top L) (seed_from L (e - a) t a e) ≡ free_frames L (top L) t + (e - a)
    seed-more =
        let r = seed-makes in
        let t' = seed_from L (e - a) t a e in
        omega (arith, free_frames-count L (top L) t s, free_frames-count L (top L) t' r.1, count-stored (free L (top L) t) (free L (top L) t') (frames L (top L)) a (e - a) r.0 h (omega arith))

  pub seed_laws : (t : Tree (top L)) (a e : ℕ) → Sound L (top L) t → a ≤ e → e ≤ frames L (top L) → Wholly (free L (top L) t) a (e - a) false → SeedLaws L t a e
  seed_laws t a e s l k h = record { frames = (seed-makes t a e s l k h).0; sound = (seed-makes t a e s l k h).1; more = seed-more t a e s l k h; ends = λ j x. seed-turns L j (e - a) t a e (omega arith) (omega arith); merges = merges }
    where
      merges : (m : ℕ) → a ≤ m → m ≤ e → Alike L (top L) (seed_from L (e - a) t a e) (seed_from L (e - m) (seed_from L (m - a) t a m) m e)
      merges m p q =
          let g = free L (top L) t in
          let N = frames L (top L) in
          let mid = seed_from L (m - a) t a m in
          let end = seed_from L (e - m) mid m e in
          let x = seed-makes t a m s p (omega arith) (λ f u v. h f u (omega arith)) in
          let z : a + (m - a) ≡ m = omega arith in
          let y = seed-makes mid m e x.1 q k (λ f u v. x.0.above f (omega arith) (omega arith) ∙ h f (omega arith) (omega arith)) in
          let both = changed-append g (free L (top L) mid) (free L (top L) end) N a (m - a) (e - m) (e - a) true (omega arith) (omega arith) x.0 (rw z y.0) in
          record { frames = changed-same g (free L (top L) (seed_from L (e - a) t a e)) g (free L (top L) end) N a (e - a) true (seed-makes t a e s l k h).0 both (λ f w. refl); sound = y.1 }

  pub laws : Laws L
  laws = record {
    of_tables = of_tables;
    probe_laws = probe_laws;
    tree_laws = tree_laws;
    largest_fit_is = λ a e l. let x = largest_fit-ok L (top L) a e l in record { deep = x.0; aligned = x.1; ends = x.2; most = largest_fit-most L (top L) a e };
    seed_laws = seed_laws;
    region_laws = λ rs k. region_laws (memory L) rs k;
    frame_laws = frame_laws L;
  }
