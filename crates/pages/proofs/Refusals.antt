-- The refusal number of each call on a sound store by what the code reads: sums over regions, the root's max, the words on the way to a block. Assumes a ladder of at most 7 codes whose sizes multiply up.
use mathlib.Core.Path.{◌≡◌, sym, ap, ◌∙◌}
use mathlib.Core.Logic.{◌⊎◌, inl, inr, ◌≢◌}
use mathlib.Core.Bool.{true, false, not}
use mathlib.Core.List.{List, [], ◌∷◌}
use Prim.Native.Nat.{ℕ, zero, suc, pred, ◌+◌, ◌-◌, ◌%◌, ◌≤◌, ◌<◌}
use native.Mathlib.Omega.{arith}
use native.Mathlib.Nat.{mul-le-mul_right}
use lib.Dec.{leb, ltb}
use lib.ListN.{length}
use borrow.Author.Tests.{lt-ltb, le-ltb, lt-leb, eq-eqb, ne_eqb}
use Rattle.sizes.specs.Ladder.{Ladder, smallest, largest, bytes, address_frame}
use Rattle.sizes.specs.Laws.{MultipliesUp, IsCode, Fits}
use Rattle.sizes.proofs.Ladder.{aligned-below}
use Rattle.model.specs.Ladder.{frames, top}
use Rattle.model.specs.Calls.{Region, seeded, seed, acquire, release, refuse, verdict}
use Rattle.model.specs.Demands.{SoundState, shown as tree_shown}
use Rattle.model.specs.Frames.{Wholly}
use Rattle.model.specs.FrameStore.{size, blocks, lowest_free, whole, bare, Same}
use Rattle.model.specs.Laws.{BlockIn}
use Rattle.model.specs.Tree.{free}
use Rattle.model.specs.Tree.{largest as largest_in}
use Rattle.model.specs.TreeStore.{apart, covered}
use Rattle.model.proofs.Demand2.{unseeded-free, offered, same-covered, same-free}
use Rattle.model.proofs.Free.{frames-le, largest-le}
use Rattle.model.proofs.FrameStore.{same-order}
use Rattle.model.proofs.Ladder.{bytes-is, frames-pos, largest-top}
use Rattle.model.proofs.Laws.{fits-frames}
use Rattle.model.proofs.Regions.{apart-iff}
use Rattle.pool.specs.Check.{SoundW}
use Rattle.pool.specs.Words.{word, max_of}
use Rattle.pool.specs.Room.{openings_w, pick_w, any_free_w, seed_openings_w}
use Rattle.pool.specs.Regions.{regions_of, newest}
use Rattle.pool.specs.View.{view}
use Rattle.pool.proofs.Full.{store-lacks, take-lacks, seed-lacks}
use Rattle.pool.proofs.Kept.{sound_w-largest}
use Rattle.pool.proofs.Regions.{frame-bytes, all-bytes}
use Rattle.pool.proofs.With.{newest-length, newest-apart, newest-covered}
use Rattle.pages.specs.Calls.{Store, Places, tree_of, SoundStore, shown, refusals, lacks_room, acted, refusal_of}
use Rattle.pages.specs.Frames.{is_free}
use Rattle.pages.proofs.Decide.{sound-words}
use Rattle.pages.proofs.Laws.{pool-laws}
use Rattle.pages.proofs.SeedTests.{spans-frames, passing, test-4}
use Rattle.pages.specs.Span.{Spans}
use Rattle.pages.proofs.Shown.{sound-state, shown-same}

module _ (L : Ladder) where
  -- a release names a block of memory
  pub record Named (b c : ℕ) : Type 0 where
    pub low : 1 ≤ c
    pub high : c ≤ largest L
    pub aligned : b % bytes L c ≡ 0
    pub within : b ≤ bytes L (largest L) - bytes L c

module _ (L : Ladder) (most limit : ℕ) (m : MultipliesUp L) (small : suc (top L) < 8) (s : Store) (a : Places L most limit s) (h : SoundStore L most limit s) where
  -- the words of the pool
  abbrev p : List ℕ
  p = s.pool

  -- how many of them are in use
  abbrev u : ℕ
  u = s.state.used

  -- the regions in seeding order
  abbrev regions : List Region
  regions = regions_of L s.state.starts s.state.ends

  -- the words are sound
  words : SoundW L (top L) p u
  words = sound-words L m most limit u s.state.starts s.state.ends p a.starts a.ends h

  -- so is the tree that they hold
  state : SoundState L most (length p) (tree_of L most limit s)
  state = sound-state L most limit m small s a h

  -- which shows the frames of the store
  same : Same L (tree_shown L (tree_of L most limit s)) (shown L most limit s)
  same = shown-same L most limit m small s

  -- a code up to the largest is one of the tree
  deep : (d : ℕ) → suc d ≤ largest L → d ≤ top L
  deep d hi = omega (arith, largest-top L m)

  -- ---- acquire
  -- no free block has a larger code than the largest
  max-code : max_of (word p 0) ≤ largest L
  max-code = omega (arith, sound_w-largest L (top L) p u words, largest-le (top L) (view L (top L) (word p) 0), largest-top L m)

  -- test 8 by the root's max
  test-8 : (d : ℕ) → suc d ≤ largest L → leb (blocks L (suc d)) (lowest_free L (is_free L p) (suc d)) ≡ ltb (max_of (word p 0)) (suc d)
  test-8 d hi =
      let tree = view L (top L) (word p) 0 in
      sym (same-order (largest_in (top L) tree) (suc d) (lowest_free L (is_free L p) (suc d)) (blocks L (suc d)) (offered L most (length p) (tree_of L most limit s) (shown L most limit s) state same d (deep d hi)))
      ∙ ap (λ (n : ℕ). ltb n (suc d)) (sym (sound_w-largest L (top L) p u words))

  -- the tests of an acquire past 1
  acquire-tests : (c : ℕ) → 1 ≤ c → c ≤ largest L → refusal_of L most limit s (acquire c) ≡ verdict (refuse 8 (ltb (max_of (word p 0)) c) ∷ refuse 9 (lacks_room L most limit s (acquire c)) ∷ [])
  unfolding refusal_of refusals
  acquire-tests zero lo hi = absurd (omega arith)
  acquire-tests (suc d) lo hi = rw (ne_eqb (suc d) 0 (λ e. omega arith), le-ltb (largest L) (suc d) hi, test-8 d hi)

  -- ... and past 8, where test 9 reads the words to be opened
  acquire-room : (c : ℕ) → 1 ≤ c → c ≤ max_of (word p 0) → refusal_of L most limit s (acquire c) ≡ verdict (refuse 9 (ltb (length p) (u + openings_w L (top L) (pred c) p 0 (pick_w L (top L) (pred c) p 0))) ∷ [])
  unfolding lacks_room acted
  acquire-room zero lo o = absurd (omega arith)
  acquire-room (suc d) lo o =
      let hi : suc d ≤ largest L = omega (arith, max-code) in
      acquire-tests (suc d) lo hi ∙ rw (le-ltb (max_of (word p 0)) (suc d) o, take-lacks L d p u small words (deep d hi) o)

  -- 1: no code
  pub acquire-1 : (c : ℕ) → (c ≡ 0) ⊎ (largest L < c) → refusal_of L most limit s (acquire c) ≡ 1
  unfolding refusal_of refusals
  acquire-1 c (inl z) = rw (eq-eqb c 0 z)
  acquire-1 c (inr l) = rw (ne_eqb c 0 (λ z. omega arith), lt-ltb (largest L) c l)

  -- 8: the root's max is below the code
  pub acquire-8 : (c : ℕ) → 1 ≤ c → c ≤ largest L → max_of (word p 0) < c → refusal_of L most limit s (acquire c) ≡ 8
  acquire-8 c lo hi l = acquire-tests c lo hi ∙ rw (lt-ltb (max_of (word p 0)) c l)

  -- 9: the openings on the way to the block picked do not fit
  pub acquire-9 : (c : ℕ) → 1 ≤ c → c ≤ max_of (word p 0) → length p < u + openings_w L (top L) (pred c) p 0 (pick_w L (top L) (pred c) p 0) → refusal_of L most limit s (acquire c) ≡ 9
  acquire-9 c lo o l = acquire-room c lo o ∙ rw (lt-ltb (length p) (u + openings_w L (top L) (pred c) p 0 (pick_w L (top L) (pred c) p 0)) l)

  -- accepted: they fit
  pub acquire-0 : (c : ℕ) → 1 ≤ c → c ≤ max_of (word p 0) → u + openings_w L (top L) (pred c) p 0 (pick_w L (top L) (pred c) p 0) ≤ length p → refusal_of L most limit s (acquire c) ≡ 0
  acquire-0 c lo o l = acquire-room c lo o ∙ rw (le-ltb (length p) (u + openings_w L (top L) (pred c) p 0 (pick_w L (top L) (pred c) p 0)) l)

  -- ---- release
  -- the block that a release names stands in memory
  named-block : (b d : ℕ) → Named L b (suc d) → BlockIn L (top L) d (address_frame L b)
  named-block b d n =
      let code : IsCode L (suc d) = record { low = n.low; high = n.high } in
      let page : b % bytes L smallest ≡ 0 = aligned-below L m b smallest (suc d) (record { low = omega arith; high = m.some }) code (omega arith) n.aligned in
      let less = mul-le-mul_right (bytes L smallest) (frames-le L d (top L) (deep d n.high)) in
      let ends : b + bytes L (suc d) ≤ bytes L (largest L) = omega (arith, n.within, less, bytes-is L m d n.high, all-bytes L m) in
      let fits : Fits L b (bytes L (largest L)) (suc d) = record { code = code; aligned = n.aligned; ends = ends } in
      let k = (fits-frames L m (address_frame L b) (frames L (top L)) d n.high).0 (rw (frame-bytes L m b page, ← all-bytes L m) fits) in
      record { deep = deep d n.high; aligned = k.0; fits = k.1 }

  -- test 6 by the regions' overlaps
  test-6 : (f k : ℕ) → whole (seeded (newest L s.state.starts s.state.ends)) f k ≡ covered regions f k
  test-6 f k = sym (same-covered L most (length p) (tree_of L most limit s) (shown L most limit s) state same f k) ∙ newest-covered regions f k

  -- test 7 by the words on the way to the block
  test-7 : (d f : ℕ) → BlockIn L (top L) d f → not (bare (is_free L p) f (frames L d)) ≡ any_free_w L (top L) d p 0 f
  test-7 d f n =
      let l : f < frames L (top L) = omega (arith, n.fits, frames-pos L d) in
      sym (same-free L most (length p) (tree_of L most limit s) (shown L most limit s) state same d f n) ∙ sym ((pool-laws L p u small words).root.any_free_is d f l)

  -- the tests of a release of a named block
  release-tests : (b c : ℕ) → Named L b c
      → refusal_of L most limit s (release b c) ≡ verdict (refuse 6 (not (covered regions (address_frame L b) (size L c))) ∷ refuse 7 (any_free_w L (top L) (pred c) p 0 (address_frame L b)) ∷ refuse 9 (ltb (length p) (u + openings_w L (top L) (pred c) p 0 (address_frame L b))) ∷ [])
  unfolding refusal_of refusals lacks_room acted
  release-tests b zero n = absurd (omega (arith, n.low))
  release-tests b (suc d) n =
      let k = named-block b d n in
      let f = address_frame L b in
      let l : f < frames L (top L) = omega (arith, k.fits, frames-pos L d) in
      rw (
        ne_eqb (suc d) 0 (λ e. omega arith),
        le-ltb (largest L) (suc d) n.high,
        eq-eqb (b % bytes L (suc d)) 0 n.aligned,
        le-ltb (bytes L (largest L) - bytes L (suc d)) b n.within,
        test-6 f (frames L d),
        test-7 d f k,
        store-lacks L d p u f small words l,
      )

  -- 1: no code
  pub release-1 : (b c : ℕ) → (c ≡ 0) ⊎ (largest L < c) → refusal_of L most limit s (release b c) ≡ 1
  unfolding refusal_of refusals
  release-1 b c (inl z) = rw (eq-eqb c 0 z)
  release-1 b c (inr l) = rw (ne_eqb c 0 (λ z. omega arith), lt-ltb (largest L) c l)

  -- 2: the base is no multiple of the size
  pub release-2 : (b c : ℕ) → 1 ≤ c → c ≤ largest L → b % bytes L c ≢ 0 → refusal_of L most limit s (release b c) ≡ 2
  unfolding refusal_of refusals
  release-2 b c lo hi z = rw (ne_eqb c 0 (λ e. omega arith), le-ltb (largest L) c hi, ne_eqb (b % bytes L c) 0 z)

  -- 3: the block ends behind memory
  pub release-3 : (b c : ℕ) → 1 ≤ c → c ≤ largest L → b % bytes L c ≡ 0 → bytes L (largest L) - bytes L c < b → refusal_of L most limit s (release b c) ≡ 3
  unfolding refusal_of refusals
  release-3 b c lo hi z l = rw (ne_eqb c 0 (λ e. omega arith), le-ltb (largest L) c hi, eq-eqb (b % bytes L c) 0 z, lt-ltb (bytes L (largest L) - bytes L c) b l)

  -- 6: the regions do not cover the block
  pub release-6 : (b c : ℕ) → Named L b c → covered (regions_of L s.state.starts s.state.ends) (address_frame L b) (size L c) ≡ false → refusal_of L most limit s (release b c) ≡ 6
  release-6 b c n e = release-tests b c n ∙ rw e

  -- 7: some frame of it is free
  pub release-7 : (b c : ℕ) → Named L b c → covered (regions_of L s.state.starts s.state.ends) (address_frame L b) (size L c) ≡ true → any_free_w L (top L) (pred c) p 0 (address_frame L b) ≡ true
      → refusal_of L most limit s (release b c) ≡ 7
  release-7 b c n e f = release-tests b c n ∙ rw (e, f)

  -- 9: the openings on the way to it do not fit
  pub release-9 : (b c : ℕ) → Named L b c → covered (regions_of L s.state.starts s.state.ends) (address_frame L b) (size L c) ≡ true → any_free_w L (top L) (pred c) p 0 (address_frame L b) ≡ false
      → length p < u + openings_w L (top L) (pred c) p 0 (address_frame L b) → refusal_of L most limit s (release b c) ≡ 9
  release-9 b c n e f l = release-tests b c n ∙ rw (e, f, lt-ltb (length p) (u + openings_w L (top L) (pred c) p 0 (address_frame L b)) l)

  -- accepted: they fit
  pub release-0 : (b c : ℕ) → Named L b c → covered (regions_of L s.state.starts s.state.ends) (address_frame L b) (size L c) ≡ true → any_free_w L (top L) (pred c) p 0 (address_frame L b) ≡ false
      → u + openings_w L (top L) (pred c) p 0 (address_frame L b) ≤ length p → refusal_of L most limit s (release b c) ≡ 0
  release-0 b c n e f l = release-tests b c n ∙ rw (e, f, le-ltb (length p) (u + openings_w L (top L) (pred c) p 0 (address_frame L b)) l)

  -- ---- seed
  -- no frame is free that shares no region
  apart-held : (f k : ℕ) → f < k → k ≤ frames L (top L) → apart f k regions ≡ true → Wholly (free L (top L) (view L (top L) (word p) 0)) f (k - f) false
  apart-held f k l o e = unseeded-free L most (length p) (tree_of L most limit s) state f (k - f) (omega arith)
      ((apart-iff (frames L (top L)) f k (newest L s.state.starts s.state.ends) state.fit l).0 (newest-apart f k regions ∙ e))

  -- the tests of a seed of whole pages
  seed-tests : (x y : ℕ) → Spans L x y
      → refusal_of L most limit s (seed x y) ≡ verdict (refuse 5 (leb most (length regions)) ∷ refuse 4 (not (apart (address_frame L x) (address_frame L y) regions)) ∷ refuse 9 (lacks_room L most limit s (seed x y)) ∷ [])
  unfolding refusal_of refusals
  seed-tests x y n = rw (
    eq-eqb (x % bytes L smallest) 0 n.start,
    eq-eqb (y % bytes L smallest) 0 n.end,
    lt-leb y x n.some,
    le-ltb (bytes L (largest L)) y n.within,
    newest-length regions,
    test-4 L most limit m s.state (passing L most limit m s a h) (address_frame L x) (address_frame L y) (spans-frames L m x y n).some,
  )

  -- ... of which the regions pass, where test 9 reads the words to be opened
  seed-room : (x y : ℕ) → Spans L x y → length regions < most → apart (address_frame L x) (address_frame L y) regions ≡ true
      → refusal_of L most limit s (seed x y) ≡ verdict (refuse 9 (ltb (length p) (u + seed_openings_w L (address_frame L y - address_frame L x) p (address_frame L x) (address_frame L y))) ∷ [])
  unfolding lacks_room acted
  seed-room x y n l e =
      let k = spans-frames L m x y n in
      let i : address_frame L x ≤ address_frame L y = omega (arith, k.some) in
      seed-tests x y n ∙ rw (lt-leb most (length regions) l, e, seed-lacks L p u (address_frame L x) (address_frame L y) small words i k.within (apart-held (address_frame L x) (address_frame L y) k.some k.within e))

  -- 9: the openings of their blocks do not fit
  pub seed-9 : (x y : ℕ) → Spans L x y → length (regions_of L s.state.starts s.state.ends) < most → apart (address_frame L x) (address_frame L y) (regions_of L s.state.starts s.state.ends) ≡ true
      → length p < u + seed_openings_w L (address_frame L y - address_frame L x) p (address_frame L x) (address_frame L y) → refusal_of L most limit s (seed x y) ≡ 9
  seed-9 x y n l e k = seed-room x y n l e ∙ rw (lt-ltb (length p) (u + seed_openings_w L (address_frame L y - address_frame L x) p (address_frame L x) (address_frame L y)) k)

  -- accepted: they fit
  pub seed-0 : (x y : ℕ) → Spans L x y → length (regions_of L s.state.starts s.state.ends) < most → apart (address_frame L x) (address_frame L y) (regions_of L s.state.starts s.state.ends) ≡ true
      → u + seed_openings_w L (address_frame L y - address_frame L x) p (address_frame L x) (address_frame L y) ≤ length p → refusal_of L most limit s (seed x y) ≡ 0
  seed-0 x y n l e k = seed-room x y n l e ∙ rw (le-ltb (length p) (u + seed_openings_w L (address_frame L y - address_frame L x) p (address_frame L x) (address_frame L y)) k)
