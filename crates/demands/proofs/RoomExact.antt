-- A pool of fewer than `room_for` words is not enough: seeding the regions and acquiring their frames one by one answers 9; so room_for plans no more than it must. Assumes a ladder of at most 7 codes whose sizes multiply up.
use mathlib.Core.Path.{◌≡◌, refl, sym, ap, ◌∙◌, subst}
use mathlib.Core.Logic.{◌≢◌}
use mathlib.Core.Bool.{Bool, true, false, true≢false}
use mathlib.Core.List.{List, [], ◌∷◌, ◌++◌}
use Prim.Native.Nat.{ℕ, zero, suc, ◌+◌, ◌*◌, ◌-◌, ◌%◌, ◌≤◌, ◌<◌}
use native.Mathlib.Omega.{arith}
use native.Mathlib.Nat.{mul-mod_left}
use native.Mathlib.Decide.{dec_lt}
use lib.ListN.{length, length-set}
use borrow.Author.Tests.{le-ltb, lt-leb, eq-eqb}
use Rattle.sizes.specs.Ladder.{Ladder, smallest, largest, bytes}
use Rattle.sizes.specs.Laws.{MultipliesUp}
use Rattle.model.specs.Ladder.{top}
use Rattle.model.specs.Frames.{bit}
use Rattle.model.specs.Calls.{Region, seeded, Fits, Regions, Call, seed, acquire, verdict, Outcome}
use Rattle.model.specs.FrameStore.{Frames, memory, frame_act, frame_step, refusals as frame_refusals}
use Rattle.model.specs.Tree.{largest as largest_free, free, free_frames, Sound}
use Rattle.model.specs.TreeStore.{State as TreeState, used, act}
use Rattle.model.specs.Room.{room_for}
use Rattle.model.specs.Demands.{AsFrames}
use Rattle.model.proofs.Frames.{within_in, painted-more, bit-one}
use Rattle.model.proofs.FrameStore.{bare-iff}
use Rattle.model.proofs.RoomExact.{Taking, all-free, some-offered, one_fewer, take_next, frame-dealt, taken-room}
use Rattle.pool.specs.Words.{pack}
use Rattle.pool.specs.RegionTest.{regions_pass}
use Rattle.pool.proofs.Regions.{regions-of, regions-if}
use Rattle.pages.specs.Frames.{is_free}
use Rattle.pages.specs.Calls.{Store, Reply, SoundStore, shown, served, Replies, fresh_reply, Places, tree_of}
use Rattle.pages.specs.Room.{with_region, region_refusal}
use Rattle.pages.proofs.Shown.{sound-state, shown-same}
use Rattle.pages.proofs.SeedTests.{joins}
use Rattle.pages.proofs.Plans.{joined}
use Rattle.demands.specs.Demands.{asked, Runs, none, more}
use Rattle.demands.specs.Room.{Roomy, On, NoLess, PlansNoLess}
use Rattle.demands.proofs.Acts.{page-frames}
use Rattle.demands.proofs.Serves.{Steps, step-acts, as-frames, served-steps, served-leaves}
use Rattle.demands.proofs.DemandTwo.{answer-refused, replies-frames}
use Rattle.demands.proofs.DemandThree.{Keeps, keeps-next, fresh_keeps, fresh-regions}
use Rattle.demands.proofs.Rooted.{fresh-fits, fresh-is}
use Rattle.demands.proofs.Room.{planned}

module _ (L : Ladder) (most limit : ℕ) where
  -- ---- the replies to calls, one after the other
  abbrev answers : Store → List Call → List Reply
  answers s [] = []
  answers s (c ∷ cs) = served L most limit s c ∷ answers (served L most limit s c).store cs

  abbrev after : Store → List Call → Store
  after s [] = s
  after s (c ∷ cs) = after (served L most limit s c).store cs

  after_both : (s : Store) (cs ds : List Call) → after s (cs ++ ds) ≡ after (after s cs) ds
  after_both s [] ds = refl
  after_both s (c ∷ cs) ds = after_both (served L most limit s c).store cs ds

  -- calls behind others: both lie in the regions
  on_both : (gs : List Region) (s : Store) (cs ds : List Call) → On L most limit gs cs (answers s cs) → On L most limit gs ds (answers (after s cs) ds) → On L most limit gs (cs ++ ds) (answers s (cs ++ ds))
  on_both gs s [] ds x y = y
  on_both gs s (c ∷ cs) ds x y = (x.0, on_both gs (served L most limit s c).store cs ds x.1 y)

  -- ... and both have room
  roomy-both : (s : Store) (cs ds : List Call) → Roomy (answers s (cs ++ ds)) → Roomy (answers s cs) × Roomy (answers (after s cs) ds)
  roomy-both s [] ds r = (tt, r)
  roomy-both s (c ∷ cs) ds r = let x = roomy-both (served L most limit s c).store cs ds r.1 in ((r.0, x.0), x.1)

  -- ---- the calls
  -- the seed of a region
  abbrev seed_of : Region → Call
  seed_of r = seed (r.start * bytes L smallest) (r.end * bytes L smallest)

  -- of all regions, the oldest first
  abbrev seeds_of : List Region → List Call
  seeds_of [] = []
  seeds_of (r ∷ rs) = seeds_of rs ++ (seed_of r ∷ [])

  -- n frames
  abbrev acquires : ℕ → List Call
  acquires zero = []
  acquires (suc n) = acquire 1 ∷ acquires n

  -- acquires lie in any regions
  on-acquires : (gs : List Region) (n : ℕ) (s : Store) → On L most limit gs (acquires n) (answers s (acquires n))
  on-acquires gs zero s = tt
  on-acquires gs (suc n) s = (tt, on-acquires gs n (served L most limit s (acquire 1)).store)

  -- a sound store with a pool of N words
  record Lent (N : ℕ) (s : Store) : Type 0 where
    places : Places L most limit s
    sound : SoundStore L most limit s
    words : length s.pool ≡ N

  -- one that has the regions, all of whose frames are free
  record Sown (rs : List Region) (s : Store) : Type 0 where
    keeps : Keeps L most limit s (λ f. false)
    regions : (shown L most limit s).regions ≡ rs

  module _ (m : MultipliesUp L) (small : suc (top L) < 8) where
    -- the seeds of regions lie in them
    on-seeds : (gs rs : List Region) (s : Store) → ((f : ℕ) → seeded rs f ≡ true → seeded gs f ≡ true) → On L most limit gs (seeds_of rs) (answers s (seeds_of rs))
    unfolding seeded
    on-seeds gs [] s h = tt
    on-seeds gs (r ∷ rs) s h = on_both gs s (seeds_of rs) (seed_of r ∷ []) (on-seeds gs rs s (λ f e. h f (painted-more r.start (r.end - r.start) (seeded rs) f e)))
        (rw (page-frames L most limit m small r.start, page-frames L most limit m small r.end) (λ z f p q. h f (rw (within_in r.start (r.end - r.start) f p q))), tt)

    -- ---- any calls on a sound store have replies, and leave it sound
    replied : (s : Store) (c : Call) → SoundStore L most limit s → Replies L most limit s c (served L most limit s c)
    replied s c h = record { unsound = λ n. absurd (n h); sound = λ k. refl }

    lent-next : (N : ℕ) (s : Store) (c : Call) → Lent N s → Lent N (served L most limit s c).store
    lent-next N s c k = let x = served-leaves L most limit m small s c k.places k.sound in record { places = x.places; sound = x.sound; words = x.length ∙ k.words }

    lent-after : (N : ℕ) (s : Store) (cs : List Call) → Lent N s → Lent N (after s cs)
    lent-after N s [] k = k
    lent-after N s (c ∷ cs) k = lent-after N (served L most limit s c).store cs (lent-next N s c k)

    runs-all : (N : ℕ) (s : Store) (cs : List Call) → Lent N s → Runs L most limit s cs (answers s cs) (after s cs)
    runs-all N s [] k = none
    runs-all N s (c ∷ cs) k = more c (served L most limit s c) (replied s c k.sound) (runs-all N (served L most limit s c).store cs (lent-next N s c k))

    fresh-lent : (p : List ℕ) → (fresh_reply L most limit p).refusal ≡ 0 → Lent (length p) (fresh_reply L most limit p).store
    fresh-lent p e =
        let b = fresh-fits L most limit p e in
        let k = fresh_keeps L most limit m small p e in
        record { places = k.places; sound = k.sound; words = rw (fresh-is L most limit p b.0 b.1) (length-set p 0 (pack 0 0 (largest L) 0)) }

    -- ---- the seeds
    -- the frame store takes a region that fits beside those it has
    takes : (g : Frames) (r : Region) → Fits (memory L) r g.regions → length g.regions < most → (asked L most limit g (seed_of r)).state.regions ≡ r ∷ g.regions
    unfolding frame_step frame_act frame_refusals
    takes g r k l = rw (
      page-frames L most limit m small r.start,
      page-frames L most limit m small r.end,
      eq-eqb (r.start * bytes L smallest % bytes L smallest) 0 (mul-mod_left r.start (bytes L smallest)),
      eq-eqb (r.end * bytes L smallest % bytes L smallest) 0 (mul-mod_left r.end (bytes L smallest)),
      lt-leb r.end r.start k.some,
      le-ltb (memory L) r.end k.ends,
      lt-leb most (length g.regions) l,
      (bare-iff (seeded g.regions) r.start (r.end - r.start)).1 k.alone,
    ) refl

    -- the store takes it, unless pool room is missing
    seed-next : (s : Store) (rs : List Region) (r : Region) → Sown rs s → Fits (memory L) r rs → length rs < most → (served L most limit s (seed_of r)).refusal ≢ 9 → Sown (r ∷ rs) (served L most limit s (seed_of r)).store
    seed-next s rs r k h l x =
        let u = served L most limit s (seed_of r) in
        let q = replied s (seed_of r) k.keeps.sound in
        let f = replies-frames L most limit m small s k.keeps.places k.keeps.sound (seed_of r) u q in
        record {
          keeps = keeps-next L most limit m small s (λ f. false) k.keeps (seed_of r) u q;
          regions = (f.leaves x).regions ∙ takes (shown L most limit s) r (subst (Fits (memory L) r) (sym k.regions) h) (rw k.regions l) ∙ ap (λ (xs : List Region). r ∷ xs) k.regions;
        }

    -- so it takes all, the oldest first
    seeds-next : (s : Store) → Sown [] s → (rs : List Region) → Regions (memory L) rs → length rs ≤ most → Roomy (answers s (seeds_of rs)) → Sown rs (after s (seeds_of rs))
    seeds-next s k [] h l x = k
    seeds-next s k (r ∷ rs) h l x =
        let y = roomy-both s (seeds_of rs) (seed_of r ∷ []) x in
        subst (Sown (r ∷ rs)) (sym (after_both s (seeds_of rs) (seed_of r ∷ []))) (seed-next (after s (seeds_of rs)) rs r (seeds-next s k rs h.1 (omega arith) y.0) h.0 (omega arith) y.1.0)

    -- and all their frames are free
    sown-free : (gs : List Region) (s : Store) → Sown gs s → (f : ℕ) → f < memory L → seeded gs f ≡ true → free L (top L) (tree_of L most limit s).tree f ≡ true
    sown-free gs s k f l e =
        let x = k.keeps.split.adds f l in
        let y : bit (seeded gs f) ≡ bit (is_free L s.pool f) + 0 = rw k.regions at x in
        (shown-same L most limit m small s).frames f l ∙ bit-one (is_free L s.pool f) (omega (arith, y, ap bit e))

    -- ---- the acquires
    module _ (gs : List Region) (N : ℕ) where
      -- acquiring frame by frame with room opens every node that has one, so the pool has words for all of them
      acquires-room : (n : ℕ) (s : Store) → Lent N s → Taking L gs (tree_of L most limit s).tree → free_frames L (top L) (tree_of L most limit s).tree ≡ n → Roomy (answers s (acquires n)) → room_for L gs ≤ N
      unfolding act
      acquires-room zero s k t e x =
          let w = sound-state L most limit m small s k.places k.sound in
          omega (arith, taken-room L (tree_of L most limit s).tree w.sound gs t e, w.room, k.words)
      acquires-room (suc n) s k t e x = go (dec_lt M (used L (act L T c).state.tree)) (acquires-room n)
        where
          c : Call
          c = acquire 1

          T : TreeState L
          T = tree_of L most limit s

          M : ℕ
          M = length s.pool

          u : Reply
          u = served L most limit s c

          good : Sound L (top L) T.tree
          good = (sound-state L most limit m small s k.places k.sound).sound

          offered : 1 ≤ largest_free (top L) T.tree
          offered = some-offered L T.tree good (omega (arith, e))

          dealt : verdict (frame_refusals L most (shown L most limit s) c) ≡ 0
          dealt = frame-dealt L T.tree good most (shown L most limit s) (shown-same L most limit m small s) offered

          steps : Steps L most limit s c u
          steps = served-steps L most limit m small s c k.places k.sound refl

          framed : AsFrames L most M T (shown L most limit s) c
          framed = as-frames L most limit m small s c k.places k.sound

          left : free_frames L (top L) (act L T c).state.tree ≡ n
          left = omega (arith, e, one_fewer L T.tree good offered)

          go : Dec (M < used L (act L T c).state.tree)
              → ((s : Store) → Lent N s → Taking L gs (tree_of L most limit s).tree → free_frames L (top L) (tree_of L most limit s).tree ≡ n → Roomy (answers s (acquires n)) → room_for L gs ≤ N)
              → room_for L gs ≤ N
          go (yes l) ih = absurd (x.0 ((answer-refused L most limit c u 8).1 (steps.answer ∙ framed.nine.1 (dealt, l))))
          go (no l) ih =
              let y = steps.tree ∙ ap (λ (o : Outcome (TreeState L)). o.state) (step-acts L most M T (shown L most limit s) c framed dealt (omega arith)) in
              ih u.store (lent-next N s c k) (subst (λ (z : TreeState L). Taking L gs z.tree) (sym y) (take_next L T.tree good offered gs t))
              (ap (λ (z : TreeState L). free_frames L (top L) z.tree) y ∙ left) x.1

    -- NO POOL OF FEWER WORDS IS ENOUGH
    pub no_less : NoLess L most limit
    no_less gs k l p e h =
        let s = (fresh_reply L most limit p).store in
        let N = length p in
        let v = fresh-lent p e in
        let cs = seeds_of gs in
        let t = after s cs in
        let T = (tree_of L most limit t).tree in
        let n = free_frames L (top L) T in
        let ds = acquires n in (
          cs ++ ds,
          answers s (cs ++ ds),
          after s (cs ++ ds),
          runs-all N s (cs ++ ds) v,
          on_both gs s cs ds (on-seeds gs gs s (λ f z. z)) (on-acquires gs n t),
          λ r.
              let y = roomy-both s cs ds r in
              let i = seeds-next s (record { keeps = fresh_keeps L most limit m small p e; regions = fresh-regions L most limit m small p e }) gs k l y.0 in
              omega (arith, h, acquires-room gs N n t (lent-after N s cs v) (all-free L gs T (sown-free gs t i)) refl y.1),
        )

    -- ... SO ROOM_FOR ANSWERS NO MORE WORDS THAN IT MUST
    pub plans-no-less : PlansNoLess L most limit
    plans-no-less s hs he a e n w q z p f l = go (regions_pass L s.starts s.ends) refl
      where
        gs : List Region
        gs = with_region L s a e

        -- where the regions are not sound it answered 10
        go : (x : Bool) → regions_pass L s.starts s.ends ≡ x
            → (cs : List Call) × (rs : List Reply) × (t : Store) × Runs L most limit (fresh_reply L most limit p).store cs rs t × On L most limit gs cs rs × (Roomy rs → ⊥)
        go true h =
            let y = q.sound (regions-of L m most s.starts s.ends hs he h) in
            let j = joins L most limit m s h a e (sym y.0 ∙ z) in
            let v = planned n (region_refusal L most limit s a e) w (room_for L gs) z y.0 y.1 in
            no_less gs (joined L most limit m s hs he a e h j) (omega (arith, j.few)) p f (omega (arith, v, l))
        go false h = absurd (omega (arith, z, (q.unsound (λ r. true≢false (sym (regions-if L m most s.starts s.ends hs he r) ∙ h))).0))
