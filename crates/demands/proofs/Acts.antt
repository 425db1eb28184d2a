-- What an accepted call writes is the tree store's act on the tree that the words hold, and leaves the store sound; its room test is the tree's. Assumes a ladder of at most 7 codes whose sizes multiply up.
use mathlib.Core.Path.{◌≡◌, refl, sym, ap, ◌∙◌}
use mathlib.Core.Bool.{true, false}
use mathlib.Core.List.{List, ◌∷◌}
use Prim.Native.Nat.{ℕ, suc, pred, ◌+◌, ◌*◌, ◌-◌, ◌%◌, ◌≤◌, ◌<◌}
use native.Mathlib.Omega.{arith}
use native.Mathlib.Nat.{mul-div_cancel, mul-le-mul_right, mul-lt-mul_of_pos_right, mul-mod_left, zero-mod}
use lib.Dec.{ltb}
use lib.ListN.{length, set, length-set}
use borrow.Author.Tests.{ltb-false, leb-false}
use Rattle.sizes.specs.Ladder.{Ladder, smallest, bytes, address_frame}
use Rattle.sizes.specs.Laws.{MultipliesUp}
use Rattle.model.specs.Ladder.{frames, top}
use Rattle.model.specs.Frames.{Wholly, paint, count}
use Rattle.model.specs.Calls.{Region, seeded, Call, seed, acquire, release, report, verdict}
use Rattle.model.specs.FrameStore.{Frames, memory, size, lowest_free, refusals as frame_refusals}
use Rattle.model.specs.Tree.{Tree, free, free_frames, store, remove, pick}
use Rattle.model.specs.TreeStore.{used, act, apart, seeded_frames, seed_from}
use Rattle.model.specs.Demands.{SoundState}
use Rattle.model.proofs.Frames.{painted, painted-more, count_same}
use Rattle.model.proofs.Free.{block-largest}
use Rattle.model.proofs.Count.{free_frames-count}
use Rattle.model.proofs.Regions.{apart-iff, seeded-count}
use Rattle.model.proofs.Demand2.{unseeded-free}
use Rattle.model.proofs.FrameRuns.{Seedable, Releasable, seedable, dealable, releasable}
use Rattle.model.proofs.Ladder.{frames-pos}
use Rattle.model.proofs.Verdict.{clear}
use Rattle.pool.specs.Words.{word, max_of}
use Rattle.pool.specs.Nodes.{words, store_w, take_w, seed_w}
use Rattle.pool.specs.Room.{openings_w, pick_w, seed_openings_w}
use Rattle.pool.specs.View.{view}
use Rattle.pool.specs.Regions.{regions_of, newest}
use Rattle.pool.specs.RegionTest.{regions_pass, region_passes}
use Rattle.pool.specs.Check.{SoundW}
use Rattle.pool.proofs.Full.{store-lacks, take-lacks, seed-lacks}
use Rattle.pool.proofs.Kept.{sound_w-largest}
use Rattle.pool.proofs.Regions.{all-bytes, frame-bytes, regions-of}
use Rattle.pool.proofs.RegionTest.{passes-if}
use Rattle.pool.proofs.With.{newest-apart, newest-length, newest-seeded, with-newest, with-pass}
use Rattle.pages.specs.Calls.{Store, SoundStore, shown, acted, lacks_room, Places, tree_of}
use Rattle.demands.specs.Demands.{in_frames, result_of}
use Rattle.pages.proofs.Statements.{Held, Offered, PoolLaws, SoundLaws, Seeds}
use Rattle.pages.proofs.Decide.{sound-check, sound-words}
use Rattle.pages.proofs.Laws.{pool-laws}
use Rattle.pages.proofs.SoundView.{sound-laws}
use Rattle.pages.proofs.Shown.{sound-state, shown-same}
use Rattle.demands.proofs.Aligned.{Aligned}

module _ (L : Ladder) (most limit : ℕ) where
  -- what an accepted call answers and leaves
  pub record Acted (s : Store) (c : Call) : Type 0 where
    pub tree : tree_of L most limit (acted L most limit s c).store ≡ (act L (tree_of L most limit s) (in_frames L most limit c)).state
    pub answer : result_of L most limit c (acted L most limit s c) ≡ (act L (tree_of L most limit s) (in_frames L most limit c)).answer
    pub sound : SoundStore L most limit (acted L most limit s c).store
    pub places : Places L most limit (acted L most limit s c).store
    pub length : length (acted L most limit s c).store.pool ≡ length s.pool
    pub bytes : ((acted L most limit s c).base % bytes L smallest ≡ 0) × ((acted L most limit s c).seeded % bytes L smallest ≡ 0) × ((acted L most limit s c).free % bytes L smallest ≡ 0)

  -- the call on the store is accepted: the frame store refuses nothing
  abbrev Accepted : Store → Call → Type 0
  Accepted s c = verdict (frame_refusals L most (shown L most limit s) (in_frames L most limit c)) ≡ 0

  module _ (m : MultipliesUp L) (small : suc (top L) < 8) where
    -- the frames of whole pages are as many
    pub page-frames : (n : ℕ) → address_frame L (n * bytes L smallest) ≡ n
    unfolding address_frame
    page-frames n = mul-div_cancel n m.page

    -- results that are no addresses are 0
    no_bytes : (0 % bytes L smallest ≡ 0) × (0 % bytes L smallest ≡ 0) × (0 % bytes L smallest ≡ 0)
    no_bytes = (zero-mod (bytes L smallest), zero-mod (bytes L smallest), zero-mod (bytes L smallest))

    -- one sound store
    module _ (s : Store) (a : Places L most limit s) (h : SoundStore L most limit s) where
      -- its words, the count of those in use, the places of its regions, its tree and its frames
      abbrev p : List ℕ
      p = s.pool

      abbrev u : ℕ
      u = s.state.used

      abbrev starts : List ℕ
      starts = s.state.starts

      abbrev ends : List ℕ
      ends = s.state.ends

      abbrev t : Tree (top L)
      t = view L (top L) (word p) 0

      abbrev g : Frames
      g = shown L most limit s

      -- the laws of the store, of its state in the model and of its words
      sounds : SoundLaws L most limit starts ends
      sounds = sound-laws L m small most limit starts ends a.starts a.ends

      state : SoundState L most (length p) (tree_of L most limit s)
      state = sound-state L most limit m small s a h

      sound-pool : SoundW L (top L) p u
      sound-pool = sound-words L m most limit u starts ends p a.starts a.ends h

      pools : PoolLaws L p u
      pools = pool-laws L p u small sound-pool

      -- a free frame of the tree is one of the words
      same-free : (f : ℕ) → f < memory L → free L (top L) t f ≡ g.free f
      same-free = (shown-same L most limit m small s).frames

      -- ---- SEED
      module _ (x y : ℕ) (k : Aligned L (seed x y)) (v : Accepted s (seed x y)) where
        abbrev A : ℕ
        A = address_frame L x

        abbrev E : ℕ
        E = address_frame L y

        -- what the tests say: its frames are some, in memory, and none of them seeded
        spans : Seedable L most g A E
        spans = seedable L most g A E v

        rises : A ≤ E
        rises = omega (arith, spans.some)

        -- none of its frames is free
        unfree : Wholly (free L (top L) t) A (E - A) false
        unfree = unseeded-free L most (length p) (tree_of L most limit s) state A (E - A) (omega (arith, spans.some, spans.ends)) spans.unseeded

        -- the room test is the tree's
        seed-lacks-is : ltb (length p) (seed_w L (E - A) (words p u) A E).used ≡ ltb (length p) (used L (seed_from L (E - A) t A E))
        unfolding used
        seed-lacks-is = seed-lacks L p u A E small sound-pool rises spans.ends unfree ∙ ap (ltb (length p)) (sym (pools.seeded_words A E rises spans.ends unfree))

        -- it passes as a region, apart from the others
        passing : region_passes L x y ≡ true
        passing = passes-if L x y (record {
          start_aligned = k.0;
          end_aligned = k.1;
          some = omega (arith, frame-bytes L m x k.0, frame-bytes L m y k.1, mul-lt-mul_of_pos_right spans.some m.page);
          within = omega (arith, frame-bytes L m y k.1, all-bytes L m, mul-le-mul_right (bytes L smallest) spans.ends);
        })

        alone : apart A E (regions_of L starts ends) ≡ true
        alone = sym (newest-apart A E (regions_of L starts ends)) ∙ (apart-iff (memory L) A E (newest L starts ends) state.fit spans.some).1 spans.unseeded

        -- the places behind the seed
        abbrev starts' : List ℕ
        starts' = set starts (length (newest L starts ends)) x

        abbrev ends' : List ℕ
        ends' = set ends (length (newest L starts ends)) y

        -- a place is free
        few : length (regions_of L starts ends) < length starts
        unfolding frame_refusals
        few =
            let z = clear (frame_refusals L most g (seed A E)) (omega arith) v in
            omega (arith, a.starts, newest-length (regions_of L starts ends), leb-false most (length (newest L starts ends)) z.1.1.0)

        -- the regions behind it pass, and the new one comes first
        added : (regions_pass L starts' ends' ≡ true) × (newest L starts' ends' ≡ record { start = A; end = E } ∷ newest L starts ends)
        added =
            let r = regions_of L starts ends in
            let same : length starts ≡ length ends = a.starts ∙ sym a.ends in
            let old : regions_pass L starts ends ≡ true = (sound-check L m most limit u starts ends p a.starts a.ends h).regions in
            rw (newest-length r) (with-pass L x y passing starts ends same old few alone, with-newest L x y passing starts ends same old few)

        -- the regions behind it hold those before it and its frames
        more-seeded : (f : ℕ) → seeded (regions_of L starts' ends') f ≡ paint A (E - A) true (seeded (newest L starts ends)) f
        unfolding seeded
        more-seeded f = sym (newest-seeded (regions_of L starts' ends') f) ∙ ap (λ (rs : List Region). seeded rs f) added.1

        -- where the pool has room
        module _ (l : lacks_room L most limit s (seed x y) ≡ false) where
          seed-room : u + seed_openings_w L (E - A) p A E ≤ length p
          unfolding lacks_room acted
          seed-room = ltb-false (length p) (u + seed_openings_w L (E - A) p A E) (sym (seed-lacks L p u A E small sound-pool rises spans.ends unfree) ∙ l)

          seeds : Seeds L p u A E (seed_w L (E - A) (words p u) A E)
          seeds = pools.seeded A E rises spans.ends unfree seed-room

          seed-places : (length starts' ≡ most) × (length ends' ≡ most)
          seed-places = (length-set starts (length (newest L starts ends)) x ∙ a.starts, length-set ends (length (newest L starts ends)) y ∙ a.ends)

          -- AN ACCEPTED SEED ACTS AS THE TREE STORE'S
          seed-acted : Acted s (seed x y)
          unfolding acted act
          seed-acted = record {
            tree = rw (seeds.tree, added.1);
            answer = refl;
            sound = sounds.seeded p u A E starts' ends' h rises spans.ends unfree seed-room seed-places.0 seed-places.1 (regions-of L m most starts' ends' seed-places.0 seed-places.1 added.0)
                (λ f q. more-seeded f ∙ painted-more A (E - A) (seeded (newest L starts ends)) f (newest-seeded (regions_of L starts ends) f ∙ q))
                (λ f i j. more-seeded f ∙ (painted (seeded (newest L starts ends)) (suc f) A (E - A) true).inside f i j);
            places = record { starts = seed-places.0; ends = seed-places.1 };
            length = seeds.length;
            bytes = no_bytes;
          }

      -- ---- ACQUIRE
      module _ (c : ℕ) (v : Accepted s (acquire c)) where
        -- the code is one of the ladder
        deep : pred c ≤ top L
        unfolding frame_refusals
        deep = omega (arith, ltb-false (suc (top L)) c (clear (frame_refusals L most g (acquire c)) (omega arith) v).1.0)

        -- the root's max is at least the code
        offered : suc (pred c) ≤ max_of (word p 0)
        offered =
            let b = lowest_free L g.free c in
            let k = dealable L most g c v in
            omega (
              arith,
              sound_w-largest L (top L) p u sound-pool,
              block-largest L (top L) (pred c) t (b * size L c) state.sound deep (mul-mod_left b (size L c)) k.fits (λ f i j. same-free f (omega (arith, k.fits)) ∙ k.whole f i j),
            )

        -- the room test is the tree's
        take-lacks-is : ltb (length p) (take_w L (top L) (pred c) (words p u) 0).words.used ≡ ltb (length p) (used L (remove L (top L) (pred c) t (pick L (top L) (pred c) t)))
        unfolding used
        take-lacks-is = take-lacks L (pred c) p u small sound-pool deep offered ∙ ap (ltb (length p)) (sym (pools.taken_words (pred c) deep offered))
            ∙ ap (λ (b : ℕ). ltb (length p) (used L (remove L (top L) (pred c) t b))) (pools.root.picked (pred c) deep offered)

        -- where the pool has room
        module _ (l : lacks_room L most limit s (acquire c) ≡ false) where
          take-room : u + openings_w L (top L) (pred c) p 0 (pick_w L (top L) (pred c) p 0) ≤ length p
          unfolding lacks_room acted
          take-room = ltb-false (length p) (u + openings_w L (top L) (pred c) p 0 (pick_w L (top L) (pred c) p 0)) (sym (take-lacks L (pred c) p u small sound-pool deep offered) ∙ l)

          offer : Offered L (top L) (pred c) p u 0
          offer = record { deep = deep; offers = offered; room = take-room }

          -- AN ACCEPTED ACQUIRE ACTS AS THE TREE STORE'S
          take-acted : Acted s (acquire c)
          unfolding acted act
          take-acted =
              let w = pools.root.taken (pred c) offer in
              let e = pools.root.picked (pred c) deep offered in
              record {
                tree = rw (w.2, e);
                answer = rw (page-frames (take_w L (top L) (pred c) (words p u) 0).base, w.1, w.0, e);
                sound = sounds.taken p u (pred c) h offer;
                places = record { starts = a.starts; ends = a.ends };
                length = w.3.length;
                bytes = (mul-mod_left (take_w L (top L) (pred c) (words p u) 0).base (bytes L smallest), zero-mod (bytes L smallest), zero-mod (bytes L smallest));
              }

      -- ---- RELEASE
      module _ (b c : ℕ) (v : Accepted s (release b c)) where
        abbrev B : ℕ
        B = address_frame L b

        -- what the tests say: the block is in memory, seeded and not free
        block : Releasable L most g B c
        block = releasable L most g B c v

        inside : B < frames L (top L)
        inside = omega (arith, block.stands.fits, frames-pos L (pred c))

        -- the room test is the tree's
        store-lacks-is : ltb (length p) (store_w L (top L) (pred c) (words p u) 0 B).used ≡ ltb (length p) (used L (store L (top L) (pred c) t B))
        unfolding used
        store-lacks-is = store-lacks L (pred c) p u B small sound-pool inside ∙ ap (ltb (length p)) (sym (pools.stored_words (pred c) B inside))

        -- where the pool has room
        module _ (l : lacks_room L most limit s (release b c) ≡ false) where
          store-room : u + openings_w L (top L) (pred c) p 0 B ≤ length p
          unfolding lacks_room acted
          store-room = ltb-false (length p) (u + openings_w L (top L) (pred c) p 0 B) (sym (store-lacks L (pred c) p u B small sound-pool inside) ∙ l)

          held : Held L (top L) (pred c) p u 0 B
          held = record { block = block.stands; held = λ f i j. same-free f (omega (arith, block.stands.fits)) ∙ block.taken f i j; room = store-room }

          -- AN ACCEPTED RELEASE ACTS AS THE TREE STORE'S
          store-acted : Acted s (release b c)
          unfolding acted act
          store-acted =
              let w = pools.root.stored (pred c) B held in
              record {
                tree = rw w.0;
                answer = refl;
                sound = sounds.stored p u (pred c) B h held (λ f i j. sym (newest-seeded (regions_of L starts ends) f) ∙ block.inside f i j);
                places = record { starts = a.starts; ends = a.ends };
                length = w.1.length;
                bytes = no_bytes;
              }

      -- ---- REPORT
      -- A REPORT TELLS WHAT THE TREE STORE'S TELLS
      report-acted : Acted s report
      unfolding acted act
      report-acted =
          let regions : count (seeded (newest L starts ends)) (memory L) ≡ seeded_frames (newest L starts ends) = seeded-count (memory L) (newest L starts ends) state.fit in
          let offers : count g.free (memory L) ≡ free_frames L (top L) t =
          sym (free_frames-count L (top L) t state.sound ∙ count_same (free L (top L) t) g.free (memory L) same-free) in
          record {
            tree = refl;
            answer = rw (page-frames (count (seeded (newest L starts ends)) (memory L)), page-frames (count g.free (memory L)), regions, offers, sound_w-largest L (top L) p u sound-pool);
            sound = h;
            places = a;
            length = refl;
            bytes = (zero-mod (bytes L smallest), mul-mod_left (count (seeded (newest L starts ends)) (memory L)) (bytes L smallest), mul-mod_left (count g.free (memory L)) (bytes L smallest));
          }

    -- the used count that the writes would reach is past the pool's length exactly if the tree behind the act has more words
    pub lacks-is : (s : Store) (c : Call) → Places L most limit s → SoundStore L most limit s → Aligned L c → verdict (frame_refusals L most (shown L most limit s) (in_frames L most limit c)) ≡ 0
        → lacks_room L most limit s c ≡ ltb (length s.pool) (used L (act L (tree_of L most limit s) (in_frames L most limit c)).state.tree)
    unfolding lacks_room acted act used
    lacks-is s (seed x y) a h k v = seed-lacks-is s a h x y k v
    lacks-is s (acquire c) a h k v = take-lacks-is s a h c v
    lacks-is s (release b c) a h k v = store-lacks-is s a h b c v
    lacks-is s report a h k v = ap (ltb (length s.pool)) (pools s a h).used

    -- what an accepted call that has room answers and leaves is the tree store's act
    pub acted-is : (s : Store) (c : Call) → Places L most limit s → SoundStore L most limit s → Aligned L c → verdict (frame_refusals L most (shown L most limit s) (in_frames L most limit c)) ≡ 0
        → lacks_room L most limit s c ≡ false → Acted s c
    acted-is s (seed x y) a h k v l = seed-acted s a h x y k v l
    acted-is s (acquire c) a h k v l = take-acted s a h c v l
    acted-is s (release b c) a h k v l = store-acted s a h b c v l
    acted-is s report a h k v l = report-acted s a h
