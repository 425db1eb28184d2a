-- A pool of `room_for` words is enough: no calls on the regions ever answer 9, and room_for plans as many. Assumes a ladder of at most 7 codes whose sizes multiply up.
use mathlib.Core.Path.{◌≡◌, refl, sym, ap, ◌∙◌, subst}
use mathlib.Core.Logic.Dec
use mathlib.Core.Logic.{◌⊎◌, inl, inr, ◌≢◌}
use mathlib.Core.Bool.{Bool, true, false, cond, and-eq-true_iff, false≢true}
use mathlib.Core.List.{List, [], ◌∷◌}
use Prim.Native.Nat.{ℕ, zero, suc, pred, ◌+◌, ◌*◌, ◌-◌, ◌≤◌, ◌<◌}
use native.Mathlib.Omega.{arith}
use native.Mathlib.Nat.{mul-mod_left}
use native.Mathlib.Decide.{dec_lt, ℕ_discrete}
use lib.Dec.{leb, ltb}
use lib.ListN.{length, length-set}
use borrow.Author.Tests.{leb-true, ltb-true, ltb-false}
use Rattle.sizes.specs.Ladder.{Ladder, largest}
use Rattle.sizes.specs.Laws.{MultipliesUp}
use Rattle.model.specs.Ladder.{top}
use Rattle.model.specs.Frames.{Wholly, within, paint}
use Rattle.model.specs.Calls.{Region, seeded, Call, seed, acquire, release, report, verdict, Outcome}
use Rattle.model.specs.FrameStore.{Frames, size, Same, lowest_free, refusals as frame_refusals}
use Rattle.model.specs.Tree.{Sound}
use Rattle.model.specs.TreeStore.{State as TreeState, used, picked, act}
use Rattle.model.specs.Room.{room_for}
use Rattle.model.specs.Demands.{SoundState, AsFrames, shown as tree_shown}
use Rattle.model.proofs.Ladder.{frames-pos}
use Rattle.model.proofs.Free.{block-largest, pick-lowest}
use Rattle.model.proofs.FrameRuns.{seedable, dealable, releasable}
use Rattle.model.proofs.Verdict.{clear}
use Rattle.model.proofs.Room.{Reaches, reaches-empty, AskedIn, act-reaches, reaches-room}
use Rattle.model.proofs.Demand2.{demand2}
use Rattle.pool.specs.Words.{pack}
use Rattle.pool.specs.Regions.{Regions}
use Rattle.pages.specs.Calls.{Store, Reply, plain, SoundStore, shown, served, Replies, fresh_reply, Places, tree_of}
use Rattle.pages.specs.Room.{with_region, region_refusal, room_or}
use Rattle.pages.proofs.Shown.{sound-state, shown-same}
use Rattle.demands.specs.Demands.{in_frames, unaligned, Runs, none, more}
use Rattle.demands.specs.Room.{Roomy, Inside, On, EnoughRoom, PlansEnough}
use Rattle.demands.proofs.Serves.{Steps, Leaves, step-refused, step-acts, as-frames, served-unaligned, served-steps, served-leaves}
use Rattle.demands.proofs.DemandTwo.{answer-refused}
use Rattle.demands.proofs.DemandThree.{stored-none}
use Rattle.demands.proofs.Rooted.{fresh-fits, fresh-is, rooted-places, rooted-tree, rooted-sound}

-- some reply is 9, or none is
roomy-dec : (rs : List Reply) → Dec (Roomy rs)
roomy-dec [] = yes tt
roomy-dec (r ∷ rs) = Dec.and (Dec.not (ℕ_discrete r.refusal 9)) (roomy-dec rs)

-- the words of a plan that is not refused
pub planned : (n k v w : ℕ) → n ≡ 0 → n ≡ k → v ≡ room_or k w → v ≡ w
planned n zero v w z i j = j
planned n (suc k) v w z i j = absurd (omega (arith, z, i))

-- a seed asks for frames in G
abbrev Seeds : (G : ℕ → Bool) → Call → Type 0
Seeds G (seed a e) = Wholly G a (e - a) true
Seeds G (acquire c) = Unit {0}
Seeds G (release b c) = Unit {0}
Seeds G report = Unit {0}

-- where a block and g are in G, so is g with the block
painted-in : (g G : ℕ → Bool) (b s : ℕ) → ((f : ℕ) → g f ≡ true → G f ≡ true) → Wholly G b s true → (f : ℕ) → paint b s true g f ≡ true → G f ≡ true
painted-in g G b s k w f e = go (within b s f) refl e
  where
    go : (x : Bool) → within b s f ≡ x → cond x true (g f) ≡ true → G f ≡ true
    go true i e = let y = (and-eq-true_iff (leb b f) (ltb f (b + s))).0 i in w f (leb-true b f y.0) (ltb-true f (b + s) y.1)
    go false i e = k f e

-- ---- a call that the frame store accepts, on the tree store
module _ (L : Ladder) (most n : ℕ) (t : TreeState L) (g : Frames) (i : SoundState L most n t) (w : Same L (tree_shown L t) g) where
  -- the tree behind it is sound, whether the pool has room for it or not
  act-sound : (c : Call) → verdict (frame_refusals L most g c) ≡ 0 → Sound L (top L) (act L t c).state.tree
  act-sound c v =
      let N = n + used L (act L t c).state.tree in
      let j : SoundState L most N t = record { sound = i.sound; room = omega (arith, i.room); fit = i.fit; few = i.few; inside = i.inside } in
      let h = demand2 L most N t g j w c in
      subst (λ (o : Outcome (TreeState L)). Sound L (top L) o.state.tree) (step-acts L most N t g c h v (omega arith)) h.keeps.sound

  -- all regions of the store lie in G
  module _ (G : ℕ → Bool) (k : (f : ℕ) → seeded t.regions f ≡ true → G f ≡ true) where
    -- so each call asks for frames in G: an acquire deals free ones, which are seeded, and a release gives back seeded ones
    asked_in : (c : Call) → verdict (frame_refusals L most g c) ≡ 0 → Seeds G c → AskedIn L G t c
    unfolding frame_refusals
    asked_in (seed a e) v z = ((seedable L most g a e v).ends, z)
    asked_in (acquire c) v z =
        let deep : pred c ≤ top L = omega (arith, ltb-false (suc (top L)) c (clear (frame_refusals L most g (acquire c)) (omega arith) v).1.0) in
        let x = dealable L most g c v in
        let b = lowest_free L g.free c in
        let l = block-largest L (top L) (pred c) t.tree (b * size L c) i.sound deep (mul-mod_left b (size L c)) x.fits (λ f p q. w.frames f (omega (arith, x.fits)) ∙ x.whole f p q) in
        let y = pick-lowest L (top L) (pred c) t.tree i.sound l in
        let b' = picked L t c in
        let pos = frames-pos L (pred c) in
        (record { deep = deep; aligned = y.aligned; fits = y.fits }, k b' (i.inside b' (omega (arith, pos, y.fits)) (y.whole b' (omega arith) (omega (arith, pos)))))
    asked_in (release b c) v z =
        let x = releasable L most g b c v in
        (x.stands, k b (subst (λ (rs : List Region). seeded rs b ≡ true) (sym w.regions) (x.inside b (omega arith) (omega (arith, frames-pos L (pred c))))))
    asked_in report v z = tt

    -- and leaves regions in G
    act-in : (c : Call) → Seeds G c → (f : ℕ) → seeded (act L t c).state.regions f ≡ true → G f ≡ true
    unfolding act seeded
    act-in (seed a e) z f q = painted-in (seeded t.regions) G a (e - a) k z f q
    act-in (acquire c) z f q = k f q
    act-in (release b c) z f q = k f q
    act-in report z f q = k f q

-- the seeds of calls on the regions ask for frames of them
seeds-of : (L : Ladder) (most limit : ℕ) (gs : List Region) (c : Call) (r : Reply) → Inside L most limit gs c r → ((a e : ℕ) → c ≡ seed a e → (r.refusal ≡ 0) ⊎ (r.refusal ≡ 9)) → Seeds (seeded gs) (in_frames L most limit c)
seeds-of L most limit gs (seed a e) r z u = z (u a e refl)
seeds-of L most limit gs (acquire c) r z u = tt
seeds-of L most limit gs (release b c) r z u = tt
seeds-of L most limit gs report r z u = tt

-- ---- runs
module _ (L : Ladder) (most limit : ℕ) (m : MultipliesUp L) (small : suc (top L) < 8) where
  module _ (gs : List Region) where
    -- a sound store with room for the regions, whose own lie in them and whose tree opens only nodes with frames of them
    record Lies (s : Store) : Type 0 where
      places : Places L most limit s
      sound : SoundStore L most limit s
      room : room_for L gs ≤ length s.pool
      within : (f : ℕ) → seeded (shown L most limit s).regions f ≡ true → seeded gs f ≡ true
      reaches : Reaches L (top L) (tree_of L most limit s).tree (seeded gs) 0

    module _ (s : Store) (k : Lies s) (c : Call) (r : Reply) (q : Replies L most limit s c r) (z : Inside L most limit gs c r) where
      abbrev T : TreeState L
      T = tree_of L most limit s

      abbrev N : ℕ
      N = length s.pool

      is : r ≡ served L most limit s c
      is = q.sound k.sound

      left : Leaves L most limit s r
      left = subst (Leaves L most limit s) (sym is) (served-leaves L most limit m small s c k.places k.sound)

      -- what a call leaves lies so, where its tree and regions do
      lies-by : (t : TreeState L) → tree_of L most limit r.store ≡ t → ((f : ℕ) → seeded t.regions f ≡ true → seeded gs f ≡ true) → Reaches L (top L) t.tree (seeded gs) 0 → Lies r.store
      lies-by t e x y = record {
        places = left.places;
        sound = left.sound;
        room = omega (arith, k.room, left.length);
        within = λ f u. x f (subst (λ (t : TreeState L). seeded t.regions f ≡ true) e u);
        reaches = subst (λ (t : TreeState L). Reaches L (top L) t.tree (seeded gs) 0) (sym e) y;
      }

      -- without an unaligned address it is the tree store's step
      module _ (o : unaligned L most limit c ≡ false) where
        abbrev C : Call
        C = in_frames L most limit c

        by : Steps L most limit s c r
        by = subst (Steps L most limit s c) (sym is) (served-steps L most limit m small s c k.places k.sound o)

        framed : AsFrames L most N T (shown L most limit s) C
        framed = as-frames L most limit m small s c k.places k.sound

        state : SoundState L most N T
        state = sound-state L most limit m small s k.places k.sound

        same : Same L (tree_shown L T) (shown L most limit s)
        same = shown-same L most limit m small s

        nine : r.refusal ≡ 9 → (verdict (frame_refusals L most (shown L most limit s) C) ≡ 0) × (N < used L (act L T C).state.tree)
        nine e = framed.nine.0 (sym by.answer ∙ (answer-refused L most limit c r 8).0 e)

        -- a seed that the frame store accepts is accepted, or lacks pool room
        seed-number : verdict (frame_refusals L most (shown L most limit s) C) ≡ 0 → (a e : ℕ) → c ≡ seed a e → (r.refusal ≡ 0) ⊎ (r.refusal ≡ 9)
        unfolding act
        seed-number v a e j = go (dec_lt N (used L (act L T C).state.tree))
          where
            go : Dec (N < used L (act L T C).state.tree) → (r.refusal ≡ 0) ⊎ (r.refusal ≡ 9)
            go (yes l) = inr ((answer-refused L most limit c r 8).1 (by.answer ∙ framed.nine.1 (v, l)))
            go (no l) =
                let x = by.answer ∙ ap (λ (u : Outcome (TreeState L)). u.answer) (step-acts L most N T (shown L most limit s) C framed v (omega arith)) in
                inl (stored-none L most limit a e r (rw j at x))

        -- a call keeps it and is not refused by 9
        aligned_next : Lies r.store × (r.refusal ≢ 9)
        aligned_next = go (verdict (frame_refusals L most (shown L most limit s) C)) refl
          where
            go : (u : ℕ) → verdict (frame_refusals L most (shown L most limit s) C) ≡ u → Lies r.store × (r.refusal ≢ 9)
            go zero v =
                let d = seeds-of L most limit gs c r z (seed-number v) in
                let t = (act L T C).state in
                let y = act-reaches L T C (seeded gs) k.reaches (asked_in L most N T (shown L most limit s) state same (seeded gs) k.within C v d) in
                let l : used L t.tree ≤ N = omega (arith, k.room, reaches-room L gs t.tree (act-sound L most N T (shown L most limit s) state same C v) y) in
                let e = by.tree ∙ ap (λ (u : Outcome (TreeState L)). u.state) (step-acts L most N T (shown L most limit s) C framed v l) in
                (lies-by t e (act-in L most N T (shown L most limit s) state same (seeded gs) k.within C d) y, λ h. omega (arith, l, (nine h).1))
            go (suc u) v =
                let e = by.tree ∙ (step-refused L most N T (shown L most limit s) C framed u v).1 in
                (lies-by T e k.within k.reaches, λ h. omega (arith, v, (nine h).0))

      -- ... nor is one with an unaligned address
      lies-next : Lies r.store × (r.refusal ≢ 9)
      lies-next = go (unaligned L most limit c) refl
        where
          go : (x : Bool) → unaligned L most limit c ≡ x → Lies r.store × (r.refusal ≢ 9)
          go true o = let e : r ≡ plain 2 s = is ∙ served-unaligned L most limit m small s c o in rw e (k, λ h. omega arith)
          go false o = aligned_next o

    -- so do all calls
    roomy-run : (s t : Store) (cs : List Call) (rs : List Reply) → Lies s → Runs L most limit s cs rs t → On L most limit gs cs rs → Roomy rs
    roomy-run s t cs rs k none o = tt
    roomy-run s t cs rs k (more {cs = cs'} {rs = rs'} c r q w) o = let x = lies-next s k c r q o.0 in (x.1, roomy-run r.store t cs' rs' x.0 w o.1)

    -- a fresh store lies so
    fresh-lies : (p : List ℕ) → (fresh_reply L most limit p).refusal ≡ 0 → room_for L gs ≤ length p → Lies (fresh_reply L most limit p).store
    unfolding seeded
    fresh-lies p e l =
        let b = fresh-fits L most limit p e in
        let t = rooted-tree L most limit m small p b.0 in
        rw (fresh-is L most limit p b.0 b.1) (record {
          places = rooted-places L most limit p;
          sound = rooted-sound L most limit m small p b.0 b.1;
          room = omega (arith, length-set p 0 (pack 0 0 (largest L) 0));
          within = λ f u. absurd (false≢true (subst (λ (x : TreeState L). seeded x.regions f ≡ true) t u));
          reaches = subst (λ (x : TreeState L). Reaches L (top L) x.tree (seeded gs) 0) (sym t) (reaches-empty L (top L) (seeded gs) 0);
        })

  -- NO CALLS ON THE REGIONS LACK POOL ROOM
  pub enough-room : EnoughRoom L most limit
  enough-room gs p e l cs rs s w o = roomy-run gs (fresh_reply L most limit p).store s cs rs (fresh-lies gs p e l) w o

  -- ... WHERE ROOM_FOR ANSWERED THE WORDS
  pub plans-enough : PlansEnough L most limit
  plans-enough s a e n w q z p f l cs rs t u o = go (roomy-dec rs)
    where
      gs : List Region
      gs = with_region L s a e

      by : Regions L most s.starts s.ends → Roomy rs
      by h = let x = planned n (region_refusal L most limit s a e) w (room_for L gs) z (q.sound h).0 (q.sound h).1 in enough-room gs p f (omega (arith, x, l)) cs rs t u o

      -- where the regions are not sound it answered 10
      go : Dec (Roomy rs) → Roomy rs
      go (yes h) = h
      go (no h) = absurd (omega (arith, z, (q.unsound (λ x. h (by x))).0))
