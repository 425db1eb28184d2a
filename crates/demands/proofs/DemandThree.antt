-- Demand 3 on words: what every run of calls from a fresh store keeps. Assumes a ladder of at most 7 codes whose sizes multiply up.
use mathlib.Core.Path.{◌≡◌, refl, sym, ap, ap₂, ◌∙◌, subst}
use mathlib.Core.Logic.{◌⊎◌, inl, inr, ◌≢◌}
use mathlib.Core.Bool.{Bool, true, false, cond}
use mathlib.Core.List.{List, [], ◌∷◌, reverse, reverse_aux}
use Prim.Native.Nat.{ℕ, zero, suc, ◌+◌, ◌*◌, ◌-◌, ◌%◌, ◌≤◌, ◌<◌}
use native.Mathlib.Omega.{arith}
use native.Mathlib.Nat.{add-mul}
use native.Mathlib.Decide.{ℕ_discrete}
use lib.Dec.{eqb}
use lib.ListN.{length, get_or, take, length-take}
use lib.Seq.{take_all}
use borrow.Author.Tests.{le-ltb, lt-leb, eq-eqb}
use Rattle.sizes.specs.Ladder.{Ladder, smallest, bytes, address_frame}
use Rattle.sizes.specs.Laws.{MultipliesUp}
use Rattle.model.specs.Ladder.{top}
use Rattle.model.specs.Frames.{bit, count}
use Rattle.model.specs.Calls.{Region, seeded, Fits, Regions, Call, seed, acquire, report, Answer, refused, stored, dealt, verdict}
use Rattle.model.specs.FrameStore.{Frames, memory, size, Same, frame_act, frame_step, refusals as frame_refusals}
use Rattle.model.specs.Tree.{empty}
use Rattle.model.specs.TreeStore.{State as TreeState, fresh as fresh_tree, step}
use Rattle.model.specs.Runs.{reckon}
use Rattle.model.specs.Demands.{SoundState, shown as tree_shown}
use Rattle.model.proofs.Frames.{count_add}
use Rattle.model.proofs.Free.{largest-empty, quiet-free}
use Rattle.model.proofs.Regions.{seeded-past}
use Rattle.model.proofs.FrameStore.{bare-iff}
use Rattle.model.proofs.Verdict.{never}
use Rattle.model.proofs.FrameRuns.{Split, free-unheld}
use Rattle.model.proofs.AnyStore.{reckon-refused, split-same, split_step, Inv, settled-answer}
use Rattle.model.proofs.Demand3.{answers}
use Rattle.pool.specs.Regions.{regions_of}
use Rattle.pool.proofs.Regions.{frame-bytes}
use Rattle.pool.proofs.With.{newest-length, count-is}
use Rattle.pages.specs.Frames.{is_free}
use Rattle.pages.specs.Calls.{Store, Reply, plain, SoundStore, shown, refusals, acted, lacks_room, refusal_of, served, Replies, fresh_reply, Places, tree_of}
use Rattle.demands.specs.Demands.{in_frames, answer_of, unaligned, asked, Runs, none, more, held, sown, region, Newly, fresh, next, Kept, Demand3}
use Rattle.pages.proofs.Shown.{sound-state, shown-same}
use Rattle.demands.proofs.Serves.{served-steps, served-leaves, served-regions}
use Rattle.demands.proofs.DemandOne.{refused-unchanged}
use Rattle.demands.proofs.DemandTwo.{answer-refused, replies-frames, replies-lowest}
use Rattle.demands.proofs.Rooted.{fresh-fits, rooted, fresh-is, rooted-places, rooted-tree, rooted-sound}

-- ---- the first n regions of a list, the newest first

-- what stands behind regions turned round fits
behind-fit : (N : ℕ) (rs qs : List Region) → Regions N (reverse_aux rs qs) → Regions N qs
behind-fit N [] qs k = k
behind-fit N (r ∷ rs) qs k = (behind-fit N rs (r ∷ qs) k).1

-- each region fits beside those before it
fits-older : (N : ℕ) (rs qs : List Region) (n : ℕ) (z : Region) → Regions N (reverse_aux rs qs) → n < length rs → Fits N (get_or rs n z) (reverse_aux (take n rs) qs)
fits-older N [] qs n z k l = absurd (omega arith)
fits-older N (r ∷ rs) qs zero z k l = (behind-fit N rs (r ∷ qs) k).0
fits-older N (r ∷ rs) qs (suc n) z k l = fits-older N rs (r ∷ qs) n z k (omega arith)

-- one more comes in front
next-older : (rs qs : List Region) (n : ℕ) (z : Region) → n < length rs → reverse_aux (take (suc n) rs) qs ≡ get_or rs n z ∷ reverse_aux (take n rs) qs
next-older [] qs n z l = absurd (omega arith)
next-older (r ∷ rs) qs zero z l = refl
next-older (r ∷ rs) qs (suc n) z l = next-older rs (r ∷ qs) n z (omega arith)

-- the n-th region of a state, in frames
region-at : (L : Ladder) (z : Region) (ss es : List ℕ) (n : ℕ) → n < length (regions_of L ss es) → get_or (regions_of L ss es) n z ≡ record { start = address_frame L (get_or ss n 0); end = address_frame L (get_or es n 0) }
unfolding regions_of
region-at L z [] es n l = absurd (omega arith)
region-at L z (s ∷ ss) [] n l = absurd (omega arith)
region-at L z (s ∷ ss) (e ∷ es) n l = go (eqb e 0) n (region-at L z ss es) l
  where
    go : (x : Bool) (n : ℕ) → ((i : ℕ) → i < length (regions_of L ss es) → get_or (regions_of L ss es) i z ≡ record { start = address_frame L (get_or ss i 0); end = address_frame L (get_or es i 0) })
        → n < length (cond x [] (record { start = address_frame L s; end = address_frame L e } ∷ regions_of L ss es))
        → get_or (cond x [] (record { start = address_frame L s; end = address_frame L e } ∷ regions_of L ss es)) n z ≡ record { start = address_frame L (get_or (s ∷ ss) n 0); end = address_frame L (get_or (e ∷ es) n 0) }
    go true n ih l = absurd (omega arith)
    go false zero ih l = refl
    go false (suc n) ih l = ih n (omega arith)

module _ (L : Ladder) (most limit : ℕ) where
  -- a report is never refused
  report-is : (s : Store) → SoundStore L most limit s → served L most limit s report ≡ acted L most limit s report
  unfolding served refusal_of refusals lacks_room acted
  report-is s h = rw (le-ltb (length s.pool) s.state.used h.high)

  -- a seed that is answered has the number 0
  pub stored-none : (a e : ℕ) (r : Reply) → answer_of L most limit (seed a e) r ≡ stored → r.refusal ≡ 0
  stored-none a e r q = go r.refusal q
    where
      go : (n : ℕ) → elim n [ zero ↦ stored | suc i ↦ refused (suc i) ] ≡ stored → n ≡ 0
      go zero q = refl
      go (suc n) q = absurd (never cc)

  -- what a run keeps: a sound store whose seeded frames are free or held
  pub record Keeps (s : Store) (h : ℕ → Bool) : Type 0 where
    pub places : Places L most limit s
    pub sound : SoundStore L most limit s
    pub split : Split L (shown L most limit s) h

module _ (L : Ladder) (most limit : ℕ) (m : MultipliesUp L) (small : suc (top L) < 8) where
  -- ---- a run

  module _ (s : Store) (h : ℕ → Bool) (k : Keeps L most limit s h) (c : Call) where
    -- the frame store, asked in bytes, keeps the split
    asked-split : Split L (asked L most limit (shown L most limit s) c).state (reckon L (in_frames L most limit c) (asked L most limit (shown L most limit s) c).answer h)
    asked-split = go (unaligned L most limit c) refl
      where
        go : (x : Bool) → unaligned L most limit c ≡ x → Split L (asked L most limit (shown L most limit s) c).state (reckon L (in_frames L most limit c) (asked L most limit (shown L most limit s) c).answer h)
        go true o = rw (o, reckon-refused L most (in_frames L most limit c) 2 h) k.split
        go false o = rw o (split_step L most (shown L most limit s) h k.split (in_frames L most limit c))

    module _ (r : Reply) (q : Replies L most limit s c r) where
      reply-split : Split L (shown L most limit r.store) (reckon L (in_frames L most limit c) (answer_of L most limit c r) h)
      reply-split = go (ℕ_discrete r.refusal 9)
        where
          go : Dec (r.refusal ≡ 9) → Split L (shown L most limit r.store) (reckon L (in_frames L most limit c) (answer_of L most limit c r) h)
          go (yes e) =
              let y : r ≡ plain 9 s = refused-unchanged L most limit s c r q (λ z. omega (arith, z, e)) ∙ ap (λ (i : ℕ). plain i s) e in
              rw (y, reckon-refused L most (in_frames L most limit c) 9 h) k.split
          go (no e) =
              let f = replies-frames L most limit m small s k.places k.sound c r q in
              let o = asked L most limit (shown L most limit s) c in
              rw (f.answer e) (split-same L most (shown L most limit r.store) o.state (reckon L (in_frames L most limit c) o.answer h) (f.leaves e) asked-split)

      -- a call keeps it
      pub keeps-next : Keeps L most limit r.store (reckon L (in_frames L most limit c) (answer_of L most limit c r) h)
      keeps-next =
          let v = served-leaves L most limit m small s c k.places k.sound in
          let x = ap (λ (z : Reply). z.store) (sym (q.sound k.sound)) in
          record { places = subst (Places L most limit) x v.places; sound = subst (SoundStore L most limit) x v.sound; split = reply-split }

      -- an accepted seed's region comes in front, and no other call changes the regions
      regions-next : (shown L most limit r.store).regions ≡ sown L most limit (c ∷ []) (r ∷ []) (shown L most limit s).regions
      regions-next = rw (q.sound k.sound) (served-regions L most limit m small s c k.places k.sound)

  -- all calls keep it
  keeps-run : (s t : Store) (cs : List Call) (rs : List Reply) (h : ℕ → Bool) → Keeps L most limit s h → Runs L most limit s cs rs t → Keeps L most limit t (held L most limit cs rs h)
  keeps-run s t cs rs h k none = k
  keeps-run s t cs rs h k (more {cs = cs'} {rs = rs'} c r q w) = keeps-run r.store t cs' rs' (reckon L (in_frames L most limit c) (answer_of L most limit c r) h) (keeps-next s h k c r q) w

  -- the regions are those of the accepted seeds
  regions-run : (s t : Store) (cs : List Call) (rs : List Reply) (h : ℕ → Bool) → Keeps L most limit s h → Runs L most limit s cs rs t → (shown L most limit t).regions ≡ sown L most limit cs rs (shown L most limit s).regions
  regions-run s t cs rs h k none = refl
  regions-run s t cs rs h k (more {cs = cs'} {rs = rs'} c r q w) = regions-run r.store t cs' rs' (reckon L (in_frames L most limit c) (answer_of L most limit c r) h) (keeps-next s h k c r q) w ∙ ap (sown L most limit cs' rs') (regions-next s h k c r q)

  -- ---- a fresh store

  -- a fresh tree offers nothing, and nothing is held
  nothing-split : Split L (tree_shown L (fresh_tree L)) (λ f. false)
  unfolding seeded
  nothing-split = record { adds = λ f l. omega (arith, ap bit (quiet-free L (top L) (empty (top L)) f (largest-empty (top L)))); out = λ f l. refl }

  rooted-same : (p : List ℕ) → 1 ≤ length p → Same L (shown L most limit (rooted L most limit p)) (tree_shown L (fresh_tree L))
  rooted-same p lo =
      let s = rooted L most limit p in
      let w = shown-same L most limit m small s in
      subst (λ (t : TreeState L). Same L (shown L most limit s) (tree_shown L t)) (rooted-tree L most limit m small p lo) (record { regions = refl; frames = λ f l. sym (w.frames f l) })

  -- a fresh store is sound, without regions, and holds nothing
  pub fresh_keeps : (p : List ℕ) → (fresh_reply L most limit p).refusal ≡ 0 → Keeps L most limit (fresh_reply L most limit p).store (λ f. false)
  fresh_keeps p e =
      let b = fresh-fits L most limit p e in
      rw (fresh-is L most limit p b.0 b.1) (record {
        places = rooted-places L most limit p;
        sound = rooted-sound L most limit m small p b.0 b.1;
        split = split-same L most (shown L most limit (rooted L most limit p)) (tree_shown L (fresh_tree L)) (λ f. false) (rooted-same p b.0) nothing-split;
      })

  pub fresh-regions : (p : List ℕ) → (fresh_reply L most limit p).refusal ≡ 0 → (shown L most limit (fresh_reply L most limit p).store).regions ≡ []
  fresh-regions p e = let b = fresh-fits L most limit p e in rw (fresh-is L most limit p b.0 b.1) (rooted-same p b.0).regions

  -- ---- what is kept says

  -- free and held bytes are the seeded ones
  free-held : (s : Store) (h : ℕ → Bool) → Keeps L most limit s h → (r : Reply) → Replies L most limit s report r → r.free + count h (memory L) * bytes L smallest ≡ r.seeded
  unfolding acted
  free-held s h k r q =
      let S = seeded (shown L most limit s).regions in
      let F = is_free L s.pool in
      let b = bytes L smallest in
      rw (q.sound k.sound ∙ report-is L most limit s k.sound)
      (omega (arith, ap (λ (x : ℕ). x * b) (count_add S F h (memory L) k.split.adds), add-mul (count F (memory L)) (count h (memory L)) b))

  -- the frames of regions that are all free
  abbrev all_free : List Region → Frames
  all_free rs = record { free = seeded rs; regions = rs }

  -- where nothing is held, an acquire is answered by the regions alone
  by-regions : (s : Store) (h : ℕ → Bool) → Keeps L most limit s h → ((f : ℕ) → h f ≡ false) → (c : ℕ) (r : Reply) → Replies L most limit s (acquire c) r → r.refusal ≢ 9
      → answer_of L most limit (acquire c) r ≡ (frame_step L most (all_free (shown L most limit s).regions) (acquire c)).answer
  by-regions s h k e c r q z =
      let n = length s.pool in
      let w = ap (answer_of L most limit (acquire c)) (q.sound k.sound) ∙ (served-steps L most limit m small s (acquire c) k.places k.sound refl).answer in
      let i : Inv L most (fresh_tree L) (step L most n) (tree_shown L) (SoundState L most n) (answers L most n) (record { state = tree_of L most limit s; held = h }) =
      record { good = sound-state L most limit m small s k.places k.sound; split = split-same L most (tree_shown L (tree_of L most limit s)) (shown L most limit s) h (shown-same L most limit m small s) k.split } in
      w ∙ settled-answer L most (fresh_tree L) (step L most n) (tree_shown L) (SoundState L most n) (answers L most n) (record { state = tree_of L most limit s; held = h }) i e (acquire c) (λ u. z ((answer-refused L most limit (acquire c) r 8).1 (w ∙ u)))

  -- a refusal has no base
  refused-base : (s : Store) (h : ℕ → Bool) → Keeps L most limit s h → (c : Call) (r : Reply) → Replies L most limit s c r → (k : ℕ) → r.refusal ≡ suc k → r.base ≡ 0
  refused-base s h w c r q k e = ap (λ (z : Reply). z.base) (refused-unchanged L most limit s c r q (λ z. omega (arith, z, e)))

  -- acquires of the same answer have the same number and base
  same_base : (s t : Store) (h i : ℕ → Bool) → Keeps L most limit s h → Keeps L most limit t i → (c : ℕ) (r r' : Reply) → Replies L most limit s (acquire c) r → Replies L most limit t (acquire c) r'
      → answer_of L most limit (acquire c) r ≡ answer_of L most limit (acquire c) r' → (r.refusal ≡ r'.refusal) × (r.base ≡ r'.base)
  same_base s t h i k j c r r' q q' z = go r.refusal r'.refusal refl refl z
    where
      go : (u v : ℕ) → r.refusal ≡ u → r'.refusal ≡ v
          → ◌≡◌ {A = Answer} (elim u [ zero ↦ dealt (address_frame L r.base) r.probes | suc n ↦ refused (suc n) ]) (elim v [ zero ↦ dealt (address_frame L r'.base) r'.probes | suc n ↦ refused (suc n) ])
          → (u ≡ v) × (r.base ≡ r'.base)
      go zero zero e e' z =
          let b : address_frame L r.base ≡ address_frame L r'.base = cc in
          let w = (replies-frames L most limit m small s k.places k.sound (acquire c) r q).bytes.0 in
          let w' = (replies-frames L most limit m small t j.places j.sound (acquire c) r' q').bytes.0 in
          (refl, sym (frame-bytes L m r.base w) ∙ ap (λ (x : ℕ). x * bytes L smallest) b ∙ frame-bytes L m r'.base w')
      go zero (suc v) e e' z = absurd (never cc)
      go (suc u) zero e e' z = absurd (never cc)
      go (suc u) (suc v) e e' z = let b : suc u ≡ suc v = cc in (b, refused-base s h k (acquire c) r q u e ∙ sym (refused-base t i j (acquire c) r' q' v e'))

  -- ---- seeding anew with the regions of a sound store
  module _ (s : Store) (a : Places L most limit s) (h : SoundStore L most limit s) where
    abbrev seeded_as : List Region
    seeded_as = regions_of L s.state.starts s.state.ends

    -- the n-th region, in frames
    abbrev nth : ℕ → Region
    nth n = record { start = address_frame L (get_or s.state.starts n 0); end = address_frame L (get_or s.state.ends n 0) }

    -- the store t holds nothing and has the first n regions, the newest first
    record Anew (n : ℕ) (t : Store) : Type 0 where
      keeps : Keeps L most limit t (λ f. false)
      regions : (shown L most limit t).regions ≡ reverse (take n seeded_as)

    -- regions are whole pages
    region-aligned : (n : ℕ) → n < length seeded_as → unaligned L most limit (region L most limit s n) ≡ false
    region-aligned n l =
        let x = h.regions.aligned n (omega (arith, l, count-is L most s.state.starts s.state.ends h.regions a.starts a.ends)) in
        rw (eq-eqb (get_or s.state.starts n 0 % bytes L smallest) 0 x.0, eq-eqb (get_or s.state.ends n 0 % bytes L smallest) 0 x.1)

    -- the n-th fits beside those before it
    nth-fits : (n : ℕ) → n < length seeded_as → Fits (memory L) (nth n) (reverse (take n seeded_as))
    nth-fits n l = subst (λ (r : Region). Fits (memory L) r (reverse (take n seeded_as))) (region-at L (nth n) s.state.starts s.state.ends n l)
        (fits-older (memory L) seeded_as [] n (nth n) (sound-state L most limit m small s a h).fit l)

    -- so the frame store takes it
    takes : (n : ℕ) (t : Store) → n < length seeded_as → (shown L most limit t).regions ≡ reverse (take n seeded_as) → verdict (frame_refusals L most (shown L most limit t) (in_frames L most limit (region L most limit s n))) ≡ 0
    unfolding frame_refusals
    takes n t l e =
        let k = nth-fits n l in
        let few : length (reverse (take n seeded_as)) < most = omega (
          arith,
          l,
          newest-length (take n seeded_as),
          length-take n seeded_as,
          newest-length seeded_as,
          (sound-state L most limit m small s a h).few,
        ) in
        rw (
          e,
          lt-leb (nth n).end (nth n).start k.some,
          le-ltb (memory L) (nth n).end k.ends,
          lt-leb most (length (reverse (take n seeded_as))) few,
          (bare-iff (seeded (reverse (take n seeded_as))) (nth n).start ((nth n).end - (nth n).start)).1 k.alone,
        )

    asked-takes : (n : ℕ) (t : Store) → n < length seeded_as → (shown L most limit t).regions ≡ reverse (take n seeded_as)
        → ((asked L most limit (shown L most limit t) (region L most limit s n)).answer ≡ stored) × ((asked L most limit (shown L most limit t) (region L most limit s n)).state.regions ≡ nth n ∷ (shown L most limit t).regions)
    unfolding frame_step frame_act
    asked-takes n t l e = rw (region-aligned n l, takes n t l e) (refl, refl)

    -- a newly seeded store has the first regions
    anew : (n : ℕ) (t : Store) → Newly L most limit s n t → n ≤ length seeded_as → Anew n t
    anew n t (fresh p e) l = record { keeps = fresh_keeps p e; regions = fresh-regions p e }
    anew n t (next {n = k} {t = u} r w q e) l =
        let i = anew k u w (omega arith) in
        let f = replies-frames L most limit m small u i.keeps.places i.keeps.sound (region L most limit s k) r q in
        let lt : k < length seeded_as = omega arith in
        record {
          keeps = keeps-next u (λ f. false) i.keeps (region L most limit s k) r q;
          regions = (f.leaves (λ z. absurd (omega (arith, e, z)))).regions ∙ (asked-takes k u lt i.regions).1
              ∙ ap₂ (λ (x : Region) (xs : List Region). x ∷ xs) (sym (region-at L (nth k) s.state.starts s.state.ends k lt)) i.regions ∙ sym (next-older seeded_as [] k (nth k) lt);
        }

    -- the next region is taken, unless pool room is missing
    takes-next : (n : ℕ) (t : Store) (r : Reply) → n < length (shown L most limit s).regions → Newly L most limit s n t → Replies L most limit t (region L most limit s n) r → (r.refusal ≡ 0) ⊎ (r.refusal ≡ 9)
    takes-next n t r l w q = go (ℕ_discrete r.refusal 9)
      where
        lt : n < length seeded_as
        lt = omega (arith, l, newest-length seeded_as)

        go : Dec (r.refusal ≡ 9) → (r.refusal ≡ 0) ⊎ (r.refusal ≡ 9)
        go (yes e) = inr e
        go (no e) =
            let i = anew n t w (omega (arith, lt)) in
            let f = replies-frames L most limit m small t i.keeps.places i.keeps.sound (region L most limit s n) r q in
            inl (stored-none L most limit (get_or s.state.starts n 0) (get_or s.state.ends n 0) r (f.answer e ∙ (asked-takes n t lt i.regions).0))

    -- with all regions it shows those of s
    all-anew : (t : Store) → Newly L most limit s (length (shown L most limit s).regions) t → Keeps L most limit t (λ f. false) × ((shown L most limit t).regions ≡ (shown L most limit s).regions)
    all-anew t w =
        let n = length (shown L most limit s).regions in
        let i = anew n t w (omega (arith, newest-length seeded_as)) in
        (i.keeps, i.regions ∙ ap reverse (take_all n seeded_as (omega (arith, newest-length seeded_as))))

  -- what a run keeps is what demand 3 asks
  kept : (s : Store) (h : ℕ → Bool) → Keeps L most limit s h → Kept L most limit s (shown L most limit s).regions h
  kept s h k = record {
    sound = k.sound;
    seeds = refl;
    split = k.split.adds;
    beyond = λ f l. (seeded-past (memory L) (shown L most limit s).regions (sound-state L most limit m small s k.places k.sound).fit f l, k.split.out f l);
    totals = free-held s h k;
    unheld = λ c r q e.
        let w = (replies-lowest L most limit m small s k.places k.sound c r q).deals e in
        free-unheld L (shown L most limit s) h k.split (address_frame L r.base) (size L c) w.fits w.whole;
    reseeds = takes-next s k.places k.sound;
    settled = λ e t w c r r' q q' x y.
        let i = all-anew s k.places k.sound t w in
        same_base s t h (λ f. false) k i.0 c r r' q q' (
        by-regions s h k e c r q x ∙ ap (λ (rs : List Region). (frame_step L most (all_free rs) (acquire c)).answer) (sym i.1) ∙ sym (by-regions t (λ f. false) i.0 (λ f. refl) c r' q' y)
        );
  }

  -- DEMAND 3
  pub demand3 : Demand3 L most limit
  demand3 p e cs rs s w =
      let t = (fresh_reply L most limit p).store in
      let h = held L most limit cs rs (λ f. false) in
      let k = fresh_keeps p e in
      subst (λ (gs : List Region). Kept L most limit s gs h) (regions-run t s cs rs (λ f. false) k w ∙ ap (sown L most limit cs rs) (fresh-regions p e)) (kept s h (keeps-run t s cs rs (λ f. false) k w))
