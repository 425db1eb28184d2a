-- On a sound store every call is served as the tree store serves it in frames, and leaves the store sound. Assumes a ladder of at most 7 codes whose sizes multiply up.
use mathlib.Core.Path.{◌≡◌, refl, sym, ap, ◌∙◌}
use mathlib.Core.Logic.{◌⊎◌, inl, inr}
use mathlib.Core.Bool.{Bool, true, false, true≢false}
use mathlib.Core.List.{List, [], ◌∷◌, ◌++◌}
use Prim.Native.Nat.{ℕ, zero, suc, ◌%◌, ◌≤◌, ◌<◌}
use native.Mathlib.Omega.{arith}
use native.Mathlib.Nat.{zero-mod}
use lib.ListN.{length}
use borrow.Author.Tests.{ltb-true, ltb-false}
use Rattle.sizes.specs.Ladder.{Ladder, smallest, largest, bytes}
use Rattle.sizes.specs.Laws.{MultipliesUp}
use Rattle.model.specs.Ladder.{top}
use Rattle.model.specs.Calls.{Call, seed, acquire, release, report, Test, refuse, verdict, refused}
use Rattle.model.specs.FrameStore.{Frames, frame_act, frame_step, refusals as frame_refusals}
use Rattle.model.specs.TreeStore.{State as TreeState, used, act, step, tests}
use Rattle.model.specs.Demands.{AsFrames}
use Rattle.model.proofs.Demand2.{demand2}
use Rattle.model.proofs.Verdict.{never}
use Rattle.pages.specs.Calls.{Store, Reply, plain, SoundStore, shown, refusals, refusal_of, acted, lacks_room, served, Places, tree_of}
use Rattle.demands.specs.Demands.{in_frames, result_of, answer_of, unaligned, sown}
use Rattle.pages.proofs.Shown.{sound-state, shown-same}
use Rattle.demands.proofs.Aligned.{Aligned, refusals-frames, refusals-unaligned, unaligned-or, refusals-none}
use Rattle.demands.proofs.Acts.{Acted, lacks-is, acted-is}

-- every refusal of the list has a number
abbrev Numbered : List Test → Type 0
Numbered [] = Unit {0}
Numbered (refuse n v ∷ ts) = (0 < n) × Numbered ts

-- tests behind others: a refusal of the first ones stands
verdict-kept : (ts us : List Test) (k : ℕ) → verdict ts ≡ suc k → verdict (ts ++ us) ≡ suc k
verdict-kept [] us k e = absurd (omega arith)
verdict-kept (refuse n true ∷ ts) us k e = e
verdict-kept (refuse n false ∷ ts) us k e = verdict-kept ts us k e

-- ... and without one the others decide
verdict-last : (ts us : List Test) → Numbered ts → verdict ts ≡ 0 → verdict (ts ++ us) ≡ verdict us
verdict-last [] us p e = refl
verdict-last (refuse n true ∷ ts) us p e = absurd (omega (arith, p.0))
verdict-last (refuse n false ∷ ts) us p e = verdict-last ts us p.1 e

-- the frame store's act is no refusal
pub frame-never : (L : Ladder) (g : Frames) (c : Call) (k : ℕ) → (frame_act L g c).answer ≡ refused k → ⊥
unfolding frame_act
frame-never L g (seed a e) k q = never cc
frame-never L g (acquire d) k q = never cc
frame-never L g (release b d) k q = never cc
frame-never L g report k q = never cc

-- a step of the tree store, by what the frame store says of the call
module _ (L : Ladder) (most n : ℕ) (t : TreeState L) (g : Frames) (c : Call) (h : AsFrames L most n t g c) where
  -- refused by the frames, it is refused alike
  pub step-refused : (k : ℕ) → verdict (frame_refusals L most g c) ≡ suc k → ((step L most n t c).answer ≡ refused (suc k)) × ((step L most n t c).state ≡ t)
  unfolding frame_step
  step-refused k v = let a : (step L most n t c).answer ≡ refused (suc k) = h.answer (λ q. absurd (omega (arith, v, (h.nine.0 q).0))) ∙ rw v in (a, h.refusal (suc k) a)

  -- accepted by the frames without room, it is refused by 9
  step-nine : verdict (frame_refusals L most g c) ≡ 0 → n < used L (act L t c).state.tree → ((step L most n t c).answer ≡ refused 9) × ((step L most n t c).state ≡ t)
  step-nine v l = let a = h.nine.1 (v, l) in (a, h.refusal 9 a)

  -- accepted by the frames with room, it is the act
  pub step-acts : verdict (frame_refusals L most g c) ≡ 0 → used L (act L t c).state.tree ≤ n → step L most n t c ≡ act L t c
  unfolding step frame_step
  step-acts v l = go (verdict (tests L most n t c)) refl (h.answer (λ q. absurd (omega (arith, l, (h.nine.0 q).1))) ∙ rw v)
    where
      go : (k : ℕ) → verdict (tests L most n t c) ≡ k → (step L most n t c).answer ≡ (frame_act L g c).answer → step L most n t c ≡ act L t c
      go zero e q = rw e
      go (suc k) e q = absurd (frame-never L g c (suc k) (sym q ∙ rw e))

module _ (L : Ladder) (most limit : ℕ) where
  -- the reply to a call on a store is the tree store's step in frames
  pub record Steps (s : Store) (c : Call) (r : Reply) : Type 0 where
    pub answer : answer_of L most limit c r ≡ (step L most (length s.pool) (tree_of L most limit s) (in_frames L most limit c)).answer
    pub tree : tree_of L most limit r.store ≡ (step L most (length s.pool) (tree_of L most limit s) (in_frames L most limit c)).state

  -- what every reply on a sound store leaves
  pub record Leaves (s : Store) (r : Reply) : Type 0 where
    pub sound : SoundStore L most limit r.store
    pub places : Places L most limit r.store
    pub length : length r.store.pool ≡ length s.pool
    pub bytes : (r.base % bytes L smallest ≡ 0) × (r.seeded % bytes L smallest ≡ 0) × (r.free % bytes L smallest ≡ 0)

  -- a call is refused on both sides, or accepted on both
  data Sides (s : Store) (c : Call) : Type 0 where
    refuses : (k : ℕ) → refusal_of L most limit s c ≡ suc k → (step L most (length s.pool) (tree_of L most limit s) (in_frames L most limit c)).answer ≡ refused (suc k)
        → (step L most (length s.pool) (tree_of L most limit s) (in_frames L most limit c)).state ≡ tree_of L most limit s → Sides s c
    accepts : refusal_of L most limit s c ≡ 0 → Acted L most limit s c
        → step L most (length s.pool) (tree_of L most limit s) (in_frames L most limit c) ≡ act L (tree_of L most limit s) (in_frames L most limit c) → Sides s c

  -- the refusals of every call have numbers
  numbered : (g : Frames) (c : Call) → Numbered (refusals L most limit g c)
  unfolding refusals
  numbered g (seed a e) = omega arith
  numbered g (acquire c) = omega arith
  numbered g (release b c) = omega arith
  numbered g report = tt

  -- the refusal number: the tests' over frames, and 9 behind them
  refusal-kept : (s : Store) (c : Call) (k : ℕ) → verdict (refusals L most limit (shown L most limit s) c) ≡ suc k → refusal_of L most limit s c ≡ suc k
  unfolding refusal_of
  refusal-kept s c k v = verdict-kept (refusals L most limit (shown L most limit s) c) (refuse 9 (lacks_room L most limit s c) ∷ []) k v

  refusal-last : (s : Store) (c : Call) (x : Bool) → verdict (refusals L most limit (shown L most limit s) c) ≡ 0 → lacks_room L most limit s c ≡ x → refusal_of L most limit s c ≡ verdict (refuse 9 x ∷ [])
  unfolding refusal_of
  refusal-last s c x v e = verdict-last (refusals L most limit (shown L most limit s) c) (refuse 9 (lacks_room L most limit s c) ∷ []) (numbered (shown L most limit s) c) v ∙ ap (λ (y : Bool). verdict (refuse 9 y ∷ [])) e

  -- an accepted call answers its results
  acted-answer : (s : Store) (c : Call) → answer_of L most limit c (acted L most limit s c) ≡ result_of L most limit c (acted L most limit s c)
  unfolding acted
  acted-answer s (seed a e) = refl
  acted-answer s (acquire c) = refl
  acted-answer s (release b c) = refl
  acted-answer s report = refl

  -- ... and the tree store's act puts a seed's region in front
  acted-sows : (s : Store) (c : Call) → (act L (tree_of L most limit s) (in_frames L most limit c)).state.regions ≡ sown L most limit (c ∷ []) (acted L most limit s c ∷ []) (shown L most limit s).regions
  unfolding act acted
  acted-sows s (seed a e) = refl
  acted-sows s (acquire c) = refl
  acted-sows s (release b c) = refl
  acted-sows s report = refl

  -- a refusal leaves the store
  leaves-plain : (s : Store) (k : ℕ) → Places L most limit s → SoundStore L most limit s → Leaves s (plain k s)
  leaves-plain s k a h = record { sound = h; places = a; length = refl; bytes = (zero-mod (bytes L smallest), zero-mod (bytes L smallest), zero-mod (bytes L smallest)) }

  module _ (m : MultipliesUp L) (small : suc (top L) < 8) where
    -- a call with an unaligned address gets 2 and leaves the store
    pub served-unaligned : (s : Store) (c : Call) → unaligned L most limit c ≡ true → served L most limit s c ≡ plain 2 s
    unfolding served
    served-unaligned s c o = let e : refusal_of L most limit s c ≡ 2 = refusal-kept s c 1 (refusals-unaligned L most limit m small (shown L most limit s) c o) in rw e

    module _ (s : Store) (c : Call) (a : Places L most limit s) (h : SoundStore L most limit s) where
      -- the tree that the words hold answers as the frames do
      pub as-frames : AsFrames L most (length s.pool) (tree_of L most limit s) (shown L most limit s) (in_frames L most limit c)
      as-frames = demand2 L most (length s.pool) (tree_of L most limit s) (shown L most limit s) (sound-state L most limit m small s a h) (shown-same L most limit m small s) (in_frames L most limit c)

      -- refused by the frames
      sides-refused : (k : ℕ) → verdict (refusals L most limit (shown L most limit s) c) ≡ suc k → verdict (frame_refusals L most (shown L most limit s) (in_frames L most limit c)) ≡ suc k → Sides s c
      sides-refused k v w =
          let r = step-refused L most (length s.pool) (tree_of L most limit s) (shown L most limit s) (in_frames L most limit c) as-frames k w in
          refuses k (refusal-kept s c k v) r.0 r.1

      -- accepted by the frames, with room or without
      sides-room : (x : Bool) → Aligned L c → verdict (refusals L most limit (shown L most limit s) c) ≡ 0 → verdict (frame_refusals L most (shown L most limit s) (in_frames L most limit c)) ≡ 0 → lacks_room L most limit s c ≡ x → Sides s c
      sides-room true k v w e =
          let l = ltb-true (length s.pool) (used L (act L (tree_of L most limit s) (in_frames L most limit c)).state.tree) (sym (lacks-is L most limit m small s c a h k w) ∙ e) in
          let r = step-nine L most (length s.pool) (tree_of L most limit s) (shown L most limit s) (in_frames L most limit c) as-frames w l in
          refuses 8 (refusal-last s c true v e) r.0 r.1
      sides-room false k v w e =
          let l = ltb-false (length s.pool) (used L (act L (tree_of L most limit s) (in_frames L most limit c)).state.tree) (sym (lacks-is L most limit m small s c a h k w) ∙ e) in
          accepts (refusal-last s c false v e) (acted-is L most limit m small s c a h k w e)
          (step-acts L most (length s.pool) (tree_of L most limit s) (shown L most limit s) (in_frames L most limit c) as-frames w l)

      -- of a call whose addresses are whole pages
      sides-aligned : Aligned L c → Sides s c
      sides-aligned k = go (verdict (refusals L most limit (shown L most limit s) c)) refl (refusals-frames L most limit m small (shown L most limit s) c k)
        where
          go : (u : ℕ) → verdict (refusals L most limit (shown L most limit s) c) ≡ u → verdict (refusals L most limit (shown L most limit s) c) ≡ verdict (frame_refusals L most (shown L most limit s) (in_frames L most limit c)) → Sides s c
          go zero v e = sides-room (lacks_room L most limit s c) k v (sym e ∙ v) refl
          go (suc u) v e = sides-refused u v (sym e ∙ v)

    -- of a release whose code is none
    sides-none : (s : Store) (b k : ℕ) → Places L most limit s → SoundStore L most limit s → (k ≡ 0) ⊎ (largest L < k) → Sides s (release b k)
    sides-none s b k a h z = let r = refusals-none L most limit m small (shown L most limit s) b k z in sides-refused s (release b k) a h 0 r.0 r.1

    -- of every call without an unaligned address
    sides : (s : Store) (c : Call) → Places L most limit s → SoundStore L most limit s → unaligned L most limit c ≡ false → Sides s c
    sides s c a h o = go (unaligned-or L most limit m small c)
      where
        go : (unaligned L most limit c ≡ true) ⊎ (Aligned L c ⊎ ((b k : ℕ) × (c ≡ release b k) × ((k ≡ 0) ⊎ (largest L < k)))) → Sides s c
        go (inl e) = absurd (true≢false (sym e ∙ o))
        go (inr (inl k)) = sides-aligned s c a h k
        go (inr (inr x)) = rw x.2 (sides-none s x.0 x.1 a h x.3)

    -- SERVED IS THE TREE STORE'S STEP
    pub served-steps : (s : Store) (c : Call) → Places L most limit s → SoundStore L most limit s → unaligned L most limit c ≡ false → Steps s c (served L most limit s c)
    unfolding served
    served-steps s c a h o = go (sides s c a h o)
      where
        go : Sides s c → Steps s c (served L most limit s c)
        go (refuses k e x y) = rw (e, served) (record { answer = sym x; tree = sym y })
        go (accepts e r x) = rw (e, served) (record { answer = acted-answer s c ∙ r.answer ∙ sym (rw x); tree = r.tree ∙ sym (rw x) })

    -- SERVED LEAVES A SOUND STORE
    pub served-leaves : (s : Store) (c : Call) → Places L most limit s → SoundStore L most limit s → Leaves s (served L most limit s c)
    unfolding served
    served-leaves s c a h = go (unaligned L most limit c) refl
      where
        by : Sides s c → Leaves s (served L most limit s c)
        by (refuses k e x y) = rw (e, served) (leaves-plain s (suc k) a h)
        by (accepts e r x) = rw (e, served) (record { sound = r.sound; places = r.places; length = r.length; bytes = r.bytes })

        go : (x : Bool) → unaligned L most limit c ≡ x → Leaves s (served L most limit s c)
        go true o = rw (served-unaligned s c o) (leaves-plain s 2 a h)
        go false o = by (sides s c a h o)

    -- ITS REGIONS: an accepted seed's comes in front, and no other call changes them
    pub served-regions : (s : Store) (c : Call) → Places L most limit s → SoundStore L most limit s
        → (shown L most limit (served L most limit s c).store).regions ≡ sown L most limit (c ∷ []) (served L most limit s c ∷ []) (shown L most limit s).regions
    unfolding served
    served-regions s c a h = go (unaligned L most limit c) refl
      where
        by : Sides s c → (shown L most limit (served L most limit s c).store).regions ≡ sown L most limit (c ∷ []) (served L most limit s c ∷ []) (shown L most limit s).regions
        by (refuses k e x y) = rw (e, served) refl
        by (accepts e r x) = rw (e, served) (ap (λ (t : TreeState L). t.regions) r.tree ∙ acted-sows s c)

        go : (x : Bool) → unaligned L most limit c ≡ x → (shown L most limit (served L most limit s c).store).regions ≡ sown L most limit (c ∷ []) (served L most limit s c ∷ []) (shown L most limit s).regions
        go true o = rw (served-unaligned s c o) refl
        go false o = by (sides s c a h o)
