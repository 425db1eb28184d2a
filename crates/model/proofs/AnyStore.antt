-- Demand 3 of any store whose sound states answer as the frame store does: the tree's here, the pool's above. Assumes nothing of the store but that.
use mathlib.Core.Path.{◌≡◌, refl, sym, ap, ◌∙◌, subst}
use mathlib.Core.Logic.{◌≢◌}
use mathlib.Core.Bool.{Bool, true, false}
use mathlib.Core.List.{List, [], ◌∷◌}
use Prim.Native.Nat.{ℕ, zero, suc, ◌*◌, ◌-◌, ◌≤◌, ◌<◌}
use native.Mathlib.Omega.{arith}
use native.Mathlib.Decide.{ℕ_discrete}
use lib.ListN.{length}
use borrow.Author.Tests.{lt-leb, le-ltb}
use Rattle.sizes.specs.Ladder.{Ladder}
use Rattle.model.specs.Frames.{Wholly, bit}
use Rattle.model.specs.Calls.{Region, seeded, Fits, Regions, Call, seed, acquire, release, report, Answer, refused, stored, dealt, reported, verdict, Outcome, settle}
use Rattle.model.specs.FrameStore.{Frames, memory, size, lowest_free, Same, frame_act, refusals, frame_step}
use Rattle.model.specs.Runs.{Run, start, reckon, next, run, reseed, Roomy}
use Rattle.model.proofs.Frames.{bit-zero, bit-one}
use Rattle.model.proofs.FrameStore.{bare-iff, same_self}
use Rattle.model.proofs.Verdict.{never}
use Rattle.model.proofs.FrameRuns.{dealable, Split, free-unheld, split-act}

-- is the answer 9
nine : (x : Answer) → Dec (x ≡ refused 9)
nine (refused k) = elim (ℕ_discrete k 9) [ yes e ↦ yes (ap refused e) | no e ↦ no (λ z. e cc) ]
nine stored = no (λ z. never cc)
nine (dealt b p) = no (λ z. never cc)
nine (reported x y w) = no (λ z. never cc)

module _ (L : Ladder) (most : ℕ) where
  -- a refusal holds nothing new
  pub reckon-refused : (c : Call) (k : ℕ) (h : ℕ → Bool) → reckon L c (refused k) h ≡ h
  reckon-refused (seed a e) k h = refl
  reckon-refused (acquire c) k h = refl
  reckon-refused (release b c) k h = refl
  reckon-refused report k h = refl

  -- the frame store's split depends on the frames of memory alone
  pub split-same : (g g' : Frames) (h : ℕ → Bool) → Same L g g' → Split L g' h → Split L g h
  split-same g g' h s k = record {
    adds = λ f l. rw s.regions (omega (arith, k.adds f l, ap bit (s.frames f l)));
    out = k.out;
  }

  -- a call of the frame store keeps the split, refused or not
  pub split_step : (g : Frames) (h : ℕ → Bool) → Split L g h → (c : Call) → Split L (frame_step L most g c).state (reckon L c (frame_step L most g c).answer h)
  unfolding frame_step
  split_step g h k c = go (verdict (refusals L most g c)) refl
    where
      go : (v : ℕ) → verdict (refusals L most g c) ≡ v → Split L (settle v g (frame_act L g c)).state (reckon L c (settle v g (frame_act L g c)).answer h)
      go zero e = split-act L most g h k c e
      go (suc v) e = rw (reckon-refused c (suc v) h) k

  -- the sound states of a store answer as the frame store, for any frames that they show; they stay sound, and 9 leaves them
  pub record Answers {S : Type 0} (step : S → Call → Outcome S) (shown : S → Frames) (Good : S → Type 0) : Type 0 where
    pub keeps : (s : S) → Good s → (c : Call) → Good (step s c).state
    pub answer : (s : S) (g : Frames) → Good s → Same L (shown s) g → (c : Call) → (step s c).answer ≢ refused 9 → (step s c).answer ≡ (frame_step L most g c).answer
    pub leaves : (s : S) (g : Frames) → Good s → Same L (shown s) g → (c : Call) → (step s c).answer ≢ refused 9 → Same L (shown (step s c).state) (frame_step L most g c).state
    pub stays : (s : S) → Good s → (c : Call) → (step s c).answer ≡ refused 9 → (step s c).state ≡ s

  module _ {S : Type 0} (fresh : S) (step : S → Call → Outcome S) (shown : S → Frames) (Good : S → Type 0) (a : Answers step shown Good) where
    -- what a run keeps
    pub record Inv (r : Run S) : Type 0 where
      pub good : Good r.state
      pub split : Split L (shown r.state) r.held

    pub inv-next : (r : Run S) → Inv r → (c : Call) → Inv (next L step r c)
    inv-next r i c = record { good = a.keeps r.state i.good c; split = go (nine (step r.state c).answer) }
      where
        go : Dec ((step r.state c).answer ≡ refused 9) → Split L (shown (step r.state c).state) (reckon L c (step r.state c).answer r.held)
        go (yes e) = rw (e, a.stays r.state i.good c e, reckon-refused c 9 r.held) i.split
        go (no e) = rw (a.answer r.state (shown r.state) i.good (same_self L (shown r.state)) c e)
            (split-same (shown (step r.state c).state) (frame_step L most (shown r.state) c).state (reckon L c (frame_step L most (shown r.state) c).answer r.held)
            (a.leaves r.state (shown r.state) i.good (same_self L (shown r.state)) c e) (split_step (shown r.state) r.held i.split c))

    pub inv-run : (cs : List Call) (r : Run S) → Inv r → Inv (run L step r cs)
    unfolding run
    inv-run [] r i = i
    inv-run (c ∷ cs) r i = inv-run cs (next L step r c) (inv-next r i c)

    -- no acquire deals a held frame
    pub deals-unheld : (r : Run S) → Inv r → (c b p : ℕ) → (step r.state (acquire c)).answer ≡ dealt b p → Wholly r.held b (size L c) false
    unfolding frame_step frame_act
    deals-unheld r i c b p e = go (verdict (refusals L most g (acquire c))) refl (sym (a.answer r.state g i.good (same_self L g) (acquire c) (λ z. never cc)) ∙ e)
      where
        g : Frames
        g = shown r.state

        go : (v : ℕ) → verdict (refusals L most g (acquire c)) ≡ v → (settle v g (frame_act L g (acquire c))).answer ≡ dealt b p → Wholly r.held b (size L c) false
        go zero v u =
            let x : lowest_free L g.free c * size L c ≡ b = cc in
            let d = dealable L most g c v in
            rw x at (free-unheld L g r.held i.split (lowest_free L g.free c * size L c) (size L c) d.fits d.whole)
        go (suc k) v u = absurd (never cc)

    -- where nothing is held, the free frames are the seeded ones
    pub unheld-free : (r : Run S) → Inv r → ((f : ℕ) → r.held f ≡ false) → Same L (shown r.state) (record { free = seeded (shown r.state).regions; regions = (shown r.state).regions })
    unheld-free r i e = record { regions = refl; frames = λ f l. bit_inj ((shown r.state).free f) (seeded (shown r.state).regions f) (omega (arith, i.split.adds f l, ap bit (e f))) }
      where
        bit_inj : (v w : Bool) → bit v ≡ bit w → v ≡ w
        bit_inj true w k = sym (bit-one w (omega arith))
        bit_inj false w k = sym (bit-zero w (omega arith))

    -- a store of which the frames shown are the seeded ones answers an acquire by its regions alone
    pub settled-answer : (r : Run S) → Inv r → ((f : ℕ) → r.held f ≡ false) → (c : Call) → (step r.state c).answer ≢ refused 9
        → (step r.state c).answer ≡ (frame_step L most (record { free = seeded (shown r.state).regions; regions = (shown r.state).regions }) c).answer
    settled-answer r i e c z = a.answer r.state (record { free = seeded (shown r.state).regions; regions = (shown r.state).regions }) i.good (unheld-free r i e) c z

    -- seeding anew: it holds nothing, keeps what a run keeps, and takes all regions unless it lacks pool room
    pub reseed-inv : Inv (start fresh) → (rs : List Region) → Inv (reseed L step fresh rs)
    unfolding reseed
    reseed-inv i [] = i
    reseed-inv i (r ∷ rs) = inv-next (reseed L step fresh rs) (reseed-inv i rs) (seed r.start r.end)

    pub reseed-held : (rs : List Region) (f : ℕ) → (reseed L step fresh rs).held f ≡ false
    unfolding reseed
    reseed-held [] f = refl
    reseed-held (r ∷ rs) f = reseed-held rs f

    -- the frame store takes a region that fits beside those it has
    takes : (g : Frames) (r : Region) → Fits (memory L) r g.regions → length g.regions < most → (frame_step L most g (seed r.start r.end)).state.regions ≡ r ∷ g.regions
    unfolding frame_step frame_act refusals
    takes g r k l = rw (lt-leb r.end r.start k.some, le-ltb (memory L) r.end k.ends, lt-leb most (length g.regions) l, (bare-iff (seeded g.regions) r.start (r.end - r.start)).1 k.alone) refl

    pub reseed-regions : Inv (start fresh) → (shown fresh).regions ≡ [] → (rs : List Region) → Regions (memory L) rs → length rs ≤ most → Roomy L step fresh rs → (shown (reseed L step fresh rs).state).regions ≡ rs
    unfolding reseed
    reseed-regions i e [] k l m = e
    reseed-regions i e (r ∷ rs) k l m =
        let q = reseed L step fresh rs in
        let g = shown q.state in
        let ih : g.regions ≡ rs = reseed-regions i e rs k.1 (omega arith) m.0 in
        (a.leaves q.state g (reseed-inv i rs).good (same_self L g) (seed r.start r.end) m.1).regions
        ∙ takes g r (subst (Fits (memory L) r) (sym ih) k.0) (rw ih (omega arith)) ∙ ap (λ (xs : List Region). r ∷ xs) ih
