-- Demands 2 and 3 on trees: the statements. `proofs/` proves them for any ladder, any most number of regions and any pool.
use Rattle.std.specs.Prelude.{◌≡◌, ◌↔◌, ◌≢◌, true, false, List, ℕ, pred, ◌+◌, ◌≤◌, ◌<◌, length}
use Rattle.sizes.specs.Ladder.{Ladder}
use Rattle.model.specs.Ladder.{frames, top}
use Rattle.model.specs.Frames.{Wholly, bit, count}
use Rattle.model.specs.Calls.{Regions, seeded, Call, acquire, refused, dealt, verdict}
use Rattle.model.specs.FrameStore.{Frames, Same, refusals, frame_step}
use Rattle.model.specs.Tree.{Sound, free, free_frames}
use Rattle.model.specs.TreeStore.{State, fresh, used, seeded_frames, act, step}
use Rattle.model.specs.Runs.{Run, start, run, reseed, Roomy}

-- what a tree shows: the frames it offers, and the regions
abbrev pub shown : (L : Ladder) → State L → Frames
shown L s = record { free = free L (top L) s.tree; regions = s.regions }

module _ (L : Ladder) (most n : ℕ) where
  -- a sound state of a store with at most `most` regions and a pool of n words: document 01's clauses that speak of tree and regions
  pub record SoundState (s : State L) : Type 0 where
    pub sound : Sound L (top L) s.tree
    pub room : used L s.tree ≤ n
    pub fit : Regions (frames L (top L)) s.regions
    pub few : length s.regions ≤ most
    pub inside : (f : ℕ) → f < frames L (top L) → free L (top L) s.tree f ≡ true → seeded s.regions f ≡ true

  -- a call is answered as the frame store, whose frames g are those that the state shows, answers it
  pub record AsFrames (s : State L) (g : Frames) (c : Call) : Type 0 where
    -- the same answer, and the same frames after it, unless pool room is missing
    pub answer : (step L most n s c).answer ≢ refused 9 → (step L most n s c).answer ≡ (frame_step L most g c).answer
    pub leaves : (step L most n s c).answer ≢ refused 9 → Same L (shown L (step L most n s c).state) (frame_step L most g c).state
    -- 9 exactly if the frame store accepts the call and its openings would carry used past the pool's words
    pub nine : ((step L most n s c).answer ≡ refused 9) ↔ ((verdict (refusals L most g c) ≡ 0) × (n < used L (act L s c).state.tree))
    -- a refusal leaves the state as it was, and every call leaves it sound
    pub refusal : (k : ℕ) → (step L most n s c).answer ≡ refused k → (step L most n s c).state ≡ s
    pub keeps : SoundState (step L most n s c).state

  -- Demand 2: on every sound state
  abbrev pub Demand2 : Type 0
  Demand2 = (s : State L) (g : Frames) → SoundState s → Same L (shown L s) g → (c : Call) → AsFrames s g c

  -- a run has kept what demand 3 asks
  pub record Kept (r : Run (State L)) : Type 0 where
    -- the store is sound
    pub sound : SoundState r.state
    -- every seeded frame is free or held, never both, and no other frame is either: the bits add up
    pub split : (f : ℕ) → f < frames L (top L) → bit (seeded r.state.regions f) ≡ bit (free L (top L) r.state.tree f) + bit (r.held f)
    pub beyond : (f : ℕ) → frames L (top L) ≤ f → (seeded r.state.regions f ≡ false) × (r.held f ≡ false)
    -- free plus held frames are the seeded ones
    pub totals : free_frames L (top L) r.state.tree + count r.held (frames L (top L)) ≡ seeded_frames r.state.regions
    -- no acquire deals a held frame
    pub unheld : (c b p : ℕ) → (step L most n r.state (acquire c)).answer ≡ dealt b p → Wholly r.held b (frames L (pred c)) false
    -- once nothing is held, an acquire is answered as by a store newly seeded with the same regions, unless either lacks pool room
    pub settled : ((f : ℕ) → r.held f ≡ false) → (n' : ℕ) → 1 ≤ n' → Roomy L (step L most n') (fresh L) r.state.regions → (c : ℕ) →
        let here = (step L most n r.state (acquire c)).answer in
        let anew = (step L most n' (reseed L (step L most n') (fresh L) r.state.regions).state (acquire c)).answer in
        here ≢ refused 9 → anew ≢ refused 9 → here ≡ anew

  -- Demand 3: after any sequence of calls from a fresh store, refusals included; a pool has at least one word
  abbrev pub Demand3 : Type 0
  Demand3 = 1 ≤ n → (cs : List Call) → Kept (run L (step L most n) (start (fresh L)) cs)
