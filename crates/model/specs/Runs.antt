-- Sequences of calls from a fresh store, refusals included, and the frames that they hold. A store is any type of states with a step.
use Rattle.std.specs.Prelude.{◌≢◌, Bool, true, false, List, [], ◌∷◌, ℕ, pred}
use Rattle.sizes.specs.Ladder.{Ladder}
use Rattle.model.specs.Ladder.{frames}
use Rattle.model.specs.Frames.{paint}
use Rattle.model.specs.Calls.{Region, Call, seed, acquire, release, report, Answer, refused, stored, dealt, reported, Outcome}

-- the state and the held frames that a sequence of calls leaves
pub record Run (S : Type 0) : Type 0 where
  pub state : S
  pub held : ℕ → Bool

-- nothing is held before the first call
abbrev pub start : {S : Type 0} → S → Run S
start fresh = record { state = fresh; held = λ f. false }

module _ (L : Ladder) where
  -- the held frames after a call, reckoned from the call and its answer alone: dealt frames are held, released ones are no more
  abbrev pub reckon : Call → Answer → (ℕ → Bool) → ℕ → Bool
  reckon (seed a e) x h = h
  reckon (acquire c) (refused n) h = h
  reckon (acquire c) stored h = h
  reckon (acquire c) (dealt b p) h = paint b (frames L (pred c)) true h
  reckon (acquire c) (reported x y z) h = h
  reckon (release b c) (refused n) h = h
  reckon (release b c) stored h = paint b (frames L (pred c)) false h
  reckon (release b c) (dealt x p) h = h
  reckon (release b c) (reported x y z) h = h
  reckon report x h = h

  module _ {S : Type 0} (step : S → Call → Outcome S) where
    -- one call more
    abbrev pub next : Run S → Call → Run S
    next r c = let o = step r.state c in record { state = o.state; held = reckon c o.answer r.held }

    -- the calls in order, after those of r
    unfoldable pub run : Run S → List Call → Run S
    run r [] = r
    run r (c ∷ cs) = run (next r c) cs

    -- a store newly seeded with the regions, the oldest first
    unfoldable pub reseed : (fresh : S) → List Region → Run S
    reseed fresh [] = start fresh
    reseed fresh (r ∷ rs) = next (reseed fresh rs) (seed r.start r.end)

    -- ... that lacks pool room for none of them
    abbrev pub Roomy : (fresh : S) → List Region → Type 0
    Roomy fresh [] = Unit {0}
    Roomy fresh (r ∷ rs) = Roomy fresh rs × ((step (reseed fresh rs).state (seed r.start r.end)).answer ≢ refused 9)
