-- What a store is asked and what it answers (document 01, 'What the calls do' and 'Refusal numbers'). Addresses are frame numbers; `pages` asks the same calls in bytes.
use Rattle.std.specs.Prelude.{Bool, true, false, List, [], ◌∷◌, ℕ, zero, suc, ◌-◌, ◌≤◌, ◌<◌}
use Rattle.model.specs.Frames.{Wholly, paint}

-- from start to end, end not included
pub record Region : Type 0 where
  pub start : ℕ
  pub end : ℕ

-- frame f lies in a region; the newest region comes first
unfoldable pub seeded : List Region → ℕ → Bool
seeded [] f = false
seeded (r ∷ rs) f = paint r.start (r.end - r.start) true (seeded rs) f

-- a region that is not empty, ends at or below N and shares no frame with the others
pub record Fits (N : ℕ) (r : Region) (others : List Region) : Type 0 where
  pub some : r.start < r.end
  pub ends : r.end ≤ N
  pub alone : Wholly (seeded others) r.start (r.end - r.start) false

-- regions of which each fits beside the older ones
abbrev pub Regions : ℕ → List Region → Type 0
Regions N [] = Unit {0}
Regions N (r ∷ rs) = Fits N r rs × Regions N rs

pub data Call : Type 0 where
  seed : (start end : ℕ) → Call
  acquire : (code : ℕ) → Call
  release : (base code : ℕ) → Call
  report : Call

-- a report gives seeded frames, free frames and the largest free code; used words are the pool's matter
pub data Answer : Type 0 where
  refused : (number : ℕ) → Answer
  stored : Answer
  dealt : (base probes : ℕ) → Answer
  reported : (seeded free largest : ℕ) → Answer

-- a refusal's number, and whether its test says so
pub data Test : Type 0 where
  refuse : ℕ → Bool → Test

-- the first refusal in order wins; 0 is none
abbrev pub verdict : List Test → ℕ
verdict [] = 0
verdict (refuse n true ∷ ts) = n
verdict (refuse n false ∷ ts) = verdict ts

-- what a call leaves and answers
pub record Outcome (S : Type 0) : Type 0 where
  pub state : S
  pub answer : Answer

-- the outcome of a call whose verdict is v: a refusal leaves the state as it was
abbrev pub settle : {S : Type 0} → ℕ → S → Outcome S → Outcome S
settle zero s o = o
settle (suc n) s o = record { state = s; answer = refused (suc n) }
