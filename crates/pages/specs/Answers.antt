-- What an answer means in the words of `Calls`: the number of a refusal, and the reply that a Result says.
use Rattle.std.specs.Prelude.{List, ℕ, Ok, Err, codes}
use Rattle.std.specs.declared.result.Result.{Result}
use Rattle.sizes.specs.Size.{code_or_none}
use Rattle.pages.specs.declared.state.State.{State}
use Rattle.pages.specs.declared.answer.Dealt.{Dealt}
use Rattle.pages.specs.declared.answer.Report.{Report}
use Rattle.pages.specs.declared.refusal.Refusal.{Refusal}
use Rattle.pages.specs.declared.refusal.Refusal.TheVariants.{BadCode, BadAlignment, PastTheEnd, Overlap, RegionsFull, NotSeeded, AlreadyFree, OutOfPages, OutOfRoom, Unsound, BadPool}
use Rattle.pages.specs.Calls.{Reply, store, plain, deal, tell}

-- document 01's refusal numbers
abbrev pub number_of : Refusal → ℕ
number_of BadCode = 1
number_of BadAlignment = 2
number_of PastTheEnd = 3
number_of Overlap = 4
number_of RegionsFull = 5
number_of NotSeeded = 6
number_of AlreadyFree = 7
number_of OutOfPages = 8
number_of OutOfRoom = 9
number_of Unsound = 10
number_of BadPool = 11

-- what a refusal prints
abbrev pub refusal_text : Refusal → List ℕ
refusal_text BadCode = codes "no size has that code"
refusal_text BadAlignment = codes "not aligned, or empty"
refusal_text PastTheEnd = codes "past the end of memory"
refusal_text Overlap = codes "seeded already"
refusal_text RegionsFull = codes "no place for a further region"
refusal_text NotSeeded = codes "never seeded"
refusal_text AlreadyFree = codes "free already"
refusal_text OutOfPages = codes "no free page of that size"
refusal_text OutOfRoom = codes "too few pool words are left"
refusal_text Unsound = codes "state and pool are not sound"
refusal_text BadPool = codes "a pool of no words, or of too many"

-- the refusal number of a result, 0 for none
abbrev pub refusal_in : {A : Type 0} → Result A Refusal → ℕ
refusal_in (Ok a) = 0
refusal_in (Err e) = number_of e

-- THE REPLY THAT A RESULT SAYS: of an Ok as told, of an Err its number, with the state s handed back. p are the pool's words afterwards
abbrev pub reply_of : {A : Type 0} → (A → Reply) → State → List ℕ → Result A Refusal → Reply
reply_of ok s p (Ok a) = ok a
reply_of ok s p (Err e) = plain (number_of e) (store s p)

-- of fresh, a seed and a release: the state to keep
abbrev pub done : State → List ℕ → Result State Refusal → Reply
done s p r = reply_of (λ t. plain 0 (store t p)) s p r

-- of an acquire: the page dealt, and the state to keep
abbrev pub dealt : State → List ℕ → Result (State × Dealt) Refusal → Reply
dealt s p r = reply_of (λ d. deal 0 (store d.0 p) d.1.base.0 d.1.probes) s p r

-- of a report: its numbers; the state stays
abbrev pub told_of : State → List ℕ → Report → Reply
told_of s p t = tell 0 (store s p) t.seeded t.free (code_or_none t.largest) t.used

abbrev pub told : State → List ℕ → Result Report Refusal → Reply
told s p r = reply_of (told_of s p) s p r

-- of room_for: the words, 0 where it is refused
abbrev pub room : Result ℕ Refusal → ℕ
room (Ok n) = n
room (Err e) = 0
