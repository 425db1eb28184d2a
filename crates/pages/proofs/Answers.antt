-- An answer and its reply determine each other: results that say one reply are one result, with one pool. Assumes nothing.
use mathlib.Core.Path.{◌≡◌, refl, sym, ap, ◌∙◌}
use mathlib.Core.List.{List, [], ◌∷◌}
use Prim.Native.Nat.{ℕ, zero, suc, pred}
use Rattle.std.specs.Prelude.{Option, Some, None, Ok, Err}
use Rattle.std.specs.declared.result.Result.{Result}
use Rattle.sizes.specs.declared.page_size.PageSize.{PageSize}
use Rattle.sizes.specs.Size.{code_or_none}
use Rattle.sizes.proofs.Size.{code-not-none, code-one}
use Rattle.pages.specs.declared.answer.Dealt.{Dealt}
use Rattle.pages.specs.declared.answer.Report.{Report}
use Rattle.pages.specs.declared.refusal.Refusal.{Refusal}
use Rattle.pages.specs.declared.refusal.Refusal.TheVariants.{BadCode, BadAlignment, PastTheEnd, Overlap, RegionsFull, NotSeeded, AlreadyFree, OutOfPages, OutOfRoom, Unsound, BadPool}
use Rattle.pages.specs.declared.state.State.{State}
use Rattle.pages.specs.Calls.{Reply, store, plain, deal}
use Rattle.pages.specs.Answers.{number_of, refusal_in, reply_of, done, dealt, told, told_of, room}
use Rattle.pages.proofs.Refused.{number_of-some}

-- ---- refusals
-- the refusals in the order of their numbers, from 1 on
at : List Refusal → ℕ → Refusal
at [] n = BadPool
at (e ∷ es) zero = e
at (e ∷ es) (suc n) = at es n

abbrev named : ℕ → Refusal
named n = at (BadCode ∷ BadAlignment ∷ PastTheEnd ∷ Overlap ∷ RegionsFull ∷ NotSeeded ∷ AlreadyFree ∷ OutOfPages ∷ OutOfRoom ∷ Unsound ∷ BadPool ∷ []) (pred n)

number-back : (e : Refusal) → named (number_of e) ≡ e
unfolding at
number-back BadCode = refl
number-back BadAlignment = refl
number-back PastTheEnd = refl
number-back Overlap = refl
number-back RegionsFull = refl
number-back NotSeeded = refl
number-back AlreadyFree = refl
number-back OutOfPages = refl
number-back OutOfRoom = refl
number-back Unsound = refl
number-back BadPool = refl

-- refusals of one number are one refusal
pub number-one : (e f : Refusal) → number_of e ≡ number_of f → e ≡ f
number-one e f h = sym (number-back e) ∙ ap named h ∙ number-back f

-- ---- replies
-- an accepted result's reply has no refusal number, and tells what was accepted
module _ {A : Type 0} (s : State) (p p' : List ℕ) (ok ok' : A → Reply) (none : (a : A) → (ok a).refusal ≡ 0) (none' : (a : A) → (ok' a).refusal ≡ 0) (pool : (a : A) → (ok a).store.pool ≡ p)
    (pool' : (a : A) → (ok' a).store.pool ≡ p') (one : (a a' : A) → ok a ≡ ok' a' → a ≡ a') where
  reply-one : (r r' : Result A Refusal) → reply_of ok s p r ≡ reply_of ok' s p' r' → (r ≡ r') × (p ≡ p')
  reply-one (Ok a) (Ok a') e = (ap (λ (x : A). Ok x) (one a a' e), sym (pool a) ∙ ap (λ (x : Reply). x.store.pool) e ∙ pool' a')
  reply-one (Ok a) (Err f) e = absurd (number_of-some f (sym (ap (λ (x : Reply). x.refusal) e) ∙ none a))
  reply-one (Err f) (Ok a) e = absurd (number_of-some f (ap (λ (x : Reply). x.refusal) e ∙ none' a))
  reply-one (Err f) (Err g) e = (ap (λ (x : Refusal). Err x) (number-one f g (ap (λ (x : Reply). x.refusal) e)), ap (λ (x : Reply). x.store.pool) e)

-- of fresh, a seed and a release
pub done-one : (s : State) (p p' : List ℕ) (r r' : Result State Refusal) → done s p r ≡ done s p' r' → (r ≡ r') × (p ≡ p')
done-one s p p' = reply-one s p p' (λ t. plain 0 (store t p)) (λ t. plain 0 (store t p')) (λ t. refl) (λ t. refl) (λ t. refl) (λ t. refl) (λ t t' e. ap (λ (x : Reply). x.store.state) e)

-- of an acquire
pub dealt-one : (s : State) (p p' : List ℕ) (r r' : Result (State × Dealt) Refusal) → dealt s p r ≡ dealt s p' r' → (r ≡ r') × (p ≡ p')
dealt-one s p p' = reply-one s p p' (λ d. deal 0 (store d.0 p) d.1.base.0 d.1.probes) (λ d. deal 0 (store d.0 p') d.1.base.0 d.1.probes) (λ d. refl) (λ d. refl) (λ d. refl) (λ d. refl) (λ d d' e. ap said e)
  where
    said : Reply → State × Dealt
    said x = (x.store.state, record { base = record { 0 = x.base }; probes = x.probes })

-- sizes, or none, of one code are one
size-one : (o o' : Option PageSize) → code_or_none o ≡ code_or_none o' → o ≡ o'
size-one None None e = refl
size-one None (Some t) e = absurd (code-not-none t (sym e))
size-one (Some s) None e = absurd (code-not-none s e)
size-one (Some s) (Some t) e = ap (λ (x : PageSize). Some x) (code-one s t e)

-- of a report
pub told-one : (s : State) (p p' : List ℕ) (r r' : Result Report Refusal) → told s p r ≡ told s p' r' → (r ≡ r') × (p ≡ p')
told-one s p p' = reply-one s p p' (told_of s p) (told_of s p') (λ t. refl) (λ t. refl) (λ t. refl) (λ t. refl) said
  where
    said : (t t' : Report) → told_of s p t ≡ told_of s p' t' → t ≡ t'
    said t t' e =
        let largest : t.largest ≡ t'.largest = size-one t.largest t'.largest (ap (λ (x : Reply). x.largest) e) in
        λ i. record { seeded = (e i).seeded; free = (e i).free; largest = largest i; used = (e i).used }

-- of room_for
pub room-one : (r r' : Result ℕ Refusal) → refusal_in r ≡ refusal_in r' → room r ≡ room r' → r ≡ r'
room-one (Ok n) (Ok n') e w = ap (λ (x : ℕ). Ok x) w
room-one (Ok n) (Err f) e w = absurd (number_of-some f (sym e))
room-one (Err f) (Ok n) e w = absurd (number_of-some f e)
room-one (Err f) (Err g) e w = ap (λ (x : Refusal). Err x) (number-one f g e)
