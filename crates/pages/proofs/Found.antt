-- What was checked is sound. Assumes nothing.
use mathlib.Core.List.{List}
use mathlib.Core.Path.{◌≡◌, ap, ap₂, subst, ◌∙◌}
use Prim.Native.Nat.{ℕ}
use lib.Dec.{ltb}
use Rattle.std.specs.Prelude.{Ok, Err, IsErrAnd}
use Rattle.std.specs.declared.result.Result.{Result}
use Rattle.sizes.specs.Six.{six}
use Rattle.sizes.proofs.Six.{six-multiplies}
use Rattle.pool.specs.Limits.{places, pool_limit}
use Rattle.model.specs.Calls.{Call}
use Rattle.pages.specs.Answers.{number_of, reply_of}
use Rattle.pages.specs.Calls.{Store, Reply, store, plain, Places, SoundStore, refusal_of, served, Replies}
use Rattle.pages.specs.PassesCheck.{PassesCheck}
use Rattle.pages.specs.declared.checked.Checked.{Checked}
use Rattle.pages.specs.declared.refusal.Refusal.{Refusal}
use Rattle.pages.specs.declared.state.State.{State}
use Rattle.pages.proofs.AskSeed.{refused-is}
use Rattle.pages.proofs.Decide.{check_sound, sound-check}
use Rattle.pages.proofs.Refused.{number_of-some}

-- the store that was checked
abbrev pub seen : Checked → Store
seen k = store k.state.now k.pool.now

pub found : (k : Checked) → SoundStore six places pool_limit (seen k)
found k = check_sound six six-multiplies places pool_limit k.state.now.used k.state.now.starts k.state.now.ends k.pool.now k.placed.starts k.placed.ends k.passed

-- that store is the one that a caller gave: t and p are its state and its words
pub record Here (t : State) (p : List ℕ) : Type 0 where
  pub store_here : Checked
  pub state_is : store_here.state.now ≡ t
  pub pool_is : store_here.pool.now ≡ p

abbrev pub here : (k : Checked) {t : State} {p : List ℕ} → k.state.now ≡ t → k.pool.now ≡ p → Here t p
here k et ep = record { store_here = k; state_is = et; pool_is = ep }

-- ... and so is that store
module _ {t : State} {p : List ℕ} (here : Here t p) where
  abbrev k : Checked
  k = here.store_here

  pub sound-here : SoundStore six places pool_limit (store t p)
  sound-here = subst (λ (x : State). SoundStore six places pool_limit (store x p)) here.state_is (subst (λ (y : List ℕ). SoundStore six places pool_limit (store k.state.now y)) here.pool_is (found k))

  pub placed-here : Places six places pool_limit (store t p)
  placed-here = subst (λ (x : State). Places six places pool_limit (store x p)) here.state_is (subst (λ (y : List ℕ). Places six places pool_limit (store k.state.now y)) here.pool_is k.placed)

  -- the refusal number that the checked store gives
  pub number-here : (c : Call) (n : ℕ) → n ≡ refusal_of six places pool_limit (seen k) c → n ≡ refusal_of six places pool_limit (store t p) c
  number-here c n e = e ∙ ap₂ (λ (x : State) (y : List ℕ). refusal_of six places pool_limit (store x y) c) here.state_is here.pool_is

  -- a refusal is the reply
  pub refuses : {A : Type 0} (ok : A → Reply) (c : Call) (r : Result A Refusal) (e : Refusal) → IsErrAnd r (λ x. x ≡ e) → number_of e ≡ refusal_of six places pool_limit (seen k) c → Replies six places pool_limit (store t p) c (reply_of ok t p r)
  refuses ok c (Ok a) e h q = absurd h
  refuses ok c (Err d) e h q = record {
    unsound = λ n. absurd (n sound-here);
    sound = λ _. ap (λ (x : Refusal). plain (number_of x) (store t p)) h ∙ refused-is six places pool_limit (store t p) c (number_of e) (number-here c (number_of e) q) (number_of-some e);
  }

  -- what was done is the reply
  pub replies : (c : Call) (r : Reply) → r ≡ served six places pool_limit (store t p) c → Replies six places pool_limit (store t p) c r
  replies c r q = record { unsound = λ n. absurd (n sound-here); sound = λ _. q }

-- a sound store passes
pub passes : (s : Store) → Places six places pool_limit s → SoundStore six places pool_limit s → PassesCheck six ltb pool_limit s.state.used s.state.starts s.state.ends s.pool
passes s a h = sound-check six six-multiplies places pool_limit s.state.used s.state.starts s.state.ends s.pool a.starts a.ends h
