-- Every refusal has a number of its own that is not 0, and a `?` hands it on. Assumes nothing.
use mathlib.Core.Path.{◌≡◌, sym, ap, subst}
use Prim.Native.Nat.{ℕ}
use native.Mathlib.Omega.{arith}
use Rattle.std.specs.Prelude.{Ok, Err, IsErrAnd}
use Rattle.std.specs.declared.result.Result.{Result}
use Rattle.sizes.specs.Ladder.{Ladder}
use Rattle.pages.specs.declared.refusal.Refusal.{Refusal}
use Rattle.pages.specs.declared.refusal.Refusal.TheVariants.{BadCode, BadAlignment, PastTheEnd, Overlap, RegionsFull, NotSeeded, AlreadyFree, OutOfPages, OutOfRoom, Unsound, BadPool}
use Rattle.pages.specs.declared.state.State.{State}
use Rattle.pages.specs.Answers.{number_of, refusal_in, room}
use Rattle.pages.specs.Room.{Plans}

-- no refusal has the number 0
pub number_of-some : (e : Refusal) → number_of e ≡ 0 → ⊥
number_of-some BadCode z = omega (arith, z)
number_of-some BadAlignment z = omega (arith, z)
number_of-some PastTheEnd z = omega (arith, z)
number_of-some Overlap z = omega (arith, z)
number_of-some RegionsFull z = omega (arith, z)
number_of-some NotSeeded z = omega (arith, z)
number_of-some AlreadyFree z = omega (arith, z)
number_of-some OutOfPages z = omega (arith, z)
number_of-some OutOfRoom z = omega (arith, z)
number_of-some Unsound z = omega (arith, z)
number_of-some BadPool z = omega (arith, z)

-- what a `?` hands on is the refusal that it got
pub handed-number : {A : Type 0} (r : Result A Refusal) (e : Refusal) → IsErrAnd r (λ x. x ≡ e) → refusal_in r ≡ number_of e
handed-number (Ok a) e h = absurd h
handed-number (Err x) e h = ap (λ (y : Refusal). number_of y) h

-- ... of room_for
pub handed-plans : (L : Ladder) (most limit : ℕ) (s : State) (x y : ℕ) (r : Result ℕ Refusal) (e : Refusal) → IsErrAnd r (λ x. x ≡ e) → Plans L most limit s x y (number_of e) 0 → Plans L most limit s x y (refusal_in r) (room r)
handed-plans L most limit s x y (Ok n) e h q = absurd h
handed-plans L most limit s x y (Err d) e h q = subst (λ (v : Refusal). Plans L most limit s x y (number_of v) 0) (sym h) q
