-- The store that a replay begins with: a pool of its length is not refused. Assumes nothing.
use Rattle.std.proofs.Common.{◌≡◌, ◌≤◌, ℕ, List, Result, Ok, Err, length, arith, refl, sym, ap, ◌∙◌, replicate}
use Rattle.std.proofs.lemmas.List.{length-replicate}
use mathlib.Core.Bool.{Bool, true, false, cond, ◌&&◌}
use lib.Dec.{leb}
use lib.ListN.{set}
use borrow.Author.Tests.{leb-false}
use Rattle.sizes.specs.Ladder.{largest}
use Rattle.pool.specs.Words.{pack}
use mathlib.Core.Logic.{◌≢◌}
use Rattle.std.specs.Result.{IsOk}
use Rattle.sizes.specs.Six.{six}
use Rattle.sizes.proofs.Six.{six-multiplies}
use Rattle.pool.specs.Limits.{places, pool_limit}
use Rattle.pool.proofs.Sizes.{small-six}
use Rattle.pages.specs.Calls.{Reply, Places, SoundStore, fresh_reply, store, plain, no_regions}
use Rattle.pages.specs.declared.state.State.{State}
use Rattle.pages.specs.declared.refusal.Refusal.{Refusal}
use Rattle.pages.specs.declared.refusal.Refusal.TheVariants.{BadCode, BadAlignment, PastTheEnd, Overlap, RegionsFull, NotSeeded, AlreadyFree, OutOfPages, OutOfRoom, Unsound, BadPool}
use Rattle.pages.specs.Answers.{number_of, done}
use Rattle.demands.proofs.DemandThree.{fresh_keeps}
use Rattle.replay.specs.Printed.{new_store, pool_words}

-- a pool of words within the limit is accepted
accepted : (p : List ℕ) → 1 ≤ length p → length p ≤ pool_limit → (fresh_reply six places pool_limit p).refusal ≡ 0
unfolding fresh_reply
accepted p lo hi = go (leb 1 (length p)) (leb (length p) pool_limit) refl refl
  where
    go : (x y : Bool) → leb 1 (length p) ≡ x → leb (length p) pool_limit ≡ y → (cond (x && y) (plain 0 (store (no_regions places 1) (set p 0 (pack 0 0 (largest six) 0)))) (plain 11 (store (no_regions places 0) p))).refusal ≡ 0
    go true true a b = refl
    go true false a b = absurd (omega (arith, leb-false (length p) pool_limit b, hi))
    go false y a b = absurd (omega (arith, leb-false 1 (length p) a, lo))

of-length : (p : List ℕ) → length p ≡ pool_words → (fresh_reply six places pool_limit p).refusal ≡ 0
of-length p e = accepted p (omega (arith, e)) (omega (arith, e))

-- a refusal's number is not 0
refused : (n : Refusal) → number_of n ≢ 0
refused BadCode h = omega (arith, h)
refused BadAlignment h = omega (arith, h)
refused PastTheEnd h = omega (arith, h)
refused Overlap h = omega (arith, h)
refused RegionsFull h = omega (arith, h)
refused NotSeeded h = omega (arith, h)
refused AlreadyFree h = omega (arith, h)
refused OutOfPages h = omega (arith, h)
refused OutOfRoom h = omega (arith, h)
refused Unsound h = omega (arith, h)
refused BadPool h = omega (arith, h)

-- a new store whose reply is no refusal is there
pub fresh-done : (p q : List ℕ) (r : Result State Refusal) → length p ≡ pool_words → done (no_regions places 0) q r ≡ fresh_reply six places pool_limit p → IsOk r
fresh-done p q (Ok s) e f = refl
fresh-done p q (Err n) e f = let x = ap (λ (y : Reply). y.refusal) f ∙ of-length p e in absurd (refused n x)

-- ... and it is the new store
pub fresh-new : (p q : List ℕ) (r : Result State Refusal) (s : State) → p ≡ replicate pool_words 0 → r ≡ Ok s → done (no_regions places 0) q r ≡ fresh_reply six places pool_limit p → store s q ≡ new_store
unfolding new_store
fresh-new p q r s e k f = ap (λ (y : Reply). y.store) (sym (ap (done (no_regions places 0) q) k) ∙ f ∙ ap (fresh_reply six places pool_limit) e)

pub new-sound : SoundStore six places pool_limit new_store × Places six places pool_limit new_store
unfolding new_store
new-sound = let k = fresh_keeps six places pool_limit six-multiplies small-six (replicate pool_words 0) (of-length (replicate pool_words 0) (length-replicate {A = ℕ} pool_words 0)) in (k.sound, k.places)
