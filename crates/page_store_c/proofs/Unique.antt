-- No second answer satisfies the promise of a C function: every field of the answer and every pool word is told. Assumes that the arrays of a state have their places, as its type says.
use mathlib.Core.Path.{◌≡◌, sym, ap, ap₂, ◌∙◌}
use mathlib.Core.List.{List}
use Prim.Native.Nat.{ℕ}
use native.Mathlib.Omega.{arith}
use native.Mathlib.Decide.{ℕ_discrete}
use Rattle.sizes.specs.Six.{six}
use Rattle.sizes.proofs.Six.{six-multiplies}
use Rattle.model.specs.Calls.{Call, acquire, report}
use Rattle.pool.specs.Limits.{places, pool_limit}
use Rattle.pages.specs.declared.state.State.{State}
use Rattle.pages.specs.Calls.{Reply, store, plain, deal, tell, Places, Replies, fresh_reply}
use Rattle.pages.specs.Room.{Plans}
use Rattle.demands.proofs.Unique.{unique, plans-unique}
use Rattle.page_store_c.specs.declared.StoreDone.{StoreDone}
use Rattle.page_store_c.specs.declared.StoreDealt.{StoreDealt}
use Rattle.page_store_c.specs.declared.StoreReported.{StoreReported}
use Rattle.page_store_c.specs.declared.StoreRoom.{StoreRoom}
use Rattle.page_store_c.specs.Boundary.{Tells}

-- the answers that a reply says
abbrev done_of : Reply → StoreDone
done_of r = record { refusal = r.refusal; state = r.store.state }

abbrev dealt_of : Reply → StoreDealt
dealt_of r = record { refusal = r.refusal; state = r.store.state; base = r.base; probes = r.probes }

abbrev reported_of : Reply → StoreReported
reported_of r = record { refusal = r.refusal; state = r.store.state; seeded = r.seeded; free = r.free; largest = r.largest; used = r.used }

-- FRESH
pub fresh-unique : (p q q' : List ℕ) (d d' : StoreDone) → plain d.refusal (store d.state q) ≡ fresh_reply six places pool_limit p → plain d'.refusal (store d'.state q') ≡ fresh_reply six places pool_limit p → (d ≡ d') × (q ≡ q')
fresh-unique p q q' d d' h h' = let e = h ∙ sym h' in (ap done_of e, ap (λ (r : Reply). r.store.pool) e)

-- the state s and the pool p that came in; what the other calls answer and leave
module _ (s : State) (p : List ℕ) (a : Places six places pool_limit (store s p)) where
  -- one reply
  one : (c : Call) (r r' : Reply) → Replies six places pool_limit (store s p) c r → Replies six places pool_limit (store s p) c r' → r ≡ r'
  one c r r' h h' = unique six places pool_limit six-multiplies (store s p) c r r' h h' a

  -- SEED AND RELEASE
  pub done-unique : (c : Call) (q q' : List ℕ) (d d' : StoreDone) → Replies six places pool_limit (store s p) c (plain d.refusal (store d.state q)) → Replies six places pool_limit (store s p) c (plain d'.refusal (store d'.state q')) → (d ≡ d') × (q ≡ q')
  done-unique c q q' d d' h h' = let e = one c _ _ h h' in (ap done_of e, ap (λ (r : Reply). r.store.pool) e)

  -- ACQUIRE
  pub dealt-unique : (c : ℕ) (q q' : List ℕ) (d d' : StoreDealt) → Replies six places pool_limit (store s p) (acquire c) (deal d.refusal (store d.state q) d.base d.probes) → Replies six places pool_limit (store s p) (acquire c) (deal d'.refusal (store d'.state q') d'.base d'.probes) → (d ≡ d') × (q ≡ q')
  dealt-unique c q q' d d' h h' = let e = one (acquire c) _ _ h h' in (ap dealt_of e, ap (λ (r : Reply). r.store.pool) e)

  -- REPORT: the pool is only read
  pub reported-unique : (d d' : StoreReported) → Replies six places pool_limit (store s p) report (tell d.refusal (store d.state p) d.seeded d.free d.largest d.used) → Replies six places pool_limit (store s p) report (tell d'.refusal (store d'.state p) d'.seeded d'.free d'.largest d'.used) → d ≡ d'
  reported-unique d d' h h' = ap reported_of (one report _ _ h h')

-- CHECK: of a statement
module _ (P : Type 0) where
  pub check-unique : (n n' : ℕ) → Tells P n → Tells P n' → n ≡ n'
  check-unique n n' h h' = go (ℕ_discrete n 1) (ℕ_discrete n' 1)
    where
      go : Dec (n ≡ 1) → Dec (n' ≡ 1) → n ≡ n'
      go (yes e) f = e ∙ sym (h'.yes (h.only e))
      go (no e) (yes f) = absurd (e (h.yes (h'.only f)))
      go (no e) (no f) = omega (arith, e, f, h.bit, h'.bit)

-- ROOM_FOR
pub room-unique : (s : State) (a e : ℕ) (d d' : StoreRoom) → Plans six places pool_limit s a e d.refusal d.words → Plans six places pool_limit s a e d'.refusal d'.words → d ≡ d'
room-unique s a e d d' h h' = let x = plans-unique six places pool_limit s a e _ _ _ _ h h' in ap₂ (λ (n w : ℕ). record { refusal = n; words = w }) x.0 x.1
