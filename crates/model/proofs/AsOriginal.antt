-- Whole sequences of calls: beside the tree store the original never panics, answers the same and keeps the picture of its tree. Assumes nothing.
use mathlib.Core.Path.{◌≡◌, refl, sym, ap, ◌∙◌}
use mathlib.Core.Bool.{Bool, true, false, not, true≢false, false≢true}
use mathlib.Core.Option.{none, some}
use mathlib.Core.List.{List, [], ◌∷◌}
use Prim.Native.Nat.{ℕ, zero, suc, ◌<◌, pred, ◌-◌, ◌≤◌}
use native.Mathlib.Omega.{arith}
use lib.Dec.{leb, ltb, eqb}
use lib.ListN.{length}
use borrow.Author.Tests.{ltb-true, ltb-false, leb-false, eqb-true, eqb-false, not-false}
use Rattle.sizes.specs.Ladder.{Ladder}
use Rattle.sizes.specs.Laws.{MultipliesUp}
use Rattle.model.specs.Ladder.{frames, top}
use Rattle.model.specs.Calls.{Call, seed, acquire, release, report, refuse, verdict, Outcome, settle}
use Rattle.model.specs.Tree.{empty, largest, store, remove}
use Rattle.model.specs.TreeStore.{apart, seed_from, State, fresh, picked, act, lacks_room, tests, step}
use Rattle.model.specs.Demands.{shown, SoundState}
use Rattle.model.specs.Rust.{gives, ok, err}
use Rattle.model.specs.StandIns.{TooMuchMemory, OutOfPages, init}
use Rattle.model.specs.Original.{empty_allocator}
use Rattle.model.specs.AsOriginal.{may_make, Said, Addressable, address, Allocator, original, told, originals, tellings, transcript, AsOriginal}
use Rattle.model.proofs.Regions.{apart-iff}
use Rattle.model.proofs.Seed.{any_free-false}
use Rattle.model.proofs.FrameStore.{same_self, block-stands}
use Rattle.model.proofs.Demand2.{unseeded-free, demand2}
use Rattle.model.proofs.Verdict.{clear}
use Rattle.model.proofs.Demand3.{fresh-sound}
use Rattle.model.proofs.Picture.{allocator}
use Rattle.model.proofs.OriginalPicture.{picture-empty}
use Rattle.model.proofs.OriginalSeed.{add_is, add_none, acquire-page-is, acquire-page-none, release-one}

-- a seed that is refused with 3 passed the test before it, an acquire that is refused with 8 those before it
third : (x y z w u : Bool) → verdict (refuse 2 x ∷ refuse 3 y ∷ refuse 5 z ∷ refuse 4 w ∷ refuse 9 u ∷ []) ≡ 3 → (x ≡ false) × (y ≡ true)
third true y z w u e = absurd (omega arith)
third false true z w u e = (refl, refl)
third false false true w u e = absurd (omega arith)
third false false false true u e = absurd (omega arith)
third false false false false true e = absurd (omega arith)
third false false false false false e = absurd (omega arith)

eighth : (x y z u : Bool) → verdict (refuse 1 x ∷ refuse 1 y ∷ refuse 8 z ∷ refuse 9 u ∷ []) ≡ 8 → (x ≡ false) × (z ≡ true)
eighth true y z u e = absurd (omega arith)
eighth false true z u e = absurd (omega arith)
eighth false false true u e = (refl, refl)
eighth false false false true e = absurd (omega arith)
eighth false false false false e = absurd (omega arith)

-- an empty tree is an empty allocator
allocator-empty : (L : Ladder) → allocator L (empty (top L)) ≡ empty_allocator (suc (top L))
allocator-empty L = rw (picture-empty L (top L) 0)

-- a call that may not be made does not change what the original tells
pub skipped-originals : (L : Ladder) (x : Said) (xs : List Said) (self : Allocator L) → may_make x.call x.answer ≡ false → originals L (x ∷ xs) self ≡ originals L xs self
unfolding originals
skipped-originals L x xs self e = rw e refl

-- nor what the store told
pub skipped-tellings : (L : Ladder) (x : Said) (xs : List Said) → may_make x.call x.answer ≡ false → tellings L (x ∷ xs) ≡ tellings L xs
unfolding tellings
skipped-tellings L x xs e = rw e refl

module _ (L : Ladder) (m : MultipliesUp L) (w : Addressable L) (most n : ℕ) where
  -- a call whose outcome is o: the original does the same if it may be made, else the state stays
  record SameCall (s : State L) (c : Call) (o : Outcome (State L)) : Type 0 where
    agrees : may_make c o.answer ≡ true → original L c (allocator L s.tree) ≡ gives (told L c o.answer, allocator L o.state.tree)
    stays : may_make c o.answer ≡ false → o.state ≡ s

  module _ (s : State L) (i : SoundState L most n s) where
    seed-accepted : (a e : ℕ) → verdict (tests L most n s (seed a e)) ≡ 0 → original L (seed a e) (allocator L s.tree) ≡ gives (ok none, allocator L (seed_from L (e - a) s.tree a e))
    unfolding tests original
    seed-accepted a e v =
        let t = clear (tests L most n s (seed a e)) (omega arith) v in
        let some : a < e = leb-false e a t.0 in
        let ends : e ≤ frames L (top L) = ltb-false (frames L (top L)) e t.1.0 in
        let none = (apart-iff (frames L (top L)) a e s.regions i.fit some).0 (not-false (apart a e s.regions) t.1.1.1.0) in
        rw (add_is L m w a e s.tree some ends i.sound (unseeded-free L most n s i a (e - a) (omega arith) none))

    seed-refused : (a e : ℕ) → verdict (tests L most n s (seed a e)) ≡ 3 → original L (seed a e) (allocator L s.tree) ≡ gives (err TooMuchMemory, allocator L s.tree)
    unfolding tests original
    seed-refused a e v =
        let x = third (leb e a) (ltb (frames L (top L)) e) (leb most (length s.regions)) (not (apart a e s.regions)) (lacks_room L n s (seed a e)) v in
        rw (add_none L m a e s.tree (leb-false e a x.0) (ltb-true (frames L (top L)) e x.1))

    acquire-accepted : (c : ℕ) → verdict (tests L most n s (acquire c)) ≡ 0
        → original L (acquire c) (allocator L s.tree) ≡ gives (ok (some (init (address L (picked L s c)) c)), allocator L (remove L (top L) (pred c) s.tree (picked L s c)))
    unfolding tests original
    acquire-accepted zero v = absurd (eqb-false 0 0 (clear (tests L most n s (acquire 0)) (omega arith) v).0 refl)
    acquire-accepted (suc d) v =
        let t = clear (tests L most n s (acquire (suc d))) (omega arith) v in
        rw (acquire-page-is L m w d s.tree i.sound (ltb-false (largest (top L) s.tree) (suc d) t.1.1.0))

    acquire-refused : (c : ℕ) → verdict (tests L most n s (acquire c)) ≡ 8 → original L (acquire c) (allocator L s.tree) ≡ gives (err OutOfPages, allocator L s.tree)
    unfolding tests original
    acquire-refused c v = go c (eighth (eqb c 0) (ltb (suc (top L)) c) (ltb (largest (top L) s.tree) c) (lacks_room L n s (acquire c)) v)
      where
        go : (c : ℕ) → (eqb c 0 ≡ false) × (ltb (largest (top L) s.tree) c ≡ true) → original L (acquire c) (allocator L s.tree) ≡ gives (err OutOfPages, allocator L s.tree)
        go zero x = absurd (eqb-false 0 0 x.0 refl)
        go (suc d) x = rw (acquire-page-none L m d s.tree (ltb-true (largest (top L) s.tree) (suc d) x.1))

    release-accepted : (b c : ℕ) → verdict (tests L most n s (release b c)) ≡ 0 → original L (release b c) (allocator L s.tree) ≡ gives (ok none, allocator L (store L (top L) (pred c) s.tree b))
    unfolding tests original
    release-accepted b zero v = absurd (eqb-false 0 0 (clear (tests L most n s (release b 0)) (omega arith) v).0 refl)
    release-accepted b (suc d) v =
        let t = clear (tests L most n s (release b (suc d))) (omega arith) v in
        let deep : d ≤ top L = omega (arith, ltb-false (suc (top L)) (suc d) t.1.0) in
        let p = block-stands L b d deep t.1.1.0 t.1.1.1.0 in
        rw (release-one L m w d b s.tree i.sound p (any_free-false L (top L) d s.tree b i.sound p t.1.1.1.1.1.0))

    same-call : (c : Call) → SameCall s c (step L most n s c)
    unfolding step act original
    same-call (seed a e) = go (verdict (tests L most n s (seed a e))) refl
      where
        go : (v : ℕ) → verdict (tests L most n s (seed a e)) ≡ v → SameCall s (seed a e) (settle v s (act L s (seed a e)))
        go zero v = record { agrees = λ q. seed-accepted a e v; stays = λ q. absurd (true≢false q) }
        go (suc k) v = record { agrees = λ q. seed-refused a e (v ∙ eqb-true (suc k) 3 q); stays = λ q. refl }
    same-call (acquire c) = go (verdict (tests L most n s (acquire c))) refl
      where
        go : (v : ℕ) → verdict (tests L most n s (acquire c)) ≡ v → SameCall s (acquire c) (settle v s (act L s (acquire c)))
        go zero v = record { agrees = λ q. acquire-accepted c v; stays = λ q. absurd (true≢false q) }
        go (suc k) v = record { agrees = λ q. acquire-refused c (v ∙ eqb-true (suc k) 8 q); stays = λ q. refl }
    same-call (release b c) = go (verdict (tests L most n s (release b c))) refl
      where
        go : (v : ℕ) → verdict (tests L most n s (release b c)) ≡ v → SameCall s (release b c) (settle v s (act L s (release b c)))
        go zero v = record { agrees = λ q. release-accepted b c v; stays = λ q. absurd (true≢false q) }
        go (suc k) v = record { agrees = λ q. absurd (false≢true q); stays = λ q. refl }
    same-call report = go (verdict (tests L most n s report))
      where
        go : (v : ℕ) → SameCall s report (settle v s (act L s report))
        go zero = record { agrees = λ q. refl; stays = λ q. absurd (true≢false q) }
        go (suc k) = record { agrees = λ q. absurd (false≢true q); stays = λ q. refl }

  -- any number of calls, from a sound state on
  same-calls : (cs : List Call) (s : State L) → SoundState L most n s → originals L (transcript L most n cs s) (allocator L s.tree) ≡ gives (tellings L (transcript L most n cs s))
  unfolding originals tellings transcript
  same-calls [] s i = refl
  same-calls (c ∷ cs) s i = let o = step L most n s c in go (may_make c o.answer) refl (same-call s i c) (same-calls cs o.state (demand2 L most n s (shown L s) i (same_self L (shown L s)) c).keeps)
    where
      go : let o = step L most n s c in let said = transcript L most n cs o.state in (x : Bool) → may_make c o.answer ≡ x → SameCall s c o
          → originals L said (allocator L o.state.tree) ≡ gives (tellings L said)
          → originals L (transcript L most n (c ∷ cs) s) (allocator L s.tree) ≡ gives (tellings L (transcript L most n (c ∷ cs) s))
      go true x k ih = rw (x, k.agrees x, ih)
      go false x k ih = rw x (ap (λ u. originals L (transcript L most n cs (step L most n s c).state) (allocator L u.tree)) (sym (k.stays x)) ∙ ih)

pub as-original : (L : Ladder) (most n : ℕ) → AsOriginal L most n
as-original L most n m w l cs = rw (← (allocator-empty L)) (same-calls L m w most n cs (fresh L) (fresh-sound L most n l))
