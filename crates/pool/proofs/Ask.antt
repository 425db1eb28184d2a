-- What the functions ask for, by level and code, and the definitions unrolled by one level at the code's own numbers. Assumes nothing.
use mathlib.Core.Bool.{Bool, true, false}
use mathlib.Core.List.{List}
use mathlib.Core.Path.{◌≡◌, refl, sym, ap, ap₂, ◌∙◌}
use Prim.Native.Nat.{ℕ, zero, suc, pred, ◌+◌, ◌*◌, ◌-◌, ◌/◌, ◌%◌, ◌≤◌, ◌<◌}
use native.Mathlib.Nat.{mod-lt}
use native.Mathlib.Omega.{arith}
use lib.Dec.{ltb}
use lib.ListN.{length, set}
use borrow.Author.Tests.{lt-ltb, le-ltb, eq-eqb, ne_eqb}
use Rattle.sizes.specs.Ladder.{code}
use Rattle.sizes.specs.Six.{six}
use Rattle.model.proofs.Change.{child-lt}
use Rattle.model.proofs.Ladder.{frames-pos}
use Rattle.model.specs.Ladder.{fan, frames}
use Rattle.pool.specs.Nodes.{Words, children_all, children_max, hand_if, hand_w, map_run, mark_w, merge_if, merge_w, open_if, open_w, open_with, refresh_w, store_w, with_marks, words}
use Rattle.pool.specs.Room.{openings_w}
use Rattle.pool.specs.Words.{fan_out_of, first_child, link_of, pack, word}
use Rattle.pool.specs.Asks.{OpenAsk, RunAsk, StoreAsk}
use Rattle.pool.specs.Blocks.{Child, Readable}
use Rattle.pool.proofs.Max.{run_fits}
use Rattle.pool.proofs.Step.{child-own, readable-child, step-readable}
use Rattle.pool.proofs.Store.{need-ge, need-open, store_w-done}
use Rattle.pool.proofs.View.{OpenDone, open_done, open-words, open_need}

-- ---- opening

-- a new child's word, and the link that is added to the node's
new-child : (l : ℕ) → pack 0 0 l 0 ≡ 16 * l
unfolding pack
new-child l = omega arith

new-link : (u : ℕ) → pack 0 0 0 u ≡ 128 * u
unfolding pack
new-link u = omega arith

-- what is written for an opening: the header h, n words v from a on, and the node's new word w
pub open-with : (level : ℕ) (p : List ℕ) (u q h v a n w : ℕ) → 2 ≤ level → h ≡ q → v ≡ pack 0 0 (level - 1) 0 → a ≡ u + 1 → n ≡ fan_out_of six level → w ≡ word p q + pack 0 0 0 u
    → set (map_run (λ _. v) (set p u h) a n) q w ≡ open_with six p u (pred (pred level)) q
unfolding open_with
open-with zero p u q h v a n w lo eh ev ea en ew = absurd (omega arith)
open-with (suc zero) p u q h v a n w lo eh ev ea en ew = absurd (omega arith)
open-with (suc (suc d)) p u q h v a n w lo eh ev ea en ew =
    let ev' : v ≡ 16 * suc d = ev ∙ new-child (suc (suc d) - 1) ∙ omega arith in
    let ea' : a ≡ suc u = omega arith in
    let ew' : w ≡ word p q + 128 * u = omega (arith, ew, new-link u) in
    rw (eh, ev', ea', en, ew')

pub open-law : (level : ℕ) (p : List ℕ) (u q : ℕ) → OpenAsk level p u q → link_of (word p q) ≡ 0
    → (open_with six p u (pred (pred level)) q ≡ (open_w six (pred (pred level)) (words p u) q).pool) × (u + fan_out_of six level + 1 ≡ (open_w six (pred (pred level)) (words p u) q).used)
unfolding open_w
open-law zero p u q a z = absurd (omega (arith, a.lo))
open-law (suc zero) p u q a z = absurd (omega (arith, a.lo))
open-law (suc (suc d)) p u q a z = rw z (refl, omega arith)

pub open-not : (level : ℕ) (p : List ℕ) (u q : ℕ) → (link_of (word p q) ≡ 0 → ⊥) → open_w six level (words p u) q ≡ words p u
unfolding open_w
open-not d p u q ne = go (link_of (word p q)) ne
  where
    go : (l : ℕ) → (l ≡ 0 → ⊥) → open_if six d (words p u) q l ≡ words p u
    go zero ne = absurd (ne refl)
    go (suc k) ne = refl

-- ---- an open node and its run of children

pub refresh-law : (level : ℕ) (p : List ℕ) (q a n : ℕ) → RunAsk level p q → a ≡ link_of (word p q) + 1 → n ≡ fan_out_of six level → refresh_w six (pred (pred level)) p q ≡ set p q (with_marks (children_max p a n) (word p q))
unfolding refresh_w
refresh-law zero p q a n r e f = absurd (omega (arith, r.lo))
refresh-law (suc zero) p q a n r e f = absurd (omega (arith, r.lo))
refresh-law (suc (suc d)) p q a n r e f =
    let fa : first_child p q ≡ a = omega arith in
    ap₂ (λ (x y : ℕ). set p q (with_marks (children_max p x y) (word p q))) fa (sym f)

pub merge-no : (level : ℕ) (p : List ℕ) (q a n : ℕ) → RunAsk level p q → a ≡ link_of (word p q) + 1 → n ≡ fan_out_of six level → children_all p a n ≡ false → merge_w six (pred (pred level)) p q ≡ refresh_w six (pred (pred level)) p q
unfolding merge_w
merge-no zero p q a n r e f h = absurd (omega (arith, r.lo))
merge-no (suc zero) p q a n r e f h = absurd (omega (arith, r.lo))
merge-no (suc (suc d)) p q a n r e f h =
    let fa : first_child p q ≡ a = omega arith in
    ap (λ (b : Bool). merge_if six b d p q) (ap₂ (λ (x y : ℕ). children_all p x y) fa (sym f) ∙ h)

pub merge-yes : (level : ℕ) (p : List ℕ) (q a n : ℕ) → RunAsk level p q → a ≡ link_of (word p q) + 1 → n ≡ fan_out_of six level → children_all p a n ≡ true → merge_w six (pred (pred level)) p q ≡ set (map_run (with_marks 0) p a n) q (with_marks (8 + level) (word p q))
unfolding merge_w
merge-yes zero p q a n r e f h = absurd (omega (arith, r.lo))
merge-yes (suc zero) p q a n r e f h = absurd (omega (arith, r.lo))
merge-yes (suc (suc d)) p q a n r e f h =
    let fa : first_child p q ≡ a = omega arith in
    ap (λ (b : Bool). merge_if six b d p q) (ap₂ (λ (x y : ℕ). children_all p x y) fa (sym f) ∙ h)
    ∙ ap₂ (λ (x y : ℕ). set (map_run (with_marks 0) p x y) q (with_marks (8 + suc (suc d)) (word p q))) fa (sym f)

pub hand-no : (d : ℕ) (p : List ℕ) (q : ℕ) → (word p q / 8 % 2 ≡ 1 → ⊥) → hand_w six d p q ≡ p
unfolding hand_w
hand-no d p q h = ap (λ (b : Bool). hand_if six b d p q) (ne_eqb (word p q / 8 % 2) 1 h)

pub hand-yes : (level : ℕ) (p : List ℕ) (q a n : ℕ) → RunAsk level p q → a ≡ link_of (word p q) + 1 → n ≡ fan_out_of six level → word p q / 8 % 2 ≡ 1 → hand_w six (pred (pred level)) p q ≡ set (map_run (with_marks (7 + level)) p a n) q (with_marks 0 (word p q))
unfolding hand_w
hand-yes zero p q a n r e f h = absurd (omega (arith, r.lo))
hand-yes (suc zero) p q a n r e f h = absurd (omega (arith, r.lo))
hand-yes (suc (suc d)) p q a n r e f h =
    let fa : first_child p q ≡ a = omega arith in
    let m : 8 + suc d ≡ 7 + suc (suc d) = omega arith in
    ap (λ (b : Bool). hand_if six b d p q) (eq-eqb (word p q / 8 % 2) 1 h)
    ∙ ap₂ (λ (x y : ℕ). set (map_run (with_marks (8 + suc d)) p x y) q (with_marks 0 (word p q))) fa (sym f)
    ∙ ap (λ (x : ℕ). set (map_run (with_marks x) p a n) q (with_marks 0 (word p q))) m

-- ---- store

pub store-here : (level : ℕ) (s : Words) (q b : ℕ) → 1 ≤ level → store_w six (pred level) (pred level) s q b ≡ mark_w (8 + level) s q
unfolding store_w
store-here zero s q b h = absurd (omega arith)
store-here (suc zero) s q b h = refl
store-here (suc (suc d)) s q b h = rw (le-ltb (suc d) (suc d) (omega arith), store_w)

-- the node at hand, above the block's level
module _ (d d' : ℕ) (p : List ℕ) (u q b : ℕ) (a : StoreAsk (suc (suc d)) (suc d') p u q b) (l : suc d' < suc (suc d)) where
  O : Words
  O = open_w six d (words p u) q

  y : ℕ
  y = first_child O.pool q + b / frames six d

  down : ltb d' (suc d) ≡ true
  down = lt-ltb d' (suc d) (omega arith)

  small : suc (suc d) < 8
  small = omega (arith, a.hi)

  lt : b / frames six d < fan six (suc d)
  lt = child-lt six d b a.base

  room_o : (open_w six d (words p u) q).used ≤ length p
  room_o = omega (arith, open-words six d (words p u) q, need-ge six d d' p q b down, a.room)

  o : OpenDone six d (words p u) (open_w six d (words p u) q) q
  o = open_done six d (words p u) q small a.readable room_o

  gq : Readable six (suc d) (open_w six d (words p u) q).pool (open_w six d (words p u) q).used q
  gq = step-readable six (suc d) p (open_w six d (words p u) q).pool u (open_w six d (words p u) q).used q a.readable o.step room_o

  need : openings_w six (suc d) d' p q b ≡ open_need six d (link_of (word p q)) + openings_w six d d' (open_w six d (words p u) q).pool (first_child (open_w six d (words p u) q).pool q + b / frames six d) (b % frames six d)
  need = need-open six d d' (words p u) q b small a.readable down lt room_o

  child : Child (fan_out_of six) (open_w six d (words p u) q).pool (suc d) q (first_child (open_w six d (words p u) q).pool q + b / frames six d)
  child = record { k = o.k; link = o.link; at = omega (arith, o.link, lt) }

  pub child-ask : StoreAsk (suc d) (suc d') (open_w six d (words p u) q).pool (open_w six d (words p u) q).used (first_child (open_w six d (words p u) q).pool q + b / frames six d) (b % frames six d)
  child-ask = record {
    lo = omega arith;
    deep = omega arith;
    hi = omega (arith, a.hi);
    cap = omega (arith, a.cap, o.step.len);
    readable = readable-child six d (open_w six d (words p u) q).pool (open_w six d (words p u) q).used q (first_child (open_w six d (words p u) q).pool q + b / frames six d) gq child;
    base = mod-lt b (frames-pos six d);
    room = omega (arith, need, a.room, open-words six d (words p u) q, o.step.len);
  }

  child-open-ask : OpenAsk (suc (suc d)) p u q
  child-open-ask = record {
    lo = omega arith;
    hi = a.hi;
    at = a.readable.at;
    fit = a.readable.fit;
    cap = a.cap;
    room = λ z. omega (arith, need-ge six d d' p q b down, a.room, ap (open_need six d) z);
  }

  -- after the child's store the node is as it was
  child-run-ask : RunAsk (suc (suc d)) (store_w six d d' (open_w six d (words p u) q) (first_child (open_w six d (words p u) q).pool q + b / frames six d) (b % frames six d)).pool q
  child-run-ask =
      let O = open_w six d (words p u) q in
      let y = first_child O.pool q + b / frames six d in
      let R = store_w six d d' O y (b % frames six d) in
      let k = child-ask in
      let r = store_w-done six d d' O y (b % frames six d) (omega (arith, a.hi)) k.readable k.base k.room in
      let own = child-own six d O.pool R.pool O.used R.used q y gq child r.step in
      record { lo = omega arith; hi = a.hi; at = omega (arith, gq.at, gq.fit, r.step.len); run = omega (arith, ap link_of own, run_fits six d O.pool O.used q o.k gq o.link, r.step.len) }

  child-store : store_w six (suc d) d' (words p u) q b
      ≡ words (merge_w six d (store_w six d d' (open_w six d (words p u) q) (first_child (open_w six d (words p u) q).pool q + b / frames six d) (b % frames six d)).pool q)
      (store_w six d d' (open_w six d (words p u) q) (first_child (open_w six d (words p u) q).pool q + b / frames six d) (b % frames six d)).used
  unfolding store_w
  child-store = rw (down, store_w)

-- the same at the code's numbers: level' is one less, p₁ and u₁ are what the opening left, y and b' the child's place and frame
pub record Down (level code : ℕ) (p : List ℕ) (u q b : ℕ) (p₁ : List ℕ) (u₁ level' y b' : ℕ) : Type 0 where
  pub ask : StoreAsk level' code p₁ u₁ y b'
  pub after : (p₂ : List ℕ) → p₂ ≡ (store_w six (pred level') (pred code) (words p₁ u₁) y b').pool → RunAsk level p₂ q
  pub same : (p₂ : List ℕ) (r : ℕ) → p₂ ≡ (store_w six (pred level') (pred code) (words p₁ u₁) y b').pool → r ≡ (store_w six (pred level') (pred code) (words p₁ u₁) y b').used
      → (merge_w six (pred (pred level)) p₂ q ≡ (store_w six (pred level) (pred code) (words p u) q b).pool) × (r ≡ (store_w six (pred level) (pred code) (words p u) q b).used)

pub open-ask : (level code : ℕ) (p : List ℕ) (u q b : ℕ) → StoreAsk level code p u q b → code < level → OpenAsk level p u q
open-ask zero code p u q b a l = absurd (omega arith)
open-ask (suc zero) code p u q b a l = absurd (omega (arith, a.lo))
open-ask (suc (suc d)) zero p u q b a l = absurd (omega (arith, a.lo))
open-ask (suc (suc d)) (suc d') p u q b a l = child-open-ask d d' p u q b a l

store-down : (level code : ℕ) (p : List ℕ) (u q b : ℕ) → StoreAsk level code p u q b → code < level
    → Down level code p u q b (open_w six (pred (pred level)) (words p u) q).pool (open_w six (pred (pred level)) (words p u) q).used (pred level)
    (first_child (open_w six (pred (pred level)) (words p u) q).pool q + b / frames six (pred (pred level))) (b % frames six (pred (pred level)))
store-down zero code p u q b a l = absurd (omega arith)
store-down (suc zero) code p u q b a l = absurd (omega (arith, a.lo))
store-down (suc (suc d)) zero p u q b a l = absurd (omega (arith, a.lo))
store-down (suc (suc d)) (suc d') p u q b a l = record {
  ask = child-ask d d' p u q b a l;
  after = λ p₂ e. rw e (child-run-ask d d' p u q b a l);
  same = λ p₂ r e f. (ap (λ (x : List ℕ). merge_w six d x q) e ∙ ap (λ (x : Words). x.pool) (sym (child-store d d' p u q b a l)), f ∙ ap (λ (x : Words). x.used) (sym (child-store d d' p u q b a l)));
}

pub store-down-at : (level code : ℕ) (p : List ℕ) (u q b : ℕ) (p₁ : List ℕ) (u₁ level' y b' : ℕ) → StoreAsk level code p u q b → code < level
    → p₁ ≡ (open_w six (pred (pred level)) (words p u) q).pool → u₁ ≡ (open_w six (pred (pred level)) (words p u) q).used → level' ≡ pred level
    → y ≡ first_child p₁ q + b / frames six (pred (pred level)) → b' ≡ b % frames six (pred (pred level)) → Down level code p u q b p₁ u₁ level' y b'
store-down-at level code p u q b p₁ u₁ level' y b' a l e₁ e₂ e₃ e₄ e₅ = rw (e₄, e₅, e₃, e₂, e₁) (store-down level code p u q b a l)
