-- What the acquire's functions ask for, by level and code, and the definitions unrolled by one level at the code's own numbers. Assumes nothing.
use mathlib.Core.Bool.{true}
use mathlib.Core.List.{List}
use mathlib.Core.Path.{◌≡◌, refl, ap, ◌∙◌}
use Prim.Native.Nat.{ℕ, zero, suc, pred, ◌+◌, ◌*◌, ◌≤◌, ◌<◌}
use native.Mathlib.Omega.{arith}
use lib.Dec.{ltb}
use lib.ListN.{length}
use borrow.Author.Tests.{lt-ltb, le-ltb}
use Rattle.sizes.specs.Ladder.{code, fan_out}
use Rattle.sizes.specs.Six.{six}
use Rattle.model.proofs.Free.{pick-lowest}
use Rattle.model.proofs.Ladder.{frames-pos}
use Rattle.model.specs.Ladder.{fan, frames}
use Rattle.model.specs.Tree.{pick}
use Rattle.pool.specs.Nodes.{Taken, Words, children_first, hand_w, mark_w, open_w, refresh_w, take_w, words}
use Rattle.pool.specs.View.{view}
use Rattle.pool.specs.Words.{fan_out_of, first_child, link_of, word}
use Rattle.pool.specs.Asks.{OpenAsk, RunAsk, TakeAsk}
use Rattle.pool.specs.Blocks.{size}
use Rattle.pool.proofs.Max.{run_fits}
use Rattle.pool.proofs.Step.{child-own, readable-child}
use Rattle.pool.proofs.Store.{need-ge}
use Rattle.pool.proofs.Take.{EnterW, Took, child_at, child_place, child_tree, enter_w, enter_w-child, handed, take_w-done}
use Rattle.pool.proofs.View.{open-words, open_need}

-- ---- acquire

abbrev pub taken : Words → ℕ → ℕ → Taken
taken s b n = record { words = s; base = b; probes = n }

pub take-here : (level : ℕ) (s : Words) (q : ℕ) → 1 ≤ level → take_w six (pred level) (pred level) s q ≡ taken (mark_w 0 s q) 0 0
unfolding take_w
take-here zero s q h = absurd (omega arith)
take-here (suc zero) s q h = refl
take-here (suc (suc d)) s q h = rw (le-ltb (suc d) (suc d) (omega arith), take_w)

pub frames_small : (l : ℕ) → l < 6 → frames six l ≤ 34359738368
unfolding frames fan fan_out
frames_small zero h = omega arith
frames_small (suc zero) h = omega arith
frames_small (suc (suc zero)) h = omega arith
frames_small (suc (suc (suc zero))) h = omega arith
frames_small (suc (suc (suc (suc zero)))) h = omega arith
frames_small (suc (suc (suc (suc (suc zero))))) h = omega arith
frames_small (suc (suc (suc (suc (suc (suc l)))))) h = absurd (omega arith)

-- what holds above the block's level, at level d + 2 and code d' + 1
module _ (d d' : ℕ) (p : List ℕ) (u q : ℕ) (a : TakeAsk (suc (suc d)) (suc d') p u q) (l : suc d' < suc (suc d)) where
  small : suc (suc d) < 8
  small = omega (arith, a.hi)

  down : ltb d' (suc d) ≡ true
  down = lt-ltb d' (suc d) (omega arith)

  E : EnterW six d d' (words p u) q
  E = enter_w six d d' (words p u) q small a.readable down a.sound a.maxed a.offers a.room

  lens : length (handed six d (words p u) q) ≡ length p
  lens = E.hand_step.len ∙ E.open_step.len

  child-ask : TakeAsk (suc d) (suc d') (handed six d (words p u) q) (open_w six d (words p u) q).used (child_at six d d' (words p u) q)
  child-ask = record {
    lo = omega arith;
    deep = omega arith;
    hi = omega (arith, a.hi);
    cap = omega (arith, a.cap, lens);
    readable = readable-child six d (handed six d (words p u) q) (open_w six d (words p u) q).used q (child_at six d d' (words p u) q) E.readable (enter_w-child six E);
    sound = E.sound;
    maxed = E.children (child_at six d d' (words p u) q) (enter_w-child six E);
    offers = E.reach;
    room = omega (arith, a.room, E.need, open-words six d (words p u) q, lens);
  }

  child-took : Took six d d' (words (handed six d (words p u) q) (open_w six d (words p u) q).used) (child_at six d d' (words p u) q) (child_tree six d d' (words p u) q)
      (take_w six d d' (words (handed six d (words p u) q) (open_w six d (words p u) q).used) (child_at six d d' (words p u) q))
  child-took =
      let k = child-ask in
      take_w-done six d d' (words (handed six d (words p u) q) (open_w six d (words p u) q).used) (child_at six d d' (words p u) q) (omega arith) k.readable (omega arith) k.sound k.maxed k.offers k.room

  child-run : RunAsk (suc (suc d)) (take_w six d d' (words (handed six d (words p u) q) (open_w six d (words p u) q).used) (child_at six d d' (words p u) q)).words.pool q
  child-run =
      let P = handed six d (words p u) q in
      let R = take_w six d d' (words P (open_w six d (words p u) q).used) (child_at six d d' (words p u) q) in
      let own = child-own six d P R.words.pool (open_w six d (words p u) q).used R.words.used q (child_at six d d' (words p u) q) E.readable (enter_w-child six E) child-took.step in
      record { lo = omega arith; hi = a.hi; at = omega (arith, E.readable.at, E.readable.fit, child-took.step.len); run = omega (arith, ap link_of own, run_fits six d P (open_w six d (words p u) q).used q E.k E.readable E.link, child-took.step.len) }

  child-base : child_place six d d' (words p u) q * frames six d + (take_w six d d' (words (handed six d (words p u) q) (open_w six d (words p u) q).used) (child_at six d d' (words p u) q)).base < 34359738368
  child-base =
      let t = view six (suc d) (word p) q in
      let b = (pick-lowest six (suc d) d' t a.sound a.offers).fits in
      omega (arith, child-took.base, E.base, b, frames-pos six d', frames_small (suc d) (omega arith))

  child-take : take_w six (suc d) d' (words p u) q
      ≡ (let r = take_w six d d' (words (handed six d (words p u) q) (open_w six d (words p u) q).used) (child_at six d d' (words p u) q) in
      taken (words (refresh_w six d r.words.pool q) r.words.used) (child_place six d d' (words p u) q * frames six d + r.base) (r.probes + child_place six d d' (words p u) q + 1))
  unfolding take_w
  child-take = rw (down, take_w)

  open-a : OpenAsk (suc (suc d)) p u q
  open-a = record {
    lo = omega arith;
    hi = a.hi;
    at = a.readable.at;
    fit = a.readable.fit;
    cap = a.cap;
    room = λ z. omega (arith, need-ge six d d' p q (pick six (suc d) d' (view six (suc d) (word p) q)) down, a.room, ap (open_need six d) z);
  }

  run-a : RunAsk (suc (suc d)) (open_w six d (words p u) q).pool q
  run-a = record { lo = omega arith; hi = a.hi; at = omega (arith, E.readable_o.at, E.readable_o.fit); run = omega (arith, run_fits six d (open_w six d (words p u) q).pool (open_w six d (words p u) q).used q E.k E.readable_o E.link_o) }

  -- the look along the children finds one
  look-a : (q < length (handed six d (words p u) q)) × (first_child (handed six d (words p u) q) q + fan six (suc d) ≤ length (handed six d (words p u) q)) × (child_place six d d' (words p u) q < fan six (suc d))
  look-a = (omega (arith, E.readable.at, E.readable.fit), run_fits six d (handed six d (words p u) q) (open_w six d (words p u) q).used q E.k E.readable E.link, E.lt)

pub take_open : (level code : ℕ) (p : List ℕ) (u q : ℕ) → TakeAsk level code p u q → code < level → OpenAsk level p u q
take_open zero code p u q a l = absurd (omega arith)
take_open (suc zero) code p u q a l = absurd (omega (arith, a.lo))
take_open (suc (suc d)) zero p u q a l = absurd (omega (arith, a.lo))
take_open (suc (suc d)) (suc d') p u q a l = open-a d d' p u q a l

pub take-run : (level code : ℕ) (p : List ℕ) (u q : ℕ) (p₁ : List ℕ) → TakeAsk level code p u q → code < level → p₁ ≡ (open_w six (pred (pred level)) (words p u) q).pool → RunAsk level p₁ q
take-run zero code p u q p₁ a l e = absurd (omega arith)
take-run (suc zero) code p u q p₁ a l e = absurd (omega (arith, a.lo))
take-run (suc (suc d)) zero p u q p₁ a l e = absurd (omega (arith, a.lo))
take-run (suc (suc d)) (suc d') p u q p₁ a l e = rw e (run-a d d' p u q a l)

-- p₂ is the pool after opening and handing on, a the first child's place, n the fan-out
pub take-look : (level code : ℕ) (p : List ℕ) (u q : ℕ) (p₁ p₂ : List ℕ) → TakeAsk level code p u q → code < level → p₁ ≡ (open_w six (pred (pred level)) (words p u) q).pool → p₂ ≡ hand_w six (pred (pred level)) p₁ q
    → (q < length p₂) × (first_child p₂ q + fan_out_of six level ≤ length p₂) × (children_first code p₂ (first_child p₂ q) (fan_out_of six level) < fan_out_of six level)
take-look zero code p u q p₁ p₂ a l e f = absurd (omega arith)
take-look (suc zero) code p u q p₁ p₂ a l e f = absurd (omega (arith, a.lo))
take-look (suc (suc d)) zero p u q p₁ p₂ a l e f = absurd (omega (arith, a.lo))
take-look (suc (suc d)) (suc d') p u q p₁ p₂ a l e f = rw (f, e) (look-a d d' p u q a l)

pub record TakeDown (level code : ℕ) (p : List ℕ) (u q : ℕ) (p₂ : List ℕ) (u₁ level' y i size : ℕ) : Type 0 where
  pub ask : TakeAsk level' code p₂ u₁ y
  pub after : (p₃ : List ℕ) → p₃ ≡ (take_w six (pred level') (pred code) (words p₂ u₁) y).words.pool → RunAsk level p₃ q
  pub small : i * size + (take_w six (pred level') (pred code) (words p₂ u₁) y).base < 34359738368
  pub same : take_w six (pred level) (pred code) (words p u) q
      ≡ (let r = take_w six (pred level') (pred code) (words p₂ u₁) y in taken (words (refresh_w six (pred (pred level)) r.words.pool q) r.words.used) (i * size + r.base) (r.probes + i + 1))

take-down : (level code : ℕ) (p : List ℕ) (u q : ℕ) → TakeAsk level code p u q → code < level
    → TakeDown level code p u q (handed six (pred (pred level)) (words p u) q) (open_w six (pred (pred level)) (words p u) q).used (pred level)
    (first_child (handed six (pred (pred level)) (words p u) q) q + children_first code (handed six (pred (pred level)) (words p u) q) (first_child (handed six (pred (pred level)) (words p u) q) q) (fan_out_of six level))
    (children_first code (handed six (pred (pred level)) (words p u) q) (first_child (handed six (pred (pred level)) (words p u) q) q) (fan_out_of six level)) (frames six (pred (pred level)))
take-down zero code p u q a l = absurd (omega arith)
take-down (suc zero) code p u q a l = absurd (omega (arith, a.lo))
take-down (suc (suc d)) zero p u q a l = absurd (omega (arith, a.lo))
take-down (suc (suc d)) (suc d') p u q a l = record {
  ask = child-ask d d' p u q a l;
  after = λ p₃ e. rw e (child-run d d' p u q a l);
  small = child-base d d' p u q a l;
  same = child-take d d' p u q a l;
}

pub take-down-at : (level code : ℕ) (p : List ℕ) (u q : ℕ) (p₁ p₂ : List ℕ) (u₁ level' x y n i size : ℕ) → TakeAsk level code p u q → code < level
    → p₁ ≡ (open_w six (pred (pred level)) (words p u) q).pool → p₂ ≡ hand_w six (pred (pred level)) p₁ q → u₁ ≡ (open_w six (pred (pred level)) (words p u) q).used → level' ≡ pred level
    → x ≡ first_child p₂ q → n ≡ fan_out_of six level → i ≡ children_first code p₂ x n → y ≡ x + i → size ≡ frames six (pred (pred level)) → TakeDown level code p u q p₂ u₁ level' y i size
take-down-at level code p u q p₁ p₂ u₁ level' x y n i size a l e₁ e₂ e₃ e₄ e₅ e₆ e₇ e₈ e₉ = rw (e₉, e₈, e₇, e₆, e₅, e₄, e₃, e₂, e₁) (take-down level code p u q a l)
