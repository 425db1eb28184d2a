-- Before a write: the block that an acquire will take, and the words that an acquire or a store will open, both read off the pool. Assumes nothing.
use mathlib.Core.Bool.{false}
use mathlib.Core.List.{List}
use mathlib.Core.Path.{◌≡◌, refl, sym, ◌∙◌}
use Prim.Native.Nat.{ℕ, zero, suc, pred, ◌+◌, ◌*◌, ◌/◌, ◌%◌, ◌≤◌, ◌<◌}
use native.Mathlib.Nat.{mod-lt}
use native.Mathlib.Omega.{arith}
use lib.ListN.{length}
use borrow.Author.Tests.{lt-ltb, le-ltb, eq-eqb, ne_eqb, eqb-true}
use Rattle.sizes.specs.Ladder.{code}
use Rattle.sizes.specs.Six.{six}
use Rattle.model.proofs.Change.{child-lt}
use Rattle.model.proofs.Free.{pick-lowest}
use Rattle.model.proofs.Ladder.{frames-pos}
use Rattle.model.specs.Ladder.{fan, frames}
use Rattle.pool.specs.Nodes.{children_first}
use Rattle.pool.specs.Room.{openings_w, path, pick_w}
use Rattle.pool.specs.View.{view}
use Rattle.pool.specs.Words.{fan_out_of, first_child, has_token, link_of, word}
use Rattle.pool.specs.Asks.{NeedAsk, PickAsk}
use Rattle.pool.specs.Blocks.{Child, size}
use Rattle.pool.proofs.AskTake.{frames_small}
use Rattle.pool.proofs.Max.{run_fits}
use Rattle.pool.proofs.Pick.{looks, looks-child, pick_w-is}
use Rattle.pool.proofs.Step.{readable-child}
use Rattle.pool.proofs.Store.{need-shut, need-top}
use Rattle.pool.proofs.Take.{whole-token}
use Rattle.pool.proofs.Tree.{token-view}

pub pick-here : (level code : ℕ) (p : List ℕ) (q : ℕ) → word p q / 8 % 2 ≡ 1 → pick_w six (pred level) (pred code) p q ≡ 0
unfolding pick_w
pick-here zero code p q e = refl
pick-here (suc zero) code p q e = refl
pick-here (suc (suc d)) code p q e = rw (eq-eqb (word p q / 8 % 2) 1 e, pick_w)

pub record PickDown (level code : ℕ) (p : List ℕ) (q x n i size level' y : ℕ) : Type 0 where
  pub ask : PickAsk level' code p y
  pub same : pick_w six (pred level) (pred code) p q ≡ i * size + pick_w six (pred level') (pred code) p y
  pub small : i * size + pick_w six (pred level') (pred code) p y < 34359738368

-- a node without token lies above the block's level, and its run of children lies in the pool
pub pick-look : (level code : ℕ) (p : List ℕ) (q : ℕ) → PickAsk level code p q → (word p q / 8 % 2 ≡ 1 → ⊥)
    → (code < level) × (first_child p q + fan_out_of six level ≤ length p) × (children_first code p (first_child p q) (fan_out_of six level) < fan_out_of six level)
pick-look zero code p q a t = absurd (omega (arith, a.lo, a.deep))
pick-look (suc zero) code p q a t = absurd (t (eqb-true (word p q / 8 % 2) 1 (sym (token-view six 0 (word p) q) ∙ whole-token 0 (view six 0 (word p) q) (omega (arith, a.offers)))))
pick-look (suc (suc d)) zero p q a t = absurd (omega (arith, a.lo))
pick-look (suc (suc d)) (suc d') p q a t =
    let k = looks six d d' p a.used q a.readable a.sound a.maxed a.offers (ne_eqb (word p q / 8 % 2) 1 t) in (
      elim (native.Mathlib.Decide.dec_lt (suc d') (suc (suc d))) [
        | yes l ↦ l
        | no l ↦ absurd (t (eqb-true (word p q / 8 % 2) 1 (sym (token-view six (suc d) (word p) q) ∙ whole-token (suc d) (view six (suc d) (word p) q) (omega (arith, a.offers)))))
      ],
      run_fits six d p a.used q k.k a.readable k.link,
      k.lt,
    )

pick-down : (level code : ℕ) (p : List ℕ) (q : ℕ) → PickAsk level code p q → (word p q / 8 % 2 ≡ 1 → ⊥) → code < level
    → PickDown level code p q (first_child p q) (fan_out_of six level) (children_first code p (first_child p q) (fan_out_of six level)) (frames six (pred (pred level))) (pred level) (first_child p q + children_first code p (first_child p q) (fan_out_of six level))
unfolding pick_w
pick-down zero code p q a t l = absurd (omega arith)
pick-down (suc zero) code p q a t l = absurd (omega (arith, a.lo))
pick-down (suc (suc d)) zero p q a t l = absurd (omega (arith, a.lo))
pick-down (suc (suc d)) (suc d') p q a t l =
    let f : has_token (word p q) ≡ false = ne_eqb (word p q / 8 % 2) 1 t in
    let k = looks six d d' p a.used q a.readable a.sound a.maxed a.offers f in
    let y = first_child p q + children_first (suc d') p (first_child p q) (fan six (suc d)) in
    let gk = readable-child six d p a.used q y a.readable (looks-child six k) in
    let mk = a.maxed.1 y (looks-child six k) in
    let b = (pick-lowest six (suc d) d' (view six (suc d) (word p) q) a.sound a.offers).fits in
    record {
      ask = record { lo = omega arith; deep = omega arith; hi = omega (arith, a.hi); used = a.used; readable = gk; sound = k.sound; maxed = mk; offers = k.reach };
      same = rw (f, pick_w);
      small = omega (arith, pick_w-is six d d' p a.used y gk k.sound mk k.reach, k.base, b, frames-pos six d', frames_small (suc d) (omega (arith, a.hi)));
    }

pub pick-down-at : (level code : ℕ) (p : List ℕ) (q x n i size level' y : ℕ) → PickAsk level code p q → (word p q / 8 % 2 ≡ 1 → ⊥) → code < level
    → x ≡ first_child p q → n ≡ fan_out_of six level → i ≡ children_first code p x n → size ≡ frames six (pred (pred level)) → level' ≡ pred level → y ≡ x + i → PickDown level code p q x n i size level' y
pick-down-at level code p q x n i size level' y a t l e₁ e₂ e₃ e₄ e₅ e₆ = rw (e₆, e₅, e₄, e₃, e₂, e₁) (pick-down level code p q a t l)

-- ---- the words needed
pub below-here : (level code : ℕ) → 1 ≤ code → level ≤ code → path six (pred level) (pred code) ≡ 0
unfolding path
below-here zero code k l = refl
below-here (suc zero) code k l = refl
below-here (suc (suc d)) zero k l = absurd (omega arith)
below-here (suc (suc d)) (suc d') k l = rw (le-ltb d' (suc d) (omega arith), path)

pub below-down : (level code : ℕ) → 1 ≤ code → code < level → path six (pred level) (pred code) ≡ fan_out_of six level + 1 + path six (pred (pred level)) (pred code)
unfolding path
below-down zero code k l = absurd (omega arith)
below-down (suc zero) code k l = absurd (omega arith)
below-down (suc (suc d)) zero k l = absurd (omega arith)
below-down (suc (suc d)) (suc d') k l = rw (lt-ltb d' (suc d) (omega arith), path) (omega arith)

pub need-here : (level : ℕ) (p : List ℕ) (q b : ℕ) → openings_w six (pred level) (pred level) p q b ≡ 0
unfolding openings_w
need-here zero p q b = refl
need-here (suc zero) p q b = refl
need-here (suc (suc d)) p q b = need-top six d (suc d) p q b (le-ltb (suc d) (suc d) (omega arith))

pub need-shut-law : (level code : ℕ) (p : List ℕ) (q b : ℕ) → link_of (word p q) ≡ 0 → openings_w six (pred level) (pred code) p q b ≡ path six (pred level) (pred code)
need-shut-law level code p q b z = need-shut six (pred level) (pred code) p q b z

pub record NeedDown (level code : ℕ) (p : List ℕ) (q b level' y b' : ℕ) : Type 0 where
  pub ask : NeedAsk level' code p y b'
  pub same : openings_w six (pred level) (pred code) p q b ≡ openings_w six (pred level') (pred code) p y b'
  pub low : y < length p

need-down : (level code : ℕ) (p : List ℕ) (q b : ℕ) → NeedAsk level code p q b → code < level → (link_of (word p q) ≡ 0 → ⊥)
    → NeedDown level code p q b (pred level) (first_child p q + b / frames six (pred (pred level))) (b % frames six (pred (pred level)))
unfolding openings_w
need-down zero code p q b a l ne = absurd (omega arith)
need-down (suc zero) code p q b a l ne = absurd (omega (arith, a.lo))
need-down (suc (suc d)) zero p q b a l ne = absurd (omega (arith, a.lo))
need-down (suc (suc d)) (suc d') p q b a l ne = go (link_of (word p q)) refl
  where
    go : (v : ℕ) → link_of (word p q) ≡ v → NeedDown (suc (suc d)) (suc d') p q b (suc d) (first_child p q + b / frames six d) (b % frames six d)
    go zero e = absurd (ne e)
    go (suc k) e =
        let y = first_child p q + b / frames six d in
        let c : Child (fan_out_of six) p (suc d) q y = record { k = k; link = e; at = omega (arith, e, child-lt six d b a.base) } in
        let gk = readable-child six d p a.used q y a.readable c in
        record {
          ask = record { lo = omega arith; deep = omega arith; hi = omega (arith, a.hi); used = a.used; readable = gk; base = mod-lt b (frames-pos six d) };
          same = rw (lt-ltb d' (suc d) (omega arith), openings_w, e);
          low = omega (arith, gk.at, gk.fit);
        }

pub need-down-at : (level code : ℕ) (p : List ℕ) (q b level' y b' : ℕ) → NeedAsk level code p q b → code < level → (link_of (word p q) ≡ 0 → ⊥)
    → level' ≡ pred level → y ≡ first_child p q + b / frames six (pred (pred level)) → b' ≡ b % frames six (pred (pred level)) → NeedDown level code p q b level' y b'
need-down-at level code p q b level' y b' a l ne e₁ e₂ e₃ = rw (e₃, e₂, e₁) (need-down level code p q b a l ne)
