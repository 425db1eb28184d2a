-- Whether some frame of a block is free, read off the pool (refusal 7). Assumes nothing.
use mathlib.Core.Bool.{Bool, true, false}
use mathlib.Core.List.{List, []}
use mathlib.Core.Path.{◌≡◌, refl, sym, ap, ◌∙◌}
use Prim.Native.Nat.{ℕ, zero, suc, pred, ◌+◌, ◌/◌, ◌%◌, ◌≤◌, ◌<◌}
use native.Mathlib.Nat.{mod-lt}
use native.Mathlib.Omega.{arith}
use lib.Dec.{ltb}
use borrow.Author.Tests.{lt-ltb, le-ltb, eq-eqb, ne_eqb}
use Rattle.sizes.specs.Ladder.{Ladder, code}
use Rattle.sizes.specs.Six.{six}
use Rattle.model.proofs.Change.{child-lt}
use Rattle.model.proofs.Ladder.{frames-pos}
use Rattle.model.specs.Ladder.{fan, frames}
use Rattle.model.specs.Lists.{maximum}
use Rattle.model.specs.Tree.{Tree, empty, largest, node}
use Rattle.model.specs.TreeStore.{any_free}
use Rattle.pool.specs.Room.{any_free_w}
use Rattle.pool.specs.View.{block, view}
use Rattle.pool.specs.Words.{fan_out_of, first_child, has_token, link_of, max_of, word}
use Rattle.pool.specs.Asks.{Maxed}
use Rattle.pool.specs.Blocks.{Child, Readable}
use Rattle.pool.proofs.Step.{readable-child}
use Rattle.pool.proofs.Tree.{tab-at}

module _ (L : Ladder) where
  empty-none : (d d' b : ℕ) → any_free L d d' (empty d) b ≡ false
  unfolding any_free maximum
  empty-none zero d' b = refl
  empty-none (suc d) d' b = go (ltb d' (suc d)) refl (empty-none d d' (b % frames L d))
    where
      go : (x : Bool) → ltb d' (suc d) ≡ x → any_free L d d' (empty d) (b % frames L d) ≡ false → any_free L (suc d) d' (node false []) b ≡ false
      go false e ih = rw (e, any_free) (le-ltb 0 0 (omega arith))
      go true e ih = rw (e, any_free) ih

  -- THE DESCENT ON WORDS IS THE TREE'S TEST
  pub any_free_w-is : (d d' : ℕ) (p : List ℕ) (u q b : ℕ) → Readable L d p u q → Maxed L d p q → b < frames L d → any_free_w L d d' p q b ≡ any_free L d d' (view L d (word p) q) b
  unfolding any_free_w any_free largest view
  any_free_w-is zero d' p u q b g m h = go (has_token (word p q)) refl m
    where
      go : (v : Bool) → has_token (word p q) ≡ v → max_of (word p q) ≡ largest 0 v → any_free_w L zero d' p q b ≡ v
      go true t e = rw (t, any_free_w)
      go false t e = rw (t, any_free_w) (le-ltb 0 (max_of (word p q)) (omega arith))
  any_free_w-is (suc d) d' p u q b g m h = go (has_token (word p q)) refl m.0 (λ y c. any_free_w-is d d' p u y (b % frames L d) (readable-child L d p u q y g c) (m.1 y c) (mod-lt b (frames-pos L d)))
    where
      go : (v : Bool) → has_token (word p q) ≡ v → max_of (word p q) ≡ largest (suc d) (node v (block (fan L (suc d)) (view L d (word p)) (link_of (word p q))))
          → ((y : ℕ) → Child (fan_out_of L) p (suc d) q y → any_free_w L d d' p y (b % frames L d) ≡ any_free L d d' (view L d (word p) y) (b % frames L d))
          → any_free_w L (suc d) d' p q b ≡ any_free L (suc d) d' (node v (block (fan L (suc d)) (view L d (word p)) (link_of (word p q)))) b
      go true t e ih = rw (t, any_free_w)
      go false t e ih = at (ltb d' (suc d)) refl
        where
          at : (x : Bool) → ltb d' (suc d) ≡ x → any_free_w L (suc d) d' p q b ≡ any_free L (suc d) d' (node false (block (fan L (suc d)) (view L d (word p)) (link_of (word p q)))) b
          at false l = rw (t, any_free_w, l, any_free) (ap (ltb 0) e)
          at true l = by (link_of (word p q)) refl
            where
              by : (k : ℕ) → link_of (word p q) ≡ k → any_free_w L (suc d) d' p q b ≡ any_free L (suc d) d' (node false (block (fan L (suc d)) (view L d (word p)) (link_of (word p q)))) b
              by zero z = rw (t, any_free_w, l, any_free, z) (sym (empty-none d d' (b % frames L d)))
              by (suc k) z =
                  let lt = child-lt L d b h in
                  rw (t, any_free_w, l, any_free, z) (ih (suc (suc k) + b / frames L d) (record { k = k; link = z; at = omega arith })
                  ∙ ap (λ (x : Tree d). any_free L d d' x (b % frames L d)) (sym (tab-at (view L d (word p)) (suc (suc k)) (fan L (suc d)) (b / frames L d) (empty d) lt)))

-- ---- at the code's numbers
pub free-token : (level code : ℕ) (p : List ℕ) (q b : ℕ) → word p q / 8 % 2 ≡ 1 → any_free_w six (pred level) (pred code) p q b ≡ true
unfolding any_free_w
free-token zero code p q b e = rw (eq-eqb (word p q / 8 % 2) 1 e, any_free_w)
free-token (suc zero) code p q b e = rw (eq-eqb (word p q / 8 % 2) 1 e, any_free_w)
free-token (suc (suc d)) code p q b e = rw (eq-eqb (word p q / 8 % 2) 1 e, any_free_w)

pub free-here : (level : ℕ) (p : List ℕ) (q b : ℕ) → (word p q / 8 % 2 ≡ 1 → ⊥) → any_free_w six (pred level) (pred level) p q b ≡ ltb 0 (max_of (word p q))
unfolding any_free_w
free-here zero p q b e = rw (ne_eqb (word p q / 8 % 2) 1 e, any_free_w)
free-here (suc zero) p q b e = rw (ne_eqb (word p q / 8 % 2) 1 e, any_free_w)
free-here (suc (suc d)) p q b e = rw (ne_eqb (word p q / 8 % 2) 1 e, any_free_w, le-ltb (suc d) (suc d) (omega arith))

pub free-shut : (level code : ℕ) (p : List ℕ) (q b : ℕ) → (word p q / 8 % 2 ≡ 1 → ⊥) → 1 ≤ code → code < level → link_of (word p q) ≡ 0 → any_free_w six (pred level) (pred code) p q b ≡ false
unfolding any_free_w
free-shut zero code p q b e lo l z = absurd (omega arith)
free-shut (suc zero) code p q b e lo l z = absurd (omega arith)
free-shut (suc (suc d)) zero p q b e lo l z = absurd (omega arith)
free-shut (suc (suc d)) (suc d') p q b e lo l z = rw (ne_eqb (word p q / 8 % 2) 1 e, any_free_w, lt-ltb d' (suc d) (omega arith), z)

pub free-down : (level code : ℕ) (p : List ℕ) (q b level' y b' : ℕ) → (word p q / 8 % 2 ≡ 1 → ⊥) → 1 ≤ code → code < level → (link_of (word p q) ≡ 0 → ⊥)
    → level' ≡ pred level → y ≡ first_child p q + b / frames six (pred (pred level)) → b' ≡ b % frames six (pred (pred level)) → any_free_w six (pred level) (pred code) p q b ≡ any_free_w six (pred level') (pred code) p y b'
unfolding any_free_w
free-down zero code p q b level' y b' e lo l ne e₁ e₂ e₃ = absurd (omega arith)
free-down (suc zero) code p q b level' y b' e lo l ne e₁ e₂ e₃ = absurd (omega arith)
free-down (suc (suc d)) zero p q b level' y b' e lo l ne e₁ e₂ e₃ = absurd (omega arith)
free-down (suc (suc d)) (suc d') p q b level' y b' e lo l ne e₁ e₂ e₃ = rw (e₃, e₂, e₁) (go (link_of (word p q)) refl ne)
  where
    go : (k : ℕ) → link_of (word p q) ≡ k → (k ≡ 0 → ⊥) → any_free_w six (suc d) d' p q b ≡ any_free_w six d d' p (first_child p q + b / frames six d) (b % frames six d)
    go zero z n = absurd (n refl)
    go (suc k) z n = rw (ne_eqb (word p q / 8 % 2) 1 e, any_free_w, lt-ltb d' (suc d) (omega arith), z)
