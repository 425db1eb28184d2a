-- Laws of the tree that a pool holds, read off any words. Assumes nothing.
use mathlib.Core.Bool.{false}
use mathlib.Core.List.{List, ◌∷◌, map}
use mathlib.Core.Logic.{◌≢◌}
use mathlib.Core.Path.{◌≡◌, refl, sym, ap, ◌∙◌}
use Prim.Native.Nat.{ℕ, zero, suc, ◌+◌, ◌*◌, ◌/◌, ◌%◌, ◌≤◌, ◌<◌}
use native.Mathlib.Nat.{add-zero, add-suc, suc-add, le_of_suc-le-suc, not-suc-le-zero}
use native.Mathlib.Omega.{arith}
use lib.ListN.{length, get_or, set, replicate}
use borrow.Author.Tests.{ne_eqb}
use Rattle.sizes.specs.Ladder.{Ladder}
use Rattle.model.specs.Lists.{all}
use Rattle.model.specs.Tree.{Tree, empty, opened, token}
use Rattle.pool.specs.View.{block, tab, view}
use Rattle.pool.specs.Words.{has_token}

pub tab-length : {A : Type 0} (g : ℕ → A) (i n : ℕ) → length (tab g i n) ≡ n
unfolding tab
tab-length g i zero = refl
tab-length g i (suc n) = ap suc (tab-length g (suc i) n)

pub tab-at : {A : Type 0} (g : ℕ → A) (i n j : ℕ) (z : A) → j < n → get_or (tab g i n) j z ≡ g (i + j)
unfolding tab
tab-at g i zero j z h = absurd (not-suc-le-zero h)
tab-at g i (suc n) zero z h = rw (add-zero i)
tab-at g i (suc n) (suc j) z h = tab-at g (suc i) n j z (le_of_suc-le-suc h) ∙ ap g (suc-add i j ∙ sym (add-suc i j))

pub tab-same : {A : Type 0} (g h : ℕ → A) (i n : ℕ) → ((j : ℕ) → i ≤ j → j < i + n → g j ≡ h j) → tab g i n ≡ tab h i n
unfolding tab
tab-same g h i zero e = refl
tab-same g h i (suc n) e = rw (e i (omega arith) (omega arith), tab-same g h (suc i) n (λ j p q. e j (omega arith) (omega arith)))

pub tab-set : {A : Type 0} (g h : ℕ → A) (i n j : ℕ) → ((k : ℕ) → i ≤ k → k < i + n → k ≢ i + j → g k ≡ h k) → tab g i n ≡ set (tab h i n) j (g (i + j))
unfolding tab
tab-set g h i zero j e = refl
tab-set g h i (suc n) zero e = rw (add-zero i, tab-same g h (suc i) n (λ k p q. e k (omega arith) (omega arith) (λ x. omega arith)))
tab-set g h i (suc n) (suc j) e =
    rw (e i (omega arith) (omega arith) (λ x. omega arith), tab-set g h (suc i) n j (λ k p q r. e k (omega arith) (omega arith) (λ x. r (omega arith))), suc-add i j, add-suc i j)

pub tab-rep : {A : Type 0} (g : ℕ → A) (i n : ℕ) (a : A) → ((j : ℕ) → i ≤ j → j < i + n → g j ≡ a) → tab g i n ≡ replicate n a
unfolding tab
tab-rep g i zero a e = refl
tab-rep g i (suc n) a e = rw (e i (omega arith) (omega arith), tab-rep g (suc i) n a (λ j p q. e j (omega arith) (omega arith)))

pub block-pos : {A : Type 0} (n : ℕ) (g : ℕ → A) (l : ℕ) → 0 < l → block n g l ≡ tab g (suc l) n
block-pos n g zero h = absurd (omega arith)
block-pos n g (suc l) h = refl

new-token : (x : ℕ) → has_token (16 * x) ≡ false
new-token x = ne_eqb (16 * x / 8 % 2) 1 (λ e. omega arith)

pub tab-map : {A B : Type 0} (f : A → B) (g : ℕ → A) (i n : ℕ) → map f (tab g i n) ≡ tab (λ j. f (g j)) i n
unfolding tab
tab-map f g i zero = refl
tab-map f g i (suc n) = ap {B = List _} (λ x. f (g i) ∷ x) (tab-map f g (suc i) n)

module _ (L : Ladder) where
  pub token-view : (d : ℕ) (v : ℕ → ℕ) (p : ℕ) → token d (view L d v p) ≡ has_token (v p)
  unfolding view
  token-view zero v p = refl
  token-view (suc d) v p = refl

  pub all-view : (d : ℕ) (v : ℕ → ℕ) (i n : ℕ) → all (token d) (tab (view L d v) i n) ≡ all has_token (tab v i n)
  unfolding tab all
  all-view d v i zero = refl
  all-view d v i (suc n) = rw (token-view d v i, all-view d v (suc i) n)

  pub opened-tab : (d : ℕ) (g : ℕ → Tree d) (i n : ℕ) → 0 < n → opened L d (tab g i n) ≡ tab g i n
  unfolding opened tab
  opened-tab d g i zero h = absurd (omega arith)
  opened-tab d g i (suc n) h = refl

  pub view-new : (d : ℕ) (v : ℕ → ℕ) (q : ℕ) → suc d < 8 → v q ≡ 16 * suc d → view L d v q ≡ empty d
  unfolding view
  view-new zero v q h e = rw (e, new-token 1)
  view-new (suc d) v q h e = let z : 16 * suc (suc d) / 128 ≡ 0 = omega arith in rw (e, new-token (suc (suc d)), z)
