-- Opening a node: what a new block at the end of the words in use leaves of the others. Assumes nothing.
use mathlib.Core.List.{List}
use mathlib.Core.Logic.{◌≢◌}
use mathlib.Core.Path.{◌≡◌, sym, ◌∙◌}
use Prim.Native.Nat.{ℕ, suc, ◌+◌, ◌*◌, ◌<◌}
use native.Mathlib.Decide.{dec_le, ℕ_discrete}
use native.Mathlib.Omega.{arith}
use Rattle.pool.specs.Words.{level_of, link_of, word}
use Rattle.pool.specs.Blocks.{In, child_in, delta}
use Rattle.pool.proofs.Blocks.{child_in-of, delta-other, delta-same, sum-delta}
use Rattle.pool.proofs.Sums.{sum-cong}

pub child_in-one : (x L n : ℕ) → In (suc L) n x → child_in x L n ≡ 1
unfolding child_in
child_in-one x L n i = sum-cong (suc L) n (λ y. delta y x) (λ y. delta x y) (λ y r. flip y) ∙ sum-delta (suc L) n x i
  where
    flip : (y : ℕ) → delta y x ≡ delta x y
    flip y = elim (ℕ_discrete y x) [ yes e ↦ delta-same y x e ∙ sym (delta-same x y (sym e)) | no e ↦ delta-other y x e ∙ sym (delta-other x y (λ d. e (sym d))) ]

pub child_in-out : (x L n : ℕ) → (In (suc L) n x → ⊥) → child_in x L n ≡ 0
child_in-out x L n h = elim (dec_le 1 (child_in x L n)) [ yes a ↦ absurd (h (child_in-of x L n a)) | no a ↦ omega arith ]

-- p' is p with the node at q, of level l + 1, opened: its block of n children is at L. Of the words below used all others stay
pub record Grown (p p' : List ℕ) (used L l q n : ℕ) : Type 0 where
  pub was : link_of (word p q) ≡ 0
  pub link : link_of (word p' q) ≡ L
  pub level : level_of (word p' q) ≡ level_of (word p q)
  pub head : word p' L ≡ q
  pub shut : (y : ℕ) → In (suc L) n y → link_of (word p' y) ≡ 0
  pub levels : (y : ℕ) → In (suc L) n y → level_of (word p' y) ≡ l
  pub rest : (x : ℕ) → x < used → x ≢ q → (In L (suc n) x → ⊥) → word p' x ≡ word p x

-- the words of an opening at the end of the used part
pub record Opened (p p' : List ℕ) (used l q n : ℕ) : Type 0 where
  pub was : link_of (word p q) ≡ 0
  pub node : word p' q ≡ word p q + 128 * used
  pub head : word p' used ≡ q
  pub children : (y : ℕ) → In (suc used) n y → word p' y ≡ 16 * l
  pub rest : (x : ℕ) → x < used → x ≢ q → word p' x ≡ word p x

pub opened-grown : {p p' : List ℕ} {used l q n : ℕ} → l < 8 → Opened p p' used l q n → Grown p p' used used l q n
opened-grown l8 op = record {
  was = op.was;
  link = omega (arith, op.node, op.was);
  level = omega (arith, op.node);
  head = op.head;
  shut = λ y i. omega (arith, op.children y i);
  levels = λ y i. omega (arith, op.children y i);
  rest = λ x xu ne _. op.rest x xu ne;
}
