-- Max and token of nodes are set anew: that leaves the blocks as they are. Assumes nothing.
use mathlib.Core.List.{List}
use mathlib.Core.Logic.{inl, inr}
use mathlib.Core.Path.{◌≡◌, refl, ap₂, ◌∙◌, fun_ext}
use Prim.Native.Nat.{ℕ, zero, suc, ◌+◌, ◌/◌, ◌≤◌}
use native.Mathlib.Omega.{arith}
use Rattle.pool.specs.Words.{level_of, link_of, word, sum_over}
use Rattle.pool.specs.Blocks.{Ok, delta, head_met, of_block, total}
use Rattle.pool.proofs.Blocks.{delta-same, ok-make, ok-open, ok-shut, total-open, zero_or}
use Rattle.pool.proofs.Sums.{sum-ge}

module _ (fan : ℕ → ℕ) where
  -- sums over blocks go by the links alone
  pub total-links : (p p' : List ℕ) (g : ℕ → ℕ → ℕ) → ((x : ℕ) → link_of (word p' x) ≡ link_of (word p x)) → (l q : ℕ) → total fan p' g l q ≡ total fan p g l q
  unfolding total
  total-links p p' g h zero q = refl
  total-links p p' g h (suc l) q = ap₂ (λ (f : ℕ → ℕ) (v : ℕ). of_block g (fan (suc l)) f v) (fun_ext (λ y. total-links p p' g h l y)) (h q)

  pub ok-relabel : (Ord : ℕ → ℕ → Type 0) (p p' : List ℕ) (used : ℕ) → ((x : ℕ) → word p' x / 16 ≡ word p x / 16) → (l q : ℕ) → ((x : ℕ) → 1 ≤ head_met fan p x l q → word p' x ≡ word p x) → Ok fan Ord p used l q → Ok fan Ord p' used l q
  unfolding Ok
  ok-relabel Ord p p' used h zero q hd o = o
  ok-relabel Ord p p' used h (suc l) q hd o =
      let lv : level_of (word p' q) ≡ suc l = omega (arith, h q, o.0) in
      let same : link_of (word p' q) ≡ link_of (word p q) = omega (arith, h q) in
      elim (zero_or (link_of (word p q))) [
        | inl z ↦ ok-shut fan Ord p' used l q lv (same ∙ z)
        | inr ke ↦
            let b = ok-open fan Ord p used l q ke.0 o ke.1 in
            let t : (x : ℕ) → head_met fan p x (suc l) q ≡ delta (suc ke.0) x + sum_over (suc (suc ke.0)) (fan (suc l)) (head_met fan p x l) = λ x. total-open fan p (λ L n. delta L x) l q ke.0 ke.1 in
            ok-make fan Ord p' used l q ke.0 lv (same ∙ ke.1)
            (record {
              deep = b.deep;
              past = b.past;
              fits = b.fits;
              head = hd (suc ke.0) (omega (arith, t (suc ke.0), delta-same (suc ke.0) (suc ke.0) refl)) ∙ b.head;
              children = λ y i. ok-relabel Ord p p' used h l y (λ x g. hd x (omega (arith, t x, sum-ge (suc (suc ke.0)) (fan (suc l)) (head_met fan p x l) y i))) (b.children y i);
            })
      ]
