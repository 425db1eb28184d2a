-- How often a place stands in the blocks, counted by what a reader believes and by the walk's sums: the two agree. Assumes nothing.
use mathlib.Core.List.{List}
use mathlib.Core.Logic.{inl, inr}
use mathlib.Core.Path.{◌≡◌, refl, sym, ap, ap₂, ◌∙◌}
use Prim.Native.Nat.{ℕ, zero, suc, ◌+◌, ◌-◌, ◌≤◌, ◌<◌}
use native.Mathlib.Decide.{dec_le, dec_lt, ℕ_discrete}
use native.Mathlib.Omega.{arith}
use Rattle.sizes.specs.Ladder.{Ladder}
use Rattle.model.proofs.Frames.{within-above, within-below, within_in}
use Rattle.model.specs.Frames.{bit, within}
use Rattle.pages.specs.Sound.{times}
use Rattle.pool.specs.Words.{fan_out_of, link_of, word, sum_over}
use Rattle.pool.specs.Blocks.{Ok, Once, child_in, delta, met, total}
use Rattle.pool.proofs.Blocks.{delta-other, delta-same, total-open, total-shut, zero_or}
use Rattle.pool.proofs.Needed.{met-place}
use Rattle.pool.proofs.Opening.{child_in-one, child_in-out}
use Rattle.pool.proofs.Sums.{sum-cong}

-- a block's places are its header's and its children's
block-met : (x k n : ℕ) → bit (within (suc k) (suc n) x) ≡ delta (suc k) x + child_in x (suc k) n
block-met x k n = go (ℕ_discrete (suc k) x) (dec_lt x (suc k)) (dec_lt x (suc k + suc n))
  where
    go : Dec (suc k ≡ x) → Dec (x < suc k) → Dec (x < suc k + suc n) → bit (within (suc k) (suc n) x) ≡ delta (suc k) x + child_in x (suc k) n
    go (yes e) c d = omega (arith, ap bit (within_in (suc k) (suc n) x (omega arith) (omega arith)), delta-same (suc k) x e, child_in-out x (suc k) n (λ i. omega (arith, i)))
    go (no e) (yes c) d = omega (arith, ap bit (within-below (suc k) (suc n) x c), delta-other (suc k) x e, child_in-out x (suc k) n (λ i. omega (arith, i)))
    go (no e) (no c) (yes d) = omega (arith, ap bit (within_in (suc k) (suc n) x (omega arith) d), delta-other (suc k) x e, child_in-one x (suc k) n (omega arith))
    go (no e) (no c) (no d) = omega (arith, ap bit (within-above (suc k) (suc n) x (omega arith)), delta-other (suc k) x e, child_in-out x (suc k) n (λ i. omega (arith, i)))

module _ (L : Ladder) (p : List ℕ) where
  times-shut : (x l q : ℕ) → link_of (word p q) ≡ 0 → times L p x (suc l) q ≡ 0
  unfolding times
  times-shut x l q e = ap {B = ℕ} (λ (v : ℕ). elim v [ zero ↦ 0 | suc j ↦ bit (within (suc j) (suc (fan_out_of L (suc l))) x) + sum_over (suc (suc j)) (fan_out_of L (suc l)) (times L p x l) ]) e

  times-open : (x l q k : ℕ) → link_of (word p q) ≡ suc k → times L p x (suc l) q ≡ bit (within (suc k) (suc (fan_out_of L (suc l))) x) + sum_over (suc (suc k)) (fan_out_of L (suc l)) (times L p x l)
  unfolding times
  times-open x l q k e = ap {B = ℕ} (λ (v : ℕ). elim v [ zero ↦ 0 | suc j ↦ bit (within (suc j) (suc (fan_out_of L (suc l))) x) + sum_over (suc (suc j)) (fan_out_of L (suc l)) (times L p x l) ]) e

  times-total : (x l q : ℕ) → times L p x l q ≡ total (fan_out_of L) p (λ a n. delta a x + child_in x a n) l q
  unfolding times total
  times-total x zero q = refl
  times-total x (suc l) q = elim (zero_or (link_of (word p q))) [
    | inl z ↦ times-shut x l q z ∙ sym (total-shut (fan_out_of L) p (λ a n. delta a x + child_in x a n) (suc l) q z)
    | inr ke ↦
        times-open x l q ke.0 ke.1
        ∙ ap₂ ◌+◌ (block-met x ke.0 (fan_out_of L (suc l))) (sum-cong (suc (suc ke.0)) (fan_out_of L (suc l)) (times L p x l) (total (fan_out_of L) p (λ a n. delta a x + child_in x a n) l) (λ y i. times-total x l y))
        ∙ sym (total-open (fan_out_of L) p (λ a n. delta a x + child_in x a n) l q ke.0 ke.1)
  ]

  pub times-met : (x l q : ℕ) → times L p x l q ≡ met (fan_out_of L) p x l q
  unfolding met
  times-met x l q = times-total x l q

  -- each place of the used part behind the root once, and no other
  abbrev pub Filled : (l used : ℕ) → Type 0
  Filled l used = (x : ℕ) → times L p x l 0 ≡ bit (within 1 (used - 1) x)

  pub filled_of : (Ord : ℕ → ℕ → Type 0) (l used : ℕ) → 1 ≤ used → Ok (fan_out_of L) Ord p used l 0 → Once (fan_out_of L) p l used → Filled l used
  filled_of Ord l used low o once x = times-met x l 0 ∙ go (dec_lt x 1) (dec_lt x used)
    where
      other : (1 ≤ x → x < used → ⊥) → met (fan_out_of L) p x l 0 ≡ 0
      other h = elim (dec_le 1 (met (fan_out_of L) p x l 0)) [ yes a ↦ let i = met-place (fan_out_of L) Ord p used x l 0 o a in absurd (h i.0 i.1) | no a ↦ omega arith ]

      go : Dec (x < 1) → Dec (x < used) → met (fan_out_of L) p x l 0 ≡ bit (within 1 (used - 1) x)
      go (yes a) b = other (λ c d. omega arith) ∙ sym (ap bit (within-below 1 (used - 1) x a))
      go (no a) (yes b) = once x (omega arith) b ∙ sym (ap bit (within_in 1 (used - 1) x (omega arith) (omega arith)))
      go (no a) (no b) = other (λ c d. b d) ∙ sym (ap bit (within-above 1 (used - 1) x (omega arith)))

  pub filled-once : (l used : ℕ) → 1 ≤ used → Filled l used → Once (fan_out_of L) p l used
  filled-once l used low f x x1 xu = sym (times-met x l 0) ∙ f x ∙ ap bit (within_in 1 (used - 1) x x1 (omega arith))

  pub filled-low : (l used : ℕ) → 1 ≤ used → Filled l used → (x : ℕ) → 1 ≤ met (fan_out_of L) p x l 0 → x < used
  filled-low l used low f x h = elim (dec_lt x used) [ yes a ↦ a | no a ↦ absurd (omega (arith, h, times-met x l 0, f x, ap bit (within-above 1 (used - 1) x (omega arith)))) ]
