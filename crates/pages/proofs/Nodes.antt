-- What is said of every node of a pool: the ways down to it, and what rules and tests at the root say of it. Assumes nothing.
use mathlib.Core.Bool.{Bool, true}
use mathlib.Core.List.{List}
use mathlib.Core.Logic.{inl, inr}
use mathlib.Core.Path.{◌≡◌, subst}
use Prim.Native.Nat.{ℕ, zero, suc, ◌+◌, ◌-◌, ◌*◌, ◌≤◌, ◌<◌}
use native.Mathlib.Omega.{arith}
use Rattle.sizes.specs.Ladder.{Ladder}
use Rattle.pages.specs.Sound.{Below, itself, deeper}
use Rattle.pool.specs.Words.{fan_out_of, frames_of, link_of, word}
use Rattle.pool.specs.Blocks.{In}
use Rattle.pool.specs.Check.{Marked, all_below, marks_pass, max_below}
use Rattle.pool.proofs.Blocks.{Sees, here, sees-snoc, zero_or}
use Rattle.pool.proofs.Walk.{All, all-child, all-make, all-shut}

module _ (L : Ladder) (p : List ℕ) where
  -- ---- the ways down
  pub below-trans : {l q b m r c n s d : ℕ} → Below L p l q b m r c → Below L p m r c n s d → Below L p l q b n s d
  below-trans u itself = u
  below-trans u (deeper k i v e h) = deeper k i (below-trans u v) e h

  below-child : (l q b k i : ℕ) → link_of (word p q) ≡ suc k → i < fan_out_of L (suc l) → Below L p (suc l) q b l (suc (suc k) + i) (b + i * frames_of L l)
  below-child l q b k i e h = deeper k i itself e h

  -- the same by the child's place
  pub below_at : (l q b k y : ℕ) → link_of (word p q) ≡ suc k → In (suc (suc k)) (fan_out_of L (suc l)) y → Below L p (suc l) q b l y (b + (y - suc (suc k)) * frames_of L l)
  below_at l q b k y e i =
      let z : suc (suc k) + (y - suc (suc k)) ≡ y = omega (arith, i) in
      subst (λ (x : ℕ). Below L p (suc l) q b l x (b + (y - suc (suc k)) * frames_of L l)) z (below-child l q b k (y - suc (suc k)) e (omega (arith, i)))

  pub below-sees : {l q b m r c : ℕ} → Below L p l q b m r c → Sees (fan_out_of L) p m r l q
  below-sees itself = here
  below-sees (deeper k i s e h) = sees-snoc (fan_out_of L) k (suc (suc k) + i) e (omega arith) (below-sees s)

  -- ---- a test passes at every node that is seen exactly if it does at every node below
  module _ (ord : ℕ → ℕ → Bool) (test : ℕ → ℕ → ℕ → Bool) where
    pub below_all : {l q b m r c : ℕ} → All (fan_out_of L) (frames_of L) ord p test l q b → Below L p l q b m r c → All (fan_out_of L) (frames_of L) ord p test m r c
    below_all a itself = a
    below_all a (deeper {m = m} {r = r} {c = c} k i s e h) = all-child (fan_out_of L) (frames_of L) ord p test m r c k (below_all a s) e i h

    pub all_of : (l q b : ℕ) → ((m r c : ℕ) → Below L p l q b m r c → test m r c ≡ true) → All (fan_out_of L) (frames_of L) ord p test l q b
    unfolding All
    all_of zero q b f = tt
    all_of (suc l) q b f = elim (zero_or (link_of (word p q))) [
      | inl z ↦ all-shut (fan_out_of L) (frames_of L) ord p test l q b (f (suc l) q b itself) z
      | inr ke ↦ all-make (fan_out_of L) (frames_of L) ord p test l q b ke.0 (f (suc l) q b itself) ke.1
          (λ i h. all_of l (suc (suc ke.0) + i) (b + i * frames_of L l) (λ m r c s. f m r c (below-trans (below-child l q b ke.0 i ke.1 h) s)))
    ]

  -- ---- the same of the rules of max and token
  abbrev pub RuleAt : (l q : ℕ) → Type 0
  RuleAt l q = marks_pass l (word p q) (max_below p (fan_out_of L l) (link_of (word p q))) (all_below p (fan_out_of L l) (link_of (word p q))) ≡ true

  abbrev pub MarkedAt : (l q : ℕ) → Type 0
  MarkedAt zero q = Unit
  MarkedAt (suc d) q = Marked L d p q

  pub marked-rule : (l q : ℕ) → 1 ≤ l → MarkedAt l q → RuleAt l q
  marked-rule zero q h a = absurd (omega arith)
  marked-rule (suc zero) q h a = a
  marked-rule (suc (suc d)) q h a = a.0

  marked-child : (m r k i : ℕ) → MarkedAt (suc m) r → link_of (word p r) ≡ suc k → i < fan_out_of L (suc m) → MarkedAt m (suc (suc k) + i)
  marked-child zero r k i a e h = tt
  marked-child (suc m) r k i a e h = a.1 (suc (suc k) + i) (record { k = k; link = e; at = omega arith })

  pub below-marked : {l q b m r c : ℕ} → MarkedAt l q → Below L p l q b m r c → MarkedAt m r
  below-marked a itself = a
  below-marked a (deeper {m = m} {r = r} k i s e h) = marked-child m r k i (below-marked a s) e h

  pub marked-of : (d q b : ℕ) → ((m r c : ℕ) → Below L p (suc d) q b m r c → RuleAt m r) → Marked L d p q
  marked-of zero q b f = f 1 q b itself
  marked-of (suc d) q b f = (
    f (suc (suc d)) q b itself,
    λ y c. marked-of d y (b + (y - suc (suc c.k)) * frames_of L (suc d)) (λ m r g s. f m r g (below-trans (below_at (suc d) q b c.k y c.link c.at) s)),
  )
