-- The test of one node, a law for each way through it. Assumes nothing.
use mathlib.Core.Bool.{Bool, true, false, not, ◌&&◌}
use mathlib.Core.List.{List}
use mathlib.Core.Logic.{inl, inr}
use mathlib.Core.Path.{◌≡◌, refl, sym, ap, ◌∙◌}
use Prim.Native.Nat.{ℕ, zero, suc, ◌+◌}
use native.Mathlib.Decide.{ℕ_discrete}
use native.Mathlib.Omega.{arith}
use lib.Dec.{eqb}
use borrow.Author.Tests.{eq-eqb, ne_eqb, eqb-true, eqb-false, not-true}
use Rattle.model.specs.Calls.{Region}
use Rattle.model.specs.TreeStore.{covered}
use Rattle.pool.specs.Nodes.{children_all, children_max}
use Rattle.pool.specs.Words.{has_token, link_of, max_of, token_of, word}
use Rattle.pool.specs.Check.{all_below, in_regions, marks_pass, max_below, passes}
use Rattle.pool.proofs.Blocks.{zero_or}
use Rattle.pool.proofs.Cover.{and_intro, and-true}

pub mark-bare : (l v m : ℕ) (a : Bool) → token_of v ≡ 0 → marks_pass l v m a ≡ (eqb (max_of v) m && not a)
unfolding marks_pass
mark-bare l v m a e = go (token_of v) e
  where
    go : (t : ℕ) → t ≡ 0 → ◌≡◌ {A = Bool} (elim t [ zero ↦ eqb (max_of v) m && not a | suc _ ↦ eqb (max_of v) l && eqb m 0 ]) (eqb (max_of v) m && not a)
    go zero e = refl
    go (suc k) e = absurd (omega arith)

pub mark-token : (l v m : ℕ) (a : Bool) → (token_of v ≡ 0 → ⊥) → marks_pass l v m a ≡ (eqb (max_of v) l && eqb m 0)
unfolding marks_pass
mark-token l v m a e = go (token_of v) e
  where
    go : (t : ℕ) → (t ≡ 0 → ⊥) → ◌≡◌ {A = Bool} (elim t [ zero ↦ eqb (max_of v) m && not a | suc _ ↦ eqb (max_of v) l && eqb m 0 ]) (eqb (max_of v) l && eqb m 0)
    go zero e = absurd (e refl)
    go (suc k) e = refl

-- ---- the rules at one node, by its token
pub rule-off : (l v m : ℕ) (a : Bool) → marks_pass l v m a ≡ true → token_of v ≡ 0 → (max_of v ≡ m) × (a ≡ false)
rule-off l v m a h e = let b = and-true (sym (mark-bare l v m a e) ∙ h) in (eqb-true (max_of v) m b.0, not-true a b.1)

pub rule-on : (l v m : ℕ) (a : Bool) → marks_pass l v m a ≡ true → token_of v ≡ 1 → (max_of v ≡ l) × (m ≡ 0)
rule-on l v m a h e = let b = and-true (sym (mark-token l v m a (λ z. omega arith)) ∙ h) in (eqb-true (max_of v) l b.0, eqb-true m 0 b.1)

pub off-rule : (l v m : ℕ) (a : Bool) → token_of v ≡ 0 → max_of v ≡ m → a ≡ false → marks_pass l v m a ≡ true
off-rule l v m a e h f = mark-bare l v m a e ∙ and_intro (eq-eqb (max_of v) m h) (ap not f)

pub on-rule : (l v m : ℕ) (a : Bool) → token_of v ≡ 1 → max_of v ≡ l → m ≡ 0 → marks_pass l v m a ≡ true
on-rule l v m a e h f = mark-token l v m a (λ z. omega arith) ∙ and_intro (eq-eqb (max_of v) l h) (eq-eqb m 0 f)

pub token-is : (v : ℕ) → (token_of v ≡ 0 → ⊥) → token_of v ≡ 1
token-is v h = elim (ℕ_discrete (token_of v) 0) [ yes e ↦ absurd (h e) | no e ↦ omega arith ]

pub token-none : (v : ℕ) → has_token v ≡ false → token_of v ≡ 0
token-none v e = let ne = eqb-false (token_of v) 1 e in omega (arith, ne)

pub no-token : (v : ℕ) → token_of v ≡ 0 → has_token v ≡ false
no-token v e = ne_eqb (token_of v) 1 (λ z. omega arith)

-- ---- the regions at one node, by its token
pub regions-bare : (rs : List Region) (v b n : ℕ) → token_of v ≡ 0 → in_regions rs v b n ≡ true
unfolding in_regions
regions-bare rs v b n e = go (token_of v) e
  where
    go : (t : ℕ) → t ≡ 0 → ◌≡◌ {A = Bool} (elim t [ zero ↦ true | suc _ ↦ covered rs b n ]) true
    go zero e = refl
    go (suc k) e = absurd (omega arith)

pub regions-token : (rs : List Region) (v b n : ℕ) → (token_of v ≡ 0 → ⊥) → in_regions rs v b n ≡ covered rs b n
unfolding in_regions
regions-token rs v b n e = go (token_of v) e
  where
    go : (t : ℕ) → (t ≡ 0 → ⊥) → ◌≡◌ {A = Bool} (elim t [ zero ↦ true | suc _ ↦ covered rs b n ]) (covered rs b n)
    go zero e = absurd (e refl)
    go (suc k) e = refl

and-false : (a b : Bool) → b ≡ false → (a && b) ≡ false
and-false true b e = e
and-false false b e = refl

and_right : (a b : Bool) → b ≡ true → (a && b) ≡ a
and_right true b e = e
and_right false b e = refl

module _ (fn sz : ℕ → ℕ) (p : List ℕ) (rs : List Region) where
  pub passes-out : (l q b : ℕ) → in_regions rs (word p q) b (sz l) ≡ false → passes fn sz p rs l q b ≡ false
  unfolding passes
  passes-out l q b e = and-false (marks_pass l (word p q) (max_below p (fn l) (link_of (word p q))) (all_below p (fn l) (link_of (word p q)))) (in_regions rs (word p q) b (sz l)) e

  pub passes-shut : (l q b : ℕ) → in_regions rs (word p q) b (sz l) ≡ true → link_of (word p q) ≡ 0 → passes fn sz p rs l q b ≡ marks_pass l (word p q) 0 false
  unfolding passes max_below all_below
  passes-shut l q b e z =
      and_right (marks_pass l (word p q) (max_below p (fn l) (link_of (word p q))) (all_below p (fn l) (link_of (word p q)))) (in_regions rs (word p q) b (sz l)) e
      ∙ ap (λ (k : ℕ). marks_pass l (word p q) (max_below p (fn l) k) (all_below p (fn l) k)) z

  pub passes-open : (l q b : ℕ) → in_regions rs (word p q) b (sz l) ≡ true → (link_of (word p q) ≡ 0 → ⊥)
      → passes fn sz p rs l q b ≡ marks_pass l (word p q) (children_max p (link_of (word p q) + 1) (fn l)) (children_all p (link_of (word p q) + 1) (fn l))
  unfolding passes max_below all_below
  passes-open l q b e ne =
      and_right (marks_pass l (word p q) (max_below p (fn l) (link_of (word p q))) (all_below p (fn l) (link_of (word p q)))) (in_regions rs (word p q) b (sz l)) e
      ∙ elim (zero_or (link_of (word p q))) [
        | inl z ↦ absurd (ne z)
        | inr ke ↦
            let e₂ : suc (suc ke.0) ≡ link_of (word p q) + 1 = omega (arith, ke.1) in
            ap (λ (k : ℕ). marks_pass l (word p q) (max_below p (fn l) k) (all_below p (fn l) k)) ke.1 ∙ ap (λ (a : ℕ). marks_pass l (word p q) (children_max p a (fn l)) (children_all p a (fn l))) e₂
      ]
