-- The rules of max and token at every node, and what the fields of Sound say of tokens: each follows from the other. Assumes nothing.
use mathlib.Core.Bool.{true, false}
use mathlib.Core.List.{List}
use mathlib.Core.Path.{◌≡◌, refl, sym, ap, ◌∙◌}
use Prim.Native.Nat.{ℕ, zero, suc, ◌+◌, ◌≤◌, ◌<◌}
use native.Mathlib.Decide.{ℕ_discrete}
use native.Mathlib.Omega.{arith}
use lib.Dec.{ltb}
use lib.ListN.{length}
use Rattle.sizes.specs.Ladder.{Ladder}
use Rattle.model.specs.Calls.{Region}
use Rattle.model.specs.Ladder.{top}
use Rattle.model.specs.Lists.{maximum}
use Rattle.model.specs.TreeStore.{covered}
use Rattle.pool.specs.Nodes.{children_all, children_max}
use Rattle.pages.specs.Sound.{Below, Node, deeper, itself}
use Rattle.pool.specs.View.{tab}
use Rattle.pool.specs.Words.{fan_out_of, link_of, max_of, token_of, word}
use Rattle.pool.specs.Blocks.{By, Ok, Shape}
use Rattle.pool.specs.Check.{all_below, marks_pass, max_below, passes}
use Rattle.pool.proofs.Blocks.{ok-open, sees-ok}
use Rattle.pool.proofs.Cover.{and_intro, and-true}
use Rattle.pool.proofs.Lists.{run-tab}
use Rattle.pool.proofs.Marks.{regions-bare, regions-token, rule-off, rule-on, token-is}
use Rattle.pool.proofs.Max.{tab-le}
use Rattle.pages.proofs.Nodes.{RuleAt, below-sees, below-trans}

-- ---- what is below a node, by its link
module _ (p : List ℕ) (n : ℕ) where
  pub max-shut : (v : ℕ) → v ≡ 0 → max_below p n v ≡ 0
  unfolding max_below
  max-shut v e = ap (max_below p n) e

  pub max_open : (v k : ℕ) → v ≡ suc k → max_below p n v ≡ children_max p (suc (suc k)) n
  unfolding max_below
  max_open v k e = ap (max_below p n) e

  pub all_none : (v : ℕ) → v ≡ 0 → all_below p n v ≡ false
  unfolding all_below
  all_none v e = ap (all_below p n) e

  pub all-open : (v k : ℕ) → v ≡ suc k → all_below p n v ≡ children_all p (suc (suc k)) n
  unfolding all_below
  all-open v k e = ap (all_below p n) e

children-le : (p : List ℕ) (a n i : ℕ) → a + n ≤ length p → i < n → max_of (word p (a + i)) ≤ children_max p a n
unfolding children_max
children-le p a n i h l = omega (arith, ap (maximum max_of) (run-tab p a n h), tab-le {A = ℕ} max_of (word p) a n (a + i) (omega arith) (omega arith))

tab-zero : (p : List ℕ) (a n : ℕ) → ((j : ℕ) → a ≤ j → j < a + n → max_of (word p j) ≡ 0) → maximum max_of (tab (word p) a n) ≡ 0
unfolding maximum tab
tab-zero p a zero h = refl
tab-zero p a (suc n) h = omega (arith, h a (omega arith) (omega arith), tab-zero p (suc a) n (λ j lo hi. h j (omega arith) (omega arith)))

pub children-zero : (p : List ℕ) (a n : ℕ) → a + n ≤ length p → ((j : ℕ) → a ≤ j → j < a + n → max_of (word p j) ≡ 0) → children_max p a n ≡ 0
unfolding children_max
children-zero p a n h z = ap (maximum max_of) (run-tab p a n h) ∙ tab-zero p a n z

-- ---- the test of a node is the rules and the regions
module _ (fan frames : ℕ → ℕ) (p : List ℕ) (rs : List Region) (l q b : ℕ) where
  pub passes_of : marks_pass l (word p q) (max_below p (fan l) (link_of (word p q))) (all_below p (fan l) (link_of (word p q))) ≡ true → (token_of (word p q) ≡ 1 → covered rs b (frames l) ≡ true) → passes fan frames p rs l q b ≡ true
  unfolding passes
  passes_of h c = and_intro h (elim (ℕ_discrete (token_of (word p q)) 0) [
    | yes e ↦ regions-bare rs (word p q) b (frames l) e
    | no e ↦ regions-token rs (word p q) b (frames l) e ∙ c (token-is (word p q) e)
  ])

  pub passes-rule : passes fan frames p rs l q b ≡ true → marks_pass l (word p q) (max_below p (fan l) (link_of (word p q))) (all_below p (fan l) (link_of (word p q))) ≡ true
  unfolding passes
  passes-rule h = (and-true h).0

  pub passes-inside : passes fan frames p rs l q b ≡ true → token_of (word p q) ≡ 1 → covered rs b (frames l) ≡ true
  unfolding passes
  passes-inside h e = sym (regions-token rs (word p q) b (frames l) (λ z. omega arith)) ∙ (and-true {a = marks_pass l (word p q) (max_below p (fan l) (link_of (word p q))) (all_below p (fan l) (link_of (word p q)))} h).1

-- ---- where the blocks are in order and every node keeps the rules, a token has nothing offered below it
module _ (L : Ladder) (p : List ℕ) (used : ℕ) (s : Shape (fan_out_of L) (suc (top L)) p used) where
  pub node_ok : {l q b : ℕ} → Node L p l q b → Ok (fan_out_of L) (By ltb) p used l q
  node_ok n = sees-ok (fan_out_of L) (By ltb) used s.rules (below-sees L p n)

  ok-pos : (l q : ℕ) → Ok (fan_out_of L) (By ltb) p used l q → 1 ≤ l
  unfolding Ok
  ok-pos zero q o = absurd o
  ok-pos (suc l) q o = omega arith

  pub node-pos : (l q b : ℕ) → Node L p l q b → 1 ≤ l
  node-pos l q b n = ok-pos l q (node_ok n)

  node-fits : (l q b k : ℕ) → Node L p (suc l) q b → link_of (word p q) ≡ suc k → suc (suc k) + fan_out_of L (suc l) ≤ length p
  node-fits l q b k n e = omega (arith, (ok-open (fan_out_of L) (By ltb) p used l q k (node_ok n) e).fits, s.high)

  module _ (rule : (l q b : ℕ) → Node L p l q b → RuleAt L p l q) where
    -- a node whose max is 0 has no token, and its children's max is 0
    zero-token : (l q b : ℕ) → Node L p l q b → max_of (word p q) ≡ 0 → token_of (word p q) ≡ 0
    zero-token l q b n z = elim (ℕ_discrete (token_of (word p q)) 0) [
      | yes e ↦ e
      | no e ↦ absurd (omega (arith, node-pos l q b n, (rule-on l (word p q) (max_below p (fan_out_of L l) (link_of (word p q))) (all_below p (fan_out_of L l) (link_of (word p q))) (rule l q b n) (token-is (word p q) e)).0))
    ]

    zero-below : (l q b : ℕ) → Node L p l q b → max_of (word p q) ≡ 0 → max_below p (fan_out_of L l) (link_of (word p q)) ≡ 0
    zero-below l q b n z = sym (rule-off l (word p q) (max_below p (fan_out_of L l) (link_of (word p q))) (all_below p (fan_out_of L l) (link_of (word p q))) (rule l q b n) (zero-token l q b n z)).0 ∙ z

    child-zero : (m r c k i : ℕ) → Node L p (suc m) r c → max_below p (fan_out_of L (suc m)) (link_of (word p r)) ≡ 0 → link_of (word p r) ≡ suc k → i < fan_out_of L (suc m) → max_of (word p (suc (suc k) + i)) ≡ 0
    child-zero m r c k i n z e h = omega (arith, z, max_open p (fan_out_of L (suc m)) (link_of (word p r)) k e, children-le p (suc (suc k)) (fan_out_of L (suc m)) i (node-fits m r c k n e) h)

    below-zero : {l q b m r c : ℕ} → Node L p l q b → max_below p (fan_out_of L l) (link_of (word p q)) ≡ 0 → Below L p l q b m r c → max_below p (fan_out_of L m) (link_of (word p r)) ≡ 0
    below-zero n z itself = z
    below-zero n z (deeper {m = m} {r = r} {c = c} k i s e h) = zero-below m _ _ (below-trans L p n (deeper k i s e h)) (child-zero m r c k i (below-trans L p n s) (below-zero n z s) e h)

    pub quiet-below : {l q b m r c : ℕ} → Node L p l q b → token_of (word p q) ≡ 1 → Below L p l q b m r c → m < l → token_of (word p r) ≡ 0
    quiet-below n t itself lt = absurd (omega arith)
    quiet-below {l} {q} {b} n t (deeper {m = m} {r = r} {c = c} k i s e h) lt =
        let z : max_below p (fan_out_of L l) (link_of (word p q)) ≡ 0 = (rule-on l (word p q) (max_below p (fan_out_of L l) (link_of (word p q))) (all_below p (fan_out_of L l) (link_of (word p q))) (rule l q b n) t).1 in
        zero-token m _ _ (below-trans L p n (deeper k i s e h)) (child-zero m r c k i (below-trans L p n s) (below-zero n z s) e h)
