-- Where the walk's count comes out and the sweep goes through, each place in use is met exactly once. Assumes nothing.
use mathlib.Core.Bool.{Bool, true, false, ◌&&◌}
use mathlib.Core.List.{List}
use mathlib.Core.Logic.{◌⊎◌, inl, inr}
use mathlib.Core.Path.{◌≡◌, refl, sym, ap, ap₂, ◌∙◌, subst}
use Prim.Native.Nat.{ℕ, zero, suc, ◌+◌, ◌≤◌, ◌<◌}
use native.Mathlib.Decide.{dec_le, dec_lt, ℕ_discrete}
use native.Mathlib.Omega.{arith}
use lib.Dec.{ltb}
use borrow.Author.Tests.{leb-true, ltb-true, eqb-true}
use Rattle.pool.specs.Words.{level_of, link_of, word, sum_over}
use Rattle.pool.specs.Blocks.{By, In, Ok, Once, child_in, child_met, delta, head_met, met, size, total}
use Rattle.pool.specs.Check.{starts, sweep, tile}
use Rattle.pool.proofs.Blocks.{Sees, child_in-in, child_in-of, delta-eq, delta-same, here, met-split, ok-level, ok-open, sees-block, sees-ok, sees-snoc, sum-delta, total-find, total-open, total-shut, total-sum, zero_or}
use Rattle.pool.proofs.Sums.{pigeon, sum-add, sum-cong, sum-le, sum_one, sum-swap}

-- a test that passed has both its halves
pub and-true : {a b : Bool} → (a && b) ≡ true → (a ≡ true) × (b ≡ true)
and-true {a = true} {b} e = (refl, e)
and-true {a = false} {b} e = let z : ◌≡◌ {A = ℕ} 0 1 = cc in absurd (omega arith)

pub and_intro : {a b : Bool} → a ≡ true → b ≡ true → (a && b) ≡ true
and_intro {a} {b} e f = ap₂ ◌&&◌ e f

module _ (fan : ℕ → ℕ) (p : List ℕ) where
  -- ---- the sum of met over all places is the size
  sum-child_in : (used L n : ℕ) → L + n < used → sum_over 0 used (λ x. delta L x + child_in x L n) ≡ suc n
  unfolding child_in
  sum-child_in used L n h =
      sum-add 0 used (λ x. delta L x) (λ x. sum_over (suc L) n (λ y. delta y x))
      ∙ ap₂ ◌+◌ (sum-delta 0 used L (omega arith))
      (sum-swap 0 used (suc L) n (λ x y. delta y x)
      ∙ sum-cong (suc L) n (λ y. sum_over 0 used (λ x. delta y x)) (λ y. 1) (λ y r. sum-delta 0 used y (omega arith))
      ∙ sum_one (suc L) n)
      ∙ omega arith

  -- ---- a place that occurs is a header or the place of a node that is seen, and lies in the used part
  pub record IsHead (x l q : ℕ) : Type 0 where
    pub m : ℕ
    pub r : ℕ
    pub sees : Sees fan p (suc m) r l q
    pub link : link_of (word p r) ≡ x
    pub low : 1 ≤ x

  pub record IsNode (x l q : ℕ) : Type 0 where
    pub m : ℕ
    pub sees : Sees fan p m x l q

  head-seen : (x l q : ℕ) → 1 ≤ head_met fan p x l q → IsHead x l q
  head-seen x l q h =
      let f = total-find fan p (λ L n. delta L x) l q h in
      record { m = f.m; r = f.r; sees = f.sees; link = f.link ∙ delta-eq (suc f.k) x f.weighs; low = omega (arith, delta-eq (suc f.k) x f.weighs) }

  child-seen : (x l q : ℕ) → 1 ≤ child_met fan p x l q → IsNode x l q
  child-seen x l q h =
      let f = total-find fan p (λ L n. child_in x L n) l q h in
      record { m = f.m; sees = sees-snoc fan f.k x f.link (child_in-of x (suc f.k) (fan (suc f.m)) f.weighs) f.sees }

  met-cases : (x l q : ℕ) → 1 ≤ met fan p x l q → IsHead x l q ⊎ IsNode x l q
  met-cases x l q h = elim (dec_le 1 (head_met fan p x l q)) [
    | yes a ↦ inl (head-seen x l q a)
    | no a ↦ inr (child-seen x l q (omega (arith, met-split fan p x l q)))
  ]

  -- a block that is seen covers its places
  pub covers : {m r l q : ℕ} (k : ℕ) → Sees fan p (suc m) r l q → link_of (word p r) ≡ suc k → (x : ℕ) → In (suc k) (suc (fan (suc m))) x → 1 ≤ met fan p x l q
  unfolding met
  covers {m} {r} {l} {q} k s e x i = elim (ℕ_discrete (suc k) x) [
    | yes d ↦ omega (arith, sees-block fan (λ L n. delta L x + child_in x L n) k s e, delta-same (suc k) x d)
    | no d ↦ omega (arith, sees-block fan (λ L n. delta L x + child_in x L n) k s e, child_in-in x (suc k) (fan (suc m)) (omega arith))
  ]

module _ (fan : ℕ → ℕ) (Ord : ℕ → ℕ → Type 0) (p : List ℕ) where
  -- two weights that agree on every block that fits give one sum
  pub total-cong : (used : ℕ) (g h : ℕ → ℕ → ℕ) → ((L n : ℕ) → L + n < used → g L n ≡ h L n) → (l q : ℕ) → Ok fan Ord p used l q → total fan p g l q ≡ total fan p h l q
  unfolding Ok
  total-cong used g h e zero q o = absurd o
  total-cong used g h e (suc l) q o = elim (zero_or (link_of (word p q))) [
    | inl z ↦ total-shut fan p g (suc l) q z ∙ sym (total-shut fan p h (suc l) q z)
    | inr ke ↦
        let b = ok-open fan Ord p used l q ke.0 o ke.1 in
        total-open fan p g l q ke.0 ke.1
        ∙ ap₂ ◌+◌ (e (suc ke.0) (fan (suc l)) b.fits) (sum-cong (suc (suc ke.0)) (fan (suc l)) (total fan p g l) (total fan p h l) (λ y r. total-cong used g h e l y (b.children y r)))
        ∙ sym (total-open fan p h l q ke.0 ke.1)
  ]

  pub sum-met : (used l q : ℕ) → Ok fan Ord p used l q → sum_over 0 used (λ x. met fan p x l q) ≡ size fan p l q
  unfolding met size
  sum-met used l q o = total-sum fan p 0 used (λ x L n. delta L x + child_in x L n) l q ∙ total-cong used (λ L n. sum_over 0 used (λ x. delta L x + child_in x L n)) (λ L n. suc n) (λ L n h. sum-child_in fan p used L n h) l q o

  pub once-of-cover : (top u : ℕ) → Ok fan Ord p (suc u) top 0 → size fan p top 0 ≡ u → ((x : ℕ) → 1 ≤ x → x < suc u → 1 ≤ met fan p x top 0) → Once fan p top (suc u)
  unfolding sum_over
  once-of-cover top u o z all x x1 xu =
      pigeon 1 u (λ y. met fan p y top 0) (λ y. 1) (λ y i. all y (omega arith) (omega arith))
      (omega (arith, sum-met (suc u) top 0 o, sum_one 1 u, sum-le 1 u (λ y. met fan p y top 0) (λ y. 1) (λ y i. all y (omega arith) (omega arith))))
      x (omega arith)

module _ (fan : ℕ → ℕ) (p : List ℕ) where
  -- a header's word is a place before it
  pub head_small : {m r l q k : ℕ} (used : ℕ) → Ok fan (By ltb) p used l q → Sees fan p (suc m) r l q → link_of (word p r) ≡ suc k → word p (suc k) < suc k
  head_small {m} {r} {l} {q} {k} used o s e =
      let b = ok-open fan (By ltb) p used m r k (sees-ok fan (By ltb) used o s) e in
      omega (arith, ltb-true r (suc k) b.past, b.head)

  -- ---- the sweep: where all places before s occur, and a tile may start at s, the tile is a block that is seen
  pub record Start (s l q : ℕ) : Type 0 where
    pub m : ℕ
    pub sees : Sees fan p (suc m) (word p s) l q
    pub link : link_of (word p (word p s)) ≡ s
    pub span : fan (suc m) ≡ tile fan p s

  module _ (top used : ℕ) (o : Ok fan (By ltb) p used top 0) where
    seen-h : (h : ℕ) → 1 ≤ h → ((x : ℕ) → 1 ≤ x → x < suc h → 1 ≤ met fan p x top 0) → h < link_of (word p h) → IsNode fan p h top 0
    seen-h h h1 all lt = elim (met-cases fan p h top 0 (all h h1 (omega arith))) [
      | inl a ↦ elim (zero_or h) [
        | inl z ↦ absurd (omega arith)
        | inr ke ↦ absurd (omega (arith, subst (λ (x : ℕ). word p x < x) (sym ke.1) (head_small {k = ke.0} used o a.sees (a.link ∙ ke.1))))
      ]
      | inr a ↦ a
    ]

    start : (s : ℕ) → 1 ≤ s → ((x : ℕ) → 1 ≤ x → x < s → 1 ≤ met fan p x top 0) → starts fan p top s ≡ true → Start s top 0
    start s s1 all t =
        let t₀ = and-true t in
        let t₁ = and-true t₀.1 in
        let t₂ = and-true t₁.1 in
        let hs : word p s < s = ltb-true (word p s) s t₀.0 in
        let e : link_of (word p (word p s)) ≡ s = eqb-true (link_of (word p (word p s))) s t₁.0 in
        let lo : 2 ≤ level_of (word p (word p s)) = leb-true 2 (level_of (word p (word p s))) t₂.0 in
        let made : IsNode fan p (word p s) top 0 → Start s top 0 = λ n.
        let v : level_of (word p (word p s)) ≡ n.m = ok-level fan (By ltb) p used n.m (word p s) (sees-ok fan (By ltb) used o n.sees) in
        elim (zero_or n.m) [
          | inl z ↦ absurd (omega arith)
          | inr ke ↦ record { m = ke.0; sees = subst (λ (j : ℕ). Sees fan p j (word p s) top 0) ke.1 n.sees; link = e; span = ap fan (sym (v ∙ ke.1)) }
        ] in
        elim (zero_or (word p s)) [
          | inl z ↦ made (record { m = top; sees = subst (λ (j : ℕ). Sees fan p top j top 0) (sym z) here })
          | inr ke ↦ made (seen-h (word p s) (omega (arith, ke.1)) (λ x a b. all x a (omega arith)) (omega arith))
        ]

    pub cover : (k s t : ℕ) → 1 ≤ s → s + k ≡ used → sweep fan p top k s t ≡ true → ((x : ℕ) → 1 ≤ x → x < s + t → 1 ≤ met fan p x top 0) → (x : ℕ) → 1 ≤ x → x < used → 1 ≤ met fan p x top 0
    unfolding sweep
    cover zero s t s1 su h all = λ x x1 xu. all x x1 (omega (arith, eqb-true t 0 h))
    cover (suc k) s zero s1 su h all =
        let b = and-true h in
        let a = start s s1 (λ x x1 xs. all x x1 (omega arith)) b.0 in
        elim (zero_or s) [
          | inl z ↦ absurd (omega arith)
          | inr je ↦
              cover k (suc s) (tile fan p s) (omega arith) (omega arith) b.1
              (λ x x1 xs. elim (dec_lt x s) [
                | yes c ↦ all x x1 (omega arith)
                | no c ↦ covers fan p je.0 a.sees (a.link ∙ je.1) x (omega (arith, a.span, je.1))
              ])
        ]
    cover (suc k) s (suc t) s1 su h all = cover k (suc s) t (omega arith) (omega arith) h (λ x x1 xs. all x x1 (omega arith))
