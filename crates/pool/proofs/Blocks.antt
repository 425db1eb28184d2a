-- Laws of the blocks that are seen from a node on, of sums over them, and of their rules. `fan` is any ladder. Assumes nothing.
use mathlib.Core.List.{List}
use mathlib.Core.Logic.{◌⊎◌, inl, inr, ◌≢◌}
use mathlib.Core.Path.{◌≡◌, refl, sym, ap, ◌∙◌, subst, fun_ext}
use Prim.Native.Nat.{ℕ, zero, suc, ◌+◌, ◌≤◌, ◌<◌}
use native.Mathlib.Decide.{dec_le, ℕ_discrete}
use native.Mathlib.Omega.{arith}
use borrow.Author.Tests.{eq-eqb, ne_eqb}
use Rattle.model.specs.Frames.{bit}
use Rattle.pool.specs.Words.{level_of, link_of, word, sum_over}
use Rattle.pool.specs.Blocks.{In, Ok, OkBlock, OkLink, child_in, child_met, delta, head_met, met, of_block, size, total}
use Rattle.pool.proofs.Sums.{sum-add, sum-find, sum-ge, sum-swap, sum-zero}

-- ---- delta

pub delta-same : (y x : ℕ) → y ≡ x → delta y x ≡ 1
unfolding delta
delta-same y x e = ap bit (eq-eqb y x e)

pub delta-other : (y x : ℕ) → y ≢ x → delta y x ≡ 0
unfolding delta
delta-other y x e = ap bit (ne_eqb y x e)

pub delta-eq : (y x : ℕ) → 1 ≤ delta y x → y ≡ x
delta-eq y x h = elim (ℕ_discrete y x) [ yes e ↦ e | no e ↦ absurd (omega (arith, delta-other y x e)) ]

-- among the x of a run, one is y if y is in the run, and none otherwise
sum-delta-out : (a n y : ℕ) → y < a → sum_over a n (λ x. delta y x) ≡ 0
sum-delta-out a n y h = sum-zero a n (λ x. delta y x) (λ x r. delta-other y x (omega arith))

pub sum-delta : (a n y : ℕ) → In a n y → sum_over a n (λ x. delta y x) ≡ 1
unfolding sum_over
sum-delta a zero y r = absurd (omega arith)
sum-delta a (suc n) y r = elim (ℕ_discrete y a) [
  | yes e ↦ omega (arith, delta-same y a e, sum-delta-out (suc a) n y (omega arith))
  | no e ↦ omega (arith, delta-other y a e, sum-delta (suc a) n y (omega arith))
]

pub child_in-in : (x L n : ℕ) → In (suc L) n x → 1 ≤ child_in x L n
unfolding child_in
child_in-in x L n r = omega (arith, sum-ge (suc L) n (λ y. delta y x) x r, delta-same x x refl)

pub child_in-of : (x L n : ℕ) → 1 ≤ child_in x L n → In (suc L) n x
unfolding child_in
child_in-of x L n h =
    let f = sum-find (suc L) n (λ y. delta y x) h in
    subst (λ (z : ℕ). In (suc L) n z) (delta-eq f.0 x f.2) f.1

-- ---- sums over the blocks that are seen from a node

of_block-sum : (a m : ℕ) (g : ℕ → ℕ → ℕ → ℕ) (n : ℕ) (f : ℕ → ℕ → ℕ) (v : ℕ) → sum_over a m (λ x. of_block (g x) n (f x) v) ≡ of_block (λ L j. sum_over a m (λ x. g x L j)) n (λ y. sum_over a m (λ x. f x y)) v
of_block-sum a m g n f zero = sum-zero a m (λ x. 0) (λ x r. refl)
of_block-sum a m g n f (suc k) = sum-add a m (λ x. g x (suc k) n) (λ x. sum_over (suc (suc k)) n (f x)) ∙ ap (λ (t : ℕ). sum_over a m (λ x. g x (suc k) n) + t) (sum-swap a m (suc (suc k)) n f)

of_block-add : (g h : ℕ → ℕ → ℕ) (n : ℕ) (f e : ℕ → ℕ) (v : ℕ) → of_block (λ L j. g L j + h L j) n (λ y. f y + e y) v ≡ of_block g n f v + of_block h n e v
of_block-add g h n f e zero = refl
of_block-add g h n f e (suc k) = omega (arith, sum-add (suc (suc k)) n f e)

pub zero_or : (v : ℕ) → (v ≡ 0) ⊎ ((k : ℕ) × (v ≡ suc k))
zero_or zero = inl refl
zero_or (suc k) = inr (k, refl)

module _ (fan : ℕ → ℕ) where
  pub total-shut : (p : List ℕ) (g : ℕ → ℕ → ℕ) (l q : ℕ) → link_of (word p q) ≡ 0 → total fan p g l q ≡ 0
  unfolding total
  total-shut p g zero q e = refl
  total-shut p g (suc l) q e = ap (of_block g (fan (suc l)) (total fan p g l)) e

  pub total-open : (p : List ℕ) (g : ℕ → ℕ → ℕ) (l q k : ℕ) → link_of (word p q) ≡ suc k → total fan p g (suc l) q ≡ g (suc k) (fan (suc l)) + sum_over (suc (suc k)) (fan (suc l)) (total fan p g l)
  unfolding total
  total-open p g l q k e = ap (of_block g (fan (suc l)) (total fan p g l)) e

  pub size-shut : (p : List ℕ) (l q : ℕ) → link_of (word p q) ≡ 0 → size fan p l q ≡ 0
  unfolding size
  size-shut p l q e = total-shut p (λ L n. suc n) l q e

  pub size-open : (p : List ℕ) (l q k : ℕ) → link_of (word p q) ≡ suc k → size fan p (suc l) q ≡ suc (fan (suc l)) + sum_over (suc (suc k)) (fan (suc l)) (size fan p l)
  unfolding size
  size-open p l q k e = total-open p (λ L j. suc j) l q k e

  pub total-sum : (p : List ℕ) (a m : ℕ) (g : ℕ → ℕ → ℕ → ℕ) (l q : ℕ) → sum_over a m (λ x. total fan p (g x) l q) ≡ total fan p (λ L j. sum_over a m (λ x. g x L j)) l q
  unfolding total
  total-sum p a m g zero q = sum-zero a m (λ x. 0) (λ x r. refl)
  total-sum p a m g (suc l) q = of_block-sum a m g (fan (suc l)) (λ x. total fan p (g x) l) (link_of (word p q)) ∙ ap (λ (f : ℕ → ℕ). of_block (λ L j. sum_over a m (λ x. g x L j)) (fan (suc l)) f (link_of (word p q))) (fun_ext (λ y. total-sum p a m g l y))

  total-add : (p : List ℕ) (g h : ℕ → ℕ → ℕ) (l q : ℕ) → total fan p (λ L j. g L j + h L j) l q ≡ total fan p g l q + total fan p h l q
  unfolding total
  total-add p g h zero q = refl
  total-add p g h (suc l) q = ap (λ (f : ℕ → ℕ). of_block (λ L j. g L j + h L j) (fan (suc l)) f (link_of (word p q))) (fun_ext (λ y. total-add p g h l y)) ∙ of_block-add g h (fan (suc l)) (total fan p g l) (total fan p h l) (link_of (word p q))

  pub met-split : (p : List ℕ) (x l q : ℕ) → met fan p x l q ≡ head_met fan p x l q + child_met fan p x l q
  unfolding met
  met-split p x l q = total-add p (λ L n. delta L x) (λ L n. child_in x L n) l q

  -- ---- what is seen: from the node at q, of level l, the node at r, of level m
  pub data Sees (p : List ℕ) (m r : ℕ) : ℕ → ℕ → Type 0 where
    here : Sees p m r m r
    down : {l q : ℕ} (k y : ℕ) → link_of (word p q) ≡ suc k → In (suc (suc k)) (fan (suc l)) y → Sees p m r l y → Sees p m r (suc l) q

  sees-total : {p : List ℕ} {m r l q : ℕ} (g : ℕ → ℕ → ℕ) → Sees p m r l q → total fan p g m r ≤ total fan p g l q
  sees-total g here = omega arith
  sees-total {p} {m} {r} g (down {l = l} {q = q} k y e i s) = omega (arith, total-open p g l q k e, sees-total g s, sum-ge (suc (suc k)) (fan (suc l)) (total fan p g l) y i)

  pub sees-block : {p : List ℕ} {m r l q : ℕ} (g : ℕ → ℕ → ℕ) (k : ℕ) → Sees p (suc m) r l q → link_of (word p r) ≡ suc k → g (suc k) (fan (suc m)) ≤ total fan p g l q
  sees-block {p} {m} {r} {l} {q} g k s e = omega (arith, sees-total g s, total-open p g m r k e)

  pub sees-snoc : {p : List ℕ} {m r l q : ℕ} (k y : ℕ) → link_of (word p r) ≡ suc k → In (suc (suc k)) (fan (suc m)) y → Sees p (suc m) r l q → Sees p m y l q
  sees-snoc k y e i here = down k y e i here
  sees-snoc k y e i (down k' y' e' i' s) = down k' y' e' i' (sees-snoc k y e i s)

  -- a block that weighs something, if the sum does
  pub record Found (p : List ℕ) (g : ℕ → ℕ → ℕ) (l q : ℕ) : Type 0 where
    pub m : ℕ
    pub r : ℕ
    pub k : ℕ
    pub sees : Sees p (suc m) r l q
    pub link : link_of (word p r) ≡ suc k
    pub weighs : 1 ≤ g (suc k) (fan (suc m))

  pub total-find : (p : List ℕ) (g : ℕ → ℕ → ℕ) (l q : ℕ) → 1 ≤ total fan p g l q → Found p g l q
  unfolding total
  total-find p g zero q h = absurd (omega arith)
  total-find p g (suc l) q h = elim (zero_or (link_of (word p q))) [
    | inl e ↦ absurd (omega (arith, total-shut p g (suc l) q e))
    | inr ke ↦ elim (dec_le 1 (g (suc ke.0) (fan (suc l)))) [
      | yes b ↦ record { m = l; r = q; k = ke.0; sees = here; link = ke.1; weighs = b }
      | no b ↦
          let s = sum-find (suc (suc ke.0)) (fan (suc l)) (total fan p g l) (omega (arith, total-open p g l q ke.0 ke.1)) in
          let f = total-find p g l s.0 s.2 in
          record { m = f.m; r = f.r; k = f.k; sees = down ke.0 s.0 ke.1 s.1 f.sees; link = f.link; weighs = f.weighs }
    ]
  ]

-- Ord q L: where the block at L may lie, seen from its node at q
module _ (fan : ℕ → ℕ) (Ord : ℕ → ℕ → Type 0) where
  -- ---- the local rules of the node at q, of level l, and of all that is seen from it

  pub ok-level : (p : List ℕ) (used l q : ℕ) → Ok fan Ord p used l q → level_of (word p q) ≡ l
  unfolding Ok
  ok-level p used zero q o = absurd o
  ok-level p used (suc l) q o = o.0

  pub ok-open : (p : List ℕ) (used l q k : ℕ) → Ok fan Ord p used (suc l) q → link_of (word p q) ≡ suc k → OkBlock fan Ord p used l q (suc k) (Ok fan Ord p used l)
  unfolding Ok
  ok-open p used l q k o e = subst (OkLink fan Ord p used l q (Ok fan Ord p used l)) e o.1

  pub ok-shut : (p : List ℕ) (used l q : ℕ) → level_of (word p q) ≡ suc l → link_of (word p q) ≡ 0 → Ok fan Ord p used (suc l) q
  unfolding Ok
  ok-shut p used l q v e = (v, subst (OkLink fan Ord p used l q (Ok fan Ord p used l)) (sym e) tt)

  pub ok-make : (p : List ℕ) (used l q k : ℕ) → level_of (word p q) ≡ suc l → link_of (word p q) ≡ suc k → OkBlock fan Ord p used l q (suc k) (Ok fan Ord p used l) → Ok fan Ord p used (suc l) q
  unfolding Ok
  ok-make p used l q k v e b = (v, subst (OkLink fan Ord p used l q (Ok fan Ord p used l)) (sym e) b)

  pub sees-ok : {p : List ℕ} {m r l q : ℕ} (used : ℕ) → Ok fan Ord p used l q → Sees fan p m r l q → Ok fan Ord p used m r
  sees-ok used o here = o
  sees-ok {p} {m} {r} used o (down {l = l} {q = q} k y e i s) = sees-ok used ((ok-open p used l q k o e).children y i) s
