-- Separation: the places of a node are its own and those of the blocks seen from it. What is read from a node on depends on its places alone, and the places of two children are apart. Assumes nothing.
use mathlib.Core.List.{List}
use mathlib.Core.Logic.{inl, inr, ◌≢◌}
use mathlib.Core.Path.{◌≡◌, refl, sym, ap, ◌∙◌, fun_ext}
use Prim.Native.Nat.{ℕ, zero, suc, ◌+◌, ◌/◌, ◌≤◌, ◌<◌}
use native.Mathlib.Decide.{dec_le, dec_lt, ℕ_discrete}
use native.Mathlib.Omega.{arith}
use Rattle.pool.specs.Words.{level_of, link_of, word, sum_over}
use Rattle.pool.specs.Blocks.{Child, In, Ok, Once, Sep, child_in, delta, met, of_block, places_of, total}
use Rattle.pool.proofs.Blocks.{delta-other, delta-same, ok-make, ok-open, ok-shut, total-open, total-shut, zero_or}
use Rattle.pool.proofs.Needed.{met-place}
use Rattle.pool.proofs.Sums.{sum-add, sum-cong, sum-ge, sum-ge2}

module _ (fan : ℕ → ℕ) where
  pub places-self : (p : List ℕ) (l q : ℕ) → 1 ≤ places_of fan p q l q
  unfolding places_of
  places-self p l q = omega (arith, delta-same q q refl)

  pub places-shut : (p : List ℕ) (x l q : ℕ) → link_of (word p q) ≡ 0 → places_of fan p x l q ≡ delta q x
  unfolding places_of met
  places-shut p x l q e = omega (arith, total-shut fan p (λ L n. delta L x + child_in x L n) l q e)

  -- its own place, the header's, and those of the children
  pub places-open : (p : List ℕ) (x l q k : ℕ) → link_of (word p q) ≡ suc k → places_of fan p x (suc l) q ≡ delta q x + delta (suc k) x + sum_over (suc (suc k)) (fan (suc l)) (λ y. places_of fan p x l y)
  unfolding places_of met child_in
  places-open p x l q k e = omega (arith, total-open fan p (λ L n. delta L x + child_in x L n) l q k e, sum-add (suc (suc k)) (fan (suc l)) (λ y. delta y x) (λ y. met fan p x l y))

  -- ---- every place once

  pub places-child : {p : List ℕ} {l q y : ℕ} (x : ℕ) → Child fan p l q y → places_of fan p x l y ≤ places_of fan p x (suc l) q
  places-child {p} {l} {q} {y} x c = omega (arith, places-open p x l q c.k c.link, sum-ge (suc (suc c.k)) (fan (suc l)) (λ z. places_of fan p x l z) y c.at)

  pub sep-child : {p : List ℕ} {l q y : ℕ} → Child fan p l q y → Sep fan p (suc l) q → Sep fan p l y
  sep-child c s x = omega (arith, s x, places-child x c)

  -- a child's places are neither the node's own, nor the header's, nor another child's
  pub apart-own : {p : List ℕ} {l q y : ℕ} → Child fan p l q y → Sep fan p (suc l) q → (x : ℕ) → 1 ≤ places_of fan p x l y → x ≢ q
  apart-own {p} {l} {q} {y} c s x h e = omega (arith, s x, places-open p x l q c.k c.link, delta-same q x (sym e), sum-ge (suc (suc c.k)) (fan (suc l)) (λ z. places_of fan p x l z) y c.at)

  apart-head : {p : List ℕ} {l q y : ℕ} → (c : Child fan p l q y) → Sep fan p (suc l) q → (x : ℕ) → 1 ≤ places_of fan p x l y → x ≢ link_of (word p q)
  apart-head {p} {l} {q} {y} c s x h e = omega (arith, s x, places-open p x l q c.k c.link, delta-same (suc c.k) x (sym (e ∙ c.link)), sum-ge (suc (suc c.k)) (fan (suc l)) (λ z. places_of fan p x l z) y c.at)

  pub apart-child : {p : List ℕ} {l q y z : ℕ} → Child fan p l q y → Child fan p l q z → Sep fan p (suc l) q → y ≢ z → (x : ℕ) → 1 ≤ places_of fan p x l y → 1 ≤ places_of fan p x l z → ⊥
  apart-child {p} {l} {q} {y} {z} c d s ne x h j =
      let kk : d.k ≡ c.k = omega (arith, c.link, d.link) in
      let f : ℕ → ℕ = λ v. places_of fan p x l v in
      let o = places-open p x l q c.k c.link in
      elim (dec_lt y z) [
        | yes a ↦ omega (arith, s x, o, sum-ge2 (suc (suc c.k)) (fan (suc l)) f y z c.at (omega (arith, d.at)) a)
        | no a ↦ omega (arith, s x, o, sum-ge2 (suc (suc c.k)) (fan (suc l)) f z y (omega (arith, d.at)) c.at (omega arith))
      ]

  -- ---- the frame
  -- two pools agree at all places of a node
  abbrev pub Agree : List ℕ → List ℕ → ℕ → ℕ → Type 0
  Agree p p' l q = (x : ℕ) → 1 ≤ places_of fan p x l q → word p x ≡ word p' x

  pub agree-child : {p : List ℕ} {l q y : ℕ} (p' : List ℕ) → Child fan p l q y → Agree p p' (suc l) q → Agree p p' l y
  agree-child p' c a x h = a x (omega (arith, places-child x c))

  -- any reading that goes down from a node: F has the level, the place, the word, and the readings of the children's places
  unfoldable pub rd {ℓ} : {A : Type ℓ} → (ℕ → ℕ → ℕ → (ℕ → A) → A) → A → List ℕ → ℕ → ℕ → A
  rd F z p zero q = z
  rd F z p (suc l) q = F (suc l) q (word p q) (rd F z p l)

  -- F looks at the children's places alone
  abbrev pub Local {ℓ} : {A : Type ℓ} → (ℕ → ℕ → ℕ → (ℕ → A) → A) → Type ℓ
  Local {A = A} F = (l q v : ℕ) (f g : ℕ → A) → ((k y : ℕ) → v / 128 ≡ suc k → In (suc (suc k)) (fan l) y → f y ≡ g y) → F l q v f ≡ F l q v g

  pub frame {ℓ} : {A : Type ℓ} (F : ℕ → ℕ → ℕ → (ℕ → A) → A) (z : A) → Local F → (p p' : List ℕ) (l q : ℕ) → Agree p p' l q → rd F z p l q ≡ rd F z p' l q
  unfolding rd
  frame F z loc p p' zero q a = refl
  frame F z loc p p' (suc l) q a =
      loc (suc l) q (word p q) (rd F z p l) (rd F z p' l) (λ k y e i. frame F z loc p p' l y (agree-child p' (record { k = k; link = e; at = i }) a))
      ∙ ap (λ (v : ℕ). F (suc l) q v (rd F z p' l)) (a q (places-self p (suc l) q))

  -- sums over blocks are such readings
  total-rd : (p : List ℕ) (g : ℕ → ℕ → ℕ) (l q : ℕ) → total fan p g l q ≡ rd (λ j r v f. of_block g (fan j) f (v / 128)) 0 p l q
  unfolding total rd
  total-rd p g zero q = refl
  total-rd p g (suc l) q = ap (λ (f : ℕ → ℕ). of_block g (fan (suc l)) f (link_of (word p q))) (fun_ext (λ y. total-rd p g l y))

  of_block-cong : (g : ℕ → ℕ → ℕ) (n : ℕ) (f e : ℕ → ℕ) (v : ℕ) → ((k y : ℕ) → v ≡ suc k → In (suc (suc k)) n y → f y ≡ e y) → of_block g n f v ≡ of_block g n e v
  of_block-cong g n f e zero h = refl
  of_block-cong g n f e (suc k) h = ap (λ (t : ℕ). g (suc k) n + t) (sum-cong (suc (suc k)) n f e (λ y i. h k y refl i))

  pub frame-total : (g : ℕ → ℕ → ℕ) (p p' : List ℕ) (l q : ℕ) → Agree p p' l q → total fan p g l q ≡ total fan p' g l q
  frame-total g p p' l q a =
      total-rd p g l q ∙ frame (λ j r v f. of_block g (fan j) f (v / 128)) 0 (λ j r v f e h. of_block-cong g (fan j) f e (v / 128) h) p p' l q a ∙ sym (total-rd p' g l q)

  pub frame-places : (x : ℕ) (p p' : List ℕ) (l q : ℕ) → Agree p p' l q → places_of fan p x l q ≡ places_of fan p' x l q
  unfolding places_of met
  frame-places x p p' l q a = ap (λ (t : ℕ). delta q x + t) (frame-total (λ L n. delta L x + child_in x L n) p p' l q a)

  -- below used, the pools differ at places of the node at q alone
  abbrev pub Only : List ℕ → List ℕ → ℕ → ℕ → ℕ → Type 0
  Only p p' used l q = (x : ℕ) → x < used → places_of fan p x l q < 1 → word p x ≡ word p' x

  pub only-up : {p : List ℕ} {l q y : ℕ} (p' : List ℕ) (used : ℕ) → Child fan p l q y → Only p p' used l y → Only p p' used (suc l) q
  only-up p' used c o x xu h = o x xu (omega (arith, places-child x c))

  pub only-own : {p : List ℕ} {l q y : ℕ} (p' : List ℕ) (used : ℕ) → Child fan p l q y → Sep fan p (suc l) q → q < used → Only p p' used l y → word p q ≡ word p' q
  only-own {p} {l} {q} {y} p' used c s qu only =
      only q qu (elim (dec_lt (places_of fan p q l y) 1) [ yes a ↦ a | no a ↦ absurd (apart-own c s q (omega arith) refl) ])

module _ (fan : ℕ → ℕ) (Ord : ℕ → ℕ → Type 0) where
  pub sep-root : (p : List ℕ) (top used : ℕ) → Ok fan Ord p used top 0 → Once fan p top used → Sep fan p top 0
  unfolding places_of
  sep-root p top used o once x = elim (dec_le 1 (met fan p x top 0)) [
    | yes a ↦ let i = met-place fan Ord p used x top 0 o a in omega (arith, once x i.0 i.1, delta-other 0 x (omega (arith, i.0)))
    | no a ↦ elim (ℕ_discrete 0 x) [ yes e ↦ omega (arith, delta-same 0 x e) | no e ↦ omega (arith, delta-other 0 x e) ]
  ]

  -- the rules too
  pub frame-ok : (p p' : List ℕ) (used l q : ℕ) → Agree fan p p' l q → Ok fan Ord p used l q → Ok fan Ord p' used l q
  unfolding Ok
  frame-ok p p' used zero q a o = o
  frame-ok p p' used (suc l) q a o =
      let same : word p q ≡ word p' q = a q (places-self fan p (suc l) q) in
      elim (zero_or (link_of (word p q))) [
        | inl z ↦ ok-shut fan Ord p' used l q (ap level_of (sym same) ∙ o.0) (ap link_of (sym same) ∙ z)
        | inr ke ↦
            let b = ok-open fan Ord p used l q ke.0 o ke.1 in
            let hd : 1 ≤ places_of fan p (suc ke.0) (suc l) q = omega (arith, places-open fan p (suc ke.0) l q ke.0 ke.1, delta-same (suc ke.0) (suc ke.0) refl) in
            ok-make fan Ord p' used l q ke.0 (ap level_of (sym same) ∙ o.0) (ap link_of (sym same) ∙ ke.1)
            (record { deep = b.deep; past = b.past; fits = b.fits; head = sym (a (suc ke.0) hd) ∙ b.head; children = λ y i. frame-ok p p' used l y (agree-child fan p' (record { k = ke.0; link = ke.1; at = i }) a) (b.children y i) })
      ]

  -- ---- a change that touches places of one node only
  pub places-used : (p : List ℕ) (used l q x : ℕ) → q < used → Ok fan Ord p used l q → 1 ≤ places_of fan p x l q → x < used
  unfolding places_of
  places-used p used l q x qu o h = elim (ℕ_discrete q x) [
    | yes e ↦ omega arith
    | no e ↦ (met-place fan Ord p used x l q o (omega (arith, delta-other q x e))).1
  ]

  -- the other children are as they were, and so are the node's word and its header
  pub only_child : {p : List ℕ} {l q y z : ℕ} (p' : List ℕ) (used : ℕ) → Child fan p l q y → Child fan p l q z → y ≢ z → Sep fan p (suc l) q → q < used → Ok fan Ord p used (suc l) q → Only fan p p' used l y → Agree fan p p' l z
  only_child {p} {l} {q} {y} {z} p' used c d ne s qu o only x h =
      let b = ok-open fan Ord p used l q d.k o d.link in
      only x (places-used p used l z x (omega (arith, d.at, b.fits)) (b.children z d.at) h)
      (elim (dec_lt (places_of fan p x l y) 1) [ yes a ↦ a | no a ↦ absurd (apart-child fan c d s ne x (omega arith) h) ])

  pub only-head : {p : List ℕ} {l q y : ℕ} (p' : List ℕ) (used : ℕ) → Child fan p l q y → Sep fan p (suc l) q → Ok fan Ord p used (suc l) q → Only fan p p' used l y → word p (link_of (word p q)) ≡ word p' (link_of (word p q))
  only-head {p} {l} {q} {y} p' used c s o only =
      let b = ok-open fan Ord p used l q c.k o c.link in
      only (link_of (word p q)) (omega (arith, b.fits, c.link))
      (elim (dec_lt (places_of fan p (link_of (word p q)) l y) 1) [ yes a ↦ a | no a ↦ absurd (apart-head fan c s (link_of (word p q)) (omega arith) refl) ])
