-- The other way: where each place in use is met exactly once, the count comes out and the sweep goes through. Assumes nothing.
use mathlib.Core.Bool.{true, ◌&&◌}
use mathlib.Core.List.{List}
use mathlib.Core.Logic.{inl, inr}
use mathlib.Core.Path.{◌≡◌, sym, ap, ◌∙◌, subst}
use Prim.Native.Nat.{ℕ, zero, suc, ◌+◌, ◌≤◌, ◌<◌}
use native.Mathlib.Decide.{dec_le, ℕ_discrete}
use native.Mathlib.Omega.{arith}
use lib.Dec.{leb, ltb, eqb}
use borrow.Author.Tests.{eq-eqb, le-leb}
use Rattle.pool.specs.Words.{level_of, link_of, word, sum_over}
use Rattle.pool.specs.Blocks.{By, In, Ok, Once, child_in, child_met, delta, head_met, met, size}
use Rattle.pool.specs.Check.{starts, sweep, tile}
use Rattle.pool.proofs.Blocks.{Sees, child_in-in, child_in-of, delta-eq, delta-same, down, here, met-split, ok-level, ok-open, sees-block, sees-ok, total-find, zero_or}
use Rattle.pool.proofs.Cover.{and_intro, sum-met}
use Rattle.pool.proofs.Sums.{sum-cong, sum_one}

module _ (fan : ℕ → ℕ) (p : List ℕ) where
  -- ---- places
  pub sees-level : {m r l q : ℕ} → Sees fan p m r l q → m ≤ l
  sees-level here = omega arith
  sees-level (down k y e i s) = omega (arith, sees-level s)

  -- a block that is seen and has x among its words
  pub record Block (x l q : ℕ) : Type 0 where
    pub m : ℕ
    pub r : ℕ
    pub k : ℕ
    pub sees : Sees fan p (suc m) r l q
    pub link : link_of (word p r) ≡ suc k
    pub has : In (suc k) (suc (fan (suc m))) x

  pub met-block : (x l q : ℕ) → 1 ≤ met fan p x l q → Block x l q
  unfolding met
  met-block x l q h =
      let f = total-find fan p (λ L n. delta L x + child_in x L n) l q h in
      let i : In (suc f.k) (suc (fan (suc f.m))) x =
      elim (dec_le 1 (delta (suc f.k) x)) [
        | yes a ↦ omega (arith, delta-eq (suc f.k) x a)
        | no a ↦ omega (arith, child_in-of x (suc f.k) (fan (suc f.m)) (omega (arith, f.weighs)))
      ] in
      record { m = f.m; r = f.r; k = f.k; sees = f.sees; link = f.link; has = i }

module _ (fan : ℕ → ℕ) (Ord : ℕ → ℕ → Type 0) (p : List ℕ) where
  pub met-place : (used x l q : ℕ) → Ok fan Ord p used l q → 1 ≤ met fan p x l q → (1 ≤ x) × (x < used)
  met-place used x l q o h =
      let b = met-block fan p x l q h in
      let c = ok-open fan Ord p used b.m b.r b.k (sees-ok fan Ord used o b.sees) b.link in
      omega (arith, b.has, c.fits)

  pub size_is : (top u : ℕ) → Ok fan Ord p (suc u) top 0 → Once fan p top (suc u) → size fan p top 0 ≡ u
  unfolding sum_over
  size_is top u o once =
      let z : met fan p 0 top 0 < 1 = elim (dec_le 1 (met fan p 0 top 0)) [ yes a ↦ absurd (omega (arith, met-place (suc u) 0 top 0 o a)) | no a ↦ omega arith ] in
      omega (arith, sum-met fan Ord p (suc u) top 0 o, sum-cong 1 u (λ x. met fan p x top 0) (λ x. 1) (λ x i. once x (omega arith) (omega arith)), sum_one 1 u)

  module _ (top used : ℕ) (o : Ok fan Ord p used top 0) (once : Once fan p top used) where
    -- no place is both a header and a child's
    pub apart : (x : ℕ) → 1 ≤ head_met fan p x top 0 → 1 ≤ child_met fan p x top 0 → ⊥
    apart x a b =
        let h : 1 ≤ met fan p x top 0 = omega (arith, met-split fan p x top 0) in
        let i = met-place used x top 0 o h in
        omega (arith, met-split fan p x top 0, once x i.0 i.1)

    -- a header leads back to its node
    pub back : (m r k : ℕ) → Sees fan p (suc m) r top 0 → link_of (word p r) ≡ suc k → (word p (suc k) ≡ r) × (fan (suc m) ≡ tile fan p (suc k))
    back m r k s e =
        let n = sees-ok fan Ord used o s in
        let b = ok-open fan Ord p used m r k n e in
        (b.head, ap fan (sym (ok-level fan Ord p used (suc m) r n) ∙ ap (λ (j : ℕ). level_of (word p j)) (sym b.head)))

module _ (fan : ℕ → ℕ) (p : List ℕ) where
  module _ (top used : ℕ) (o : Ok fan (By ltb) p used top 0) (once : Once fan p top used) where
    -- every block that starts before s ends before e
    abbrev pub Ends : ℕ → ℕ → Type 0
    Ends s e = (m r k : ℕ) → Sees fan p (suc m) r top 0 → link_of (word p r) ≡ suc k → suc k < s → suc k + fan (suc m) < e

    starts-yes : (m r k : ℕ) → Sees fan p (suc m) r top 0 → link_of (word p r) ≡ suc k → starts fan p top (suc k) ≡ true
    starts-yes m r k s e =
        let n = sees-ok fan (By ltb) used o s in
        let b = ok-open fan (By ltb) p used m r k n e in
        let v = ok-level fan (By ltb) p used (suc m) r n in
        subst (λ (h : ℕ). (ltb h (suc k) && (eqb (link_of (word p h)) (suc k) && (leb 2 (level_of (word p h)) && leb (level_of (word p h)) top))) ≡ true) (sym b.head)
        (and_intro b.past (and_intro (eq-eqb (link_of (word p r)) (suc k) e) (and_intro (le-leb 2 (level_of (word p r)) (omega (arith, b.deep))) (le-leb (level_of (word p r)) top (omega (arith, sees-level fan p s))))))

    pub sweep-yes : (k s t : ℕ) → 1 ≤ s → s + k ≡ used → Ends s (s + t) → ((x : ℕ) → In s t x → 1 ≤ child_met fan p x top 0) → sweep fan p top k s t ≡ true
    unfolding sweep
    sweep-yes zero s t s1 su ends children = eq-eqb t 0
        (elim (zero_or t) [
          | inl z ↦ z
          | inr je ↦ absurd (omega (arith, met-place fan (By ltb) p used s top 0 o (omega (arith, met-split fan p s top 0, children s (omega (arith, je.1))))))
        ])
    sweep-yes (suc j) s zero s1 su ends children =
        let f = met-block fan p s top 0 (omega (arith, once s s1 (omega arith))) in
        let at : suc f.k ≡ s = elim (ℕ_discrete (suc f.k) s) [ yes e ↦ e | no e ↦ absurd (omega (arith, f.has, ends f.m f.r f.k f.sees f.link (omega (arith, f.has)))) ] in
        let bk = back fan (By ltb) p top used o once f.m f.r f.k f.sees f.link in
        let sp : fan (suc f.m) ≡ tile fan p s = bk.1 ∙ ap (tile fan p) at in
        and_intro (subst (λ (x : ℕ). starts fan p top x ≡ true) at (starts-yes f.m f.r f.k f.sees f.link))
        (sweep-yes j (suc s) (tile fan p s) (omega arith) (omega arith)
        (λ m r k sees link lt. elim (ℕ_discrete (suc k) s) [
          | yes e ↦ omega (arith, (back fan (By ltb) p top used o once m r k sees link).1 ∙ ap (tile fan p) e)
          | no e ↦ omega (arith, ends m r k sees link (omega arith))
        ])
        (λ x i. omega (arith, sees-block fan (λ L n. child_in x L n) f.k f.sees f.link, child_in-in x (suc f.k) (fan (suc f.m)) (omega (arith, at, sp)))))
    sweep-yes (suc j) s (suc t) s1 su ends children =
        sweep-yes j (suc s) t (omega arith) (omega arith)
        (λ m r k sees link lt. elim (ℕ_discrete (suc k) s) [
          | yes e ↦ absurd (apart fan (By ltb) p top used o once s (omega (arith, sees-block fan (λ L n. delta L s) k sees link, delta-same (suc k) s e)) (children s (omega arith)))
          | no e ↦ omega (arith, ends m r k sees link (omega arith))
        ])
        (λ x i. children x (omega arith))
