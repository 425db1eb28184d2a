-- Every node's max is the largest block that its tree offers: what each write does to that. Assumes nothing.
use mathlib.Core.Bool.{Bool, true, false, cond}
use mathlib.Core.List.{List, map}
use mathlib.Core.Path.{◌≡◌, refl, sym, ap, ap₂, ◌∙◌, subst}
use Prim.Native.Nat.{ℕ, zero, suc, ◌+◌, ◌*◌, ◌≤◌, ◌<◌, max}
use native.Mathlib.Decide.{ℕ_discrete}
use native.Mathlib.Omega.{arith}
use lib.Dec.{ltb, leb}
use lib.ListN.{length}
use Rattle.sizes.specs.Ladder.{Ladder}
use Rattle.model.proofs.Free.{largest-empty}
use Rattle.model.specs.Ladder.{fan}
use Rattle.model.specs.Lists.{all, first, maximum}
use Rattle.model.specs.Tree.{Sound as SoundTree}
use Rattle.model.specs.Tree.{SoundNode, Tree, handed_on, largest, mark, merge, node, opened, token}
use Rattle.pool.specs.Nodes.{Words, children_all, children_first, children_max, hand_if, hand_w, merge_if, merge_w, open_if, open_w, open_with, refresh_w}
use Rattle.pool.specs.View.{tab, view}
use Rattle.pool.specs.Words.{fan_out_of, first_child, has_token, link_of, max_of, word}
use Rattle.pool.specs.Asks.{Maxed}
use Rattle.pool.specs.Blocks.{By, Child, Readable}
use Rattle.pool.proofs.Blocks.{ok-open}
use Rattle.pool.proofs.Lists.{run-tab}
use Rattle.pool.proofs.Places.{Agree, agree-child, places-self}
use Rattle.pool.proofs.Step.{Step, child-agree, child-own, step-none}
use Rattle.pool.proofs.Tree.{all-view, block-pos, view-new}
use Rattle.pool.proofs.View.{children_max-small, marks-max, marks-max8, marks-plain, marks-same, marks-token, opens, own-agree, own-here, own-step, own_view, spread, spread-agree, spread-child, spread-child-link, spread-child-view, spread-here, spread-link, spread-list, spread-step, spread-view, view-agree}

-- ---- maxima and first places along a run
pub max-tab : {A : Type 0} (g : A → ℕ) (f : ℕ → A) (h : ℕ → ℕ) (a n : ℕ) → ((j : ℕ) → a ≤ j → j < a + n → g (f j) ≡ max_of (h j)) → maximum g (tab f a n) ≡ maximum max_of (tab h a n)
unfolding maximum tab
max-tab g f h a zero e = refl
max-tab g f h a (suc n) e = ap₂ max (e a (omega arith) (omega arith)) (max-tab g f h (suc a) n (λ j lo hi. e j (omega arith) (omega arith)))

abbrev next_first : ℕ → ℕ → ℕ → ℕ
next_first c v r = cond (leb c v) 0 (suc r)

first-tab : {A : Type 0} (c : ℕ) (g : A → ℕ) (f : ℕ → A) (h : ℕ → ℕ) (a n : ℕ) → ((j : ℕ) → a ≤ j → j < a + n → g (f j) ≡ max_of (h j)) → first (λ x. leb c (g x)) (tab f a n) ≡ first (λ x. leb c (max_of x)) (tab h a n)
unfolding first tab
first-tab c g f h a zero e = refl
first-tab c g f h a (suc n) e = ap₂ (next_first c) (e a (omega arith) (omega arith)) (first-tab c g f h (suc a) n (λ j lo hi. e j (omega arith) (omega arith)))

pub tab-le : {A : Type 0} (g : A → ℕ) (f : ℕ → A) (a n j : ℕ) → a ≤ j → j < a + n → g (f j) ≤ maximum g (tab f a n)
unfolding maximum tab
tab-le g f a zero j lo hi = absurd (omega arith)
tab-le g f a (suc n) j lo hi = elim (ℕ_discrete j a) [
  | yes e ↦ omega (arith, ap (λ (i : ℕ). g (f i)) e)
  | no e ↦ omega (arith, tab-le g f (suc a) n j (omega arith) (omega arith))
]

pub largest-marked : (d : ℕ) (t : Tree d) → largest d (mark d true t) ≡ suc d
unfolding largest
largest-marked zero t = refl
largest-marked (suc d) (node v ks) = refl

module _ (L : Ladder) where
  -- the same of a node's children
  abbrev pub ChildrenMaxed : (d : ℕ) → List ℕ → ℕ → Type 0
  ChildrenMaxed d p q = (y : ℕ) → Child (fan_out_of L) p (suc d) q y → Maxed L d p y

  pub maxed-own : (d : ℕ) (p : List ℕ) (q : ℕ) → Maxed L d p q → max_of (word p q) ≡ largest d (view L d (word p) q)
  maxed-own zero p q m = m
  maxed-own (suc d) p q m = m.0

  -- a child by the link of another pool
  child-by : {p p' : List ℕ} {d q y : ℕ} → link_of (word p' q) ≡ link_of (word p q) → Child (fan_out_of L) p' d q y → Child (fan_out_of L) p d q y
  child-by e c = record { k = c.k; link = sym e ∙ c.link; at = c.at }

  pub maxed-agree : (d : ℕ) (p p' : List ℕ) (q : ℕ) → Agree (fan_out_of L) p p' (suc d) q → Maxed L d p q → Maxed L d p' q
  maxed-agree zero p p' q a m = ap max_of (sym (a q (places-self (fan_out_of L) p 1 q))) ∙ m ∙ ap (largest 0) (sym (view-agree L 0 p p' q a))
  maxed-agree (suc d) p p' q a m =
      let same : word p q ≡ word p' q = a q (places-self (fan_out_of L) p (suc (suc d)) q) in (
        ap max_of (sym same) ∙ m.0 ∙ ap (largest (suc d)) (sym (view-agree L (suc d) p p' q a)),
        λ y c. let c₀ : Child (fan_out_of L) p (suc d) q y = child-by (ap link_of (sym same)) c in maxed-agree d p p' y (agree-child (fan_out_of L) p' c₀ a) (m.1 y c₀),
      )

  -- only the node's own marks change
  pub maxed-mark : (d : ℕ) (p p' : List ℕ) (q : ℕ) → link_of (word p' q) ≡ link_of (word p q) → ((z : ℕ) → Child (fan_out_of L) p d q z → Agree (fan_out_of L) p p' d z) → max_of (word p' q) ≡ largest d (view L d (word p') q) → Maxed L d p q → Maxed L d p' q
  maxed-mark zero p p' q e a h m = h
  maxed-mark (suc d) p p' q e a h m = (h, λ y c. let c₀ : Child (fan_out_of L) p (suc d) q y = child-by e c in maxed-agree d p p' y (a y c₀) (m.1 y c₀))

  maxed-new : (d : ℕ) (p : List ℕ) (q : ℕ) → suc d < 8 → word p q ≡ 16 * suc d → Maxed L d p q
  maxed-new zero p q h e = omega (arith, ap (largest 0) (view-new L 0 (word p) q h e), largest-empty 0)
  maxed-new (suc d) p q h e = (omega (arith, ap (largest (suc d)) (view-new L (suc d) (word p) q h e), largest-empty (suc d)), λ y c. absurd (omega (arith, c.link)))

  -- the block of an open node lies in the pool
  pub run_fits : (d : ℕ) (p : List ℕ) (u q k : ℕ) → Readable L (suc d) p u q → link_of (word p q) ≡ suc k → first_child p q + fan L (suc d) ≤ length p
  run_fits d p u q k g e = omega (arith, (ok-open (fan_out_of L) (By ltb) p u (suc d) q k g.ok e).fits, g.fit)

  module _ (d : ℕ) (p : List ℕ) (u q k : ℕ) (g : Readable L (suc d) p u q) (link : link_of (word p q) ≡ suc k) where
    run-child : (y : ℕ) → first_child p q ≤ y → y < first_child p q + fan L (suc d) → Child (fan_out_of L) p (suc d) q y
    run-child y lo hi = record { k = k; link = link; at = omega arith }

    -- the largest of the children's trees is the largest of their maxima
    children-largest : ChildrenMaxed d p q → maximum (largest d) (tab (view L d (word p)) (first_child p q) (fan L (suc d))) ≡ children_max p (first_child p q) (fan L (suc d))
    unfolding children_max
    children-largest m = max-tab (largest d) (view L d (word p)) (word p) (first_child p q) (fan L (suc d)) (λ j lo hi. sym (maxed-own d p j (m j (run-child j lo hi)))) ∙ ap (maximum max_of) (sym (run-tab p (first_child p q) (fan L (suc d)) (run_fits d p u q k g link)))

    pub children-first : (c : ℕ) → ChildrenMaxed d p q → first (λ x. leb c (largest d x)) (tab (view L d (word p)) (first_child p q) (fan L (suc d))) ≡ children_first c p (first_child p q) (fan L (suc d))
    unfolding children_first
    children-first c m = first-tab c (largest d) (view L d (word p)) (word p) (first_child p q) (fan L (suc d)) (λ j lo hi. sym (maxed-own d p j (m j (run-child j lo hi)))) ∙ ap (first (λ x. leb c (max_of x))) (sym (run-tab p (first_child p q) (fan L (suc d)) (run_fits d p u q k g link)))

    pub children-all : all (token d) (tab (view L d (word p)) (first_child p q) (fan L (suc d))) ≡ children_all p (first_child p q) (fan L (suc d))
    unfolding children_all
    children-all = all-view L d (word p) (first_child p q) (fan L (suc d)) ∙ ap (all has_token) (sym (run-tab p (first_child p q) (fan L (suc d)) (run_fits d p u q k g link)))

    -- ---- max becomes the children's

    refresh16 : children_max p (first_child p q) (fan L (suc d)) < 16
    refresh16 = omega (arith, children_max-small p (first_child p q) (fan L (suc d)))

    pub refresh-step : Step L (suc d) p (refresh_w L d p q) u u q
    unfolding refresh_w
    refresh-step = own-step L (suc d) p u q (children_max p (first_child p q) (fan L (suc d))) g refresh16

    pub refresh-view : view L (suc d) (word (refresh_w L d p q)) q ≡ node false (tab (view L d (word p)) (first_child p q) (fan L (suc d)))
    unfolding refresh_w view
    refresh-view = own_view L (suc d) p u q (children_max p (first_child p q) (fan L (suc d))) g refresh16 false (marks-plain (children_max p (first_child p q) (fan L (suc d))) (word p q) (children_max-small p (first_child p q) (fan L (suc d))))
        ∙ ap (node false) (block-pos (fan L (suc d)) (view L d (word p)) (link_of (word p q)) (omega arith))

    pub refresh-maxed : ChildrenMaxed d p q → Maxed L (suc d) (refresh_w L d p q) q
    unfolding refresh_w largest
    refresh-maxed m = (
      ap max_of (own-here L (suc d) p u q r g refresh16) ∙ marks-max r (word p q) (children_max-small p (first_child p q) (fan L (suc d))) ∙ sym (children-largest m) ∙ ap (largest (suc d)) (sym refresh-view),
      λ y c. let c₀ : Child (fan_out_of L) p (suc d) q y = child-by (ap link_of (own-here L (suc d) p u q r g refresh16) ∙ omega (arith, marks-same r (word p q) refresh16)) c in
          maxed-agree d p (refresh_w L d p q) y (own-agree L (suc d) p u q r g refresh16 y c₀) (m y c₀),
    )
      where
        r : ℕ
        r = children_max p (first_child p q) (fan L (suc d))

    -- ---- merging, if all children have tokens
    pub record Merged (p' : List ℕ) : Type 0 where
      pub step : Step L (suc d) p p' u u q
      pub tree : view L (suc d) (word p') q ≡ merge d (tab (view L d (word p)) (first_child p q) (fan L (suc d)))
      pub maxed : SoundTree L (suc d) (merge d (tab (view L d (word p)) (first_child p q) (fan L (suc d)))) → ChildrenMaxed d p q → Maxed L (suc d) p' q

    pub merge-done : suc (suc d) < 8 → Merged (merge_w L d p q)
    unfolding merge_w merge spread largest
    merge-done small = go (children_all p (first_child p q) (fan L (suc d))) children-all
      where
        T : List (Tree d)
        T = tab (view L d (word p)) (first_child p q) (fan L (suc d))

        z16 : 0 < 16
        z16 = omega arith

        c16 : 8 + suc (suc d) < 16
        c16 = omega arith

        go : (b : Bool) → all (token d) T ≡ b → Merged (merge_if L b d p q)
        go false e = record {
          step = refresh-step;
          tree = refresh-view ∙ rw (e, merge);
          maxed = λ s m. refresh-maxed m;
        }
        go true e = record {
          step = spread-step L d p u q 0 (8 + suc (suc d)) g k link z16 c16;
          tree = vw ∙ rw (e, merge);
          maxed = λ s m. (
            ap max_of (spread-here L d p u q 0 (8 + suc (suc d)) g k link z16 c16) ∙ marks-max8 (suc (suc d)) (word p q) small ∙ ap (largest (suc d)) (sym vw),
            λ y c. let c₀ : Child (fan_out_of L) p (suc d) q y = child-by (spread-link L d p u q 0 (8 + suc (suc d)) g k link z16 c16) c in
                maxed-mark d p p' y (spread-child-link L d p u q 0 (8 + suc (suc d)) g k link z16 c16 y) (λ z cz. spread-agree L d p u q 0 (8 + suc (suc d)) g k link z16 c16 y z c₀ cz)
                (zero_of y c₀ (quiet (rw (e, merge) at s))) (m y c₀),
          );
        }
          where
            p' : List ℕ
            p' = spread L d p u q 0 (8 + suc (suc d)) g k link z16 c16

            vw : view L (suc d) (word p') q ≡ node true (map (mark d false) T)
            vw = spread-view L d p u q 0 (8 + suc (suc d)) g k link z16 c16 false true (λ x. marks-plain 0 x (omega arith)) (marks-token (suc (suc d)) (word p q) small)

            quiet : SoundNode L d (SoundTree L d) true (map (mark d false) T) → maximum (largest d) (tab (view L d (word p')) (first_child p q) (fan L (suc d))) ≡ 0
            quiet s = ap (maximum (largest d)) (spread-list L d p u q 0 (8 + suc (suc d)) g k link z16 c16 false (λ x. marks-plain 0 x (omega arith))) ∙ s.quiet refl

            zero_of : (y : ℕ) → Child (fan_out_of L) p (suc d) q y → maximum (largest d) (tab (view L d (word p')) (first_child p q) (fan L (suc d))) ≡ 0 → max_of (word p' y) ≡ largest d (view L d (word p') y)
            zero_of y c z =
                let le = tab-le (largest d) (view L d (word p')) (first_child p q) (fan L (suc d)) y (omega (arith, c.link, c.at)) (omega (arith, c.link, c.at)) in
                omega (arith, ap max_of (spread-child L d p u q 0 (8 + suc (suc d)) g k link z16 c16 y c), le, z)

    -- ---- a token is handed on
    pub record Handed (v : Bool) (p' : List ℕ) : Type 0 where
      pub step : Step L (suc d) p p' u u q
      pub links : (x : ℕ) → link_of (word p' x) ≡ link_of (word p x)
      pub children : (ks : List (Tree d)) → tab (view L d (word p)) (first_child p q) (fan L (suc d)) ≡ opened L d ks → tab (view L d (word p')) (first_child p q) (fan L (suc d)) ≡ handed_on L d v ks
      pub maxed : ChildrenMaxed d p q → ChildrenMaxed d p' q

    pub hand-done : suc (suc d) < 8 → Handed (has_token (word p q)) (hand_w L d p q)
    unfolding hand_w handed_on spread
    hand-done small = go (has_token (word p q))
      where
        z16 : 0 < 16
        z16 = omega arith

        c16 : 8 + suc d < 16
        c16 = omega arith

        c8 : suc d < 8
        c8 = omega arith

        go : (b : Bool) → Handed b (hand_if L b d p q)
        go false = record { step = step-none L (suc d) p u q g; links = λ x. refl; children = λ ks e. e; maxed = λ m. m }
        go true = record {
          step = spread-step L d p u q (8 + suc d) 0 g k link c16 z16;
          links = spread-child-link L d p u q (8 + suc d) 0 g k link c16 z16;
          children = λ ks e. spread-list L d p u q (8 + suc d) 0 g k link c16 z16 true (λ x. marks-token (suc d) x c8) ∙ ap (map (mark d true)) e;
          maxed = λ m y c. let c₀ : Child (fan_out_of L) p (suc d) q y = child-by (spread-link L d p u q (8 + suc d) 0 g k link c16 z16) c in
              maxed-mark d p p' y (spread-child-link L d p u q (8 + suc d) 0 g k link c16 z16 y) (λ z cz. spread-agree L d p u q (8 + suc d) 0 g k link c16 z16 y z c₀ cz)
              (ap max_of (spread-child L d p u q (8 + suc d) 0 g k link c16 z16 y c₀) ∙ marks-max8 (suc d) (word p y) c8
              ∙ sym (largest-marked d (view L d (word p) y)) ∙ ap (largest d) (sym (spread-child-view L d p u q (8 + suc d) 0 g k link c16 z16 true (λ x. marks-token (suc d) x c8) y c₀))) (m y c₀);
        }
          where
            p' : List ℕ
            p' = spread L d p u q (8 + suc d) 0 g k link c16 z16

  -- ---- a change at a child
  pub children-maxed : (d : ℕ) (p p' : List ℕ) (u u' q y : ℕ) → Readable L (suc d) p u q → Child (fan_out_of L) p (suc d) q y → Step L d p p' u u' y → ChildrenMaxed d p q → Maxed L d p' y → ChildrenMaxed d p' q
  children-maxed d p p' u u' q y g c r m my z cz =
      let c₀ : Child (fan_out_of L) p (suc d) q z = child-by (ap link_of (child-own L d p p' u u' q y g c r)) cz in
      elim (ℕ_discrete z y) [
        | yes e ↦ subst (λ (j : ℕ). Maxed L d p' j) (sym e) my
        | no e ↦ maxed-agree d p p' z (child-agree L d p p' u u' q y g c r z c₀ e) (m z c₀)
      ]

  -- ---- opening
  pub open-maxed : (d : ℕ) (s : Words) (q : ℕ) → suc (suc d) < 8 → Readable L (suc d) s.pool s.used q → (open_w L d s q).used ≤ length s.pool → ChildrenMaxed d s.pool q → ChildrenMaxed d (open_w L d s q).pool q
  unfolding open_w
  open-maxed d s q small g room m = go (link_of (word s.pool q)) refl room
    where
      go : (l : ℕ) → link_of (word s.pool q) ≡ l → (open_if L d s q l).used ≤ length s.pool → ChildrenMaxed d (open_if L d s q l).pool q
      go (suc l) e rm = m
      go zero e rm = λ y c.
          let o = opens L d s q small g e rm in
          maxed-new d (open_with L s.pool s.used d q) y (omega arith) (o.children y (omega (arith, c.link, c.at, o.node)))
