-- The tree that a pool's words hold, and what each write does to it. Assumes nothing.
use mathlib.Core.Bool.{Bool, true, false}
use mathlib.Core.List.{List, map}
use mathlib.Core.Logic.{◌≢◌}
use mathlib.Core.Path.{◌≡◌, refl, sym, ap, ◌∙◌}
use Prim.Native.Nat.{ℕ, zero, suc, ◌+◌, ◌*◌, ◌-◌, ◌/◌, ◌%◌, ◌≤◌, ◌<◌}
use native.Mathlib.Decide.{dec_le, dec_lt, ℕ_discrete}
use native.Mathlib.Omega.{arith}
use lib.Dec.{ltb}
use lib.ListN.{length, set, length-set}
use lib.Seq.{get_or-set_same, get_or-set_other}
use borrow.Author.Tests.{eq-eqb, ne_eqb}
use Rattle.sizes.specs.Ladder.{Ladder}
use Rattle.model.proofs.Ladder.{fan-pos}
use Rattle.model.proofs.Lists.{maximum-le}
use Rattle.model.specs.Ladder.{fan}
use Rattle.model.specs.Tree.{empty, mark, node, opened}
use Rattle.pool.specs.Nodes.{Words, children_max, map_run, open_if, open_w, open_with, with_marks}
use Rattle.pool.specs.View.{block, tab, view}
use Rattle.pool.specs.Words.{fan_out_of, first_child, has_token, link_of, max_of, run, word}
use Rattle.pool.specs.Blocks.{By, Child, In, Ok, OkBlock, Readable, places_of}
use Rattle.pool.proofs.Blocks.{ok-open}
use Rattle.pool.proofs.Lists.{length-map_run, map_run-in, map_run-out}
use Rattle.pool.proofs.Opening.{Opened}
use Rattle.pool.proofs.Places.{Agree, agree-child, apart-child, apart-own, places-child, places-self, sep-child}
use Rattle.pool.proofs.Step.{Step, open_step, relabel-step, step-none}
use Rattle.pool.proofs.Tree.{block-pos, opened-tab, tab-map, tab-rep, tab-same, view-new}
use Rattle.pool.proofs.Write.{open-behind, open_block, open-length}

-- ---- marks
pub marks-token : (c v : ℕ) → c < 8 → has_token (with_marks (8 + c) v) ≡ true
marks-token c v h = let z : with_marks (8 + c) v / 8 ≡ 2 * (v / 16) + 1 = omega arith in eq-eqb (with_marks (8 + c) v / 8 % 2) 1 (rw z (omega arith))

pub marks-plain : (m v : ℕ) → m < 8 → has_token (with_marks m v) ≡ false
marks-plain m v h = ne_eqb (with_marks m v / 8 % 2) 1 (λ e. omega arith)

pub marks-same : (m v : ℕ) → m < 16 → with_marks m v / 16 ≡ v / 16
marks-same m v h = omega arith

pub marks-max : (m v : ℕ) → m < 8 → max_of (with_marks m v) ≡ m
marks-max m v h = omega arith

pub marks-max8 : (c v : ℕ) → c < 8 → max_of (with_marks (8 + c) v) ≡ c
marks-max8 c v h = omega arith

pub children_max-small : (p : List ℕ) (a n : ℕ) → children_max p a n < 8
unfolding children_max
children_max-small p a n = omega (arith, maximum-le max_of 7 (run p a n) (λ x. omega arith))

module _ (L : Ladder) where
  -- the tree depends on the node's places alone
  pub view-agree : (d : ℕ) (p p' : List ℕ) (q : ℕ) → Agree (fan_out_of L) p p' (suc d) q → view L d (word p') q ≡ view L d (word p) q
  unfolding view
  view-agree zero p p' q a = ap has_token (sym (a q (places-self (fan_out_of L) p 1 q)))
  view-agree (suc d) p p' q a = rw (← a q (places-self (fan_out_of L) p (suc (suc d)) q)) (ap (node (has_token (word p q))) (go (link_of (word p q)) refl (view-agree d p p')))
    where
      go : (x : ℕ) → link_of (word p q) ≡ x → ((j : ℕ) → Agree (fan_out_of L) p p' (suc d) j → view L d (word p') j ≡ view L d (word p) j) → block (fan L (suc d)) (view L d (word p')) x ≡ block (fan L (suc d)) (view L d (word p)) x
      go zero e ih = refl
      go (suc k) e ih = tab-same (view L d (word p')) (view L d (word p)) (suc (suc k)) (fan L (suc d)) (λ j lo hi. ih j (agree-child (fan_out_of L) p' (record { k = k; link = e; at = (lo, hi) }) a))

  -- a node whose link stays, and below which nothing changes, has another token at most
  view-mark : (d : ℕ) (p p' : List ℕ) (q : ℕ) → link_of (word p' q) ≡ link_of (word p q) → ((z : ℕ) → Child (fan_out_of L) p d q z → Agree (fan_out_of L) p p' d z) → view L d (word p') q ≡ mark d (has_token (word p' q)) (view L d (word p) q)
  unfolding view
  view-mark zero p p' q e a = refl
  view-mark (suc d) p p' q e a = rw e (ap (node (has_token (word p' q))) (go (link_of (word p q)) refl))
    where
      go : (x : ℕ) → link_of (word p q) ≡ x → block (fan L (suc d)) (view L d (word p')) x ≡ block (fan L (suc d)) (view L d (word p)) x
      go zero e = refl
      go (suc k) e = tab-same (view L d (word p')) (view L d (word p)) (suc (suc k)) (fan L (suc d)) (λ j lo hi. view-agree d p p' j (a j (record { k = k; link = e; at = (lo, hi) })))

  -- ---- the node's own word is written
  module _ (d : ℕ) (p : List ℕ) (u q m : ℕ) (g : Readable L d p u q) (m16 : m < 16) where
    pub own-here : word (set p q (with_marks m (word p q))) q ≡ with_marks m (word p q)
    own-here = get_or-set_same p q (with_marks m (word p q)) 0 (omega (arith, g.at, g.fit))

    own-other : (x : ℕ) → x ≢ q → word (set p q (with_marks m (word p q))) x ≡ word p x
    own-other x ne = get_or-set_other p q x (with_marks m (word p q)) 0 ne

    own_same : (x : ℕ) → word (set p q (with_marks m (word p q))) x / 16 ≡ word p x / 16
    own_same x = elim (ℕ_discrete x q) [
      | yes e ↦ ap (λ (y : ℕ). word (set p q (with_marks m (word p q))) y / 16) e ∙ ap (λ (y : ℕ). y / 16) own-here ∙ marks-same m (word p q) m16 ∙ ap (λ (y : ℕ). word p y / 16) (sym e)
      | no e ↦ ap (λ (y : ℕ). y / 16) (own-other x e)
    ]

    pub own-step : Step L d p (set p q (with_marks m (word p q))) u u q
    own-step = relabel-step L d p (set p q (with_marks m (word p q))) u q g (length-set p q (with_marks m (word p q))) own_same (λ x ne _. own-other x ne)

    pub own-agree : (z : ℕ) → Child (fan_out_of L) p d q z → Agree (fan_out_of L) p (set p q (with_marks m (word p q))) d z
    own-agree z c x h = sym (own-other x (apart-own (fan_out_of L) c g.sep x h))

    pub own_view : (v : Bool) → has_token (with_marks m (word p q)) ≡ v → view L d (word (set p q (with_marks m (word p q)))) q ≡ mark d v (view L d (word p) q)
    own_view v e = view-mark d p (set p q (with_marks m (word p q))) q (omega (arith, own_same q)) own-agree ∙ ap (λ (b : Bool). mark d b (view L d (word p) q)) (ap has_token own-here ∙ e)

  -- ---- the words of an open node and of its children are written
  module _ (d : ℕ) (p : List ℕ) (u q m m' : ℕ) (g : Readable L (suc d) p u q) (k : ℕ) (link : link_of (word p q) ≡ suc k) (m16 : m < 16) (m16' : m' < 16) where
    unfoldable pub spread : List ℕ
    spread = set (map_run (with_marks m) p (first_child p q) (fan L (suc d))) q (with_marks m' (word p q))

    okb : OkBlock (fan_out_of L) (By ltb) p u (suc d) q (suc k) (Ok (fan_out_of L) (By ltb) p u (suc d))
    okb = ok-open (fan_out_of L) (By ltb) p u (suc d) q k g.ok link

    a-child : (y : ℕ) → In (first_child p q) (fan L (suc d)) y → Child (fan_out_of L) p (suc d) q y
    a-child y i = record { k = k; link = link; at = omega (arith, link, i) }

    child-not : (y : ℕ) → Child (fan_out_of L) p (suc d) q y → y ≢ q
    child-not y c = apart-own (fan_out_of L) c g.sep y (places-self (fan_out_of L) p (suc d) y)

    child-in : (y : ℕ) → Child (fan_out_of L) p (suc d) q y → In (first_child p q) (fan L (suc d)) y
    child-in y c = omega (arith, c.link, c.at)

    pub spread-here : word spread q ≡ with_marks m' (word p q)
    unfolding spread
    spread-here = get_or-set_same (map_run (with_marks m) p (first_child p q) (fan L (suc d))) q (with_marks m' (word p q)) 0 (omega (arith, length-map_run (with_marks m) p (first_child p q) (fan L (suc d)), g.at, g.fit))

    pub spread-child : (y : ℕ) → Child (fan_out_of L) p (suc d) q y → word spread y ≡ with_marks m (word p y)
    unfolding spread
    spread-child y c =
        get_or-set_other (map_run (with_marks m) p (first_child p q) (fan L (suc d))) q y (with_marks m' (word p q)) 0 (child-not y c)
        ∙ map_run-in (with_marks m) p (first_child p q) (fan L (suc d)) y (omega (arith, child-in y c, okb.fits, link, g.fit)) (child-in y c).0 (child-in y c).1

    spread-other : (x : ℕ) → x ≢ q → (Child (fan_out_of L) p (suc d) q x → ⊥) → word spread x ≡ word p x
    unfolding spread
    spread-other x ne no-child =
        get_or-set_other (map_run (with_marks m) p (first_child p q) (fan L (suc d))) q x (with_marks m' (word p q)) 0 ne
        ∙ map_run-out (with_marks m) p (first_child p q) (fan L (suc d)) x (λ i. no-child (a-child x i))

    spread_same : (x : ℕ) → word spread x / 16 ≡ word p x / 16
    spread_same x = go (ℕ_discrete x q) (dec_le (first_child p q) x) (dec_lt x (first_child p q + fan L (suc d)))
      where
        go : Dec (x ≡ q) → Dec (first_child p q ≤ x) → Dec (x < first_child p q + fan L (suc d)) → word spread x / 16 ≡ word p x / 16
        go (yes e) i j = ap (λ (y : ℕ). word spread y / 16) e ∙ ap (λ (y : ℕ). y / 16) spread-here ∙ marks-same m' (word p q) m16' ∙ ap (λ (y : ℕ). word p y / 16) (sym e)
        go (no e) (yes i) (yes j) = ap (λ (y : ℕ). y / 16) (spread-child x (a-child x (i, j))) ∙ marks-same m (word p x) m16
        go (no e) (yes i) (no j) = ap (λ (y : ℕ). y / 16) (spread-other x e (λ c. j (child-in x c).1))
        go (no e) (no i) j = ap (λ (y : ℕ). y / 16) (spread-other x e (λ c. i (child-in x c).0))

    pub spread-link : link_of (word spread q) ≡ link_of (word p q)
    spread-link = omega (arith, spread_same q)

    pub spread-child-link : (y : ℕ) → link_of (word spread y) ≡ link_of (word p y)
    spread-child-link y = omega (arith, spread_same y)

    pub spread-step : Step L (suc d) p spread u u q
    unfolding spread
    spread-step = relabel-step L (suc d) p spread u q g (length-set (map_run (with_marks m) p (first_child p q) (fan L (suc d))) q (with_marks m' (word p q)) ∙ length-map_run (with_marks m) p (first_child p q) (fan L (suc d))) spread_same spread-other

    -- the grandchildren stay
    pub spread-agree : (y z : ℕ) → Child (fan_out_of L) p (suc d) q y → Child (fan_out_of L) p d y z → Agree (fan_out_of L) p spread d z
    spread-agree y z c e x h =
        let hy : 1 ≤ places_of (fan_out_of L) p x (suc d) y = omega (arith, h, places-child (fan_out_of L) x e) in
        sym (spread-other x (apart-own (fan_out_of L) c g.sep x hy)
        (λ c'. elim (ℕ_discrete x y) [
          | yes i ↦ apart-own (fan_out_of L) e (sep-child (fan_out_of L) c g.sep) x h i
          | no i ↦ apart-child (fan_out_of L) c' c g.sep i x (places-self (fan_out_of L) p (suc d) x) hy
        ]))

    pub spread-child-view : (v : Bool) → ((x : ℕ) → has_token (with_marks m x) ≡ v) → (y : ℕ) → Child (fan_out_of L) p (suc d) q y → view L d (word spread) y ≡ mark d v (view L d (word p) y)
    spread-child-view v e y c =
        view-mark d p spread y (spread-child-link y) (λ z cz. spread-agree y z c cz) ∙ ap (λ (b : Bool). mark d b (view L d (word p) y)) (ap has_token (spread-child y c) ∙ e (word p y))

    pub spread-list : (v : Bool) → ((x : ℕ) → has_token (with_marks m x) ≡ v) → tab (view L d (word spread)) (first_child p q) (fan L (suc d)) ≡ map (mark d v) (tab (view L d (word p)) (first_child p q) (fan L (suc d)))
    spread-list v e = rw (tab-map (mark d v) (view L d (word p)) (first_child p q) (fan L (suc d)))
        (tab-same (view L d (word spread)) (λ j. mark d v (view L d (word p) j)) (first_child p q) (fan L (suc d)) (λ j lo hi. spread-child-view v e j (a-child j (lo, hi))))

    pub spread-view : (v v' : Bool) → ((x : ℕ) → has_token (with_marks m x) ≡ v) → has_token (with_marks m' (word p q)) ≡ v' → view L (suc d) (word spread) q ≡ node v' (map (mark d v) (tab (view L d (word p)) (first_child p q) (fan L (suc d))))
    unfolding view
    spread-view v v' e e' =
        rw (spread-link, spread-here, e', block-pos (fan L (suc d)) (view L d (word spread)) (link_of (word p q)) (omega arith)) (ap (node v') (spread-list v e))

  -- ---- opening
  pub record OpenDone (d : ℕ) (s o : Words) (q : ℕ) : Type 0 where
    pub step : Step L (suc d) s.pool o.pool s.used o.used q
    pub k : ℕ
    pub link : link_of (word o.pool q) ≡ suc k
    pub marks : word o.pool q % 16 ≡ word s.pool q % 16
    pub children : tab (view L d (word o.pool)) (first_child o.pool q) (fan L (suc d)) ≡ opened L d (block (fan L (suc d)) (view L d (word s.pool)) (link_of (word s.pool q)))

  -- the words that an opening takes
  abbrev pub open_need : ℕ → ℕ → ℕ
  open_need d zero = suc (fan L (suc d))
  open_need d (suc l) = 0

  pub open-words : (d : ℕ) (s : Words) (q : ℕ) → (open_w L d s q).used ≡ s.used + open_need d (link_of (word s.pool q))
  unfolding open_w
  open-words d s q = go (link_of (word s.pool q))
    where
      go : (l : ℕ) → (open_if L d s q l).used ≡ s.used + open_need d l
      go zero = refl
      go (suc l) = omega arith

  module _ (d : ℕ) (s : Words) (q : ℕ) (small : suc (suc d) < 8) (g : Readable L (suc d) s.pool s.used q) (shut : link_of (word s.pool q) ≡ 0) (room : s.used + suc (fan L (suc d)) ≤ length s.pool) where
    -- the new words
    pub opens : Opened s.pool (open_with L s.pool s.used d q) s.used (suc d) q (fan L (suc d))
    opens = open_block L s.pool s.used d q g.at (omega arith) shut

    open-new : OpenDone d s (open_if L d s q zero) q
    unfolding opened
    open-new = record {
      step = open_step L d p p' u q small g opens (open-length L p u d q)
          (open-behind L p u d q g.at);
      k = u - 1;
      link = omega (arith, link, g.at);
      marks = omega (arith, opens.node);
      children = rw (shut, link, tab-rep (view L d (word p')) (suc u) n (empty d) (λ j lo hi. view-new L d (word p') j (omega arith) (opens.children j (lo, hi))));
    }
      where
        p : List ℕ
        p = s.pool

        u : ℕ
        u = s.used

        n : ℕ
        n = fan L (suc d)

        p' : List ℕ
        p' = open_with L p u d q

        link : link_of (word p' q) ≡ u
        link = omega (arith, opens.node, shut)

  pub open_done : (d : ℕ) (s : Words) (q : ℕ) → suc (suc d) < 8 → Readable L (suc d) s.pool s.used q → (open_w L d s q).used ≤ length s.pool → OpenDone d s (open_w L d s q) q
  unfolding open_w
  open_done d s q small g = go (link_of (word s.pool q)) refl
    where
      go : (l : ℕ) → link_of (word s.pool q) ≡ l → (open_if L d s q l).used ≤ length s.pool → OpenDone d s (open_if L d s q l) q
      go zero e room = open-new d s q small g e room
      go (suc l) e room = record {
        step = step-none L (suc d) s.pool s.used q g;
        k = l;
        link = e;
        marks = refl;
        children = rw (block-pos (fan L (suc d)) (view L d (word s.pool)) (link_of (word s.pool q)) (omega arith), opened-tab L d (view L d (word s.pool)) (first_child s.pool q) (fan L (suc d)) (fan-pos L d));
      }
