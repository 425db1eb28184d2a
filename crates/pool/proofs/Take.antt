-- An acquire on the words is the tree's take at the tree's pick: the block, the tree, the places, the count of used words, the children looked at, and the maxima. Assumes nothing.
use mathlib.Core.Bool.{Bool, true, false, false≢true}
use mathlib.Core.List.{List, [], ◌∷◌, map}
use mathlib.Core.Path.{◌≡◌, refl, sym, ap, ap₂, ◌∙◌, subst}
use Prim.Native.Nat.{ℕ, zero, suc, ◌+◌, ◌*◌, ◌/◌, ◌%◌, ◌≤◌, ◌<◌}
use native.Mathlib.Decide.{ℕ_discrete}
use native.Mathlib.Omega.{arith}
use lib.Dec.{ltb, leb, eqb}
use lib.ListN.{length, set}
use borrow.Author.Tests.{ltb-true, ltb-false}
use Rattle.sizes.specs.Ladder.{Ladder}
use Rattle.model.proofs.Change.{handed_on-sound, opened-length, unmark-quiet}
use Rattle.model.proofs.Free.{largest-empty, largest-le, pick-lowest}
use Rattle.model.proofs.Ladder.{fan-pos, frames-pos}
use Rattle.model.proofs.Lists.{First, first-first, get_or-map-lt, maximum-get_or, maximum-le}
use Rattle.model.proofs.Range.{child-at, child-no}
use Rattle.model.specs.Ladder.{fan, frames, probes}
use Rattle.model.specs.Lists.{first, maximum}
use Rattle.model.specs.Tree.{Sound as SoundTree}
use Rattle.model.specs.Tree.{SoundNode, Tree, child, empty, handed_on, largest, mark, node, opened, pick, remove, token}
use Rattle.pool.specs.Nodes.{Taken, Words, children_first, hand_w, mark_w, open_w, refresh_w, take_w}
use Rattle.pool.specs.Room.{openings_w}
use Rattle.pool.specs.View.{block, tab, view}
use Rattle.pool.specs.Words.{fan_out_of, first_child, has_token, link_of, max_of, word}
use Rattle.pool.specs.Asks.{Maxed}
use Rattle.pool.specs.Blocks.{Child, Readable}
use Rattle.pool.proofs.Max.{ChildrenMaxed, Handed, children-first, children-maxed, hand-done, largest-marked, maxed-mark, open-maxed, refresh-maxed, refresh-step, refresh-view}
use Rattle.pool.proofs.Step.{Step, child-agree, child-own, child-step, readable-child, step-readable, step-trans}
use Rattle.pool.proofs.Store.{need-ge, need-open, need-top, view-node}
use Rattle.pool.proofs.Tree.{tab-at, tab-length, tab-set}
use Rattle.pool.proofs.View.{OpenDone, marks-max, marks-plain, open_done, open-words, open_need, own-agree, own-here, own-step, own_view, view-agree}

-- a node that offers itself is a token node, and is picked whole
pub whole-token : (d : ℕ) (t : Tree d) → suc d ≤ largest d t → token d t ≡ true
unfolding largest
whole-token zero true h = refl
whole-token zero false h = absurd (omega arith)
whole-token (suc d) (node true ks) h = refl
whole-token (suc d) (node false ks) h = absurd (omega (arith, maximum-le (largest d) (suc d) ks (largest-le d)))

module _ (L : Ladder) where
  -- ---- one level of the tree
  pick-marked : (d d' : ℕ) (t : Tree d) → pick L d d' (mark d true t) ≡ 0
  unfolding pick
  pick-marked zero d' t = refl
  pick-marked (suc d) d' (node v ks) = refl

  -- the first child with room, after a token is handed on
  pub record Into (d d' : ℕ) (v : Bool) (ks : List (Tree d)) (i : ℕ) : Type 0 where
    pub in_range : i < length (handed_on L d v ks)
    pub reaches : suc d' ≤ largest d (child d (handed_on L d v ks) i)
    pub base : pick L (suc d) d' (node v ks) ≡ i * frames L d + pick L d d' (child d (handed_on L d v ks) i)

  pick-into : (d d' : ℕ) (v : Bool) (ks : List (Tree d)) → SoundNode L d (SoundTree L d) v ks → d' ≤ d → suc d' ≤ largest (suc d) (node v ks) → Into d d' v ks (first (λ x. leb (suc d') (largest d x)) (handed_on L d v ks))
  unfolding largest handed_on opened maximum pick
  pick-into d d' false [] s l h = absurd (omega arith)
  pick-into d d' false (k ∷ ks) s l h =
      let f = first-first (largest d) (suc d') (k ∷ ks) (empty d) (omega arith) h in
      record { in_range = f.in_range; reaches = f.reaches; base = refl }
  pick-into d d' true ks s l h = record {
    in_range = f.in_range;
    reaches = f.reaches;
    base = sym (ap₂ (λ (a b : ℕ). a * frames L d + b) at0 (ap (λ (a : ℕ). pick L d d' (child d P a)) at0 ∙ ap (pick L d d') zeroth ∙ pick-marked d d' (child d (opened L d ks) 0)) ∙ omega arith);
  }
    where
      P : List (Tree d)
      P = map (mark d true) (opened L d ks)

      zeroth : child d P 0 ≡ mark d true (child d (opened L d ks) 0)
      zeroth = get_or-map-lt (mark d true) (opened L d ks) 0 (empty d) (omega (arith, opened-length L d ks s.shape, fan-pos L d))

      big : largest d (child d P 0) ≡ suc d
      big = ap (largest d) zeroth ∙ largest-marked d (child d (opened L d ks) 0)

      f : First (largest d) (suc d') P (empty d) (first (λ x. leb (suc d') (largest d x)) P)
      f = first-first (largest d) (suc d') P (empty d) (omega arith) (omega (arith, big, maximum-get_or (largest d) P 0 (empty d) (largest-empty d)))

      at0 : first (λ x. leb (suc d') (largest d x)) P ≡ 0
      at0 = elim (ℕ_discrete (first (λ x. leb (suc d') (largest d x)) P) 0) [ yes e ↦ e | no e ↦ absurd (omega (arith, big, f.before 0 (omega arith))) ]

  remove-node : (d d' b : ℕ) (v : Bool) (ks : List (Tree d)) → ltb d' (suc d) ≡ true
      → remove L (suc d) d' (node v ks) b ≡ node false (set (handed_on L d v ks) (b / frames L d) (remove L d d' (child d (handed_on L d v ks) (b / frames L d)) (b % frames L d)))
  unfolding remove
  remove-node d d' b v ks h = rw (h, remove)

  remove-top-is : (d d' b : ℕ) (t : Tree (suc d)) → ltb d' (suc d) ≡ false → remove L (suc d) d' t b ≡ mark (suc d) false t
  unfolding remove
  remove-top-is d d' b (node v ks) h = rw (h, remove)

  probes-node : (d d' b : ℕ) → ltb d' (suc d) ≡ true → probes L (suc d) d' b ≡ suc (b / frames L d) + probes L d d' (b % frames L d)
  unfolding probes
  probes-node d d' b h = rw (h, probes)

  probes-top : (d d' b : ℕ) → ltb d' (suc d) ≡ false → probes L (suc d) d' b ≡ 0
  unfolding probes
  probes-top d d' b h = rw (h, probes)

  pub whole-pick : (d d' : ℕ) (t : Tree d) → token d t ≡ true → pick L d d' t ≡ 0
  unfolding pick
  whole-pick zero d' t e = refl
  whole-pick (suc d) d' (node true ks) e = refl
  whole-pick (suc d) d' (node false ks) e = absurd (false≢true e)

  -- what is needed goes by the links alone
  pub need-links : (d d' : ℕ) (p p' : List ℕ) → ((x : ℕ) → link_of (word p' x) ≡ link_of (word p x)) → (q b : ℕ) → openings_w L d d' p' q b ≡ openings_w L d d' p q b
  unfolding openings_w
  need-links zero d' p p' e q b = refl
  need-links (suc d) d' p p' e q b = go (ltb d' (suc d)) refl (need-links d d' p p' e)
    where
      go : (x : Bool) → ltb d' (suc d) ≡ x → ((q b : ℕ) → openings_w L d d' p' q b ≡ openings_w L d d' p q b) → openings_w L (suc d) d' p' q b ≡ openings_w L (suc d) d' p q b
      go false h ih = need-top L d d' p' q b h ∙ sym (need-top L d d' p q b h)
      go true h ih = at (link_of (word p q)) refl
        where
          at : (l : ℕ) → link_of (word p q) ≡ l → openings_w L (suc d) d' p' q b ≡ openings_w L (suc d) d' p q b
          at zero i = rw (h, openings_w, e q, i)
          at (suc k) i = rw (h, openings_w, e q, i) (ih (suc (suc k) + b / frames L d) (b % frames L d))

  -- what is to be shown of an acquire; t is the node's tree
  pub record Took (d d' : ℕ) (s : Words) (q : ℕ) (t : Tree d) (o : Taken) : Type 0 where
    pub base : o.base ≡ pick L d d' t
    pub step : Step L d s.pool o.words.pool s.used o.words.used q
    pub tree : view L d (word o.words.pool) q ≡ remove L d d' t (pick L d d' t)
    pub words : o.words.used ≡ s.used + openings_w L d d' s.pool q (pick L d d' t)
    pub looked : o.probes ≡ probes L d d' (pick L d d' t)
    pub maxed : Maxed L d o.words.pool q

  -- the whole node is taken
  module _ (d : ℕ) (s : Words) (q : ℕ) (g : Readable L d s.pool s.used q) where
    z16 : 0 < 16
    z16 = omega arith

    clear_step : Step L d s.pool (mark_w 0 s q).pool s.used s.used q
    clear_step = own-step L d s.pool s.used q 0 g z16

    clear-view : view L d (word (mark_w 0 s q).pool) q ≡ mark d false (view L d (word s.pool) q)
    clear-view = own_view L d s.pool s.used q 0 g z16 false (marks-plain 0 (word s.pool q) (omega arith))

    clear-maxed : SoundTree L d (view L d (word s.pool) q) → token d (view L d (word s.pool) q) ≡ true → Maxed L d s.pool q → Maxed L d (mark_w 0 s q).pool q
    clear-maxed sound t m =
        let e = own-here L d s.pool s.used q 0 g z16 in
        maxed-mark L d s.pool (mark_w 0 s q).pool q (ap link_of e ∙ omega arith) (own-agree L d s.pool s.used q 0 g z16)
        (ap max_of e ∙ marks-max 0 (word s.pool q) (omega arith) ∙ sym (unmark-quiet L d (view L d (word s.pool) q) sound t) ∙ ap (largest d) (sym clear-view)) m

  -- ---- one level of the words: the node of level d + 2 at q is opened, its token handed on, and the first child with room entered
  abbrev pub handed : ℕ → Words → ℕ → List ℕ
  handed d s q = hand_w L d (open_w L d s q).pool q

  abbrev pub child_place : ℕ → ℕ → Words → ℕ → ℕ
  child_place d d' s q = children_first (suc d') (handed d s q) (first_child (handed d s q) q) (fan L (suc d))

  abbrev pub child_at : ℕ → ℕ → Words → ℕ → ℕ
  child_at d d' s q = first_child (handed d s q) q + child_place d d' s q

  abbrev pub child_tree : (d d' : ℕ) → Words → ℕ → Tree d
  child_tree d d' s q = view L d (word (handed d s q)) (child_at d d' s q)

  abbrev pub children_of : (d : ℕ) → Words → ℕ → List (Tree d)
  children_of d s q = block (fan L (suc d)) (view L d (word s.pool)) (link_of (word s.pool q))

  pub record EnterW (d d' : ℕ) (s : Words) (q : ℕ) : Type 0 where
    pub room : (open_w L d s q).used ≤ length s.pool
    pub open_step : Step L (suc d) s.pool (open_w L d s q).pool s.used (open_w L d s q).used q
    pub hand_step : Step L (suc d) (open_w L d s q).pool (handed d s q) (open_w L d s q).used (open_w L d s q).used q
    pub readable_o : Readable L (suc d) (open_w L d s q).pool (open_w L d s q).used q
    pub readable : Readable L (suc d) (handed d s q) (open_w L d s q).used q
    pub k : ℕ
    pub link_o : link_of (word (open_w L d s q).pool q) ≡ suc k
    pub link : link_of (word (handed d s q) q) ≡ suc k
    pub trees : tab (view L d (word (handed d s q))) (first_child (handed d s q) q) (fan L (suc d)) ≡ handed_on L d (has_token (word s.pool q)) (children_of d s q)
    pub children : ChildrenMaxed L d (handed d s q) q
    pub lt : child_place d d' s q < fan L (suc d)
    pub child_view : child_tree d d' s q ≡ child d (handed_on L d (has_token (word s.pool q)) (children_of d s q)) (child_place d d' s q)
    pub sound : SoundTree L d (child_tree d d' s q)
    pub reach : suc d' ≤ largest d (child_tree d d' s q)
    pub base : pick L (suc d) d' (view L (suc d) (word s.pool) q) ≡ child_place d d' s q * frames L d + pick L d d' (child_tree d d' s q)
    pub low_base : pick L d d' (child_tree d d' s q) < frames L d
    pub need : openings_w L (suc d) d' s.pool q (pick L (suc d) d' (view L (suc d) (word s.pool) q)) ≡ open_need L d (link_of (word s.pool q)) + openings_w L d d' (handed d s q) (child_at d d' s q) (pick L d d' (child_tree d d' s q))

  pub enter_w-child : {d d' : ℕ} {s : Words} {q : ℕ} → (n : EnterW d d' s q) → Child (fan_out_of L) (handed d s q) (suc d) q (child_at d d' s q)
  enter_w-child n = record { k = n.k; link = n.link; at = omega (arith, n.link, n.lt) }

  -- the node is entered where its own opening has room
  pub enter_w-open : (d d' : ℕ) (s : Words) (q : ℕ) → suc (suc d) < 8 → Readable L (suc d) s.pool s.used q → ltb d' (suc d) ≡ true → SoundTree L (suc d) (view L (suc d) (word s.pool) q) → Maxed L (suc d) s.pool q
      → suc d' ≤ largest (suc d) (view L (suc d) (word s.pool) q) → (open_w L d s q).used ≤ length s.pool → EnterW d d' s q
  enter_w-open d d' s q small g e sound m h room_o = record {
    room = room_o;
    open_step = o.step;
    hand_step = hd.step;
    readable_o = gq;
    readable = g_p;
    k = o.k;
    link_o = o.link;
    link = link_p;
    trees = trees;
    children = m_p;
    lt = lt;
    child_view = child_view;
    sound = sound_k;
    reach = reach;
    base = b_at;
    low_base = low_base;
    need = need;
  }
    where
      p : List ℕ
      p = s.pool

      t : Tree (suc d)
      t = view L (suc d) (word p) q

      n : ℕ
      n = fan L (suc d)

      b : ℕ
      b = pick L (suc d) d' t

      lt' : d' < suc d
      lt' = ltb-true d' (suc d) e

      v : Bool
      v = has_token (word p q)

      ks : List (Tree d)
      ks = block n (view L d (word p)) (link_of (word p q))

      same : t ≡ node v ks
      same = view-node L d p q

      O : Words
      O = open_w L d s q

      o : OpenDone L d s O q
      o = open_done L d s q small g room_o

      gq : Readable L (suc d) O.pool O.used q
      gq = step-readable L (suc d) p O.pool s.used O.used q g o.step room_o

      P : List ℕ
      P = hand_w L d O.pool q

      hd : Handed L d O.pool O.used q o.k gq o.link (has_token (word O.pool q)) P
      hd = hand-done L d O.pool O.used q o.k gq o.link small

      fit_o : O.used ≤ length O.pool
      fit_o = gq.fit

      g_p : Readable L (suc d) P O.used q
      g_p = step-readable L (suc d) O.pool P O.used O.used q gq hd.step fit_o

      link_p : link_of (word P q) ≡ suc o.k
      link_p = hd.links q ∙ o.link

      v_o : has_token (word O.pool q) ≡ v
      v_o = let z : word O.pool q / 8 % 2 ≡ word p q / 8 % 2 = omega (arith, o.marks) in ap (λ (x : ℕ). eqb x 1) z

      first_p : first_child P q ≡ first_child O.pool q
      first_p = ap suc (hd.links q)

      trees : tab (view L d (word P)) (first_child P q) n ≡ handed_on L d v ks
      trees = ap (λ (a : ℕ). tab (view L d (word P)) a n) first_p ∙ hd.children ks o.children ∙ ap (λ (x : Bool). handed_on L d x ks) v_o

      m_p : ChildrenMaxed L d P q
      m_p = hd.maxed (open-maxed L d s q small g room_o m.1)

      i : ℕ
      i = children_first (suc d') P (first_child P q) n

      sound_n : SoundNode L d (SoundTree L d) v ks
      sound_n = subst (SoundTree L (suc d)) same sound

      into : Into d d' v ks i
      into = subst (Into d d' v ks) (ap (first (λ x. leb (suc d') (largest d x))) (sym trees) ∙ children-first L d P O.used q o.k g_p link_p (suc d') m_p)
          (pick-into d d' v ks sound_n (omega (arith, lt')) (subst (λ (x : Tree (suc d)). suc d' ≤ largest (suc d) x) same h))

      lt : i < n
      lt = omega (arith, into.in_range, ap length trees, tab-length (view L d (word P)) (first_child P q) n)

      y : ℕ
      y = first_child P q + i

      c : Child (fan_out_of L) P (suc d) q y
      c = record { k = o.k; link = link_p; at = omega (arith, link_p, lt) }

      child_view : view L d (word P) y ≡ child d (handed_on L d v ks) i
      child_view = sym (tab-at (view L d (word P)) (first_child P q) n i (empty d) lt) ∙ ap (λ (x : List (Tree d)). child d x i) trees

      sound_k : SoundTree L d (view L d (word P) y)
      sound_k = subst (SoundTree L d) (sym child_view) (handed_on-sound L d v ks sound_n i)

      reach : suc d' ≤ largest d (view L d (word P) y)
      reach = subst (λ (x : Tree d). suc d' ≤ largest d x) (sym child_view) into.reaches

      low_base : pick L d d' (view L d (word P) y) < frames L d
      low_base = omega (arith, (pick-lowest L d d' (view L d (word P) y) sound_k reach).fits, frames-pos L d')

      b-is : b ≡ i * frames L d + pick L d d' (child d (handed_on L d v ks) i)
      b-is = ap (pick L (suc d) d') same ∙ into.base

      b_at : b ≡ i * frames L d + pick L d d' (view L d (word P) y)
      b_at = b-is ∙ ap (λ (x : Tree d). i * frames L d + pick L d d' x) (sym child_view)

      b-div : b / frames L d ≡ i
      b-div = child-no (frames L d) b i (pick L d d' (view L d (word P) y)) b_at low_base

      b-mod₀ : b % frames L d ≡ pick L d d' (view L d (word P) y)
      b-mod₀ = child-at (frames L d) b i (pick L d d' (view L d (word P) y)) b_at low_base

      b-mod : b % frames L d ≡ pick L d d' (child d (handed_on L d v ks) i)
      b-mod = b-mod₀ ∙ ap (pick L d d') child_view

      need : openings_w L (suc d) d' p q b ≡ open_need L d (link_of (word p q)) + openings_w L d d' P y (pick L d d' (view L d (word P) y))
      need = need-open L d d' s q b small g e (subst (λ (x : ℕ). x < n) (sym b-div) lt) room_o
          ∙ ap (λ (x : ℕ). open_need L d (link_of (word p q)) + x)
          (ap₂ (λ (a f : ℕ). openings_w L d d' O.pool a f) (ap₂ (λ (a f : ℕ). a + f) (sym first_p) b-div) b-mod₀ ∙ sym (need-links d d' O.pool P hd.links y (pick L d d' (view L d (word P) y))))

  -- ... and so where all its openings have room
  pub enter_w : (d d' : ℕ) (s : Words) (q : ℕ) → suc (suc d) < 8 → Readable L (suc d) s.pool s.used q → ltb d' (suc d) ≡ true → SoundTree L (suc d) (view L (suc d) (word s.pool) q) → Maxed L (suc d) s.pool q
      → suc d' ≤ largest (suc d) (view L (suc d) (word s.pool) q) → s.used + openings_w L (suc d) d' s.pool q (pick L (suc d) d' (view L (suc d) (word s.pool) q)) ≤ length s.pool → EnterW d d' s q
  enter_w d d' s q small g e sound m h room = enter_w-open d d' s q small g e sound m h (omega (arith, open-words L d s q, need-ge L d d' s.pool q (pick L (suc d) d' (view L (suc d) (word s.pool) q)) e))

  -- THE WORDS' ACQUIRE IS THE TREE'S
  pub take_w-done : (d d' : ℕ) (s : Words) (q : ℕ) → suc d < 8 → Readable L d s.pool s.used q → d' ≤ d → SoundTree L d (view L d (word s.pool) q) → Maxed L d s.pool q
      → suc d' ≤ largest d (view L d (word s.pool) q) → s.used + openings_w L d d' s.pool q (pick L d d' (view L d (word s.pool) q)) ≤ length s.pool
      → Took d d' s q (view L d (word s.pool) q) (take_w L d d' s q)
  unfolding take_w remove openings_w pick probes
  take_w-done zero d' s q small g l sound m h room =
      record { base = refl; step = clear_step 0 s q g; tree = clear-view 0 s q g; words = omega arith; looked = refl; maxed = clear-maxed 0 s q g sound (whole-token 0 (view L 0 (word s.pool) q) (omega arith)) m }
  take_w-done (suc d) d' s q small g l sound m h room = go (ltb d' (suc d)) refl (take_w-done d d')
    where
      p : List ℕ
      p = s.pool

      t : Tree (suc d)
      t = view L (suc d) (word p) q

      go : (x : Bool) → ltb d' (suc d) ≡ x
          → ((s : Words) (q : ℕ) → suc d < 8 → Readable L d s.pool s.used q → d' ≤ d → SoundTree L d (view L d (word s.pool) q) → Maxed L d s.pool q
          → suc d' ≤ largest d (view L d (word s.pool) q) → s.used + openings_w L d d' s.pool q (pick L d d' (view L d (word s.pool) q)) ≤ length s.pool → Took d d' s q (view L d (word s.pool) q) (take_w L d d' s q))
          → Took (suc d) d' s q t (take_w L (suc d) d' s q)
      go false e ih =
          let tk : token (suc d) t ≡ true = whole-token (suc d) t (omega (arith, ltb-false d' (suc d) e)) in
          rw (e, take_w) (record {
            base = sym (whole-pick (suc d) d' t tk);
            step = clear_step (suc d) s q g;
            tree = clear-view (suc d) s q g ∙ sym (remove-top-is d d' (pick L (suc d) d' t) t e);
            words = omega (arith, need-top L d d' p q (pick L (suc d) d' t) e);
            looked = sym (probes-top d d' (pick L (suc d) d' t) e);
            maxed = clear-maxed (suc d) s q g sound tk m;
          })
      go true e ih = rw (e, take_w) (record {
        base = ap (λ (x : ℕ). i * frames L d + x) r.base ∙ sym E.base;
        step = step-trans L (suc d) p O.pool (refresh_w L d R.words.pool q) s.used O.used R.words.used q E.open_step
            (step-trans L (suc d) O.pool P (refresh_w L d R.words.pool q) O.used O.used R.words.used q E.hand_step
            (step-trans L (suc d) P R.words.pool (refresh_w L d R.words.pool q) O.used R.words.used R.words.used q kg
            (refresh-step L d R.words.pool R.words.used q E.k gr link_r)));
        tree = refresh-view L d R.words.pool R.words.used q E.k gr link_r ∙ ap (node false) list ∙ sym (remove-node d d' b v ks e) ∙ ap (λ (x : Tree (suc d)). remove L (suc d) d' x b) (sym (view-node L d p q));
        words = omega (arith, r.words, E.need, open-words L d s q);
        looked = omega (arith, r.looked, probes-node d d' b e, b-div, ap (probes L d d') b-mod);
        maxed = refresh-maxed L d R.words.pool R.words.used q E.k gr link_r (children-maxed L d P R.words.pool O.used R.words.used q y E.readable c r.step E.children r.maxed);
      })
        where
          n : ℕ
          n = fan L (suc d)

          b : ℕ
          b = pick L (suc d) d' t

          v : Bool
          v = has_token (word p q)

          ks : List (Tree d)
          ks = children_of d s q

          O : Words
          O = open_w L d s q

          P : List ℕ
          P = handed d s q

          i : ℕ
          i = child_place d d' s q

          y : ℕ
          y = child_at d d' s q

          E : EnterW d d' s q
          E = enter_w d d' s q small g e sound m h room

          c : Child (fan_out_of L) P (suc d) q y
          c = enter_w-child E

          b-div : b / frames L d ≡ i
          b-div = child-no (frames L d) b i (pick L d d' (child_tree d d' s q)) E.base E.low_base

          b-mod : b % frames L d ≡ pick L d d' (child_tree d d' s q)
          b-mod = child-at (frames L d) b i (pick L d d' (child_tree d d' s q)) E.base E.low_base

          S : Words
          S = record { pool = P; used = O.used }

          R : Taken
          R = take_w L d d' S y

          r : Took d d' S y (child_tree d d' s q) R
          r = ih S y (omega arith) (readable-child L d P O.used q y E.readable c) (omega (arith, ltb-true d' (suc d) e)) E.sound (E.children y c) E.reach
              (omega (arith, E.need, open-words L d s q, E.open_step.len, E.hand_step.len))

          kg : Step L (suc d) P R.words.pool O.used R.words.used q
          kg = child-step L d P R.words.pool O.used R.words.used q y E.readable c r.step

          gr : Readable L (suc d) R.words.pool R.words.used q
          gr = step-readable L (suc d) P R.words.pool O.used R.words.used q E.readable kg (omega (arith, E.open_step.len, E.hand_step.len, r.words, E.need, open-words L d s q))

          own : word R.words.pool q ≡ word P q
          own = child-own L d P R.words.pool O.used R.words.used q y E.readable c r.step

          link_r : link_of (word R.words.pool q) ≡ suc E.k
          link_r = ap link_of own ∙ E.link

          list : tab (view L d (word R.words.pool)) (first_child R.words.pool q) n ≡ set (handed_on L d v ks) (b / frames L d) (remove L d d' (child d (handed_on L d v ks) (b / frames L d)) (b % frames L d))
          list = ap (λ (x : ℕ). tab (view L d (word R.words.pool)) (suc (link_of x)) n) own
              ∙ tab-set (view L d (word R.words.pool)) (view L d (word P)) (first_child P q) n i
              (λ z lo hi ne. view-agree L d P R.words.pool z (child-agree L d P R.words.pool O.used R.words.used q y E.readable c r.step z (record { k = E.k; link = E.link; at = omega (arith, E.link) }) ne))
              ∙ ap₂ (λ (x : List (Tree d)) (f : Tree d). set x i f) E.trees (r.tree ∙ ap₂ (λ (x : Tree d) (f : ℕ). remove L d d' x f) E.child_view (sym b-mod))
              ∙ ap (λ (a : ℕ). set (handed_on L d v ks) a (remove L d d' (child d (handed_on L d v ks) a) (b % frames L d))) (sym b-div)
