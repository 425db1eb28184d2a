-- A store on the words is the tree's store: the tree, the places, the count of used words, and the maxima. Assumes nothing.
use mathlib.Core.Bool.{Bool, true, false, true≢false}
use mathlib.Core.List.{List}
use mathlib.Core.Path.{◌≡◌, refl, sym, ap, ap₂, ◌∙◌, subst}
use Prim.Native.Nat.{ℕ, zero, suc, ◌+◌, ◌/◌, ◌%◌, ◌≤◌, ◌<◌}
use native.Mathlib.Nat.{mod-lt}
use native.Mathlib.Omega.{arith}
use lib.Dec.{ltb}
use lib.ListN.{length, set}
use borrow.Author.Tests.{ltb-true}
use Rattle.sizes.specs.Ladder.{Ladder}
use Rattle.model.proofs.Change.{block-child, child-lt, handed_on-free, handed_on-sound, opened-length, place_down, store-done}
use Rattle.model.proofs.Ladder.{frames-pos}
use Rattle.model.specs.Frames.{Wholly}
use Rattle.model.specs.Ladder.{fan, frames}
use Rattle.model.specs.Laws.{BlockIn}
use Rattle.model.specs.Tree.{Sound as SoundTree}
use Rattle.model.specs.Tree.{Tree, child, empty, free, handed_on, largest, mark, merge, node, opened, store}
use Rattle.pool.specs.Nodes.{Words, mark_w, merge_w, open_if, open_w, store_w}
use Rattle.pool.specs.Room.{openings_w, path}
use Rattle.pool.specs.View.{block, tab, view}
use Rattle.pool.specs.Words.{fan_out_of, first_child, has_token, link_of, max_of, word}
use Rattle.pool.specs.Asks.{Maxed}
use Rattle.pool.specs.Blocks.{Child, Readable}
use Rattle.pool.proofs.Max.{Merged, children-maxed, largest-marked, maxed-mark, merge-done, open-maxed}
use Rattle.pool.proofs.Step.{Step, child-agree, child-own, child-step, readable-child, step-readable, step-trans}
use Rattle.pool.proofs.Tree.{tab-at, tab-set}
use Rattle.pool.proofs.View.{OpenDone, marks-max8, marks-token, open_done, open-words, open_need, opens, own-agree, own-here, own-step, own_view, view-agree}

-- ---- the words needed

-- ---- one level of the tree

module _ (L : Ladder) where
  -- below an unopened node everything is opened
  pub need-shut : (d d' : ℕ) (p : List ℕ) (q b : ℕ) → link_of (word p q) ≡ 0 → openings_w L d d' p q b ≡ path L d d'
  unfolding openings_w path
  need-shut zero d' p q b e = refl
  need-shut (suc d) d' p q b e = go (ltb d' (suc d)) refl
    where
      go : (x : Bool) → ltb d' (suc d) ≡ x → openings_w L (suc d) d' p q b ≡ path L (suc d) d'
      go false h = rw (h, openings_w, path)
      go true h = rw (h, openings_w, path, e)

  pub need-top : (d d' : ℕ) (p : List ℕ) (q b : ℕ) → ltb d' (suc d) ≡ false → openings_w L (suc d) d' p q b ≡ 0
  unfolding openings_w
  need-top d d' p q b h = rw (h, openings_w)

  pub need-ge : (d d' : ℕ) (p : List ℕ) (q b : ℕ) → ltb d' (suc d) ≡ true → open_need L d (link_of (word p q)) ≤ openings_w L (suc d) d' p q b
  unfolding openings_w
  need-ge d d' p q b h = go (link_of (word p q)) refl
    where
      go : (l : ℕ) → link_of (word p q) ≡ l → open_need L d l ≤ openings_w L (suc d) d' p q b
      go zero e = rw (h, openings_w, e) (omega arith)
      go (suc k) e = omega arith

  pub view-node : (d : ℕ) (p : List ℕ) (q : ℕ) → view L (suc d) (word p) q ≡ node (has_token (word p q)) (block (fan L (suc d)) (view L d (word p)) (link_of (word p q)))
  unfolding view
  view-node d p q = refl

  -- an opening and what is needed below it
  pub need-open : (d d' : ℕ) (s : Words) (q b : ℕ) → suc (suc d) < 8 → Readable L (suc d) s.pool s.used q → ltb d' (suc d) ≡ true → b / frames L d < fan L (suc d)
      → (open_w L d s q).used ≤ length s.pool
      → openings_w L (suc d) d' s.pool q b ≡ open_need L d (link_of (word s.pool q)) + openings_w L d d' (open_w L d s q).pool (first_child (open_w L d s q).pool q + b / frames L d) (b % frames L d)
  unfolding open_w openings_w
  need-open d d' s q b small g h lt = go (link_of (word s.pool q)) refl
    where
      go : (l : ℕ) → link_of (word s.pool q) ≡ l → (open_if L d s q l).used ≤ length s.pool
          → openings_w L (suc d) d' s.pool q b ≡ open_need L d l + openings_w L d d' (open_if L d s q l).pool (first_child (open_if L d s q l).pool q + b / frames L d) (b % frames L d)
      go zero e room =
          let o = opens L d s q small g e room in
          let p' = (open_if L d s q zero).pool in
          let y = first_child p' q + b / frames L d in
          rw (h, openings_w, e) (omega (arith, need-shut d d' p' y (b % frames L d) (omega (arith, o.children y (omega (arith, lt, o.node, e))))))
      go (suc k) e room = rw (h, openings_w, e) (omega arith)

  -- of a store at a node, its child gets what the child's store asks for
  store-child : (d d' b : ℕ) (v : Bool) (ks : List (Tree d)) → SoundTree L (suc d) (node v ks) → BlockIn L (suc d) d' b → d' < suc d → Wholly (free L (suc d) (node v ks)) b (frames L d') false
      → SoundTree L d (child d (opened L d ks) (b / frames L d)) × Wholly (free L d (child d (opened L d ks) (b / frames L d))) (b % frames L d) (frames L d') false
  unfolding free handed_on
  store-child d d' b true ks s p l h = absurd (true≢false (h b (omega arith) (omega (arith, frames-pos L d'))))
  store-child d d' b false ks s p l h = (
    handed_on-sound L d false ks s (b / frames L d),
    block-child L d d' b true (opened L d ks) (opened-length L d ks s.shape) p l false (λ f x y. handed_on-free L d false ks s f (omega (arith, p.fits)) ∙ h f x y),
  )

  -- the store at a node, whose tree has the children ks, from that at the child
  store-node : (d d' b : ℕ) (v : Bool) (ks : List (Tree d)) → ltb d' (suc d) ≡ true
      → store L (suc d) d' (node v ks) b ≡ merge d (set (opened L d ks) (b / frames L d) (store L d d' (child d (opened L d ks) (b / frames L d)) (b % frames L d)))
  unfolding store
  store-node d d' b v ks h = rw (h, store)

  store-top : (d d' b : ℕ) (t : Tree (suc d)) → ltb d' (suc d) ≡ false → store L (suc d) d' t b ≡ mark (suc d) true t
  unfolding store
  store-top d d' b (node v ks) h = rw (h, store)

  -- what is to be shown of a store
  pub record Stored (d d' : ℕ) (s : Words) (q b : ℕ) (o : Words) : Type 0 where
    pub step : Step L d s.pool o.pool s.used o.used q
    pub tree : view L d (word o.pool) q ≡ store L d d' (view L d (word s.pool) q) b
    pub words : o.used ≡ s.used + openings_w L d d' s.pool q b
    pub maxed : SoundTree L d (view L d (word s.pool) q) → BlockIn L d d' b → Wholly (free L d (view L d (word s.pool) q)) b (frames L d') false → Maxed L d s.pool q → Maxed L d o.pool q

  -- the whole node is offered
  module _ (d : ℕ) (s : Words) (q : ℕ) (small : suc d < 8) (g : Readable L d s.pool s.used q) where
    c16 : 8 + suc d < 16
    c16 = omega arith

    offer-step : Step L d s.pool (mark_w (8 + suc d) s q).pool s.used s.used q
    offer-step = own-step L d s.pool s.used q (8 + suc d) g c16

    offer-view : view L d (word (mark_w (8 + suc d) s q).pool) q ≡ mark d true (view L d (word s.pool) q)
    offer-view = own_view L d s.pool s.used q (8 + suc d) g c16 true (marks-token (suc d) (word s.pool q) small)

    offer-maxed : Maxed L d s.pool q → Maxed L d (mark_w (8 + suc d) s q).pool q
    offer-maxed m =
        let e = own-here L d s.pool s.used q (8 + suc d) g c16 in
        maxed-mark L d s.pool (mark_w (8 + suc d) s q).pool q (ap link_of e ∙ omega arith) (own-agree L d s.pool s.used q (8 + suc d) g c16)
        (ap max_of e ∙ marks-max8 (suc d) (word s.pool q) small ∙ sym (largest-marked d (view L d (word s.pool) q)) ∙ ap (largest d) (sym offer-view)) m

  -- THE WORDS' STORE IS THE TREE'S
  pub store_w-done : (d d' : ℕ) (s : Words) (q b : ℕ) → suc d < 8 → Readable L d s.pool s.used q → b < frames L d → s.used + openings_w L d d' s.pool q b ≤ length s.pool
      → Stored d d' s q b (store_w L d d' s q b)
  unfolding store_w store openings_w
  store_w-done zero d' s q b small g h room = record {
    step = offer-step 0 s q small g;
    tree = offer-view 0 s q small g;
    words = omega arith;
    maxed = λ _ _ _ m. offer-maxed 0 s q small g m;
  }
  store_w-done (suc d) d' s q b small g h room = go (ltb d' (suc d)) refl (store_w-done d d')
    where
      p : List ℕ
      p = s.pool

      go : (x : Bool) → ltb d' (suc d) ≡ x
          → ((s : Words) (q b : ℕ) → suc d < 8 → Readable L d s.pool s.used q → b < frames L d → s.used + openings_w L d d' s.pool q b ≤ length s.pool → Stored d d' s q b (store_w L d d' s q b))
          → Stored (suc d) d' s q b (store_w L (suc d) d' s q b)
      go false e ih = rw (e, store_w) (record {
        step = offer-step (suc d) s q small g;
        tree = offer-view (suc d) s q small g ∙ sym (store-top d d' b (view L (suc d) (word p) q) e);
        words = omega (arith, need-top d d' p q b e);
        maxed = λ _ _ _ m. offer-maxed (suc d) s q small g m;
      })
      go true e ih = rw (e, store_w) (record {
        step = step-trans L (suc d) p O.pool (merge_w L d R.pool q) s.used O.used R.used q o.step
            (step-trans L (suc d) O.pool R.pool (merge_w L d R.pool q) O.used R.used R.used q kg m.step);
        tree = tree;
        words = omega (arith, r.words, need, open-words L d s q);
        maxed = λ sound place block mx₀.
            let sk = store-child d d' b (has_token (word p q)) ks (tree_of sound) place lt' (tree-block block) in
            let here : view L d (word O.pool) y ≡ child d (opened L d ks) i = child_view in
            m.maxed (subst (SoundTree L (suc d)) (sym tree ∙ m.tree) (store-done L (suc d) d' (view L (suc d) (word p) q) b sound place block).1)
            (children-maxed L d O.pool R.pool O.used R.used q y gq c r.step (open-maxed L d s q (omega arith) g room_o mx₀.1)
            (r.maxed (subst (SoundTree L d) (sym here) sk.0) (place_down L d d' b place lt') (subst (λ (t : Tree d). Wholly (free L d t) (b % frames L d) (frames L d') false) (sym here) sk.1)
            (open-maxed L d s q (omega arith) g room_o mx₀.1 y c)));
      })
        where
          n : ℕ
          n = fan L (suc d)

          i : ℕ
          i = b / frames L d

          lt : i < n
          lt = child-lt L d b h

          lt' : d' < suc d
          lt' = ltb-true d' (suc d) e

          ks : List (Tree d)
          ks = block n (view L d (word p)) (link_of (word p q))

          O : Words
          O = open_w L d s q

          y : ℕ
          y = first_child O.pool q + i

          room_o : (open_w L d s q).used ≤ length p
          room_o = omega (arith, open-words L d s q, need-ge d d' p q b e)

          need : openings_w L (suc d) d' p q b ≡ open_need L d (link_of (word p q)) + openings_w L d d' O.pool y (b % frames L d)
          need = need-open d d' s q b small g e lt room_o

          o : OpenDone L d s O q
          o = open_done L d s q small g room_o

          gq : Readable L (suc d) O.pool O.used q
          gq = step-readable L (suc d) p O.pool s.used O.used q g o.step room_o

          c : Child (fan_out_of L) O.pool (suc d) q y
          c = record { k = o.k; link = o.link; at = omega (arith, o.link, lt) }

          R : Words
          R = store_w L d d' O y (b % frames L d)

          r : Stored d d' O y (b % frames L d) R
          r = ih O y (b % frames L d) (omega arith) (readable-child L d O.pool O.used q y gq c) (mod-lt b (frames-pos L d)) (omega (arith, o.step.len, need, open-words L d s q))

          kg : Step L (suc d) O.pool R.pool O.used R.used q
          kg = child-step L d O.pool R.pool O.used R.used q y gq c r.step

          gr : Readable L (suc d) R.pool R.used q
          gr = step-readable L (suc d) O.pool R.pool O.used R.used q gq kg (omega (arith, o.step.len, r.words, need, open-words L d s q))

          own : word R.pool q ≡ word O.pool q
          own = child-own L d O.pool R.pool O.used R.used q y gq c r.step

          m : Merged L d R.pool R.used q o.k gr (ap link_of own ∙ o.link) (merge_w L d R.pool q)
          m = merge-done L d R.pool R.used q o.k gr (ap link_of own ∙ o.link) small

          child_view : view L d (word O.pool) y ≡ child d (opened L d ks) i
          child_view = sym (tab-at (view L d (word O.pool)) (first_child O.pool q) n i (empty d) lt) ∙ ap (λ (l : List (Tree d)). child d l i) o.children

          list : tab (view L d (word R.pool)) (first_child R.pool q) n ≡ set (opened L d ks) i (store L d d' (child d (opened L d ks) i) (b % frames L d))
          list = ap (λ (v : ℕ). tab (view L d (word R.pool)) (suc (link_of v)) n) own
              ∙ tab-set (view L d (word R.pool)) (view L d (word O.pool)) (first_child O.pool q) n i
              (λ z lo hi ne. view-agree L d O.pool R.pool z (child-agree L d O.pool R.pool O.used R.used q y gq c r.step z (record { k = o.k; link = o.link; at = omega (arith, o.link) }) ne))
              ∙ ap₂ (λ (l : List (Tree d)) (t : Tree d). set l i t) o.children (r.tree ∙ ap (λ (t : Tree d). store L d d' t (b % frames L d)) child_view)

          same : view L (suc d) (word p) q ≡ node (has_token (word p q)) ks
          same = view-node d p q

          tree : view L (suc d) (word (merge_w L d R.pool q)) q ≡ store L (suc d) d' (view L (suc d) (word p) q) b
          tree = m.tree ∙ ap (merge d) list ∙ sym (store-node d d' b (has_token (word p q)) ks e) ∙ ap (λ (t : Tree (suc d)). store L (suc d) d' t b) (sym same)

          tree_of : SoundTree L (suc d) (view L (suc d) (word p) q) → SoundTree L (suc d) (node (has_token (word p q)) ks)
          tree_of = subst (SoundTree L (suc d)) same

          tree-block : Wholly (free L (suc d) (view L (suc d) (word p) q)) b (frames L d') false → Wholly (free L (suc d) (node (has_token (word p q)) ks)) b (frames L d') false
          tree-block = subst (λ (t : Tree (suc d)). Wholly (free L (suc d) t) b (frames L d') false) same
