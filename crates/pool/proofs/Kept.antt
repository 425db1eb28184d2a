-- Sound words: the blocks are in order and each node keeps the rules of max and token. Such a pool holds a sound tree, each node's max is the largest block of its tree, and a store and an acquire leave the words sound. Assumes nothing.
use mathlib.Core.Bool.{Bool, true, false, true≢false, false≢true}
use mathlib.Core.List.{List, []}
use mathlib.Core.Logic.{◌⊎◌, inl, inr}
use mathlib.Core.Path.{◌≡◌, refl, sym, ap, ◌∙◌, subst}
use Prim.Native.Nat.{ℕ, zero, suc, ◌+◌, ◌-◌, ◌≤◌, ◌<◌}
use native.Mathlib.Decide.{dec_lt, ℕ_discrete}
use native.Mathlib.Omega.{arith}
use lib.Dec.{ltb}
use lib.ListN.{length, get_or-eq_default}
use borrow.Author.Tests.{eq-eqb, eqb-true}
use Rattle.sizes.specs.Ladder.{Ladder}
use Rattle.model.proofs.Change.{remove-done, sound_empty, store-done, token-empty}
use Rattle.model.proofs.Free.{largest-child, pick-lowest}
use Rattle.model.proofs.Ladder.{fan-pos, frames-pos}
use Rattle.model.proofs.Lists.{all-false, all_true}
use Rattle.model.specs.Frames.{Wholly}
use Rattle.model.specs.Ladder.{fan, frames, probes}
use Rattle.model.specs.Laws.{BlockIn}
use Rattle.model.specs.Lists.{all, maximum}
use Rattle.model.specs.Tree.{Sound as SoundTree}
use Rattle.model.specs.Tree.{SoundNode, Tree, child, empty, free, largest, node, pick, remove, store, token}
use Rattle.pool.specs.Nodes.{Words, children_all, children_max, store_w, take_w}
use Rattle.pool.specs.Room.{openings_w}
use Rattle.pool.specs.View.{block, tab, view}
use Rattle.pool.specs.Words.{fan_out_of, has_token, link_of, max_of, token_of, word}
use Rattle.pool.specs.Asks.{Maxed}
use Rattle.pool.specs.Blocks.{By, Child, Readable, Shape, delta, met, places_of}
use Rattle.pool.specs.Check.{Marked, Rule, SoundW, all_below, marks_pass, max_below}
use Rattle.pool.proofs.Blocks.{delta-other, ok-open, zero_or}
use Rattle.pool.proofs.Lists.{run-tab}
use Rattle.pool.proofs.Marks.{no-token, off-rule, on-rule, rule-off, rule-on, token-is, token-none}
use Rattle.pool.proofs.Max.{ChildrenMaxed, max-tab, maxed-own}
use Rattle.pool.proofs.Places.{sep-root}
use Rattle.pool.proofs.Step.{Step, new, new_in, new-low, readable-child, readable-pos, step-readable}
use Rattle.pool.proofs.Store.{store_w-done}
use Rattle.pool.proofs.Take.{take_w-done}
use Rattle.pool.proofs.Tree.{all-view, tab-at, tab-length}

module _ (L : Ladder) where
  -- a node that offers nothing has no token
  quiet-tok : (d : ℕ) (t : Tree d) → largest d t ≡ 0 → token d t ≡ false
  unfolding largest
  quiet-tok zero true e = absurd (omega arith)
  quiet-tok zero false e = refl
  quiet-tok (suc d) (node true ks) e = absurd (omega arith)
  quiet-tok (suc d) (node false ks) e = refl

  -- a leaf has no children
  pub leaf-shut : (p : List ℕ) (u q : ℕ) → Readable L 0 p u q → link_of (word p q) ≡ 0
  leaf-shut p u q g = elim (zero_or (link_of (word p q))) [ inl z ↦ z | inr ke ↦ absurd (omega (arith, (ok-open (fan_out_of L) (By ltb) p u 0 q ke.0 g.ok ke.1).deep)) ]

  -- ---- SOUND WORDS HOLD A SOUND TREE, and its maxima
  module _ (d : ℕ) (p : List ℕ) (u q k : ℕ) (g : Readable L (suc d) p u q) (link : link_of (word p q) ≡ suc k) where
    ks : List (Tree d)
    ks = tab (view L d (word p)) (suc (suc k)) (fan L (suc d))

    child-of : (y : ℕ) → suc (suc k) ≤ y → y < suc (suc k) + fan L (suc d) → Child (fan_out_of L) p (suc d) q y
    child-of y lo hi = record { k = k; link = link; at = (lo, hi) }

    in-pool : suc (suc k) + fan L (suc d) ≤ length p
    in-pool = omega (arith, (ok-open (fan_out_of L) (By ltb) p u (suc d) q k g.ok link).fits, g.fit)

    max-is : ChildrenMaxed L d p q → children_max p (suc (suc k)) (fan L (suc d)) ≡ maximum (largest d) ks
    unfolding ks children_max
    max-is m = ap (maximum max_of) (run-tab p (suc (suc k)) (fan L (suc d)) in-pool) ∙ sym (max-tab (largest d) (view L d (word p)) (word p) (suc (suc k)) (fan L (suc d)) (λ j lo hi. sym (maxed-own L d p j (m j (child-of j lo hi)))))

    all-is : children_all p (suc (suc k)) (fan L (suc d)) ≡ all (token d) ks
    unfolding ks children_all
    all-is = ap (all has_token) (run-tab p (suc (suc k)) (fan L (suc d)) in-pool) ∙ sym (all-view L d (word p) (suc (suc k)) (fan L (suc d)))

    rule-open : Rule L (suc d) p q → marks_pass (suc (suc d)) (word p q) (children_max p (suc (suc k)) (fan L (suc d))) (children_all p (suc (suc k)) (fan L (suc d))) ≡ true
    unfolding max_below all_below
    rule-open r = subst (λ (l : ℕ). marks_pass (suc (suc d)) (word p q) (max_below p (fan L (suc d)) l) (all_below p (fan L (suc d)) l) ≡ true) link r

    open-rule : marks_pass (suc (suc d)) (word p q) (children_max p (suc (suc k)) (fan L (suc d))) (children_all p (suc (suc k)) (fan L (suc d))) ≡ true → Rule L (suc d) p q
    unfolding max_below all_below
    open-rule r = subst (λ (l : ℕ). marks_pass (suc (suc d)) (word p q) (max_below p (fan L (suc d)) l) (all_below p (fan L (suc d)) l) ≡ true) (sym link) r

    ks-child : (i : ℕ) → i < fan L (suc d) → child d ks i ≡ view L d (word p) (suc (suc k) + i)
    unfolding ks
    ks-child i h = tab-at (view L d (word p)) (suc (suc k)) (fan L (suc d)) i (empty d) h

    node-sound : ((y : ℕ) → Child (fan_out_of L) p (suc d) q y → SoundTree L d (view L d (word p) y)) → ChildrenMaxed L d p q → Rule L (suc d) p q → (max_of (word p q) ≡ largest (suc d) (node (has_token (word p q)) ks)) × SoundNode L d (SoundTree L d) (has_token (word p q)) ks
    unfolding ks largest
    node-sound s m r = elim (ℕ_discrete (token_of (word p q)) 0) [
      | yes e ↦
          let b = rule-off (suc (suc d)) (word p q) (children_max p (suc (suc k)) (fan L (suc d))) (children_all p (suc (suc k)) (fan L (suc d))) (rule-open r) e in
          let x = all-false (token d) ks (empty d) (sym all-is ∙ b.1) in rw (no-token (word p q) e) (
            b.0 ∙ max-is m,
            record { shape = inr (tab-length (view L d (word p)) (suc (suc k)) (fan L (suc d))); children = children; quiet = λ e. absurd (false≢true e); gap = (x.0, omega (arith, x.1, tab-length (view L d (word p)) (suc (suc k)) (fan L (suc d))), x.2) },
          )
      | no e ↦
          let o = token-is (word p q) e in
          let t = rule-on (suc (suc d)) (word p q) (children_max p (suc (suc k)) (fan L (suc d))) (children_all p (suc (suc k)) (fan L (suc d))) (rule-open r) o in rw (eq-eqb (token_of (word p q)) 1 o) (
            t.0,
            record {
              shape = inr (tab-length (view L d (word p)) (suc (suc k)) (fan L (suc d)));
              children = children;
              quiet = λ e. sym (max-is m) ∙ t.1;
              gap = (0, fan-pos L d, quiet-tok d (child d ks 0) (omega (arith, largest-child d ks 0, max-is m, t.1)));
            },
          )
    ]
      where
        children : (i : ℕ) → SoundTree L d (child d ks i)
        children i = elim (dec_lt i (fan L (suc d))) [
          | yes h ↦ subst (SoundTree L d) (sym (ks-child i h)) (s (suc (suc k) + i) (child-of (suc (suc k) + i) (omega arith) (omega arith)))
          | no h ↦ subst (SoundTree L d) (sym (get_or-eq_default ks (empty d) {n = i} (omega (arith, tab-length (view L d (word p)) (suc (suc k)) (fan L (suc d)))))) (sound_empty L d)
        ]

    node-rule : ChildrenMaxed L d p q → max_of (word p q) ≡ largest (suc d) (node (has_token (word p q)) ks) → SoundNode L d (SoundTree L d) (has_token (word p q)) ks → Rule L (suc d) p q
    unfolding largest ks
    node-rule m e s = open-rule (go (has_token (word p q)) refl e s)
      where
        go : (v : Bool) → has_token (word p q) ≡ v → max_of (word p q) ≡ largest (suc d) (node v ks) → SoundNode L d (SoundTree L d) v ks → marks_pass (suc (suc d)) (word p q) (children_max p (suc (suc k)) (fan L (suc d))) (children_all p (suc (suc k)) (fan L (suc d))) ≡ true
        go true t e s = on-rule (suc (suc d)) (word p q) (children_max p (suc (suc k)) (fan L (suc d))) (children_all p (suc (suc k)) (fan L (suc d))) (eqb-true (token_of (word p q)) 1 t) e (max-is m ∙ s.quiet refl)
        go false t e s = off-rule (suc (suc d)) (word p q) (children_max p (suc (suc k)) (fan L (suc d))) (children_all p (suc (suc k)) (fan L (suc d))) (token-none (word p q) t) (e ∙ sym (max-is m)) (all-is ∙ not-all (all (token d) ks) refl)
          where
            not-all : (a : Bool) → all (token d) ks ≡ a → a ≡ false
            not-all false x = refl
            not-all true x = absurd (true≢false (sym (all_true (token d) ks (empty d) x s.gap.0 (omega (arith, s.gap.1, tab-length (view L d (word p)) (suc (suc k)) (fan L (suc d))))) ∙ s.gap.2))

  -- an unopened node
  module _ (d : ℕ) (p : List ℕ) (q : ℕ) (shut : link_of (word p q) ≡ 0) where
    rule-shut : Rule L d p q → marks_pass (suc d) (word p q) 0 false ≡ true
    unfolding max_below all_below
    rule-shut r = subst (λ (l : ℕ). marks_pass (suc d) (word p q) (max_below p (fan L d) l) (all_below p (fan L d) l) ≡ true) shut r

    shut-rule : marks_pass (suc d) (word p q) 0 false ≡ true → Rule L d p q
    unfolding max_below all_below
    shut-rule r = subst (λ (l : ℕ). marks_pass (suc d) (word p q) (max_below p (fan L d) l) (all_below p (fan L d) l) ≡ true) (sym shut) r

  leaf-is : (p : List ℕ) (q : ℕ) → marks_pass 1 (word p q) 0 false ≡ true → max_of (word p q) ≡ largest 0 (view L 0 (word p) q)
  unfolding largest view
  leaf-is p q r = elim (ℕ_discrete (token_of (word p q)) 0) [
    | yes e ↦ rw (no-token (word p q) e) (rule-off 1 (word p q) 0 false r e).0
    | no e ↦ let o = token-is (word p q) e in rw (eq-eqb (token_of (word p q)) 1 o) (rule-on 1 (word p q) 0 false r o).0
  ]

  leaf-rule : (p : List ℕ) (q : ℕ) → max_of (word p q) ≡ largest 0 (view L 0 (word p) q) → marks_pass 1 (word p q) 0 false ≡ true
  unfolding largest view
  leaf-rule p q e = go (has_token (word p q)) refl e
    where
      go : (v : Bool) → has_token (word p q) ≡ v → max_of (word p q) ≡ largest 0 v → marks_pass 1 (word p q) 0 false ≡ true
      go true t e = on-rule 1 (word p q) 0 false (eqb-true (token_of (word p q)) 1 t) e refl
      go false t e = off-rule 1 (word p q) 0 false (token-none (word p q) t) e refl

  pub marked-sound : (d : ℕ) (p : List ℕ) (u q : ℕ) → Readable L d p u q → Marked L d p q → Maxed L d p q × SoundTree L d (view L d (word p) q)
  unfolding largest view maximum ks
  marked-sound zero p u q g m = (leaf-is p q (rule-shut 0 p q (leaf-shut p u q g) m), tt)
  marked-sound (suc d) p u q g m = go (zero_or (link_of (word p q))) (λ y c. marked-sound d p u y (readable-child L d p u q y g c) (m.1 y c))
    where
      go : (link_of (word p q) ≡ 0) ⊎ ((k : ℕ) × (link_of (word p q) ≡ suc k)) → ((y : ℕ) → Child (fan_out_of L) p (suc d) q y → Maxed L d p y × SoundTree L d (view L d (word p) y))
          → Maxed L (suc d) p q × SoundTree L (suc d) (view L (suc d) (word p) q)
      go (inl z) ih =
          let no-child : (y : ℕ) → Child (fan_out_of L) p (suc d) q y → Maxed L d p y = λ y c. (ih y c).0 in
          let r = rule-shut (suc d) p q z m.0 in
          rw z (elim (ℕ_discrete (token_of (word p q)) 0) [
            | yes e ↦ rw (no-token (word p q) e) (((rule-off (suc (suc d)) (word p q) 0 false r e).0, no-child), record { shape = inl refl; children = λ i. sound_empty L d; quiet = λ e. refl; gap = (0, fan-pos L d, token-empty d) })
            | no e ↦ let o = token-is (word p q) e in rw (eq-eqb (token_of (word p q)) 1 o) (((rule-on (suc (suc d)) (word p q) 0 false r o).0, no-child), record { shape = inl refl; children = λ i. sound_empty L d; quiet = λ e. refl; gap = (0, fan-pos L d, token-empty d) })
          ])
      go (inr ke) ih =
          let r = node-sound d p u q ke.0 g ke.1 (λ y c. (ih y c).1) (λ y c. (ih y c).0) m.0 in
          rw ke.1 ((r.0, λ y c. (ih y c).0), r.1)

  sound-marked : (d : ℕ) (p : List ℕ) (u q : ℕ) → Readable L d p u q → Maxed L d p q → SoundTree L d (view L d (word p) q) → Marked L d p q
  unfolding largest view maximum ks
  sound-marked zero p u q g m s = shut-rule 0 p q (leaf-shut p u q g) (leaf-rule p q m)
  sound-marked (suc d) p u q g m s = go (link_of (word p q)) refl m.0 s (λ y c. sound-marked d p u y (readable-child L d p u q y g c) (m.1 y c))
    where
      go : (l : ℕ) → link_of (word p q) ≡ l → max_of (word p q) ≡ largest (suc d) (node (has_token (word p q)) (block (fan L (suc d)) (view L d (word p)) l)) → SoundNode L d (SoundTree L d) (has_token (word p q)) (block (fan L (suc d)) (view L d (word p)) l)
          → ((y : ℕ) → Child (fan_out_of L) p (suc d) q y → SoundTree L d (view L d (word p) y) → Marked L d p y) → Marked L (suc d) p q
      go zero e x s ih = (shut-rule (suc d) p q e (at (has_token (word p q)) refl x), λ y c. absurd (omega (arith, c.link)))
        where
          at : (v : Bool) → has_token (word p q) ≡ v → max_of (word p q) ≡ largest (suc d) (node v []) → marks_pass (suc (suc d)) (word p q) 0 false ≡ true
          at true t x = on-rule (suc (suc d)) (word p q) 0 false (eqb-true (token_of (word p q)) 1 t) x refl
          at false t x = off-rule (suc (suc d)) (word p q) 0 false (token-none (word p q) t) x refl
      go (suc k) e x s ih = (
        node-rule d p u q k g e m.1 x s,
        λ y c.
            let z : suc (suc k) + (y - suc (suc k)) ≡ y = omega (arith, c.link, c.at) in
            ih y c (subst (SoundTree L d) (ks-child d p u q k g e (y - suc (suc k)) (omega (arith, c.link, c.at)) ∙ ap (view L d (word p)) z) (s.children (y - suc (suc k)))),
      )

  -- ---- the pool as a whole: the root of level d + 1 at place 0

  pub shape-readable : (d : ℕ) (p : List ℕ) (u : ℕ) → Shape (fan_out_of L) (suc d) p u → Readable L d p u 0
  shape-readable d p u s = record { at = s.low; fit = s.high; ok = s.rules; sep = sep-root (fan_out_of L) (By ltb) p (suc d) u s.rules s.once }

  -- a change that starts at the root leaves the blocks in order
  pub step-shape : (d : ℕ) (p p' : List ℕ) (u u' : ℕ) → Shape (fan_out_of L) (suc d) p u → Step L d p p' u u' 0 → u' ≤ length p → Shape (fan_out_of L) (suc d) p' u'
  unfolding places_of
  step-shape d p p' u u' s t h = record {
    low = omega (arith, s.low, t.grows);
    high = omega (arith, t.len);
    rules = t.ok;
    once = λ x lo hi.
        let c : delta 0 x + met (fan_out_of L) p' x (suc d) 0 ≡ delta 0 x + met (fan_out_of L) p x (suc d) 0 + new u u' x = t.count x in
        elim (dec_lt x u) [
          | yes a ↦ omega (arith, c, s.once x lo a, new-low u u' x a)
          | no a ↦
              let z : delta 0 x + met (fan_out_of L) p x (suc d) 0 ≡ 0 = readable-pos L d p u 0 x (shape-readable d p u s) (omega arith) in
              omega (arith, c, z, delta-other 0 x (λ e. omega arith), new_in u u' x (omega arith) hi)
        ];
  }

  -- the tree is sound, and every node's max is the largest block of its tree
  pub sound_w-tree : (d : ℕ) (p : List ℕ) (u : ℕ) → SoundW L d p u → Maxed L d p 0 × SoundTree L d (view L d (word p) 0)
  sound_w-tree d p u s = marked-sound d p u 0 (shape-readable d p u s.shape) s.marks

  -- the root's max says what can be had
  pub sound_w-largest : (d : ℕ) (p : List ℕ) (u : ℕ) → SoundW L d p u → max_of (word p 0) ≡ largest d (view L d (word p) 0)
  sound_w-largest d p u s = maxed-own L d p 0 (sound_w-tree d p u s).0

  -- what a call leaves: sound words, the tree's new tree, the count, and no word behind the used ones
  pub record Left (d : ℕ) (p : List ℕ) (u : ℕ) (o : Words) (t : Tree d) (n : ℕ) : Type 0 where
    pub sound : SoundW L d o.pool o.used
    pub tree : view L d (word o.pool) 0 ≡ t
    pub words : o.used ≡ u + n
    pub length : length o.pool ≡ length p
    pub behind : (x : ℕ) → o.used ≤ x → word o.pool x ≡ word p x

  left-of : (d : ℕ) (p : List ℕ) (u : ℕ) (o : Words) (t : Tree d) (n : ℕ) → SoundW L d p u → Step L d p o.pool u o.used 0 → u + n ≤ length p → o.used ≡ u + n
      → view L d (word o.pool) 0 ≡ t → Maxed L d o.pool 0 → SoundTree L d t → Left d p u o t n
  left-of d p u o t n s st room e tr m so =
      let le : o.used ≤ length p = omega arith in
      record {
        sound = record {
          shape = step-shape d p o.pool u o.used s.shape st le;
          marks = sound-marked d o.pool o.used 0 (step-readable L d p o.pool u o.used 0 (shape-readable d p u s.shape) st le) m (subst (SoundTree L d) (sym tr) so);
        };
        tree = tr;
        words = e;
        length = st.len;
        behind = st.behind;
      }

  pub store_w-sound : (d d' : ℕ) (p : List ℕ) (u b : ℕ) → suc d < 8 → SoundW L d p u → BlockIn L d d' b → Wholly (free L d (view L d (word p) 0)) b (frames L d') false → u + openings_w L d d' p 0 b ≤ length p
      → Left d p u (store_w L d d' (record { pool = p; used = u }) 0 b) (store L d d' (view L d (word p) 0) b) (openings_w L d d' p 0 b)
  store_w-sound d d' p u b small s pl₀ bl room =
      let g = shape-readable d p u s.shape in
      let t = sound_w-tree d p u s in
      let r = store_w-done L d d' (record { pool = p; used = u }) 0 b small g (omega (arith, pl₀.fits, frames-pos L d')) room in
      left-of d p u (store_w L d d' (record { pool = p; used = u }) 0 b) (store L d d' (view L d (word p) 0) b) (openings_w L d d' p 0 b) s r.step room r.words r.tree (r.maxed t.1 pl₀ bl t.0)
      (store-done L d d' (view L d (word p) 0) b t.1 pl₀ bl).1

  -- an acquire: the block is the tree's pick, and the children looked at are those on the way to it
  pub take_w-sound : (d d' : ℕ) (p : List ℕ) (u : ℕ) → suc d < 8 → SoundW L d p u → d' ≤ d → suc d' ≤ max_of (word p 0) → u + openings_w L d d' p 0 (pick L d d' (view L d (word p) 0)) ≤ length p
      → ((take_w L d d' (record { pool = p; used = u }) 0).base ≡ pick L d d' (view L d (word p) 0))
      × ((take_w L d d' (record { pool = p; used = u }) 0).probes ≡ probes L d d' (pick L d d' (view L d (word p) 0)))
      × Left d p u (take_w L d d' (record { pool = p; used = u }) 0).words (remove L d d' (view L d (word p) 0) (pick L d d' (view L d (word p) 0))) (openings_w L d d' p 0 (pick L d d' (view L d (word p) 0)))
  take_w-sound d d' p u small s l h room =
      let g = shape-readable d p u s.shape in
      let t = sound_w-tree d p u s in
      let T = view L d (word p) 0 in
      let big : suc d' ≤ largest d T = omega (arith, sound_w-largest d p u s) in
      let q = pick-lowest L d d' T t.1 big in
      let pl₀ : BlockIn L d d' (pick L d d' T) = record { deep = l; aligned = q.aligned; fits = q.fits } in
      let r = take_w-done L d d' (record { pool = p; used = u }) 0 small g l t.1 t.0 big room in (
        r.base,
        r.looked,
        left-of d p u (take_w L d d' (record { pool = p; used = u }) 0).words (remove L d d' T (pick L d d' T)) (openings_w L d d' p 0 (pick L d d' T)) s r.step room r.words r.tree r.maxed
            (remove-done L d d' T (pick L d d' T) t.1 pl₀ q.whole).1,
      )
