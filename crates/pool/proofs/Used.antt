-- The words in use are those of the tree, and behind a store or an acquire those that the pool tells before it. Assumes nothing.
use mathlib.Core.Bool.{Bool}
use mathlib.Core.List.{List, [], ◌∷◌, ◌++◌}
use mathlib.Core.Path.{◌≡◌, refl, sym, ap, ◌∙◌, subst}
use Prim.Native.Nat.{ℕ, zero, suc, ◌+◌, ◌≤◌, ◌<◌}
use native.Mathlib.Omega.{arith}
use lib.Dec.{ltb}
use lib.ListN.{length, replicate, length-append, length-replicate}
use Rattle.sizes.specs.Ladder.{Ladder}
use Rattle.model.proofs.Ladder.{fan-pos}
use Rattle.model.proofs.Lists.{get_or-rep}
use Rattle.model.specs.Ladder.{fan, frames}
use Rattle.model.specs.Lists.{sum}
use Rattle.model.specs.Tree.{Sound as SoundTree}
use Rattle.model.specs.Tree.{Tree, largest, node, pick, remove, store}
use Rattle.model.specs.Tree.{words as tree_words}
use Rattle.pool.specs.Nodes.{store_w, take_w, words}
use Rattle.pool.specs.Room.{openings_w}
use Rattle.pool.specs.View.{block, tab, view}
use Rattle.pool.specs.Words.{fan_out_of, has_token, link_of, max_of, word, sum_over}
use Rattle.pool.specs.Blocks.{By, Child, Readable, Shape, child_in, delta, met, size}
use Rattle.pool.specs.Check.{SoundW}
use Rattle.pool.proofs.Blocks.{size-open, size-shut}
use Rattle.pool.proofs.Kept.{leaf-shut, shape-readable, sound_w-largest, sound_w-tree, step-shape}
use Rattle.pool.proofs.Max.{maxed-agree}
use Rattle.pool.proofs.Needed.{size_is}
use Rattle.pool.proofs.Places.{Agree, frame-ok, frame-total}
use Rattle.pool.proofs.Step.{readable-child}
use Rattle.pool.proofs.Store.{store_w-done, view-node}
use Rattle.pool.proofs.Sums.{sum-cong}
use Rattle.pool.proofs.Take.{need-links, take_w-done}
use Rattle.pool.proofs.Tree.{tab-length}
use Rattle.pool.proofs.View.{view-agree}

-- a pool with more words, all 0, reads the same
word-pad : (p : List ℕ) (n x : ℕ) → word (p ++ replicate n 0) x ≡ word p x
word-pad [] n x = get_or-rep n x 0
word-pad (y ∷ p) n zero = refl
word-pad (y ∷ p) n (suc x) = word-pad p n x

pub sum-tab : {A : Type 0} (g : A → ℕ) (f : ℕ → A) (a n : ℕ) → sum g (tab f a n) ≡ sum_over a n (λ j. g (f j))
unfolding sum tab sum_over
sum-tab g f a zero = refl
sum-tab g f a (suc n) = ap (λ (x : ℕ). g (f a) + x) (sum-tab g f (suc a) n)

words-node : (d : ℕ) (v : Bool) (ks : List (Tree d)) → 0 < length ks → tree_words (suc d) (node v ks) ≡ suc (length ks) + sum (tree_words d) ks
unfolding tree_words
words-node d v [] h = absurd (omega arith)
words-node d v (k ∷ ks) h = refl

module _ (L : Ladder) where
  -- ---- the words of the tree are the words of the blocks
  words-view : (d : ℕ) (p : List ℕ) (u q : ℕ) → Readable L d p u q → tree_words d (view L d (word p) q) ≡ size (fan_out_of L) p (suc d) q
  unfolding tree_words
  words-view zero p u q g = sym (size-shut (fan_out_of L) p 1 q (leaf-shut L p u q g))
  words-view (suc d) p u q g = ap (tree_words (suc d)) (view-node L d p q) ∙ go (link_of (word p q)) refl (λ y c. words-view d p u y (readable-child L d p u q y g c))
    where
      go : (l : ℕ) → link_of (word p q) ≡ l → ((y : ℕ) → Child (fan_out_of L) p (suc d) q y → tree_words d (view L d (word p) y) ≡ size (fan_out_of L) p (suc d) y)
          → tree_words (suc d) (node (has_token (word p q)) (block (fan L (suc d)) (view L d (word p)) l)) ≡ size (fan_out_of L) p (suc (suc d)) q
      go zero e ih = sym (size-shut (fan_out_of L) p (suc (suc d)) q e)
      go (suc k) e ih =
          let n = fan L (suc d) in
          let len = tab-length (view L d (word p)) (suc (suc k)) n in
          omega (
            arith,
            words-node d (has_token (word p q)) (tab (view L d (word p)) (suc (suc k)) n) (omega (arith, len, fan-pos L d)),
            len,
            sum-tab (tree_words d) (view L d (word p)) (suc (suc k)) n,
            size-open (fan_out_of L) p (suc d) q k e,
            sum-cong (suc (suc k)) n (λ j. tree_words d (view L d (word p) j)) (size (fan_out_of L) p (suc d)) (λ j i. ih j (record { k = k; link = e; at = i })),
          )

  pub shape-used : (d : ℕ) (p : List ℕ) (u : ℕ) → Shape (fan_out_of L) (suc d) p u → suc (tree_words d (view L d (word p) 0)) ≡ u
  shape-used d p zero s = absurd (omega (arith, s.low))
  shape-used d p (suc u) s = ap suc (words-view d p (suc u) 0 (shape-readable L d p (suc u) s) ∙ size_is (fan_out_of L) (By ltb) p (suc d) u s.rules s.once)

  -- ---- a longer pool
  module _ (d : ℕ) (p : List ℕ) (u n : ℕ) (s : Shape (fan_out_of L) (suc d) p u) where
    same : Agree (fan_out_of L) p (p ++ replicate n 0) (suc d) 0
    same x h = sym (word-pad p n x)

    pad-length : length (p ++ replicate n 0) ≡ length p + n
    pad-length = length-append p (replicate n 0) ∙ ap (λ (x : ℕ). length p + x) (length-replicate n 0)

    pad-shape : Shape (fan_out_of L) (suc d) (p ++ replicate n 0) u
    unfolding met
    pad-shape = record {
      low = s.low;
      high = omega (arith, s.high, pad-length);
      rules = frame-ok (fan_out_of L) (By ltb) p (p ++ replicate n 0) u (suc d) 0 same s.rules;
      once = λ x lo hi. sym (frame-total (fan_out_of L) (λ L n. delta L x + child_in x L n) p (p ++ replicate n 0) (suc d) 0 same) ∙ s.once x lo hi;
    }

    pad-view : view L d (word (p ++ replicate n 0)) 0 ≡ view L d (word p) 0
    pad-view = view-agree L d p (p ++ replicate n 0) 0 same

    pad-need : (d' b : ℕ) → openings_w L d d' (p ++ replicate n 0) 0 b ≡ openings_w L d d' p 0 b
    pad-need d' b = need-links L d d' p (p ++ replicate n 0) (λ x. ap link_of (word-pad p n x)) 0 b

  -- THE WORDS THAT A STORE LEAVES, whether or not the pool has room
  pub used-store : (d d' : ℕ) (p : List ℕ) (u b : ℕ) → suc d < 8 → Shape (fan_out_of L) (suc d) p u → b < frames L d
      → suc (tree_words d (store L d d' (view L d (word p) 0) b)) ≡ u + openings_w L d d' p 0 b
  used-store d d' p u b small s h =
      let n = openings_w L d d' p 0 b in
      let P = p ++ replicate n 0 in
      let sp = pad-shape d p u n s in
      let room : u + openings_w L d d' P 0 b ≤ length P = omega (arith, pad-need d p u n s d' b, pad-length d p u n s, s.high) in
      let r = store_w-done L d d' (words P u) 0 b small (shape-readable L d P u sp) h room in
      let o = store_w L d d' (words P u) 0 b in
      let sh = step-shape L d P o.pool u o.used sp r.step (omega (arith, r.words)) in
      ap (λ (t : Tree d). suc (tree_words d (store L d d' t b))) (sym (pad-view d p u n s)) ∙ ap (λ (t : Tree d). suc (tree_words d t)) (sym r.tree)
      ∙ shape-used d o.pool o.used sh ∙ r.words ∙ ap (λ (x : ℕ). u + x) (pad-need d p u n s d' b)

  -- ... and an acquire
  pub used-take : (d d' : ℕ) (p : List ℕ) (u : ℕ) → suc d < 8 → SoundW L d p u → d' ≤ d → suc d' ≤ max_of (word p 0)
      → suc (tree_words d (remove L d d' (view L d (word p) 0) (pick L d d' (view L d (word p) 0)))) ≡ u + openings_w L d d' p 0 (pick L d d' (view L d (word p) 0))
  used-take d d' p u small sw l h =
      let s = sw.shape in
      let t = view L d (word p) 0 in
      let n = openings_w L d d' p 0 (pick L d d' t) in
      let P = p ++ replicate n 0 in
      let T = view L d (word P) 0 in
      let ve : T ≡ t = pad-view d p u n s in
      let sp = pad-shape d p u n s in
      let x = sound_w-tree L d p u sw in
      let nd : openings_w L d d' P 0 (pick L d d' T) ≡ n = pad-need d p u n s d' (pick L d d' T) ∙ ap (λ (y : Tree d). openings_w L d d' p 0 (pick L d d' y)) ve in
      let r = take_w-done L d d' (words P u) 0 small (shape-readable L d P u sp) l (subst (SoundTree L d) (sym ve) x.1) (maxed-agree L d p P 0 (same d p u n s) x.0)
      (subst (λ (y : Tree d). suc d' ≤ largest d y) (sym ve) (omega (arith, sound_w-largest L d p u sw))) (omega (arith, nd, pad-length d p u n s, s.high)) in
      let o = (take_w L d d' (words P u) 0).words in
      let sh = step-shape L d P o.pool u o.used sp r.step (omega (arith, r.words, nd, pad-length d p u n s, s.high)) in
      ap (λ (y : Tree d). suc (tree_words d (remove L d d' y (pick L d d' y)))) (sym ve) ∙ ap (λ (y : Tree d). suc (tree_words d y)) (sym r.tree)
      ∙ shape-used d o.pool o.used sh ∙ r.words ∙ ap (λ (y : ℕ). u + y) nd
