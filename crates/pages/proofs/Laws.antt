-- The laws of pools, gathered. Assumes nothing.
use mathlib.Core.Bool.{false, ◌&&◌}
use mathlib.Core.List.{List}
use mathlib.Core.Path.{◌≡◌, sym, ap, ap₂, ◌∙◌, subst}
use Prim.Native.Nat.{ℕ, suc, ◌+◌, ◌-◌, ◌≤◌, ◌<◌}
use native.Mathlib.Omega.{arith}
use lib.Dec.{leb, ltb, eqb}
use lib.ListN.{length}
use Rattle.sizes.specs.Ladder.{Ladder}
use Rattle.model.proofs.Ladder.{frames-pos}
use Rattle.model.specs.Frames.{Wholly, bit, within}
use Rattle.model.specs.Ladder.{frames, probes, top}
use Rattle.model.specs.Tree.{Sound as SoundTree}
use Rattle.model.specs.Tree.{Tree, free, largest, pick, remove}
use Rattle.model.specs.Tree.{words as tree_words}
use Rattle.model.specs.TreeStore.{seed_from}
use Rattle.pages.proofs.Statements.{Apart, Changes, Held, Laws, NodeLaws, Offered, PoolLaws, Seeds, places_in}
use Rattle.pool.specs.Nodes.{Words, store_w, take_w, words, seed_w}
use Rattle.pool.specs.Room.{openings_w, pick_w, seed_openings_w}
use Rattle.pool.specs.View.{view}
use Rattle.pool.specs.Words.{fan_out_of, frames_of, max_of, word}
use Rattle.pool.specs.Asks.{Maxed}
use Rattle.pool.specs.Blocks.{Readable, delta, places_of}
use Rattle.pool.specs.Check.{Marked, SoundW}
use Rattle.pool.proofs.AnyFree.{any_free_w-is}
use Rattle.pool.proofs.Kept.{marked-sound, shape-readable, store_w-sound, take_w-sound}
use Rattle.pool.proofs.Max.{maxed-own}
use Rattle.pool.proofs.Pick.{pick_w-is}
use Rattle.pages.proofs.SoundView.{sound-laws}
use Rattle.pages.proofs.Apart.{stored_apart as store_apart, taken_apart as take-apart}
use Rattle.pool.proofs.Seeding.{Seeded, openings_w-is, seed_w-done, used-seed}
use Rattle.pool.proofs.Step.{Step, new}
use Rattle.pool.proofs.Store.{Stored, store_w-done}
use Rattle.pool.proofs.Take.{Took, take_w-done}
use Rattle.pages.proofs.Times.{times-met}
use Rattle.pool.proofs.Used.{shape-used, used-store, used-take}

module _ (L : Ladder) where
  new-within : (u u' x : ℕ) → u ≤ u' → new u u' x ≡ bit (within u (u' - u) x)
  unfolding new
  new-within u u' x h =
      let e : u' ≡ u + (u' - u) = omega arith in
      ap (λ (v : ℕ). bit (leb u x && ltb x v)) e

  -- the places of a node, as the walk's sums count them
  places-in : (p : List ℕ) (x d q : ℕ) → places_in L p x d q ≡ places_of (fan_out_of L) p x (suc d) q
  unfolding places_of delta
  places-in p x d q = ap (λ (n : ℕ). bit (eqb q x) + n) (times-met L p x (suc d) q)

  changes : (d : ℕ) (p : List ℕ) (u q : ℕ) (o : Words) → Step L d p o.pool u o.used q → Changes L d p u q o
  changes d p u q o s = record {
    only = λ x lt e. sym (s.only x lt (omega (arith, e, places-in p x d q)));
    more = λ x. places-in o.pool x d q ∙ s.count x ∙ ap₂ (λ (m n : ℕ). m + n) (sym (places-in p x d q)) (new-within u o.used x s.grows);
    behind = s.behind;
    length = s.len;
    grows = s.grows;
  }

  module _ (d : ℕ) (p : List ℕ) (u q : ℕ) (small : suc d < 8) (g : Readable L d p u q) (m : Marked L d p q) where
    x : Maxed L d p q × SoundTree L d (view L d (word p) q)
    x = marked-sound L d p u q g m

    big : (d' : ℕ) → suc d' ≤ max_of (word p q) → suc d' ≤ largest d (view L d (word p) q)
    big d' h = omega (arith, maxed-own L d p q x.0)

    picks : (d' : ℕ) → suc d' ≤ max_of (word p q) → pick_w L d d' p q ≡ pick L d d' (view L d (word p) q)
    picks d' h = pick_w-is L d d' p u q g x.1 x.0 (big d' h)

    store_of : (d' b : ℕ) → Held L d d' p u q b → Stored L d d' (words p u) q b (store_w L d d' (words p u) q b)
    store_of d' b h = store_w-done L d d' (words p u) q b small g (omega (arith, h.block.fits, frames-pos L d')) h.room

    take-of : (d' : ℕ) → Offered L d d' p u q → Took L d d' (words p u) q (view L d (word p) q) (take_w L d d' (words p u) q)
    take-of d' o = take_w-done L d d' (words p u) q small g o.deep x.1 x.0 (big d' o.offers) (omega (arith, o.room, ap (openings_w L d d' p q) (picks d' o.offers)))

    pub node_laws : NodeLaws L d p u q
    node_laws = record {
      sound = x.1;
      max = x.0;
      stored = λ d' b h. ((store_of d' b h).tree, changes d p u q (store_w L d d' (words p u) q b) (store_of d' b h).step);
      picked = λ d' l h. picks d' h;
      taken = λ d' o.
          let e = picks d' o.offers in
          ((take-of d' o).base ∙ sym e, (take-of d' o).looked ∙ ap (probes L d d') (sym e), (take-of d' o).tree ∙ ap (remove L d d' (view L d (word p) q)) (sym e), changes d p u q (take_w L d d' (words p u) q).words (take-of d' o).step);
      openings = λ d' b h. openings_w-is L d d' p u q b g h;
      stored_used = λ d' b h. (store_of d' b h).words;
      taken_used = λ d' o. (take-of d' o).words ∙ ap (λ (b : ℕ). u + openings_w L d d' p q b) (sym (picks d' o.offers));
      stored_apart = λ d' b m r c y h n a t. store_apart L d d' p u q b small g h.block h.room m r c y n a t;
      taken_apart = λ d' m r c y o n a t.
          let e = picks d' o.offers in
          take-apart L d d' p u q small g o.deep x.1 x.0 (big d' o.offers) (omega (arith, o.room, ap (openings_w L d d' p q) e)) m r c y n (subst (λ (b : ℕ). Apart b (frames L d') c (frames_of L m)) e a) t;
      any_free_is = λ d' b h. any_free_w-is L d d' p u q b g x.0 h;
    }

  module _ (p : List ℕ) (u : ℕ) (small : suc (top L) < 8) (s : SoundW L (top L) p u) where
    root : NodeLaws L (top L) p u 0
    root = node_laws (top L) p u 0 small (shape-readable L (top L) p u s.shape) s.marks

    seed-room : (a e : ℕ) → a ≤ e → e ≤ frames L (top L) → Wholly (free L (top L) (view L (top L) (word p) 0)) a (e - a) false
        → suc (tree_words (top L) (seed_from L (e - a) (view L (top L) (word p) 0) a e)) ≡ u + seed_openings_w L (e - a) p a e
    seed-room a e l h f = let z : a + (e - a) ≡ e = omega arith in used-seed L (e - a) p u a e (e - a) s z h f

    seed-of : (a e : ℕ) → a ≤ e → e ≤ frames L (top L) → Wholly (free L (top L) (view L (top L) (word p) 0)) a (e - a) false → u + seed_openings_w L (e - a) p a e ≤ length p
        → Seeded L (e - a) p u a e (seed_w L (e - a) (words p u) a e)
    seed-of a e l h f room = let z : a + (e - a) ≡ e = omega arith in seed_w-done L (e - a) p u a e (e - a) small s z h f (omega (arith, seed-room a e l h f))

    seeds : (a e : ℕ) → a ≤ e → e ≤ frames L (top L) → Wholly (free L (top L) (view L (top L) (word p) 0)) a (e - a) false → u + seed_openings_w L (e - a) p a e ≤ length p → Seeds L p u a e (seed_w L (e - a) (words p u) a e)
    seeds a e l h f room =
        let o = seed_w L (e - a) (words p u) a e in
        let r = seed-of a e l h f room in
        record {
          tree = r.tree;
          sound = r.sound;
          used = sym (shape-used L (top L) o.pool o.used r.sound.shape) ∙ ap (λ (t : Tree (top L)). suc (tree_words (top L) t)) r.tree ∙ seed-room a e l h f;
          length = r.length;
          behind = r.behind;
        }

    pub pool-laws : PoolLaws L p u
    pool-laws = record {
      root = root;
      used = sym (shape-used L (top L) p u s.shape);
      stored_words = λ d' b h. used-store L (top L) d' p u b small s.shape h;
      taken_words = λ d' l h. let e = root.picked d' l h in subst (λ (b : ℕ). suc (tree_words (top L) (remove L (top L) d' (view L (top L) (word p) 0) b)) ≡ u + openings_w L (top L) d' p 0 b) (sym e) (used-take L (top L) d' p u small s l h);
      stored = λ d' b h. (store_w-sound L (top L) d' p u b small s h.block h.held h.room).sound;
      taken = λ d' o. (take_w-sound L (top L) d' p u small s o.deep o.offers (omega (arith, o.room, ap (openings_w L (top L) d' p 0) (root.picked d' o.deep o.offers)))).2.sound;
      seeded_words = seed-room;
      seeded = seeds;
    }

  pub laws : Laws L
  laws = record { sound = sound-laws L; nodes = node_laws; pools = pool-laws }
