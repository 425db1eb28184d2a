-- A seed on words, one store after the other: the largest block at its first frame, and the seed of what is left. Assumes nothing.
use mathlib.Core.Bool.{Bool, true, false}
use mathlib.Core.List.{List}
use mathlib.Core.Path.{◌≡◌, refl, sym, ap, ◌∙◌, subst}
use Prim.Native.Nat.{ℕ, zero, suc, ◌+◌, ◌-◌, ◌%◌, ◌≤◌, ◌<◌}
use native.Mathlib.Omega.{arith}
use lib.Dec.{ltb}
use lib.ListN.{length}
use borrow.Author.Tests.{le-ltb, lt-ltb}
use Rattle.sizes.specs.Ladder.{Ladder}
use Rattle.model.proofs.Change.{store-done}
use Rattle.model.proofs.Ladder.{frames-pos}
use Rattle.model.proofs.Seed.{largest_fit-ok, seed-turns}
use Rattle.model.proofs.SeedWords.{seed-words}
use Rattle.model.specs.Frames.{Wholly}
use Rattle.model.specs.Ladder.{frames, top}
use Rattle.model.specs.Laws.{BlockIn, Made}
use Rattle.model.specs.Tree.{Tree, free, store}
use Rattle.model.specs.Tree.{words as tree_words}
use Rattle.model.specs.TreeStore.{largest_fit, seed_from}
use Rattle.pool.specs.Nodes.{Words, store_w, words, seed_w}
use Rattle.pool.specs.Room.{openings_w, seed_openings_w}
use Rattle.pool.specs.View.{view}
use Rattle.pool.specs.Words.{word}
use Rattle.pool.specs.Check.{SoundW}
use Rattle.pool.proofs.Kept.{Left, sound_w-tree, store_w-sound}
use Rattle.pool.proofs.Seeding.{used-seed}
use Rattle.pool.proofs.Used.{used-store}

module _ (L : Ladder) where
  -- a seed that has come to its end writes nothing
  pub seed_w-end : (k : ℕ) (s : Words) (a e : ℕ) → e ≤ a → seed_w L k s a e ≡ s
  unfolding seed_w
  seed_w-end zero s a e h = refl
  seed_w-end (suc k) s a e h = rw (le-ltb a e h, seed_w)

  -- turns enough for the frames are as good as any more
  pub seed_w-turns : (j k : ℕ) (s : Words) (a e : ℕ) → e ≤ a + j → e ≤ a + k → seed_w L j s a e ≡ seed_w L k s a e
  unfolding seed_w
  seed_w-turns zero k s a e x y = sym (seed_w-end k s a e (omega arith))
  seed_w-turns (suc j) zero s a e x y = seed_w-end (suc j) s a e (omega arith)
  seed_w-turns (suc j) (suc k) s a e x y = go (ltb a e) refl (seed_w-turns j k)
    where
      go : (v : Bool) → ltb a e ≡ v → ((s : Words) (a e : ℕ) → e ≤ a + j → e ≤ a + k → seed_w L j s a e ≡ seed_w L k s a e) → seed_w L (suc j) s a e ≡ seed_w L (suc k) s a e
      go false v ih = rw (v, seed_w)
      go true v ih =
          let c = largest_fit L (top L) a e in
          rw (v, seed_w) (ih (store_w L (top L) c s 0 a) (a + frames L c) e (omega (arith, frames-pos L c)) (omega (arith, frames-pos L c)))

  module _ (a e : ℕ) (l : a < e) where
    -- the first block of a seed
    abbrev first : ℕ
    first = largest_fit L (top L) a e

    -- a seed is its first store and the seed of what is left
    pub seed_w-step : (s : Words) → seed_w L (e - a) s a e ≡ seed_w L (e - (a + frames L first)) (store_w L (top L) first s 0 a) (a + frames L first) e
    unfolding seed_w
    seed_w-step s = go (e - a) refl
      where
        go : (k : ℕ) → e - a ≡ k → seed_w L (e - a) s a e ≡ seed_w L (e - (a + frames L first)) (store_w L (top L) first s 0 a) (a + frames L first) e
        go zero z = absurd (omega arith)
        go (suc k) z = rw (z, lt-ltb a e l, seed_w) (seed_w-turns k (e - (a + frames L first)) (store_w L (top L) first s 0 a) (a + frames L first) e (omega (arith, z, frames-pos L first)) (omega arith))

    -- the same of the tree
    seed-step : (t : Tree (top L)) → seed_from L (e - a) t a e ≡ seed_from L (e - (a + frames L first)) (store L (top L) first t a) (a + frames L first) e
    unfolding seed_from
    seed-step t = go (e - a) refl
      where
        go : (k : ℕ) → e - a ≡ k → seed_from L (e - a) t a e ≡ seed_from L (e - (a + frames L first)) (store L (top L) first t a) (a + frames L first) e
        go zero z = absurd (omega arith)
        go (suc k) z = rw (z, lt-ltb a e l, seed_from) (seed-turns L k (e - (a + frames L first)) (store L (top L) first t a) (a + frames L first) e (omega (arith, z, frames-pos L first)) (omega arith))

  -- sound words with none of the frames from a to e free, and room for their seed
  pub record Span (p : List ℕ) (u a e : ℕ) : Type 0 where
    pub sound : SoundW L (top L) p u
    pub order : a ≤ e
    pub ends : e ≤ frames L (top L)
    pub held : Wholly (free L (top L) (view L (top L) (word p) 0)) a (e - a) false
    pub room : u + seed_openings_w L (e - a) p a e ≤ length p

  -- the first store of such a seed has room, and the rest is such a seed again
  pub record Next (p : List ℕ) (u a e c : ℕ) (o : Words) : Type 0 where
    pub room : u + openings_w L (top L) c p 0 a ≤ length p
    pub length : length o.pool ≡ length p
    pub rest : Span o.pool o.used (a + frames L c) e

  module _ (p : List ℕ) (u a e : ℕ) (small : suc (top L) < 8) (s : Span p u a e) (l : a < e) where
    -- the tree before the first store, the block that is stored, and the words behind it
    abbrev t : Tree (top L)
    t = view L (top L) (word p) 0

    abbrev c : ℕ
    c = largest_fit L (top L) a e

    abbrev o : Words
    o = store_w L (top L) c (words p u) 0 a

    -- the block lies in the frames, none of which is free
    ok : (c ≤ top L) × (a % frames L c ≡ 0) × (a + frames L c ≤ e)
    ok = largest_fit-ok L (top L) a e l

    here : BlockIn L (top L) c a
    here = record { deep = ok.0; aligned = ok.1; fits = omega (arith, ok, s.ends) }

    block : Wholly (free L (top L) t) a (frames L c) false
    block f x y = s.held f x (omega (arith, ok))

    made : Made L (top L) c true t a (store L (top L) c t a)
    made = store-done L (top L) c t a (sound_w-tree L (top L) p u s.sound).1 here block

    -- behind the store no frame of the rest is free
    behind : Wholly (free L (top L) (store L (top L) c t a)) (a + frames L c) (e - (a + frames L c)) false
    behind f x y = let z : f < frames L (top L) = omega (arith, ok, s.ends) in let q : f < a + (e - a) = omega (arith, ok) in made.0.above f x z ∙ s.held f (omega arith) q

    -- the words that the seed takes in all
    in_all : suc (tree_words (top L) (seed_from L (e - a) t a e)) ≡ u + seed_openings_w L (e - a) p a e
    in_all = let z : a + (e - a) ≡ e = omega (arith, s.order) in used-seed L (e - a) p u a e (e - a) s.sound z s.ends s.held

    -- the rest behind the store leads to the same tree
    after : tree_words (top L) (seed_from L (e - a) t a e) ≡ tree_words (top L) (seed_from L (e - (a + frames L c)) (store L (top L) c t a) (a + frames L c) e)
    after = ap (tree_words (top L)) (seed-step a e l t)

    left : a + frames L c + (e - (a + frames L c)) ≡ e
    left = omega (arith, ok)

    -- the first store takes no more than all
    now : u + openings_w L (top L) c p 0 a ≤ length p
    now = omega (
      arith,
      used-store L (top L) c p u a small s.sound.shape (omega (arith, l, s.ends)),
      seed-words L (e - (a + frames L c)) (store L (top L) c t a) (a + frames L c) e (e - (a + frames L c)) made.1 left s.ends behind,
      after,
      in_all,
      s.room,
    )

    stored : Left L (top L) p u o (store L (top L) c t a) (openings_w L (top L) c p 0 a)
    stored = store_w-sound L (top L) c p u a small s.sound here block now

    held : Wholly (free L (top L) (view L (top L) (word o.pool) 0)) (a + frames L c) (e - (a + frames L c)) false
    held = subst (λ (y : Tree (top L)). Wholly (free L (top L) y) (a + frames L c) (e - (a + frames L c)) false) (sym stored.tree) behind

    -- A SEED'S STORE AND ITS REST
    pub span-next : Next p u a e c o
    span-next = record {
      room = now;
      length = stored.length;
      rest = record {
        sound = stored.sound;
        order = ok.2;
        ends = s.ends;
        held = held;
        room = omega (
          arith,
          used-seed L (e - (a + frames L c)) o.pool o.used (a + frames L c) e (e - (a + frames L c)) stored.sound left s.ends held,
          ap (λ (y : Tree (top L)). tree_words (top L) (seed_from L (e - (a + frames L c)) y (a + frames L c) e)) stored.tree,
          after,
          in_all,
          s.room,
          stored.length,
        );
      };
    }
