-- A seed on words: its stores one after the other, the words that they take read off the pool before the first, and that it is the model's seed. Assumes nothing.
use mathlib.Core.Bool.{Bool, true, false}
use mathlib.Core.List.{List, [], ◌∷◌}
use mathlib.Core.Path.{◌≡◌, refl, sym, ap, ◌∙◌, subst}
use Prim.Native.Nat.{ℕ, zero, suc, ◌+◌, ◌-◌, ◌/◌, ◌%◌, ◌≤◌, ◌<◌}
use native.Mathlib.Nat.{mod-lt}
use native.Mathlib.Omega.{arith}
use lib.Dec.{ltb}
use lib.ListN.{length}
use borrow.Author.Tests.{ltb-true}
use Rattle.sizes.specs.Ladder.{Ladder}
use Rattle.model.proofs.Change.{child-lt, store-done}
use Rattle.model.proofs.Ladder.{fan-pos, frames-pos}
use Rattle.model.proofs.Seed.{largest_fit-ok}
use Rattle.model.proofs.SeedWords.{seed-words}
use Rattle.model.specs.Frames.{Wholly}
use Rattle.model.specs.Ladder.{fan, frames, top}
use Rattle.model.specs.Laws.{BlockIn, Made}
use Rattle.model.proofs.SeedRoom.{openings_after, seed_openings, seed_rest}
use Rattle.model.specs.Tree.{Sound as SoundTree}
use Rattle.model.specs.Tree.{Tree, empty, free, node, opening, openings, store}
use Rattle.model.specs.Tree.{words as tree_words}
use Rattle.model.specs.TreeStore.{largest_fit, seed_from}
use Rattle.pool.specs.Nodes.{Words, store_w, words, seed_w}
use Rattle.pool.specs.Room.{openings_after_w, openings_w, path, path_after, seed_openings_w, seed_rest_w}
use Rattle.pool.specs.View.{block, tab, view}
use Rattle.pool.specs.Words.{fan_out_of, has_token, link_of, word}
use Rattle.pool.specs.Blocks.{Child, Readable}
use Rattle.pool.specs.Check.{SoundW}
use Rattle.pool.proofs.Kept.{Left, shape-readable, sound_w-tree, store_w-sound}
use Rattle.pool.proofs.Step.{readable-child}
use Rattle.pool.proofs.Tree.{tab-at, tab-length}
use Rattle.pool.proofs.Used.{shape-used, used-store}

cost-tab : (L : Ladder) (d : ℕ) (ks : List (Tree d)) → 0 < length ks → opening L d ks ≡ 0
cost-tab L d [] h = absurd (omega arith)
cost-tab L d (k ∷ ks) h = refl

module _ (L : Ladder) where
  need-empty : (d d' b : ℕ) → openings L d d' (empty d) b ≡ path L d d'
  unfolding openings path
  need-empty zero d' b = refl
  need-empty (suc d) d' b = go (ltb d' (suc d)) refl (need-empty d d' (b % frames L d))
    where
      go : (x : Bool) → ltb d' (suc d) ≡ x → openings L d d' (empty d) (b % frames L d) ≡ path L d d' → openings L (suc d) d' (node false []) b ≡ path L (suc d) d'
      go false e ih = rw (e, openings, path)
      go true e ih = rw (e, openings, path) (omega (arith, ih))

  need_s-empty : (d d' b : ℕ) → openings_after L d d' (empty d) b ≡ path_after L d d' b
  unfolding openings_after path_after
  need_s-empty zero d' b = refl
  need_s-empty (suc d) d' zero = need-empty (suc d) d' 0
  need_s-empty (suc d) d' (suc b) = go (ltb d' (suc d)) refl (need_s-empty d d' (suc b % frames L d))
    where
      go : (x : Bool) → ltb d' (suc d) ≡ x → openings_after L d d' (empty d) (suc b % frames L d) ≡ path_after L d d' (suc b % frames L d) → openings_after L (suc d) d' (node false []) (suc b) ≡ path_after L (suc d) d' (suc b)
      go false e ih = rw (e, openings_after, path_after)
      go true e ih = rw (e, openings_after, path_after) ih

  -- the need on words is the tree's
  pub openings_w-is : (d d' : ℕ) (p : List ℕ) (u q b : ℕ) → Readable L d p u q → b < frames L d → openings_w L d d' p q b ≡ openings L d d' (view L d (word p) q) b
  unfolding openings_w openings view
  openings_w-is zero d' p u q b g h = refl
  openings_w-is (suc d) d' p u q b g h = go (ltb d' (suc d)) refl (λ y c. openings_w-is d d' p u y (b % frames L d) (readable-child L d p u q y g c) (mod-lt b (frames-pos L d)))
    where
      go : (x : Bool) → ltb d' (suc d) ≡ x → ((y : ℕ) → Child (fan_out_of L) p (suc d) q y → openings_w L d d' p y (b % frames L d) ≡ openings L d d' (view L d (word p) y) (b % frames L d))
          → openings_w L (suc d) d' p q b ≡ openings L (suc d) d' (node (has_token (word p q)) (block (fan L (suc d)) (view L d (word p)) (link_of (word p q)))) b
      go false e ih = rw (e, openings_w, openings)
      go true e ih = by (link_of (word p q)) refl
        where
          by : (l : ℕ) → link_of (word p q) ≡ l → openings_w L (suc d) d' p q b ≡ openings L (suc d) d' (node (has_token (word p q)) (block (fan L (suc d)) (view L d (word p)) (link_of (word p q)))) b
          by zero z = rw (e, openings_w, openings, z) (omega (arith, need-empty d d' (b % frames L d)))
          by (suc k) z =
              let lt = child-lt L d b h in
              let ks = tab (view L d (word p)) (suc (suc k)) (fan L (suc d)) in
              rw (e, openings_w, openings, z) (omega (
                arith,
                ih (suc (suc k) + b / frames L d) (record { k = k; link = z; at = omega arith }),
                cost-tab L d ks (omega (arith, tab-length (view L d (word p)) (suc (suc k)) (fan L (suc d)), fan-pos L d)),
                ap (λ (x : Tree d). openings L d d' x (b % frames L d)) (tab-at (view L d (word p)) (suc (suc k)) (fan L (suc d)) (b / frames L d) (empty d) lt),
              ))

  openings_after_w-is : (d d' : ℕ) (p : List ℕ) (u q b : ℕ) → Readable L d p u q → b < frames L d → openings_after_w L d d' p q b ≡ openings_after L d d' (view L d (word p) q) b
  unfolding openings_after_w openings_after view
  openings_after_w-is zero d' p u q b g h = refl
  openings_after_w-is (suc d) d' p u q zero g h = openings_w-is (suc d) d' p u q 0 g h
  openings_after_w-is (suc d) d' p u q (suc b) g h = go (ltb d' (suc d)) refl (λ y c. openings_after_w-is d d' p u y (suc b % frames L d) (readable-child L d p u q y g c) (mod-lt (suc b) (frames-pos L d)))
    where
      go : (x : Bool) → ltb d' (suc d) ≡ x → ((y : ℕ) → Child (fan_out_of L) p (suc d) q y → openings_after_w L d d' p y (suc b % frames L d) ≡ openings_after L d d' (view L d (word p) y) (suc b % frames L d))
          → openings_after_w L (suc d) d' p q (suc b) ≡ openings_after L (suc d) d' (node (has_token (word p q)) (block (fan L (suc d)) (view L d (word p)) (link_of (word p q)))) (suc b)
      go false e ih = rw (e, openings_after_w, openings_after)
      go true e ih = by (link_of (word p q)) refl
        where
          by : (l : ℕ) → link_of (word p q) ≡ l → openings_after_w L (suc d) d' p q (suc b) ≡ openings_after L (suc d) d' (node (has_token (word p q)) (block (fan L (suc d)) (view L d (word p)) (link_of (word p q)))) (suc b)
          by zero z = rw (e, openings_after_w, openings_after, z) (sym (need_s-empty d d' (suc b % frames L d)))
          by (suc k) z =
              let lt = child-lt L d (suc b) h in
              rw (e, openings_after_w, openings_after, z) (ih (suc (suc k) + suc b / frames L d) (record { k = k; link = z; at = omega arith })
              ∙ ap (λ (x : Tree d). openings_after L d d' x (suc b % frames L d)) (sym (tab-at (view L d (word p)) (suc (suc k)) (fan L (suc d)) (suc b / frames L d) (empty d) lt)))

  seed_rest_w-is : (k : ℕ) (p : List ℕ) (u a e : ℕ) → Readable L (top L) p u 0 → e ≤ frames L (top L) → seed_rest_w L k p a e ≡ seed_rest L k (view L (top L) (word p) 0) a e
  unfolding seed_rest_w seed_rest
  seed_rest_w-is zero p u a e g h = refl
  seed_rest_w-is (suc k) p u a e g h = go (ltb a e) refl (seed_rest_w-is k p u (a + frames L (largest_fit L (top L) a e)) e g h)
    where
      go : (v : Bool) → ltb a e ≡ v → seed_rest_w L k p (a + frames L (largest_fit L (top L) a e)) e ≡ seed_rest L k (view L (top L) (word p) 0) (a + frames L (largest_fit L (top L) a e)) e
          → seed_rest_w L (suc k) p a e ≡ seed_rest L (suc k) (view L (top L) (word p) 0) a e
      go false v ih = rw (v, seed_rest_w, seed_rest)
      go true v ih = rw (v, seed_rest_w, seed_rest) (omega (arith, ih, openings_after_w-is (top L) (largest_fit L (top L) a e) p u 0 a g (omega (arith, ltb-true a e v))))

  seed_openings_w-is : (k : ℕ) (p : List ℕ) (u a e : ℕ) → Readable L (top L) p u 0 → e ≤ frames L (top L) → seed_openings_w L k p a e ≡ seed_openings L k (view L (top L) (word p) 0) a e
  unfolding seed_openings_w seed_openings
  seed_openings_w-is zero p u a e g h = refl
  seed_openings_w-is (suc k) p u a e g h = go (ltb a e) refl
    where
      go : (v : Bool) → ltb a e ≡ v → seed_openings_w L (suc k) p a e ≡ seed_openings L (suc k) (view L (top L) (word p) 0) a e
      go false v = rw (v, seed_openings_w, seed_openings)
      go true v = rw (v, seed_openings_w, seed_openings) (omega (arith, seed_rest_w-is k p u (a + frames L (largest_fit L (top L) a e)) e g h, openings_w-is (top L) (largest_fit L (top L) a e) p u 0 a g (omega (arith, ltb-true a e v))))

  -- refusal 9 of a seed is the model's, whether or not the pool has room
  pub used-seed : (k : ℕ) (p : List ℕ) (u a e m : ℕ) → SoundW L (top L) p u → a + m ≡ e → e ≤ frames L (top L) → Wholly (free L (top L) (view L (top L) (word p) 0)) a m false
      → suc (tree_words (top L) (seed_from L k (view L (top L) (word p) 0) a e)) ≡ u + seed_openings_w L k p a e
  used-seed k p u a e m s x y h = omega (
    arith,
    seed-words L k (view L (top L) (word p) 0) a e m (sound_w-tree L (top L) p u s).1 x y h,
    shape-used L (top L) p u s.shape,
    seed_openings_w-is k p u a e (shape-readable L (top L) p u s.shape) y,
  )

  -- ---- the seed

  pub record Seeded (k : ℕ) (p : List ℕ) (u a e : ℕ) (o : Words) : Type 0 where
    pub sound : SoundW L (top L) o.pool o.used
    pub tree : view L (top L) (word o.pool) 0 ≡ seed_from L k (view L (top L) (word p) 0) a e
    pub length : length o.pool ≡ length p
    pub grows : u ≤ o.used
    pub behind : (x : ℕ) → o.used ≤ x → word o.pool x ≡ word p x

  -- THE WORDS' SEED IS THE MODEL'S
  pub seed_w-done : (k : ℕ) (p : List ℕ) (u a e m : ℕ) → suc (top L) < 8 → SoundW L (top L) p u → a + m ≡ e → e ≤ frames L (top L) → Wholly (free L (top L) (view L (top L) (word p) 0)) a m false
      → suc (tree_words (top L) (seed_from L k (view L (top L) (word p) 0) a e)) ≤ length p → Seeded k p u a e (seed_w L k (words p u) a e)
  unfolding seed_w seed_from
  seed_w-done zero p u a e m small s x y h room = record { sound = s; tree = refl; length = refl; grows = omega arith; behind = λ x h. refl }
  seed_w-done (suc k) p u a e m small s x y h room₁ = go (ltb a e) refl (seed_w-done k) room₁
    where
      t : Tree (top L)
      t = view L (top L) (word p) 0

      c : ℕ
      c = largest_fit L (top L) a e

      go : (v : Bool) → ltb a e ≡ v
          → ((p : List ℕ) (u a e m : ℕ) → suc (top L) < 8 → SoundW L (top L) p u → a + m ≡ e → e ≤ frames L (top L) → Wholly (free L (top L) (view L (top L) (word p) 0)) a m false
          → suc (tree_words (top L) (seed_from L k (view L (top L) (word p) 0) a e)) ≤ length p → Seeded k p u a e (seed_w L k (words p u) a e))
          → suc (tree_words (top L) (seed_from L (suc k) t a e)) ≤ length p → Seeded (suc k) p u a e (seed_w L (suc k) (words p u) a e)
      go false v ih room = rw (v, seed_w, seed_from) (record { sound = s; tree = rw (v, seed_from); length = refl; grows = omega arith; behind = λ x h. refl })
      go true v ih room₀ = rw (v, seed_w) (record { sound = r.sound; tree = r.tree ∙ ap (λ (y : Tree (top L)). seed_from L k y (a + frames L c) e) f.tree ∙ rw (v, seed_from); length = r.length ∙ f.length; grows = omega (arith, r.grows, f.words); behind = λ x h. r.behind x h ∙ f.behind x (omega (arith, r.grows)) })
        where
          l : a < e
          l = ltb-true a e v

          ok : (c ≤ top L) × (a % frames L c ≡ 0) × (a + frames L c ≤ e)
          ok = largest_fit-ok L (top L) a e l

          here : BlockIn L (top L) c a
          here = record { deep = ok.0; aligned = ok.1; fits = omega (arith, ok) }

          bl : Wholly (free L (top L) t) a (frames L c) false
          bl f p q = h f p (omega (arith, ok))

          so : SoundTree L (top L) t
          so = (sound_w-tree L (top L) p u s).1

          dn : Made L (top L) c true t a (store L (top L) c t a)
          dn = store-done L (top L) c t a so here bl

          rest : Wholly (free L (top L) (store L (top L) c t a)) (a + frames L c) (m - frames L c) false
          rest f p q = dn.0.above f p (omega (arith, ok)) ∙ h f (omega arith) (omega (arith, ok))

          room : suc (tree_words (top L) (seed_from L k (store L (top L) c t a) (a + frames L c) e)) ≤ length p
          room = let z : seed_from L (suc k) t a e ≡ seed_from L k (store L (top L) c t a) (a + frames L c) e = rw (v, seed_from) in omega (arith, ap (tree_words (top L)) z)

          now : u + openings_w L (top L) c p 0 a ≤ length p
          now = omega (arith, used-store L (top L) c p u a small s.shape (omega (arith, l)), seed-words L k (store L (top L) c t a) (a + frames L c) e (m - frames L c) dn.1 (omega (arith, ok)) y rest, room)

          f : Left L (top L) p u (store_w L (top L) c (words p u) 0 a) (store L (top L) c t a) (openings_w L (top L) c p 0 a)
          f = store_w-sound L (top L) c p u a small s here bl now

          o : Words
          o = store_w L (top L) c (words p u) 0 a

          r : Seeded k o.pool o.used (a + frames L c) e (seed_w L k (words o.pool o.used) (a + frames L c) e)
          r = ih o.pool o.used (a + frames L c) e (m - frames L c) small f.sound (omega (arith, ok)) y
              (subst (λ (y : Tree (top L)). Wholly (free L (top L) y) (a + frames L c) (m - frames L c) false) (sym f.tree) rest)
              (subst (λ (y : Tree (top L)). suc (tree_words (top L) (seed_from L k y (a + frames L c) e)) ≤ length o.pool) (sym f.tree) (omega (arith, room, f.length)))
