-- A write that lacks pool room says so itself: the used count that it reaches is past the pool's length exactly if the openings, read before it, carry it there. Assumes nothing.
use mathlib.Core.Bool.{Bool, true, false}
use mathlib.Core.List.{List}
use mathlib.Core.Path.{◌≡◌, refl, sym, ap, ◌∙◌, subst}
use Prim.Native.Nat.{ℕ, zero, suc, ◌+◌, ◌-◌, ◌/◌, ◌%◌, ◌≤◌, ◌<◌}
use native.Mathlib.Decide.{dec_le}
use native.Mathlib.Nat.{mod-lt}
use native.Mathlib.Omega.{arith}
use lib.Dec.{ltb}
use lib.ListN.{length}
use borrow.Author.Tests.{lt-ltb, ltb-true}
use Rattle.sizes.specs.Ladder.{Ladder}
use Rattle.model.proofs.Change.{child-lt, store-done}
use Rattle.model.proofs.Ladder.{frames-pos}
use Rattle.model.proofs.Seed.{largest_fit-ok}
use Rattle.model.specs.Frames.{Wholly}
use Rattle.model.specs.Ladder.{frames, top}
use Rattle.model.specs.Laws.{BlockIn, Made}
use Rattle.model.specs.Tree.{Sound as SoundTree}
use Rattle.model.specs.Tree.{Tree, free, largest, pick, store}
use Rattle.model.specs.Tree.{words as tree_words}
use Rattle.model.specs.TreeStore.{largest_fit, seed_from}
use Rattle.pool.specs.Nodes.{Words, open_w, store_w, take_w, words, seed_w}
use Rattle.pool.specs.Room.{openings_w, pick_w, seed_openings_w}
use Rattle.pool.specs.View.{view}
use Rattle.pool.specs.Words.{fan_out_of, first_child, max_of, word}
use Rattle.pool.specs.Asks.{Maxed}
use Rattle.pool.specs.Blocks.{Child, Readable}
use Rattle.pool.specs.Check.{SoundW}
use Rattle.pool.proofs.Kept.{shape-readable, sound_w-largest, sound_w-tree, store_w-sound}
use Rattle.pool.proofs.Pick.{pick_w-is}
use Rattle.pool.proofs.Seeding.{seed_w-done, used-seed}
use Rattle.pool.proofs.Step.{readable-child, step-readable}
use Rattle.pool.proofs.Store.{need-open, need-top, store_w-done}
use Rattle.pool.proofs.Take.{child_at, child_tree, enter_w-child, enter_w-open, handed, take_w-done}
use Rattle.pool.proofs.Used.{shape-used}
use Rattle.pool.proofs.View.{open_done, open-words}

-- two counts that are the same where the second fits, and both past n where it does not, pass the same test
same_test : (n x y : ℕ) → (y ≤ n → x ≡ y) → (n < y → n < x) → ltb n x ≡ ltb n y
same_test n x y fits past = elim (dec_le y n) [ yes h ↦ ap (ltb n) (fits h) | no h ↦ lt-ltb n x (past (omega arith)) ∙ sym (lt-ltb n y (omega arith)) ]

module _ (L : Ladder) where
  -- ---- the used count never falls
  -- a store never lessens used
  pub store-grows : (d d' : ℕ) (s : Words) (q b : ℕ) → s.used ≤ (store_w L d d' s q b).used
  unfolding store_w
  store-grows zero d' s q b = omega arith
  store-grows (suc d) d' s q b = go (ltb d' (suc d)) refl (store-grows d d')
    where
      go : (x : Bool) → ltb d' (suc d) ≡ x → ((s : Words) (q b : ℕ) → s.used ≤ (store_w L d d' s q b).used) → s.used ≤ (store_w L (suc d) d' s q b).used
      go false e ih = rw (e, store_w) (omega arith)
      go true e ih = rw (e, store_w) (omega (arith, open-words L d s q, ih (open_w L d s q) (first_child (open_w L d s q).pool q + b / frames L d) (b % frames L d)))

  -- an acquire never lessens used
  pub take-grows : (d d' : ℕ) (s : Words) (q : ℕ) → s.used ≤ (take_w L d d' s q).words.used
  unfolding take_w
  take-grows zero d' s q = omega arith
  take-grows (suc d) d' s q = go (ltb d' (suc d)) refl (take-grows d d')
    where
      go : (x : Bool) → ltb d' (suc d) ≡ x → ((s : Words) (q : ℕ) → s.used ≤ (take_w L d d' s q).words.used) → s.used ≤ (take_w L (suc d) d' s q).words.used
      go false e ih = rw (e, take_w) (omega arith)
      go true e ih = rw (e, take_w) (omega (arith, open-words L d s q, ih (words (handed L d s q) (open_w L d s q).used) (child_at L d d' s q)))

  -- a seed never lessens used
  pub seed-grows : (k : ℕ) (s : Words) (a e : ℕ) → s.used ≤ (seed_w L k s a e).used
  unfolding seed_w
  seed-grows zero s a e = omega arith
  seed-grows (suc k) s a e = go (ltb a e) refl (seed-grows k)
    where
      c : ℕ
      c = largest_fit L (top L) a e

      go : (x : Bool) → ltb a e ≡ x → ((s : Words) (a e : ℕ) → s.used ≤ (seed_w L k s a e).used) → s.used ≤ (seed_w L (suc k) s a e).used
      go false h ih = rw (h, seed_w) (omega arith)
      go true h ih = rw (h, seed_w) (omega (arith, store-grows (top L) c s 0 a, ih (store_w L (top L) c s 0 a) (a + frames L c) e))

  -- ---- the store
  -- a store whose openings do not fit leaves used past the pool's length
  pub store-past : (d d' : ℕ) (s : Words) (q b : ℕ) → suc d < 8 → Readable L d s.pool s.used q → b < frames L d → length s.pool < s.used + openings_w L d d' s.pool q b → length s.pool < (store_w L d d' s q b).used
  unfolding store_w openings_w
  store-past zero d' s q b small g h past = absurd (omega (arith, g.fit))
  store-past (suc d) d' s q b small g h past = go (ltb d' (suc d)) refl (store-past d d')
    where
      go : (x : Bool) → ltb d' (suc d) ≡ x
          → ((s : Words) (q b : ℕ) → suc d < 8 → Readable L d s.pool s.used q → b < frames L d → length s.pool < s.used + openings_w L d d' s.pool q b → length s.pool < (store_w L d d' s q b).used)
          → length s.pool < (store_w L (suc d) d' s q b).used
      go false e ih = absurd (omega (arith, g.fit, need-top L d d' s.pool q b e))
      go true e ih = rw (e, store_w) (elim (dec_le (open_w L d s q).used (length s.pool)) [ no full ↦ omega (arith, full, store-grows d d' O y (b % frames L d)) | yes room ↦ fits room ])
        where
          O : Words
          O = open_w L d s q

          y : ℕ
          y = first_child O.pool q + b / frames L d

          fits : (open_w L d s q).used ≤ length s.pool → length s.pool < (store_w L d d' O y (b % frames L d)).used
          fits room =
              let lt = child-lt L d b h in
              let o = open_done L d s q small g room in
              let gq = step-readable L (suc d) s.pool O.pool s.used O.used q g o.step room in
              let c : Child (fan_out_of L) O.pool (suc d) q y = record { k = o.k; link = o.link; at = omega (arith, o.link, lt) } in
              let need = need-open L d d' s q b small g e lt room in
              let still : length O.pool < O.used + openings_w L d d' O.pool y (b % frames L d) = omega (arith, o.step.len, need, open-words L d s q, past) in
              omega (arith, o.step.len, ih O y (b % frames L d) (omega arith) (readable-child L d O.pool O.used q y gq c) (mod-lt b (frames-pos L d)) still)

  -- A STORE'S OWN USED COUNT SAYS WHETHER THE POOL LACKS ROOM
  pub store-lacks : (d' : ℕ) (p : List ℕ) (u b : ℕ) → suc (top L) < 8 → SoundW L (top L) p u → b < frames L (top L)
      → ltb (length p) (store_w L (top L) d' (words p u) 0 b).used ≡ ltb (length p) (u + openings_w L (top L) d' p 0 b)
  store-lacks d' p u b small s h =
      let g = shape-readable L (top L) p u s.shape in
      same_test (length p) (store_w L (top L) d' (words p u) 0 b).used (u + openings_w L (top L) d' p 0 b)
      (λ room. (store_w-done L (top L) d' (words p u) 0 b small g h room).words) (λ past. store-past (top L) d' (words p u) 0 b small g h past)

  -- ---- the acquire
  -- an acquire whose openings do not fit leaves used past the pool's length
  pub take_past : (d d' : ℕ) (s : Words) (q : ℕ) → suc d < 8 → Readable L d s.pool s.used q → d' ≤ d → SoundTree L d (view L d (word s.pool) q) → Maxed L d s.pool q → suc d' ≤ largest d (view L d (word s.pool) q)
      → length s.pool < s.used + openings_w L d d' s.pool q (pick L d d' (view L d (word s.pool) q)) → length s.pool < (take_w L d d' s q).words.used
  unfolding take_w openings_w
  take_past zero d' s q small g l sound m h past = absurd (omega (arith, g.fit))
  take_past (suc d) d' s q small g l sound m h past = go (ltb d' (suc d)) refl (take_past d d')
    where
      go : (x : Bool) → ltb d' (suc d) ≡ x
          → ((s : Words) (q : ℕ) → suc d < 8 → Readable L d s.pool s.used q → d' ≤ d → SoundTree L d (view L d (word s.pool) q) → Maxed L d s.pool q → suc d' ≤ largest d (view L d (word s.pool) q)
          → length s.pool < s.used + openings_w L d d' s.pool q (pick L d d' (view L d (word s.pool) q)) → length s.pool < (take_w L d d' s q).words.used)
          → length s.pool < (take_w L (suc d) d' s q).words.used
      go false e ih = absurd (omega (arith, g.fit, need-top L d d' s.pool q (pick L (suc d) d' (view L (suc d) (word s.pool) q)) e))
      go true e ih = rw (e, take_w) (elim (dec_le (open_w L d s q).used (length s.pool)) [ no full ↦ omega (arith, full, take-grows d d' S y) | yes room ↦ fits room ])
        where
          S : Words
          S = words (handed L d s q) (open_w L d s q).used

          y : ℕ
          y = child_at L d d' s q

          fits : (open_w L d s q).used ≤ length s.pool → length s.pool < (take_w L d d' S y).words.used
          fits room =
              let E = enter_w-open L d d' s q small g e sound m h room in
              let c = enter_w-child L E in
              let still : length S.pool < S.used + openings_w L d d' S.pool y (pick L d d' (child_tree L d d' s q)) = omega (arith, E.open_step.len, E.hand_step.len, E.need, open-words L d s q, past) in
              omega (
                arith,
                E.open_step.len,
                E.hand_step.len,
                ih S y (omega arith) (readable-child L d S.pool S.used q y E.readable c) (omega (arith, ltb-true d' (suc d) e)) E.sound (E.children y c) E.reach still,
              )

  -- AN ACQUIRE'S OWN USED COUNT SAYS WHETHER THE POOL LACKS ROOM
  pub take-lacks : (d' : ℕ) (p : List ℕ) (u : ℕ) → suc (top L) < 8 → SoundW L (top L) p u → d' ≤ top L → suc d' ≤ max_of (word p 0)
      → ltb (length p) (take_w L (top L) d' (words p u) 0).words.used ≡ ltb (length p) (u + openings_w L (top L) d' p 0 (pick_w L (top L) d' p 0))
  take-lacks d' p u small s l h =
      let t = view L (top L) (word p) 0 in
      let g = shape-readable L (top L) p u s.shape in
      let x = sound_w-tree L (top L) p u s in
      let big : suc d' ≤ largest (top L) t = omega (arith, sound_w-largest L (top L) p u s) in
      same_test (length p) (take_w L (top L) d' (words p u) 0).words.used (u + openings_w L (top L) d' p 0 (pick L (top L) d' t))
      (λ room. (take_w-done L (top L) d' (words p u) 0 small g l x.1 x.0 big room).words) (λ past. take_past (top L) d' (words p u) 0 small g l x.1 x.0 big past)
      ∙ ap (λ (b : ℕ). ltb (length p) (u + openings_w L (top L) d' p 0 b)) (sym (pick_w-is L (top L) d' p u 0 g x.1 x.0 big))

  -- ---- the seed
  -- a seed whose tree does not fit leaves used past the pool's length
  pub seed-past : (k : ℕ) (p : List ℕ) (u a e m : ℕ) → suc (top L) < 8 → SoundW L (top L) p u → a + m ≡ e → e ≤ frames L (top L) → Wholly (free L (top L) (view L (top L) (word p) 0)) a m false
      → length p < suc (tree_words (top L) (seed_from L k (view L (top L) (word p) 0) a e)) → length p < (seed_w L k (words p u) a e).used
  unfolding seed_w seed_from
  seed-past zero p u a e m small s x y h past = absurd (omega (arith, shape-used L (top L) p u s.shape, s.shape.high))
  seed-past (suc k) p u a e m small s x y h past₀ = go (ltb a e) refl (seed-past k) past₀
    where
      t : Tree (top L)
      t = view L (top L) (word p) 0

      c : ℕ
      c = largest_fit L (top L) a e

      go : (v : Bool) → ltb a e ≡ v
          → ((p : List ℕ) (u a e m : ℕ) → suc (top L) < 8 → SoundW L (top L) p u → a + m ≡ e → e ≤ frames L (top L) → Wholly (free L (top L) (view L (top L) (word p) 0)) a m false
          → length p < suc (tree_words (top L) (seed_from L k (view L (top L) (word p) 0) a e)) → length p < (seed_w L k (words p u) a e).used)
          → length p < suc (tree_words (top L) (seed_from L (suc k) t a e)) → length p < (seed_w L (suc k) (words p u) a e).used
      go false v ih past =
          let z : seed_from L (suc k) t a e ≡ t = rw (v, seed_from) in
          absurd (omega (arith, ap (tree_words (top L)) z, past, shape-used L (top L) p u s.shape, s.shape.high))
      go true v ih past = rw (v, seed_w) (elim (dec_le (u + openings_w L (top L) c p 0 a) (length p)) [
        | yes room ↦ fits room
        | no full ↦ omega (arith, store-past (top L) c (words p u) 0 a small (shape-readable L (top L) p u s.shape) (omega (arith, l)) (omega (arith, full)), seed-grows k o (a + frames L c) e)
      ])
        where
          o : Words
          o = store_w L (top L) c (words p u) 0 a

          l : a < e
          l = ltb-true a e v

          ok : (c ≤ top L) × (a % frames L c ≡ 0) × (a + frames L c ≤ e)
          ok = largest_fit-ok L (top L) a e l

          here : BlockIn L (top L) c a
          here = record { deep = ok.0; aligned = ok.1; fits = omega (arith, ok) }

          bl : Wholly (free L (top L) t) a (frames L c) false
          bl f p q = h f p (omega (arith, ok))

          dn : Made L (top L) c true t a (store L (top L) c t a)
          dn = store-done L (top L) c t a (sound_w-tree L (top L) p u s).1 here bl

          rest : Wholly (free L (top L) (store L (top L) c t a)) (a + frames L c) (m - frames L c) false
          rest f p q = dn.0.above f p (omega (arith, ok)) ∙ h f (omega arith) (omega (arith, ok))

          still : length p < suc (tree_words (top L) (seed_from L k (store L (top L) c t a) (a + frames L c) e))
          still = let z : seed_from L (suc k) t a e ≡ seed_from L k (store L (top L) c t a) (a + frames L c) e = rw (v, seed_from) in omega (arith, ap (tree_words (top L)) z, past)

          fits : u + openings_w L (top L) c p 0 a ≤ length p → length p < (seed_w L k o (a + frames L c) e).used
          fits room =
              let f = store_w-sound L (top L) c p u a small s here bl room in
              omega (
                arith,
                f.length,
                ih o.pool o.used (a + frames L c) e (m - frames L c) small f.sound (omega (arith, ok)) y
                    (subst (λ (y : Tree (top L)). Wholly (free L (top L) y) (a + frames L c) (m - frames L c) false) (sym f.tree) rest)
                    (subst (λ (y : Tree (top L)). length o.pool < suc (tree_words (top L) (seed_from L k y (a + frames L c) e))) (sym f.tree) (omega (arith, still, f.length))),
              )

  -- A SEED'S OWN USED COUNT SAYS WHETHER THE POOL LACKS ROOM
  pub seed-lacks : (p : List ℕ) (u a e : ℕ) → suc (top L) < 8 → SoundW L (top L) p u → a ≤ e → e ≤ frames L (top L) → Wholly (free L (top L) (view L (top L) (word p) 0)) a (e - a) false
      → ltb (length p) (seed_w L (e - a) (words p u) a e).used ≡ ltb (length p) (u + seed_openings_w L (e - a) p a e)
  seed-lacks p u a e small s l y h =
      let z : a + (e - a) ≡ e = omega arith in
      let o = seed_w L (e - a) (words p u) a e in
      let need = used-seed L (e - a) p u a e (e - a) s z y h in
      same_test (length p) o.used (u + seed_openings_w L (e - a) p a e)
      (λ room.
      let r = seed_w-done L (e - a) p u a e (e - a) small s z y h (omega (arith, need)) in
      sym (shape-used L (top L) o.pool o.used r.sound.shape) ∙ ap (λ (t : Tree (top L)). suc (tree_words (top L) t)) r.tree ∙ need)
      (λ past. seed-past (e - a) p u a e (e - a) small s z y h (omega (arith, need)))
