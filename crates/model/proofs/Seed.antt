-- What seeding needs, and that it stores exactly its frames; the test of release for free frames says what it should. Assumes nothing.
use mathlib.Core.Path.{◌≡◌, refl, sym, ◌∙◌}
use mathlib.Core.Bool.{Bool, true, false, ◌&&◌, and-eq-true_iff, true≢false, false≢true}
use Prim.Native.Nat.{ℕ, zero, suc, ◌+◌, ◌*◌, ◌-◌, ◌/◌, ◌%◌, ◌≤◌, ◌<◌}
use native.Mathlib.Omega.{arith}
use native.Mathlib.Nat.{div-add-mod'}
use native.Mathlib.Decide.{ℕ_discrete}
use lib.Dec.{leb, ltb, eqb}
use borrow.Author.Tests.{ltb-true, ltb-false, leb-true, eqb-true, le-ltb, le-leb, eq-eqb}
use Rattle.sizes.specs.Ladder.{Ladder}
use Rattle.model.specs.Ladder.{frames, top}
use Rattle.model.specs.Frames.{Wholly, Changed}
use Rattle.model.specs.Lists.{maximum}
use Rattle.model.specs.Tree.{node, Tree, child, largest, free, Sound, store, pick}
use Rattle.model.specs.TreeStore.{any_free, largest_fit, seed_from}
use Rattle.model.specs.Laws.{BlockIn, Made}
use Rattle.model.proofs.Ladder.{frames-pos, frames-dvd}
use Rattle.model.proofs.Range.{child-no, child-at, same-child, shift}
use Rattle.model.proofs.Frames.{changed-append, changed-id}
use Rattle.model.proofs.Free.{quiet-free, frames-le, pick-lowest}
use Rattle.model.proofs.Change.{place_down, store-done}

module _ (L : Ladder) where
  -- the block that seeding stores next is aligned and ends in the region
  pub largest_fit-ok : (d a e : ℕ) → a < e → (largest_fit L d a e ≤ d) × (a % frames L (largest_fit L d a e) ≡ 0) × (a + frames L (largest_fit L d a e) ≤ e)
  unfolding largest_fit frames
  largest_fit-ok zero a e h = (omega arith, omega arith, omega arith)
  largest_fit-ok (suc d) a e h = go (eqb (a % frames L (suc d)) 0 && leb (a + frames L (suc d)) e) refl (largest_fit-ok d a e h)
    where
      go : (x : Bool) → (eqb (a % frames L (suc d)) 0 && leb (a + frames L (suc d)) e) ≡ x
          → (largest_fit L d a e ≤ d) × (a % frames L (largest_fit L d a e) ≡ 0) × (a + frames L (largest_fit L d a e) ≤ e)
          → (largest_fit L (suc d) a e ≤ suc d) × (a % frames L (largest_fit L (suc d) a e) ≡ 0) × (a + frames L (largest_fit L (suc d) a e) ≤ e)
      go true x ih =
          let y = (and-eq-true_iff (eqb (a % frames L (suc d)) 0) (leb (a + frames L (suc d)) e)).0 x in
          rw (x, largest_fit) (omega arith, eqb-true (a % frames L (suc d)) 0 y.0, leb-true (a + frames L (suc d)) e y.1)
      go false x ih = rw (x, largest_fit) (omega arith, ih.1, ih.2)

  -- ... and no larger one is
  pub largest_fit-most : (d a e d' : ℕ) → d' ≤ d → a % frames L d' ≡ 0 → a + frames L d' ≤ e → d' ≤ largest_fit L d a e
  unfolding largest_fit
  largest_fit-most zero a e d' l h k = l
  largest_fit-most (suc d) a e d' l h k = go (ℕ_discrete d' (suc d)) (eqb (a % frames L (suc d)) 0 && leb (a + frames L (suc d)) e) refl (λ m. largest_fit-most d a e d' m h k)
    where
      go : Dec (d' ≡ suc d) → (x : Bool) → (eqb (a % frames L (suc d)) 0 && leb (a + frames L (suc d)) e) ≡ x → (d' ≤ d → d' ≤ largest_fit L d a e) → d' ≤ largest_fit L (suc d) a e
      go p true x ih = rw (x, largest_fit) l
      go (no p) false x ih = rw (x, largest_fit) (ih (omega arith))
      go (yes p) false x ih = absurd (false≢true (sym x ∙ (and-eq-true_iff (eqb (a % frames L (suc d)) 0) (leb (a + frames L (suc d)) e)).1
          (eq-eqb (a % frames L (suc d)) 0 (rw p at h), le-leb (a + frames L (suc d)) e (rw p at k))))

  -- seeding that has come to the end
  pub seed-end : (k : ℕ) (t : Tree (top L)) (a e : ℕ) → e ≤ a → seed_from L k t a e ≡ t
  unfolding seed_from
  seed-end zero t a e h = refl
  seed-end (suc k) t a e h = rw (le-ltb a e h, seed_from)

  -- turns enough for the region's frames are as good as any more
  pub seed-turns : (j k : ℕ) (t : Tree (top L)) (a e : ℕ) → e ≤ a + j → e ≤ a + k → seed_from L j t a e ≡ seed_from L k t a e
  unfolding seed_from
  seed-turns zero k t a e x y = sym (seed-end k t a e (omega arith))
  seed-turns (suc j) zero t a e x y = seed-end (suc j) t a e (omega arith)
  seed-turns (suc j) (suc k) t a e x y = go (ltb a e) refl (seed-turns j k)
    where
      go : (v : Bool) → ltb a e ≡ v → ((t : Tree (top L)) (a e : ℕ) → e ≤ a + j → e ≤ a + k → seed_from L j t a e ≡ seed_from L k t a e) → seed_from L (suc j) t a e ≡ seed_from L (suc k) t a e
      go false v ih = rw (v, seed_from)
      go true v ih =
          let d = largest_fit L (top L) a e in
          rw (v, seed_from) (ih (store L (top L) d t a) (a + frames L d) e (omega (arith, frames-pos L d)) (omega (arith, frames-pos L d)))

  -- seeding frees exactly the frames from a to e
  pub seed-done : (k : ℕ) (t : Tree (top L)) (a e m : ℕ) → Sound L (top L) t → a + m ≡ e → e ≤ frames L (top L) → m ≤ k → Wholly (free L (top L) t) a m false
      → Changed (free L (top L) t) (free L (top L) (seed_from L k t a e)) (frames L (top L)) a m true × Sound L (top L) (seed_from L k t a e)
  unfolding seed_from
  seed-done zero t a e m s x y z h = (changed-id (free L (top L) t) (frames L (top L)) a m true (λ f p q. absurd (omega arith)), s)
  seed-done (suc k) t a e m s x y z h = go (ltb a e) refl (seed-done k)
    where
      go : (v : Bool) → ltb a e ≡ v
          → ((t : Tree (top L)) (a e m : ℕ) → Sound L (top L) t → a + m ≡ e → e ≤ frames L (top L) → m ≤ k → Wholly (free L (top L) t) a m false
          → Changed (free L (top L) t) (free L (top L) (seed_from L k t a e)) (frames L (top L)) a m true × Sound L (top L) (seed_from L k t a e))
          → Changed (free L (top L) t) (free L (top L) (seed_from L (suc k) t a e)) (frames L (top L)) a m true × Sound L (top L) (seed_from L (suc k) t a e)
      go false v ih = rw (v, seed_from) (changed-id (free L (top L) t) (frames L (top L)) a m true (λ f p q. absurd (omega (arith, ltb-false a e v))), s)
      go true v ih = rw (v, seed_from) (changed-append (free L (top L) t) (free L (top L) (store L (top L) c t a)) (free L (top L) (seed_from L k (store L (top L) c t a) (a + frames L c) e)) (frames L (top L)) a (frames L c) (m - frames L c) m true (omega (arith, ok)) (omega arith) r.0 q.0, q.1)
        where
          c : ℕ
          c = largest_fit L (top L) a e

          ok : (largest_fit L (top L) a e ≤ (top L)) × (a % frames L (largest_fit L (top L) a e) ≡ 0) × (a + frames L (largest_fit L (top L) a e) ≤ e)
          ok = largest_fit-ok (top L) a e (ltb-true a e v)

          r : Made L (top L) c true t a (store L (top L) c t a)
          r = store-done L (top L) c t a s (record { deep = ok.0; aligned = ok.1; fits = omega (arith, ok) }) (λ f p q. h f p (omega (arith, ok)))

          q : Changed (free L (top L) (store L (top L) c t a)) (free L (top L) (seed_from L k (store L (top L) c t a) (a + frames L c) e)) (frames L (top L)) (a + frames L c) (m - frames L c) true × Sound L (top L) (seed_from L k (store L (top L) c t a) (a + frames L c) e)
          q = ih (store L (top L) c t a) (a + frames L c) e (m - frames L c) r.1 (omega (arith, ok)) y (omega (arith, frames-pos L c))
              (λ f i j. r.0.above f i (omega (arith, ok)) ∙ h f (omega arith) (omega (arith, ok)))

  -- the test of release: no frame of the block is free
  pub any_free-false : (d d' : ℕ) (t : Tree d) (b : ℕ) → Sound L d t → BlockIn L d d' b → any_free L d d' t b ≡ false → Wholly (free L d t) b (frames L d') false
  unfolding any_free free largest
  any_free-false zero d' t b s p e f x y = e
  any_free-false (suc d) d' (node true ks) b s p e f x y = absurd (true≢false e)
  any_free-false (suc d) d' (node false ks) b s p e f x y = go (ltb d' (suc d)) refl (any_free-false d d' (child d ks (b / n)) (b % n) (s.children (b / n)))
    where
      n : ℕ
      n = frames L d

      go : (v : Bool) → ltb d' (suc d) ≡ v → (BlockIn L d d' (b % n) → any_free L d d' (child d ks (b / n)) (b % n) ≡ false → Wholly (free L d (child d ks (b / n))) (b % n) (frames L d') false)
          → free L d (child d ks (f / n)) (f % n) ≡ false
      go false v ih = quiet-free L (suc d) (node false ks) f (omega (arith, ltb-false 0 (maximum (largest d) ks) (rw (v, any_free) at e)))
      go true v ih =
          let l = frames-dvd L d' d (omega (arith, ltb-true d' (suc d) v)) in
          let c = same-child n (frames L d') b (frames-pos L d) l p.aligned f x y in
          let m = shift n (frames L d') b (frames-pos L d) l p.aligned f c in
          rw c (ih (place_down L d d' b p (ltb-true d' (suc d) v)) (rw (v, any_free) at e) (f % n) (omega (arith, m)) (omega (arith, m)))

  -- ... or one is
  pub any_free-true : (d d' : ℕ) (t : Tree d) (b : ℕ) → Sound L d t → BlockIn L d d' b → any_free L d d' t b ≡ true → (f : ℕ) × (b ≤ f) × (f < b + frames L d') × (free L d t f ≡ true)
  unfolding any_free free largest
  any_free-true zero d' t b s p e = (b, omega arith, omega (arith, frames-pos L d'), e)
  any_free-true (suc d) d' (node true ks) b s p e = (b, omega arith, omega (arith, frames-pos L d'), refl)
  any_free-true (suc d) d' (node false ks) b s p e = go (ltb d' (suc d)) refl (any_free-true d d' (child d ks (b / n)) (b % n) (s.children (b / n)))
    where
      n : ℕ
      n = frames L d

      go : (v : Bool) → ltb d' (suc d) ≡ v
          → (BlockIn L d d' (b % n) → any_free L d d' (child d ks (b / n)) (b % n) ≡ true → (f : ℕ) × (b % n ≤ f) × (f < b % n + frames L d') × (free L d (child d ks (b / n)) f ≡ true))
          → (f : ℕ) × (b ≤ f) × (f < b + frames L d') × (free L d (child d ks (f / n)) (f % n) ≡ true)
      go false v ih =
          let k = frames-le L (suc d) d' (ltb-false d' (suc d) v) in
          let q = pick-lowest L (suc d) 0 (node false ks) s (ltb-true 0 (maximum (largest d) ks) (rw (v, any_free) at e)) in
          let f = pick L (suc d) 0 (node false ks) in
          (f, omega (arith, p.fits), omega (arith, q.fits, frames-pos L 0), q.whole f (omega arith) (omega (arith, frames-pos L 0)))
      go true v ih =
          let r = ih (place_down L d d' b p (ltb-true d' (suc d) v)) (rw (v, any_free) at e) in
          let m = place_down L d d' b p (ltb-true d' (suc d) v) in
          let f = b / n * n + r.0 in (
            f,
            omega (arith, div-add-mod' b n, r.1),
            omega (arith, div-add-mod' b n, r.2),
            rw (child-no n f (b / n) r.0 refl (omega (arith, m.fits, r.2)), child-at n f (b / n) r.0 refl (omega (arith, m.fits, r.2))) r.3,
          )
