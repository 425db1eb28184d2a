-- The words that a store leaves, and that a seed leaves, by what is read off the tree before it. Assumes nothing.
use mathlib.Core.Bool.{Bool, true, false}
use mathlib.Core.Path.{◌≡◌, refl, ◌∙◌}
use Prim.Native.Nat.{ℕ, zero, suc, ◌+◌, ◌-◌, ◌%◌, ◌≤◌, ◌<◌}
use native.Mathlib.Omega.{arith}
use lib.Dec.{ltb}
use borrow.Author.Tests.{ltb-true}
use Rattle.sizes.specs.Ladder.{Ladder}
use Rattle.model.proofs.Change.{store-done}
use Rattle.model.proofs.Seed.{largest_fit-ok}
use Rattle.model.proofs.SeedRoom.{seed_rest, seed_openings, After, after-later, after-need, later_refl, store-after}
use Rattle.model.proofs.Words.{words-store}
use Rattle.model.specs.Frames.{Wholly}
use Rattle.model.specs.Ladder.{frames, top}
use Rattle.model.specs.Laws.{BlockIn, Made}
use Rattle.model.specs.Tree.{Sound, Tree, free, store, words}
use Rattle.model.specs.TreeStore.{largest_fit, seed_from}

module _ (L : Ladder) where
  -- one block of a seed
  module _ (t : Tree (top L)) (a e m : ℕ) (s : Sound L (top L) t) (x : a + m ≡ e) (y : e ≤ frames L (top L)) (h : Wholly (free L (top L) t) a m false) (l : a < e) where
    size : ℕ
    size = largest_fit L (top L) a e

    ok : (largest_fit L (top L) a e ≤ top L) × (a % frames L (largest_fit L (top L) a e) ≡ 0) × (a + frames L (largest_fit L (top L) a e) ≤ e)
    ok = largest_fit-ok L (top L) a e l

    at : BlockIn L (top L) (largest_fit L (top L) a e) a
    at = record { deep = ok.0; aligned = ok.1; fits = omega (arith, ok) }

    done : Made L (top L) (largest_fit L (top L) a e) true t a (store L (top L) (largest_fit L (top L) a e) t a)
    done = store-done L (top L) (largest_fit L (top L) a e) t a s at (λ f p q. h f p (omega (arith, ok)))

    rest : Wholly (free L (top L) (store L (top L) (largest_fit L (top L) a e) t a)) (a + frames L (largest_fit L (top L) a e)) (m - frames L (largest_fit L (top L) a e)) false
    rest f p q = done.0.above f p (omega (arith, ok)) ∙ h f (omega arith) (omega (arith, ok))

  -- the stores after the first
  rest-words : (k : ℕ) (t t' : Tree (top L)) (a e m : ℕ) → Sound L (top L) t' → a + m ≡ e → e ≤ frames L (top L) → Wholly (free L (top L) t') a m false
      → (a < frames L (top L) → After L (top L) t t' a) → words (top L) (seed_from L k t' a e) ≡ words (top L) t' + seed_rest L k t a e
  unfolding seed_from seed_rest
  rest-words zero t t' a e m s x y h j = omega arith
  rest-words (suc k) t t' a e m s x y h j = go (ltb a e) refl (rest-words k t)
    where
      c : ℕ
      c = largest_fit L (top L) a e

      go : (v : Bool) → ltb a e ≡ v
          → ((t' : Tree (top L)) (a e m : ℕ) → Sound L (top L) t' → a + m ≡ e → e ≤ frames L (top L) → Wholly (free L (top L) t') a m false
          → (a < frames L (top L) → After L (top L) t t' a) → words (top L) (seed_from L k t' a e) ≡ words (top L) t' + seed_rest L k t a e)
          → words (top L) (seed_from L (suc k) t' a e) ≡ words (top L) t' + seed_rest L (suc k) t a e
      go false v ih = rw (v, seed_from, seed_rest) (omega arith)
      go true v ih =
          let l = ltb-true a e v in
          let o = ok t' a e m s x y h l in
          let p = at t' a e m s x y h l in
          let af = j (omega arith) in
          rw (v, seed_from, seed_rest) (omega (
            arith,
            ih (store L (top L) c t' a) (a + frames L c) e (m - frames L c) (done t' a e m s x y h l).1 (omega (arith, o)) y (rest t' a e m s x y h l)
                (λ q. store-after L (top L) c t t' a s p (after-later L (top L) t t' a af) q),
            words-store L (top L) c t' a s (omega arith),
            after-need L (top L) c t t' a af,
          ))

  -- A SEED'S WORDS, read off the tree before it
  pub seed-words : (k : ℕ) (t : Tree (top L)) (a e m : ℕ) → Sound L (top L) t → a + m ≡ e → e ≤ frames L (top L) → Wholly (free L (top L) t) a m false
      → words (top L) (seed_from L k t a e) ≡ words (top L) t + seed_openings L k t a e
  unfolding seed_from seed_openings
  seed-words zero t a e m s x y h = omega arith
  seed-words (suc k) t a e m s x y h = go (ltb a e) refl
    where
      c : ℕ
      c = largest_fit L (top L) a e

      go : (v : Bool) → ltb a e ≡ v → words (top L) (seed_from L (suc k) t a e) ≡ words (top L) t + seed_openings L (suc k) t a e
      go false v = rw (v, seed_from, seed_openings) (omega arith)
      go true v =
          let l = ltb-true a e v in
          let o = ok t a e m s x y h l in
          rw (v, seed_from, seed_openings) (omega (
            arith,
            rest-words k t (store L (top L) c t a) (a + frames L c) e (m - frames L c) (done t a e m s x y h l).1 (omega (arith, o)) y (rest t a e m s x y h l)
                (λ q. store-after L (top L) c t t a s (at t a e m s x y h l) (later_refl L (top L) t a) q),
            words-store L (top L) c t a s (omega arith),
          ))
