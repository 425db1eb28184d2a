-- The way to a block, and the words that a seed would open, at the code's own numbers. Assumes nothing.
use mathlib.Core.Bool.{Bool, true, false}
use mathlib.Core.List.{List}
use mathlib.Core.Path.{◌≡◌, refl, ap, ap₂, ◌∙◌}
use Prim.Native.Nat.{ℕ, zero, suc, pred, ◌+◌, ◌-◌, ◌/◌, ◌%◌, ◌≤◌, ◌<◌}
use native.Mathlib.Numerals.{sub-one}
use native.Mathlib.Omega.{arith}
use lib.Dec.{ltb}
use borrow.Author.Tests.{lt-ltb, le-ltb, ltb-true}
use Rattle.sizes.specs.Ladder.{fan_out, largest as largest_code}
use Rattle.sizes.specs.Six.{six, most_code}
use Rattle.model.proofs.Ladder.{frames-pos}
use Rattle.model.specs.Ladder.{fan, frames, top}
use Rattle.model.specs.TreeStore.{largest_fit}
use Rattle.pool.specs.Limits.{most_frames}
use Rattle.pool.specs.Room.{any_free_w, openings_after_w, openings_w, path, path_after, seed_openings_w, seed_rest_w}
use Rattle.pool.specs.Words.{first_child, frames_of, link_of, word}
use Rattle.pool.specs.Asks.{NeedAsk}
use Rattle.pool.specs.Blocks.{Readable}
use Rattle.pool.proofs.AnyFree.{free-down}
use Rattle.pool.proofs.Need.{NeedDown, need-down-at}
use Rattle.pool.proofs.Sizes.{frames-below}

-- ---- one level down, by the link that the code reads and the child's place and frame that it goes on with
module _ (level code : ℕ) (p : List ℕ) (q b link y b' : ℕ) (lo : 1 ≤ code) (l : code < level) (e : link ≡ link_of (word p q)) (ne : link ≡ 0 → ⊥)
    (ey : y ≡ link + 1 + b / frames_of six (level - 1)) (eb : b' ≡ b % frames_of six (level - 1)) where
  opened : link_of (word p q) ≡ 0 → ⊥
  opened z = ne (e ∙ z)

  at : y ≡ first_child p q + b / frames six (pred (pred level))
  at = omega (arith, ey, ap (λ (x : ℕ). b / x) (frames-below level (omega arith)))

  within : b' ≡ b % frames six (pred (pred level))
  within = eb ∙ ap (λ (x : ℕ). b % x) (frames-below level (omega arith))

  pub need-below : NeedAsk level code p q b → NeedDown level code p q b (level - 1) y b'
  need-below a = need-down-at level code p q b (level - 1) y b' a l opened (sub-one level) at within

  pub free-below : (word p q / 8 % 2 ≡ 1 → ⊥) → any_free_w six (pred level) (pred code) p q b ≡ any_free_w six (pred (level - 1)) (pred code) p y b'
  free-below t = free-down level code p q b (level - 1) y b' t lo l opened (sub-one level) at within

  -- where the frame before the block was stored since
  pub needed-down : (b ≡ 0 → ⊥) → openings_after_w six (pred level) (pred code) p q b ≡ openings_after_w six (pred (level - 1)) (pred code) p y b'
  unfolding openings_after_w
  needed-down nb = rw (at, within, sub-one level) (go level code b lo l nb (link_of (word p q)) refl)
    where
      go : (level code b : ℕ) → 1 ≤ code → code < level → (b ≡ 0 → ⊥) → (v : ℕ) → link_of (word p q) ≡ v
          → openings_after_w six (pred level) (pred code) p q b ≡ openings_after_w six (pred (pred level)) (pred code) p (first_child p q + b / frames six (pred (pred level))) (b % frames six (pred (pred level)))
      go zero code b k l nb v z = absurd (omega arith)
      go (suc zero) code b k l nb v z = absurd (omega arith)
      go (suc (suc d)) code zero k l nb v z = absurd (nb refl)
      go (suc (suc d)) zero (suc b) k l nb v z = absurd (omega arith)
      go (suc (suc d)) (suc d') (suc b) k l nb zero z = absurd (opened z)
      go (suc (suc d)) (suc d') (suc b) k l nb (suc j) z = rw (lt-ltb d' (suc d) (omega arith), openings_after_w, z)

-- ---- the words of a path, where the frame before the block was stored since
pub after_first : (level code : ℕ) → path_after six (pred level) (pred code) 0 ≡ path six (pred level) (pred code)
unfolding path_after path
after_first zero code = refl
after_first (suc zero) code = refl
after_first (suc (suc d)) code = refl

pub after-here : (level code b : ℕ) → 1 ≤ code → level ≤ code → (b ≡ 0 → ⊥) → path_after six (pred level) (pred code) b ≡ 0
unfolding path_after
after-here zero code b k l ne = refl
after-here (suc zero) code b k l ne = refl
after-here (suc (suc d)) code zero k l ne = absurd (ne refl)
after-here (suc (suc d)) zero (suc b) k l ne = absurd (omega arith)
after-here (suc (suc d)) (suc d') (suc b) k l ne = rw (le-ltb d' (suc d) (omega arith), path_after)

pub after-down : (level code b size : ℕ) → 1 ≤ code → code < level → (b ≡ 0 → ⊥) → size ≡ frames_of six (level - 1) → path_after six (pred level) (pred code) b ≡ path_after six (pred (level - 1)) (pred code) (b % size)
unfolding path_after
after-down level code b size k l ne f = rw (f, frames-below level (omega arith), sub-one level) (go level code b k l ne)
  where
    go : (level code b : ℕ) → 1 ≤ code → code < level → (b ≡ 0 → ⊥) → path_after six (pred level) (pred code) b ≡ path_after six (pred (pred level)) (pred code) (b % frames six (pred (pred level)))
    go zero code b k l ne = absurd (omega arith)
    go (suc zero) code b k l ne = absurd (omega arith)
    go (suc (suc d)) code zero k l ne = absurd (ne refl)
    go (suc (suc d)) zero (suc b) k l ne = absurd (omega arith)
    go (suc (suc d)) (suc d') (suc b) k l ne = rw (lt-ltb d' (suc d) (omega arith), path_after)

-- ---- the same from a node of the pool on
pub needed-first : (level code : ℕ) (p : List ℕ) (q : ℕ) → openings_after_w six (pred level) (pred code) p q 0 ≡ openings_w six (pred level) (pred code) p q 0
unfolding openings_after_w openings_w
needed-first zero code p q = refl
needed-first (suc zero) code p q = refl
needed-first (suc (suc d)) code p q = refl

pub needed_here : (level : ℕ) (p : List ℕ) (q b : ℕ) → (b ≡ 0 → ⊥) → openings_after_w six (pred level) (pred level) p q b ≡ 0
unfolding openings_after_w
needed_here zero p q b ne = refl
needed_here (suc zero) p q b ne = refl
needed_here (suc (suc d)) p q zero ne = absurd (ne refl)
needed_here (suc (suc d)) p q (suc b) ne = rw (le-ltb (suc d) (suc d) (omega arith), openings_after_w)

pub needed-shut : (level code : ℕ) (p : List ℕ) (q b : ℕ) → 1 ≤ code → code < level → (b ≡ 0 → ⊥) → link_of (word p q) ≡ 0 → openings_after_w six (pred level) (pred code) p q b ≡ path_after six (pred level) (pred code) b
unfolding openings_after_w path_after
needed-shut zero code p q b k l ne z = absurd (omega arith)
needed-shut (suc zero) code p q b k l ne z = absurd (omega arith)
needed-shut (suc (suc d)) code p q zero k l ne z = absurd (ne refl)
needed-shut (suc (suc d)) zero p q (suc b) k l ne z = absurd (omega arith)
needed-shut (suc (suc d)) (suc d') p q (suc b) k l ne z = rw (lt-ltb d' (suc d) (omega arith), openings_after_w, path_after, z)

-- ---- a seed's blocks, one after the other
-- a seed of n frames has n blocks at most: more fuel changes nothing
rest-fuel : (k j : ℕ) (p : List ℕ) (a e : ℕ) → e - a ≤ k → e - a ≤ j → seed_rest_w six k p a e ≡ seed_rest_w six j p a e
unfolding seed_rest_w
rest-fuel zero zero p a e h g = refl
rest-fuel zero (suc j) p a e h g = rw (le-ltb a e (omega arith), seed_rest_w)
rest-fuel (suc k) zero p a e h g = rw (le-ltb a e (omega arith), seed_rest_w)
rest-fuel (suc k) (suc j) p a e h g = go (ltb a e) refl (rest-fuel k j p)
  where
    go : (v : Bool) → ltb a e ≡ v → ((a e : ℕ) → e - a ≤ k → e - a ≤ j → seed_rest_w six k p a e ≡ seed_rest_w six j p a e) → seed_rest_w six (suc k) p a e ≡ seed_rest_w six (suc j) p a e
    go false l ih = rw (l, seed_rest_w)
    go true l ih =
        let c = largest_fit six (top six) a e in
        let x : e - (a + frames six c) ≤ k = omega (arith, ltb-true a e l, frames-pos six c) in
        let y : e - (a + frames six c) ≤ j = omega (arith, ltb-true a e l, frames-pos six c) in
        rw (l, seed_rest_w) (ap (λ (n : ℕ). openings_after_w six (top six) c p 0 a + n) (ih (a + frames six c) e x y))

-- root and code as the code has them, f the block's frames
module _ (p : List ℕ) (a e root code f : ℕ) (l : a < e) (r : root ≡ largest_code six) (c : code ≡ suc (largest_fit six (top six) a e)) (g : f ≡ frames_of six code) where
  top-is : pred root ≡ top six
  unfolding top
  top-is = ap pred r

  fit_is : pred code ≡ largest_fit six (top six) a e
  fit_is = ap pred c

  size_is : f ≡ frames six (largest_fit six (top six) a e)
  size_is = g ∙ ap (frames_of six) c

  -- the first block's words and the rest's
  pub seed-first : (n : ℕ) → n ≡ openings_w six (pred root) (pred code) p 0 a → n + seed_rest_w six (e - (a + f)) p (a + f) e ≡ seed_openings_w six (e - a) p a e
  unfolding seed_openings_w
  seed-first n h = go (e - a) refl
    where
      go : (k : ℕ) → e - a ≡ k → n + seed_rest_w six (e - (a + f)) p (a + f) e ≡ seed_openings_w six (e - a) p a e
      go zero z = absurd (omega arith)
      go (suc k) z =
          let x : e - (a + f) ≤ k = omega (arith, size_is, frames-pos six (largest_fit six (top six) a e)) in
          let y = rest-fuel (e - (a + f)) k p (a + f) e (omega arith) x in
          rw (z, lt-ltb a e l, seed_openings_w)
          (ap₂ (λ (i j : ℕ). i + j) (h ∙ ap₂ (λ (i j : ℕ). openings_w six i j p 0 a) top-is fit_is) (y ∙ ap (λ (i : ℕ). seed_rest_w six k p (a + i) e) size_is))

  -- ... and the same of each later block
  pub seed-next : (n : ℕ) → n ≡ openings_after_w six (pred root) (pred code) p 0 a → n + seed_rest_w six (e - (a + f)) p (a + f) e ≡ seed_rest_w six (e - a) p a e
  unfolding seed_rest_w
  seed-next n h = go (e - a) refl
    where
      go : (k : ℕ) → e - a ≡ k → n + seed_rest_w six (e - (a + f)) p (a + f) e ≡ seed_rest_w six (e - a) p a e
      go zero z = absurd (omega arith)
      go (suc k) z =
          let x : e - (a + f) ≤ k = omega (arith, size_is, frames-pos six (largest_fit six (top six) a e)) in
          let y = rest-fuel (e - (a + f)) k p (a + f) e (omega arith) x in
          rw (z, lt-ltb a e l, seed_rest_w)
          (ap₂ (λ (i j : ℕ). i + j) (h ∙ ap₂ (λ (i j : ℕ). openings_after_w six i j p 0 a) top-is fit_is) (y ∙ ap (λ (i : ℕ). seed_rest_w six k p (a + i) e) size_is))

-- nothing is left behind the end
pub seed-none : (p : List ℕ) (a e : ℕ) → e ≤ a → seed_rest_w six (e - a) p a e ≡ 0
unfolding seed_rest_w
seed-none p a e h = let z : e - a ≡ 0 = omega arith in rw (z, seed_rest_w)

-- the way from the root to a seed's block may be read
pub seed-ask : (root code : ℕ) (p : List ℕ) (u a e : ℕ) → Readable six (top six) p u 0 → a < e → e ≤ most_frames → root ≡ largest_code six → 1 ≤ code → code ≤ most_code → NeedAsk root code p 0 a
unfolding top largest_code frames fan fan_out
seed-ask root code p u a e g l h r lo hi = rw r (record { lo = lo; deep = hi; hi = omega arith; used = u; readable = g; base = omega arith })
