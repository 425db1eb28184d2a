-- Counts over a run of numbers, and the blocks that have a frame in a region, by overlaps. Assumes nothing.
use mathlib.Core.Path.{◌≡◌, refl, sym, ap, ◌∙◌}
use mathlib.Core.Bool.{Bool, true, false, ◌&&◌, not, and-false, and-true}
use mathlib.Core.List.{List}
use Prim.Native.Nat.{ℕ, zero, suc, ◌+◌, ◌*◌, ◌-◌, ◌≤◌, ◌<◌}
use native.Mathlib.Omega.{arith}
use native.Mathlib.Nat.{zero-add}
use lib.Dec.{eqb}
use borrow.Author.Tests.{ne_eqb}
use Rattle.model.specs.Frames.{bit, count}
use Rattle.model.specs.Calls.{Region, seeded, Regions}
use Rattle.model.specs.Lists.{sum}
use Rattle.model.specs.TreeStore.{overlap}
use Rattle.model.specs.FrameStore.{all_below, bare}
use Rattle.model.proofs.Frames.{count_same, count-all, count-append}
use Rattle.model.proofs.Regions.{covered-count}

-- nothing is counted exactly if no number passes
count_none : (g : ℕ → Bool) (n : ℕ) → eqb (count g n) 0 ≡ all_below (λ j. not (g j)) n
unfolding count all_below
count_none g zero = refl
count_none g (suc n) = go (g n) (count_none g n)
  where
    go : (v : Bool) → eqb (count g n) 0 ≡ all_below (λ j. not (g j)) n → eqb (bit v + count g n) 0 ≡ (all_below (λ j. not (g j)) n && not v)
    go true ih = ne_eqb (1 + count g n) 0 (λ e. omega arith) ∙ sym (and-false (all_below (λ j. not (g j)) n))
    go false ih = ap (λ (m : ℕ). eqb m 0) (zero-add (count g n)) ∙ ih ∙ sym (and-true (all_below (λ j. not (g j)) n))

-- the block overlaps no region exactly if none of its frames lies in one
pub bare-is : (N b s : ℕ) (rs : List Region) → Regions N rs → eqb (sum (overlap b s) rs) 0 ≡ bare (seeded rs) b s
unfolding bare
bare-is N b s rs k = ap (λ (m : ℕ). eqb m 0) (sym (covered-count N b s rs k)) ∙ count_none (λ j. seeded rs (b + j)) s

-- a run of n numbers from a on that all pass, or none
count-fill : (g : ℕ → Bool) (v : Bool) (a n m : ℕ) → a + n ≡ m → ((f : ℕ) → a ≤ f → f < m → g f ≡ v) → count g m ≡ count g a + bit v * n
count-fill g v a n m e h =
    ap (count g) (sym e) ∙ count-append g a n
    ∙ omega (arith, count_same (λ f. g (a + f)) (λ f. v) n (λ f l. h (a + f) (omega arith) (omega arith)), count-all (λ f. v) v n (λ f. refl))

-- of a count with nothing below lo, nothing past hi and all between only the first and the last are open
module _ (g : ℕ → Bool) (lo hi n : ℕ) (ends : hi < n) (below : (i : ℕ) → i < lo → g i ≡ false) (past : (i : ℕ) → hi < i → i < n → g i ≡ false) where
  to-first : count g (suc lo) ≡ bit (g lo)
  unfolding count
  to-first = omega (arith, count-fill g false 0 lo lo (omega arith) (λ f p q. below f q))

  to_last : count g n ≡ bit (g hi) + count g hi
  unfolding count
  to_last = omega (arith, count-fill g false (suc hi) (n - suc hi) n (omega arith) (λ f p q. past f p q))

  pub count-single : lo ≡ hi → count g n ≡ bit (g lo)
  unfolding count
  count-single e = to_last ∙ sym (ap (λ (i : ℕ). count g (suc i)) e) ∙ to-first

  pub count-run : lo < hi → ((i : ℕ) → lo < i → i < hi → g i ≡ true) → count g n ≡ bit (g lo) + (hi - suc lo) + bit (g hi)
  count-run l between = omega (arith, to_last, to-first, count-fill g true (suc lo) (hi - suc lo) hi (omega arith) between)
