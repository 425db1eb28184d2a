-- Tests that antt computes over a table, and the laws that turn each into the fact at every code. Assumes nothing.
use mathlib.Core.Path.{subst, sym}
use mathlib.Core.Logic.{⊎_elim}
use mathlib.Core.Bool.{Bool, true, false, ◌&&◌}
use mathlib.Core.List.{List, [], ◌∷◌}
use Prim.Native.Nat.{ℕ, zero, suc, pred, ◌*◌, ◌≤◌, ◌<◌, zero-le}
use native.Mathlib.Omega.{arith}
use native.Mathlib.Nat.{eq-or-lt_of_le, not-suc-le-zero, le_of_suc-le-suc}
use native.Mathlib.Decide.{dec_le}
use lib.Dec.{T, eqb, leb, eqb→eq, leb→le}
use lib.ListN.{length, get_or, get_or-eq_default}
use Rattle.sizes.specs.Ladder.{Ladder, smallest, largest, bytes, fan_out}
use Rattle.sizes.specs.Laws.{MultipliesUp}

both : (a b : Bool) → T (a && b) → T a × T b
both true b t = (tt, t)
both false b t = absurd t

-- the test f passes at each number below n
abbrev all : (ℕ → Bool) → ℕ → Bool
all f zero = true
all f (suc n) = f n && all f n

all-at : (f : ℕ → Bool) (n : ℕ) → T (all f n) → (k : ℕ) → k < n → T (f k)
all-at f zero t k h = absurd (not-suc-le-zero h)
all-at f (suc n) t k h =
    ⊎_elim (λ e. subst (λ (m : ℕ). T (f m)) (sym e) (both (f n) (all f n) t).0) (λ l. all-at f n (both (f n) (all f n) t).1 k l)
    (eq-or-lt_of_le (le_of_suc-le-suc h))

-- no entry is above n
abbrev pub below : ℕ → List ℕ → Bool
below n [] = true
below n (x ∷ xs) = leb x n && below n xs

pub below_at : (n : ℕ) (xs : List ℕ) → T (below n xs) → (k : ℕ) → get_or xs k 0 ≤ n
below_at n [] t k = zero-le
below_at n (x ∷ xs) t zero = leb→le x n (both (leb x n) (below n xs) t).0
below_at n (x ∷ xs) t (suc k) = below_at n xs (both (leb x n) (below n xs) t).1 k

-- the step from code n + 1 to n + 2 multiplies up
unfoldable pub step : Ladder → ℕ → Bool
step L n = leb 2 (fan_out L (suc (suc n))) && eqb (bytes L (suc (suc n))) (fan_out L (suc (suc n)) * bytes L (suc n))

-- no children at codes 0 and 1, none above the largest code
unfoldable pub parents : Ladder → Bool
parents L = eqb (fan_out L 0) 0 && (eqb (fan_out L 1) 0 && leb (length L.fan_outs) (suc (largest L)))

-- there are 1 to 7 codes, the smallest is not empty, only those above it have children, and each step multiplies up
unfoldable pub multiplies : Ladder → Bool
multiplies L = leb smallest (largest L) && (leb (largest L) 7 && (leb 1 (bytes L smallest) && (parents L && all (step L) (pred (largest L)))))

parents-at : (L : Ladder) → T (parents L) → (c : ℕ) → 0 < fan_out L c → (smallest < c) × (c ≤ largest L)
unfolding parents fan_out
parents-at L t c h = (low c h, high (dec_le c (largest L)))
  where
    one : T (eqb (fan_out L 0) 0) × T (eqb (fan_out L 1) 0 && leb (length L.fan_outs) (suc (largest L)))
    one = both (eqb (fan_out L 0) 0) (eqb (fan_out L 1) 0 && leb (length L.fan_outs) (suc (largest L))) t

    two : T (eqb (fan_out L 1) 0) × T (leb (length L.fan_outs) (suc (largest L)))
    two = both (eqb (fan_out L 1) 0) (leb (length L.fan_outs) (suc (largest L))) one.1

    high : Dec (c ≤ largest L) → c ≤ largest L
    high (yes k) = k
    high (no k) = absurd (omega (arith, get_or-eq_default L.fan_outs 0 {n = c} (omega (arith, leb→le (length L.fan_outs) (suc (largest L)) two.1))))

    low : (c : ℕ) → 0 < fan_out L c → smallest < c
    low zero k = absurd (omega (arith, eqb→eq (fan_out L 0) 0 one.0))
    low (suc zero) k = absurd (omega (arith, eqb→eq (fan_out L 1) 0 two.0))
    low (suc (suc c)) k = omega arith

pub multiplies-up : (L : Ladder) → T (multiplies L) → MultipliesUp L
unfolding multiplies step
multiplies-up L t =
    record {
      some = leb→le smallest (largest L) some.0;
      few = leb→le (largest L) 7 few.0;
      page = leb→le 1 (bytes L smallest) page.0;
      parents = parents-at L parts.0;
      wide = λ c lo hi. leb→le 2 (fan_out L (suc c)) (at c lo hi).0;
      multiply = λ c lo hi. eqb→eq (bytes L (suc c)) (fan_out L (suc c) * bytes L c) (at c lo hi).1;
    }
  where
    steps : Bool
    steps = parents L && all (step L) (pred (largest L))

    some : T (leb smallest (largest L)) × T (leb (largest L) 7 && (leb 1 (bytes L smallest) && steps))
    some = both (leb smallest (largest L)) (leb (largest L) 7 && (leb 1 (bytes L smallest) && steps)) t

    few : T (leb (largest L) 7) × T (leb 1 (bytes L smallest) && steps)
    few = both (leb (largest L) 7) (leb 1 (bytes L smallest) && steps) some.1

    page : T (leb 1 (bytes L smallest)) × T steps
    page = both (leb 1 (bytes L smallest)) steps few.1

    parts : T (parents L) × T (all (step L) (pred (largest L)))
    parts = both (parents L) (all (step L) (pred (largest L))) page.1

    at : (c : ℕ) → smallest ≤ c → c < largest L → T (leb 2 (fan_out L (suc c))) × T (eqb (bytes L (suc c)) (fan_out L (suc c) * bytes L c))
    at zero lo hi = absurd (omega arith)
    at (suc c) lo hi =
        both (leb 2 (fan_out L (suc (suc c)))) (eqb (bytes L (suc (suc c))) (fan_out L (suc (suc c)) * bytes L (suc c)))
        (all-at (step L) (pred (largest L)) parts.1 c (omega arith))
