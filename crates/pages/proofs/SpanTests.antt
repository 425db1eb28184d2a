-- What the code reads of a start and an end, for the six sizes: n are a page's bytes, m those of memory. Assumes nothing.
use mathlib.Core.Path.{◌≡◌, sym, ap, ◌∙◌}
use Prim.Native.Nat.{ℕ, ◌%◌, ◌≤◌, ◌<◌}
use native.Mathlib.Omega.{arith}
use Rattle.sizes.specs.Ladder.{smallest, largest, bytes}
use Rattle.sizes.specs.Six.{six, most_code}
use Rattle.sizes.proofs.Six.{largest-most}
use Rattle.pages.specs.Span.{Spans, span_refusal}
use Rattle.pages.proofs.SeedTests.{span-past}

module _ (x y n m : ℕ) (en : n ≡ bytes six smallest) (em : m ≡ bytes six most_code) (a : x % n ≡ 0) (b : y % n ≡ 0) (l : x < y) where
  memory-is : m ≡ bytes six (largest six)
  memory-is = em ∙ ap (bytes six) (sym largest-most)

  pub spans-read : y ≤ m → Spans six x y
  spans-read w = record {
    start = ap (λ (k : ℕ). x % k) (sym en) ∙ a;
    end = ap (λ (k : ℕ). y % k) (sym en) ∙ b;
    some = l;
    within = omega (arith, w, memory-is);
  }

  pub past-read : m < y → 3 ≡ span_refusal six x y
  past-read w = sym (span-past six x y (ap (λ (k : ℕ). x % k) (sym en) ∙ a) (ap (λ (k : ℕ). y % k) (sym en) ∙ b) l (omega (arith, w, memory-is)))
