-- The codes of the page sizes, by cases. Assumes nothing.
use mathlib.Core.Path.{◌≡◌, refl, sym, ap, ◌∙◌}
use Prim.Native.Nat.{ℕ, zero, suc, ◌≤◌, ◌<◌}
use native.Mathlib.Omega.{arith}
use Rattle.sizes.specs.Ladder.{code, largest}
use Rattle.sizes.specs.Six.{six, most_code}
use Rattle.sizes.specs.Size.{code_of, IsSize}
use borrow.Author.Tests.{lt-leb, le-leb}
use denote.Enum.Bare.{sameb, same_true, same_false}
use mathlib.Core.Bool.{true, false}
use Rattle.sizes.specs.contracts.page_size.PageSize.{the_type}
use Rattle.sizes.specs.declared.page_size.PageSize.{PageSize}
use Rattle.sizes.specs.declared.page_size.PageSize.TheVariants.{Size4KiB, Size16KiB, Size2MiB, Size1GiB, Size512GiB, Size128TiB}

-- the code of a size is one
pub code-some : (s : PageSize) → 1 ≤ code_of s
code-some Size4KiB = omega arith
code-some Size16KiB = omega arith
code-some Size2MiB = omega arith
code-some Size1GiB = omega arith
code-some Size512GiB = omega arith
code-some Size128TiB = omega arith

pub code-not-none : (s : PageSize) → code_of s ≡ 0 → ⊥
code-not-none s z = omega (arith, z, code-some s)

pub code-most : (s : PageSize) → code_of s ≤ most_code
code-most Size4KiB = omega arith
code-most Size16KiB = omega arith
code-most Size2MiB = omega arith
code-most Size1GiB = omega arith
code-most Size512GiB = omega arith
code-most Size128TiB = omega arith

size-of : ℕ → PageSize
size-of zero = Size4KiB
size-of (suc zero) = Size4KiB
size-of (suc (suc zero)) = Size16KiB
size-of (suc (suc (suc zero))) = Size2MiB
size-of (suc (suc (suc (suc zero)))) = Size1GiB
size-of (suc (suc (suc (suc (suc zero))))) = Size512GiB
size-of (suc (suc (suc (suc (suc (suc c)))))) = Size128TiB

size-back : (s : PageSize) → size-of (code_of s) ≡ s
unfolding size-of
size-back Size4KiB = refl
size-back Size16KiB = refl
size-back Size2MiB = refl
size-back Size1GiB = refl
size-back Size512GiB = refl
size-back Size128TiB = refl

-- sizes of one code are one size
pub code-one : (s t : PageSize) → code_of s ≡ code_of t → s ≡ t
code-one s t e = sym (size-back s) ∙ ap size-of e ∙ size-back t

-- what `==` tells of the codes
pub same-size : (s t : PageSize) → sameb the_type s t ≡ true → code_of s ≡ code_of t
same-size s t e = ap code_of (same_true the_type tt s t e)

pub other-size : (s t : PageSize) → sameb the_type s t ≡ false → code_of s ≡ code_of t → ⊥
other-size s t e k = same_false the_type s t e (code-one s t k)

pub under-size : (s t : PageSize) → code_of t ≤ code_of s → sameb the_type s t ≡ false → code_of t < code_of s
under-size s t h e = omega (arith, h, λ (k : code_of s ≡ code_of t). other-size s t e k)

-- a number that decodes is its own code, any other has none
pub decoded : (s : PageSize) (n : ℕ) → code_of s ≡ n → code six n ≡ code_of s
unfolding code largest
decoded Size4KiB n e = rw (sym e) refl
decoded Size16KiB n e = rw (sym e) refl
decoded Size2MiB n e = rw (sym e) refl
decoded Size1GiB n e = rw (sym e) refl
decoded Size512GiB n e = rw (sym e) refl
decoded Size128TiB n e = rw (sym e) refl

pub undecoded : (n : ℕ) → (IsSize n → ⊥) → code six n ≡ 0
unfolding code largest
undecoded zero h = refl
undecoded (suc zero) h = absurd (h (omega arith, omega arith))
undecoded (suc (suc zero)) h = absurd (h (omega arith, omega arith))
undecoded (suc (suc (suc zero))) h = absurd (h (omega arith, omega arith))
undecoded (suc (suc (suc (suc zero)))) h = absurd (h (omega arith, omega arith))
undecoded (suc (suc (suc (suc (suc zero))))) h = absurd (h (omega arith, omega arith))
undecoded (suc (suc (suc (suc (suc (suc zero)))))) h = absurd (h (omega arith, omega arith))
undecoded (suc (suc (suc (suc (suc (suc (suc n))))))) h = rw (le-leb 1 (suc (suc (suc (suc (suc (suc (suc n))))))) (omega arith), lt-leb (suc (suc (suc (suc (suc (suc (suc n))))))) 6 (omega arith))

pub ruleset codes = (code-some, code-most, code-one)
