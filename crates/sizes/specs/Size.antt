-- A page size of the code, as a code of the ladder.
use Rattle.std.specs.Prelude.{◌≡◌, List, ◌++◌, ℕ, ◌≤◌, Result, MatchResult, Option, Some, None, codes}
use Rattle.std.specs.Fmt.{decimal}
use Rattle.sizes.specs.Six.{most_code}
use Rattle.sizes.specs.declared.page_size.PageSize.{PageSize}
use Rattle.sizes.specs.declared.page_size.PageSize.TheVariants.{Size4KiB, Size16KiB, Size2MiB, Size1GiB, Size512GiB, Size128TiB}
use Rattle.sizes.specs.declared.page_size.UnknownSize.{UnknownSize}

-- the code of a size
abbrev pub code_of : PageSize → ℕ
code_of Size4KiB = 1
code_of Size16KiB = 2
code_of Size2MiB = 3
code_of Size1GiB = 4
code_of Size512GiB = 5
code_of Size128TiB = 6

-- ... and 0 where there is none
abbrev pub code_or_none : Option PageSize → ℕ
code_or_none None = 0
code_or_none (Some s) = code_of s

-- a number that is the code of a size
abbrev pub IsSize : ℕ → Type 0
IsSize n = (1 ≤ n) × (n ≤ most_code)

-- the size with this code, or an error with a number that is no code
abbrev pub Decodes : ℕ → Result PageSize UnknownSize → Type 0
Decodes n r = MatchResult r (λ size. code_of size ≡ n) (λ e. (e.0 ≡ n) × (IsSize n → ⊥))

-- what a number that is no code prints
abbrev pub unknown_text : ℕ → List ℕ
unknown_text n = codes "no page size has code " ++ decimal n
