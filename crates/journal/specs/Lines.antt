-- The printed lines (document 01, 'Journal'), as bytes in ASCII.
use Rattle.std.specs.Prelude.{◌≡◌, cond, List, [], ◌∷◌, ◌++◌, ℕ, zero, suc, ◌+◌, ◌/◌, ◌≤◌, ltb, length, take, drop}
use Rattle.io.specs.Digits.{last_digits}
use Rattle.journal.specs.declared.Line.{Line}
use Rattle.journal.specs.declared.Line.TheVariants.{Seed, Acquire, Release, Report, Bad, End}

-- how many decimal digits a number has, at most one and so many more
unfoldable pub width : (more n : ℕ) → ℕ
width zero n = 1
width (suc more) n = cond (ltb n 10) 1 (suc (width more (n / 10)))

-- a number of 64 bits in decimal: the fewest digits, at most 20
unfoldable pub decimal : ℕ → List ℕ
decimal n = last_digits 10 (width 19 n) n

-- numbers, a space before each
unfoldable pub spaced : List ℕ → List ℕ
spaced [] = []
spaced (n ∷ ns) = (32 ∷ decimal n) ++ spaced ns

-- the words seed, acquire, release, report, bad
abbrev pub seed_name : List ℕ
seed_name = 115 ∷ 101 ∷ 101 ∷ 100 ∷ []

abbrev pub acquire_name : List ℕ
acquire_name = 97 ∷ 99 ∷ 113 ∷ 117 ∷ 105 ∷ 114 ∷ 101 ∷ []

abbrev pub release_name : List ℕ
release_name = 114 ∷ 101 ∷ 108 ∷ 101 ∷ 97 ∷ 115 ∷ 101 ∷ []

abbrev pub report_name : List ℕ
report_name = 114 ∷ 101 ∷ 112 ∷ 111 ∷ 114 ∷ 116 ∷ []

abbrev pub bad_name : List ℕ
bad_name = 98 ∷ 97 ∷ 100 ∷ []

-- a line is the entry's number, name, refusal number and results, with a space between each two and a line end
unfoldable pub printed : (number : ℕ) → (name numbers : List ℕ) → List ℕ
printed n name ns = decimal n ++ ((32 ∷ name) ++ (spaced ns ++ (10 ∷ [])))

-- the line of an entry with its number; at the end there is none
unfoldable pub line_text : (number : ℕ) → Line → List ℕ
line_text n (Seed r) = printed n seed_name (r ∷ [])
line_text n (Acquire r b k) = printed n acquire_name (r ∷ b.0 ∷ k ∷ [])
line_text n (Release r) = printed n release_name (r ∷ [])
line_text n (Report r a f l u) = printed n report_name (r ∷ a ∷ f ∷ l ∷ u ∷ [])
line_text n (Bad r) = printed n bad_name (r ∷ [])
line_text n End = []

-- how many bytes a line has at most: a report's number of 20 digits, space, name and line end, then five numbers of 20 digits, a space before each
abbrev pub longest_line : ℕ
longest_line = 133

-- a text is put behind the first `at` bytes, and r is the index behind it: the bytes before and behind it stay
pub record Put (before : List ℕ) (at : ℕ) (text : List ℕ) (r : ℕ) (after : List ℕ) : Type 0 where
  pub index : r ≡ at + length text
  pub bytes : take r after ≡ take at before ++ text
  pub rest : drop r after ≡ drop r before

-- THE PROMISE OF A LINE: its text is put behind the first `at` bytes, if there is room for the longest line; if there is none nothing changes
pub record Appends (before : List ℕ) (at : ℕ) (text : List ℕ) (r : ℕ) (after : List ℕ) : Type 0 where
  pub same_length : length after ≡ length before
  pub room : at + longest_line ≤ length before → (r ≤ at + longest_line) × Put before at text r after
  pub none : (at + longest_line ≤ length before → ⊥) → (r ≡ at) × (after ≡ before)
