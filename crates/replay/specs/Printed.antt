-- What the program prints for a journal (document 01, 'Journal'): from the journal's bytes to the output's.
use Rattle.std.specs.Prelude.{◌≡◌, ◌⊎◌, List, [], ◌∷◌, ◌++◌, ℕ, zero, suc, ◌+◌, ◌≤◌, Bool, true, false, cond, eqb, length, drop, replicate}
use Rattle.std.specs.declared.option.Option.{Option}
use Rattle.std.specs.Io.KnownBytes.{Appends, Consumes, IsAtEnd}
use Rattle.sizes.specs.Six.{six}
use Rattle.pool.specs.Limits.{places, pool_limit}
use Rattle.pages.specs.Calls.{Store, served, fresh_reply}
use Rattle.journal.specs.declared.Line.{Line}
use Rattle.journal.specs.declared.Line.TheVariants.{Seed, Acquire, Release, Report, Bad, End}
use Rattle.journal.specs.Entries.{entry_of, read_at}
use Rattle.journal.specs.Steps.{line_of, call, none, asked}
use Rattle.journal.specs.Lines.{line_text}
use Rattle.journal.specs.Journals.{Replayed}

-- the pool has 16,384 words
abbrev pub pool_words : ℕ
pool_words = 16384

-- pool 16384
abbrev pub first_line : List ℕ
first_line = 112 ∷ 111 ∷ 111 ∷ 108 ∷ 32 ∷ 49 ∷ 54 ∷ 51 ∷ 56 ∷ 52 ∷ 10 ∷ []

-- the line of an entry that asks for no call: the end has none, a bad entry has one
abbrev pub last_lines : Line → List Line
last_lines (Seed r) = []
last_lines (Acquire r b k) = []
last_lines (Release r) = []
last_lines (Report r a f l u) = []
last_lines (Bad n) = Bad n ∷ []
last_lines End = []

-- the lines of the entries of some bytes, each served on the store that the last one left, up to the end or to a bad entry; at most n
unfoldable pub lines_from : (n : ℕ) → (bytes : List ℕ) → Store → List Line
lines_from zero j s = []
lines_from (suc n) j s = elim (asked (entry_of j)) [
  | call c ↦ line_of c (served six places pool_limit s c) ∷ lines_from n (drop (read_at j 0).next j) (served six places pool_limit s c).store
  | none l ↦ last_lines l
]

-- lines with their numbers, from n on
unfoldable pub numbered : (n : ℕ) → List Line → List ℕ
numbered n [] = []
numbered n (l ∷ ls) = line_text n l ++ numbered (n + 1) ls

-- the store that the program begins with
unfoldable pub new_store : Store
new_store = (fresh_reply six places pool_limit (replicate pool_words 0)).store

-- what is printed behind the first line: each entry takes a byte at least, and then there is the end
unfoldable pub after_first : List ℕ → List ℕ
after_first j = numbered 1 (lines_from (suc (length j)) j new_store)

-- THE OUTPUT OF A JOURNAL. The program's promise, on `run`, in words: of a reader that delivers the bytes j, all of `printed j` is written
-- behind what the writer held, where it ends well; where it ends with a failure, a first part of it. Where the reader's bytes or the writer's
-- are not known, as those of the standard ones, nothing is said of them
unfoldable pub printed : List ℕ → List ℕ
printed j = first_line ++ after_first j

-- THE OUTPUT IS THAT OF A REPLAY: the first line, and then the lines of the journal's replay on a new store, with their numbers. There is one
-- replay (`replays-unique`), and its calls keep the demands (`Journals`)
pub record IsOutput (j out : List ℕ) : Type 0 where
  pub replayed : Replayed j 0 new_store
  pub text : out ≡ first_line ++ numbered 1 replayed.lines

-- whether a line ends the run
abbrev pub is_last : Line → Bool
is_last (Seed r) = false
is_last (Acquire r b k) = false
is_last (Release r) = false
is_last (Report r a f l u) = false
is_last (Bad n) = true
is_last End = true

-- known bytes grow by the first bytes of a text
pub record AppendsPart (old new : Option (List ℕ)) (text : List ℕ) : Type 0 where
  pub part : List ℕ
  pub rest : List ℕ
  pub split : text ≡ part ++ rest
  pub appends : Appends old new part

-- some of what waits is written, the rest still waits
pub record Sends (old new : Option (List ℕ)) (before after : List ℕ) : Type 0 where
  pub sent : List ℕ
  pub split : before ≡ sent ++ after
  pub appends : Appends old new sent

-- how many bytes an entry of a kind has
abbrev pub kind_size : ℕ → ℕ
kind_size k = cond (eqb k 1) 17 (cond (eqb k 2) 2 (cond (eqb k 3) 10 1))

-- how many bytes the entry has that begins so: one at least
unfoldable pub size_of : List ℕ → ℕ
size_of [] = 1
size_of (k ∷ s) = kind_size k

-- the next entry's bytes are read: as many as it has, or all that are left
pub record ReadsEntry (old new : Option (List ℕ)) (s : List ℕ) : Type 0 where
  pub consumes : Consumes old new s
  pub fits : length s ≤ size_of s
  pub whole : (length s ≡ size_of s) ⊎ IsAtEnd new
