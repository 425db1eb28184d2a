-- Document 01's journal, computed: its bytes, what is read at each entry, at a cut and at an unknown kind, and some of its lines.
use Rattle.std.specs.Prelude.{◌≡◌, List, [], ◌∷◌, ◌++◌, ℕ, take}
use Rattle.journal.specs.declared.Entry.{Entry}
use Rattle.journal.specs.declared.Entry.TheVariants.{Seed, Acquire, Release, Report, Bad, End}
use Rattle.journal.specs.declared.Reading.{Reading}
use Rattle.journal.specs.declared.Line.TheVariants.{Acquire as AcquireLine, Report as ReportLine, Bad as BadLine}
use Rattle.journal.specs.Entries.{read_at}
use Rattle.journal.specs.Lines.{line_text}

-- 2147483648 and 2147508224, little-endian
abbrev pub start : List ℕ
start = 0 ∷ 0 ∷ 0 ∷ 128 ∷ 0 ∷ 0 ∷ 0 ∷ 0 ∷ []

abbrev pub end : List ℕ
end = 0 ∷ 96 ∷ 0 ∷ 128 ∷ 0 ∷ 0 ∷ 0 ∷ 0 ∷ []

-- seed 2147483648 to 2147508224, acquire 1, acquire 2, acquire 1, release 2147483648 code 1 twice, report
abbrev pub document : List ℕ
document = (1 ∷ start) ++ (end ++ (2 ∷ 1 ∷ 2 ∷ 2 ∷ 2 ∷ 1 ∷ ((3 ∷ start) ++ (1 ∷ ((3 ∷ start) ++ (1 ∷ 4 ∷ []))))))

abbrev pub read : Entry → (next : ℕ) → Reading
read e n = record { entry = e; next = n }

pub record Document : Type 0 where
  pub seed : read_at document 0 ≡ read (Seed (record { 0 = 2147483648 }) (record { 0 = 2147508224 })) 17
  pub first : read_at document 17 ≡ read (Acquire 1) 19
  pub second : read_at document 19 ≡ read (Acquire 2) 21
  pub third : read_at document 21 ≡ read (Acquire 1) 23
  pub release : read_at document 23 ≡ read (Release (record { 0 = 2147483648 }) 1) 33
  pub again : read_at document 33 ≡ read (Release (record { 0 = 2147483648 }) 1) 43
  pub report : read_at document 43 ≡ read Report 44
  pub end : read_at document 44 ≡ read End 44
  -- a body cut short by a byte: of a seed, an acquire, a release
  pub cut_seed : read_at (take 16 document) 0 ≡ read (Bad 13) 16
  pub cut_acquire : read_at (take 18 document) 17 ≡ read (Bad 13) 18
  pub cut_release : read_at (take 32 document) 23 ≡ read (Bad 13) 32
  -- kinds 0 and 5, though their bodies would be cut short too
  pub unknown_low : read_at (0 ∷ []) 0 ≡ read (Bad 12) 1
  pub unknown_high : read_at (5 ∷ 1 ∷ []) 0 ≡ read (Bad 12) 2

pub record Printed : Type 0 where
  -- 2 acquire 0 2147483648 7
  pub acquire : line_text 2 (AcquireLine 0 (record { 0 = 2147483648 }) 7) ≡ 50 ∷ 32 ∷ 97 ∷ 99 ∷ 113 ∷ 117 ∷ 105 ∷ 114 ∷ 101 ∷ 32 ∷ 48 ∷ 32 ∷ 50 ∷ 49 ∷ 52 ∷ 55 ∷ 52 ∷ 56 ∷ 51 ∷ 54 ∷ 52 ∷ 56 ∷ 32 ∷ 55 ∷ 10 ∷ []
  -- 7 report 0 24576 20480 1 1423
  pub report : line_text 7 (ReportLine 0 24576 20480 1 1423) ≡ 55 ∷ 32 ∷ 114 ∷ 101 ∷ 112 ∷ 111 ∷ 114 ∷ 116 ∷ 32 ∷ 48 ∷ 32 ∷ 50 ∷ 52 ∷ 53 ∷ 55 ∷ 54 ∷ 32 ∷ 50 ∷ 48 ∷ 52 ∷ 56 ∷ 48 ∷ 32 ∷ 49 ∷ 32 ∷ 49 ∷ 52 ∷ 50 ∷ 51 ∷ 10 ∷ []
  -- 8 bad 13
  pub bad : line_text 8 (BadLine 13) ≡ 56 ∷ 32 ∷ 98 ∷ 97 ∷ 100 ∷ 32 ∷ 49 ∷ 51 ∷ 10 ∷ []
