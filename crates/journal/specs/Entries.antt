-- A journal's entries (document 01, 'Journal'): each is one byte of kind, then a body whose length the kind fixes.
use Rattle.std.specs.Prelude.{cond, List, [], ◌∷◌, ℕ, ◌+◌, ◌*◌, leb, eqb, length, take, drop, codes}
use Rattle.sizes.specs.declared.Address.{Address}
use Rattle.journal.specs.declared.Entry.{Entry}
use Rattle.journal.specs.declared.Entry.TheVariants.{Seed, Acquire, Release, Report, Bad, End}
use Rattle.journal.specs.declared.Reading.{Reading}
use Rattle.journal.specs.declared.bad_entry.BadEntry.{BadEntry}
use Rattle.journal.specs.declared.bad_entry.BadEntry.TheVariants.{UnknownKind, CutShort}

-- numbers are little-endian
unfoldable pub number : List ℕ → ℕ
number [] = 0
number (b ∷ s) = b + 256 * number s

-- the address whose bytes these are
abbrev pub address : List ℕ → Address
address s = record { 0 = number s }

-- the refusal numbers of what is no entry: an unknown kind, a body cut short
abbrev pub bad_number : BadEntry → ℕ
bad_number UnknownKind = 12
bad_number CutShort = 13

-- what it prints
abbrev pub bad_text : BadEntry → List ℕ
bad_text UnknownKind = codes "no entry has that kind"
bad_text CutShort = codes "the entry is cut short"

-- how many bytes the bodies have; a report has none
abbrev pub seed_body : ℕ
seed_body = 16

abbrev pub acquire_body : ℕ
acquire_body = 1

abbrev pub release_body : ℕ
release_body = 9

-- a body of n bytes makes the entry; cut short it is refused with 13
abbrev pub whole : (n : ℕ) → List ℕ → Entry → Entry
whole n s e = cond (leb n (length s)) e (Bad 13)

-- seed: start, end (8 bytes each)
abbrev pub seed_of : List ℕ → Entry
seed_of s = whole seed_body s (Seed (address (take 8 s)) (address (take 8 (drop 8 s))))

-- acquire: code (1)
abbrev pub acquire_of : List ℕ → Entry
acquire_of s = whole acquire_body s (Acquire (number (take 1 s)))

-- release: base (8), code (1)
abbrev pub release_of : List ℕ → Entry
release_of s = whole release_body s (Release (address (take 8 s)) (number (take 1 (drop 8 s))))

-- the entry that begins the bytes: kind 1 seed, 2 acquire, 3 release, 4 report, whose body is none; an unknown kind is refused with 12
unfoldable pub entry_of : List ℕ → Entry
entry_of [] = End
entry_of (kind ∷ s) = cond (eqb kind 1) (seed_of s) (cond (eqb kind 2) (acquire_of s) (cond (eqb kind 3) (release_of s) (cond (eqb kind 4) Report (Bad 12))))

-- the index behind an entry whose body starts at one, in a journal of n bytes: behind what is no entry nothing is left
abbrev pub behind : Entry → (body n : ℕ) → ℕ
behind (Seed a e) b n = b + seed_body
behind (Acquire c) b n = b + acquire_body
behind (Release a c) b n = b + release_body
behind Report b n = b
behind (Bad k) b n = n
behind End b n = n

-- an entry whose body starts at an index, with the index behind it
abbrev pub reading : Entry → (body n : ℕ) → Reading
reading e b n = record { entry = e; next = behind e b n }

-- what is read where there is no entry, in a journal of n bytes
abbrev pub nothing : Entry → (n : ℕ) → Reading
nothing e n = record { entry = e; next = n }

-- what is read at an index of a journal
abbrev pub read_at : List ℕ → (at : ℕ) → Reading
read_at j at = reading (entry_of (drop at j)) (at + 1) (length j)
