-- One step of a journal on a store (document 01, 'Journal'): which call an entry asks for, what is left of the store, and the numbers of the line.
use Rattle.std.specs.Prelude.{◌≡◌, List, ℕ}
use Rattle.sizes.specs.Six.{six}
use Rattle.model.specs.Calls.{Call, seed, acquire, release, report}
use Rattle.pool.specs.Limits.{places, pool_limit}
use Rattle.pages.specs.Calls.{Store, Reply, Replies}
use Rattle.journal.specs.declared.Entry.{Entry}
use Rattle.journal.specs.declared.Entry.TheVariants.{Seed, Acquire, Release, Report, Bad, End}
use Rattle.journal.specs.declared.Line.{Line}
use Rattle.journal.specs.declared.Line.TheVariants.{Seed as SeedLine, Acquire as AcquireLine, Release as ReleaseLine, Report as ReportLine, Bad as BadLine, End as NoLine}
use Rattle.journal.specs.Entries.{read_at}

-- a line is the entry's name, refusal number and results: base and probes of an acquire; seeded bytes, free bytes, largest and used words of a report
abbrev pub line_of : Call → Reply → Line
line_of (seed a e) r = SeedLine r.refusal
line_of (acquire c) r = AcquireLine r.refusal (record { 0 = r.base }) r.probes
line_of (release b c) r = ReleaseLine r.refusal
line_of report r = ReportLine r.refusal r.seeded r.free r.largest r.used

-- the call is made on the store s, which is t then: the line is that of a reply which the store promises
pub record Makes (s : Store) (c : Call) (line : Line) (t : Store) : Type 0 where
  pub reply : Reply
  pub replies : Replies six places pool_limit s c reply
  pub prints : line ≡ line_of c reply
  pub leaves : t ≡ reply.store

-- what an entry asks for: a call; or none, where its line says so by itself
pub data Asked : Type 0 where
  call : Call → Asked
  none : Line → Asked

abbrev pub asked : Entry → Asked
asked (Seed a e) = call (seed a.0 e.0)
asked (Acquire c) = call (acquire c)
asked (Release b c) = call (release b.0 c)
asked Report = call report
asked (Bad n) = none (BadLine n)
asked End = none NoLine

-- a call is made; where none is asked for, the line says so and the store stays
abbrev pub Does : Store → Asked → Line → Store → Type 0
Does s (call c) line t = Makes s c line t
Does s (none l) line t = (line ≡ l) × (t ≡ s)

-- THE PROMISE OF AN ENTRY: what it asks for is done
abbrev pub Serves : Store → Entry → Line → Store → Type 0
Serves s e line t = Does s (asked e) line t

-- THE PROMISE OF A STEP: the entry at an index of the journal is served, and the next index is behind it
pub record Steps (s : Store) (journal : List ℕ) (at : ℕ) (line : Line) (t : Store) (next : ℕ) : Type 0 where
  pub serves : Serves s (read_at journal at).entry line t
  pub goes : next ≡ (read_at journal at).next
