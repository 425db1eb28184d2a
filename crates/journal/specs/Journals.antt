-- A whole journal on a store: its entries one after the other, up to the end or to one that is refused with 12 or 13.
use Rattle.std.specs.Prelude.{◌≡◌, List, [], ◌∷◌, ◌++◌, ◌⊎◌, ℕ}
use Rattle.sizes.specs.Six.{six}
use Rattle.model.specs.Calls.{Call}
use Rattle.pool.specs.Limits.{places, pool_limit}
use Rattle.pages.specs.Calls.{Store, Reply}
use Rattle.demands.specs.Demands.{Runs}
use Rattle.journal.specs.declared.Line.{Line}
use Rattle.journal.specs.declared.Line.TheVariants.{Bad, End}
use Rattle.journal.specs.Entries.{read_at}
use Rattle.journal.specs.Steps.{line_of, Makes, asked, call, none}

-- from an index of the journal on, and a store: the lines in their order, and the store that is left
pub data Replays (j : List ℕ) : (at : ℕ) → Store → List Line → Store → Type 0 where
  ends : {at : ℕ} {s : Store} → asked (read_at j at).entry ≡ none End → Replays j at s [] s
  stops : {at : ℕ} {s : Store} (n : ℕ) → asked (read_at j at).entry ≡ none (Bad n) → Replays j at s (Bad n ∷ []) s
  makes : {at : ℕ} {s t u : Store} {lines : List Line} (c : Call) (line : Line) → asked (read_at j at).entry ≡ call c → Makes s c line t → Replays j (read_at j at).next t lines u → Replays j at s (line ∷ lines) u

-- the lines of calls and their replies
abbrev pub lines_of : List Call → List Reply → List Line
lines_of [] rs = []
lines_of (c ∷ cs) [] = []
lines_of (c ∷ cs) (r ∷ rs) = line_of c r ∷ lines_of cs rs

-- what a journal does is a run of calls, of which the demands speak; behind their lines there may be that of a bad entry
pub record AsRun (s : Store) (lines : List Line) (t : Store) : Type 0 where
  pub calls : List Call
  pub replies : List Reply
  pub runs : Runs six places pool_limit s calls replies t
  pub last : List Line
  pub bad : (last ≡ []) ⊎ ((n : ℕ) × (last ≡ Bad n ∷ []))
  pub prints : lines ≡ lines_of calls replies ++ last

-- the journal is replayed from an index on
pub record Replayed (j : List ℕ) (at : ℕ) (s : Store) : Type 0 where
  pub lines : List Line
  pub store : Store
  pub replays : Replays j at s lines store
