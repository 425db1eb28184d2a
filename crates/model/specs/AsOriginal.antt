-- Demand 2, 'after the same accepted calls from a fresh store, each page dealt and each "out of pages" is the Rust's': the statement on trees.
use Rattle.std.specs.Prelude.{if◌then◌else◌, ◌≡◌, Bool, true, false, List, [], ◌∷◌, ℕ, suc, ◌*◌, ◌≤◌, ◌<◌, eqb}
use Rattle.std.proofs.Math.Option.{Option, none, some}
use Rattle.sizes.specs.Ladder.{Ladder, smallest, largest, bytes}
use Rattle.sizes.specs.Laws.{MultipliesUp}
use Rattle.model.specs.Ladder.{top}
use Rattle.model.specs.Calls.{Call, seed, acquire, release, report, Answer, refused, stored, dealt, reported}
use Rattle.model.specs.TreeStore.{State, fresh, step}
use Rattle.model.specs.Rust.{Ends, gives, ◌>>=◌, word, Result, ok, err, map_ok}
use Rattle.model.specs.StandIns.{Error, TooMuchMemory, OutOfPages, Page, init}
use Rattle.model.specs.Original.{PageAllocator, empty_allocator, add_memory_region, acquire_page, release_pages}

-- the calls that may be made to the original: those that the store accepts, and those whose refusal, 3 of a seed and 8 of an acquire, is an error of the original too
abbrev pub may_make : Call → Answer → Bool
may_make (seed a e) (refused n) = eqb n 3
may_make (acquire c) (refused n) = eqb n 8
may_make (release b c) (refused n) = false
may_make report (refused n) = false
may_make c stored = true
may_make c (dealt b p) = true
may_make c (reported x y z) = true

-- a call, and what the store answered to it
pub record Said : Type 0 where
  pub call : Call
  pub answer : Answer

-- what the original tells its caller: nothing, a page, or an error
abbrev pub Told : Type 0
Told = Result (Option Page) Error

module _ (L : Ladder) where
  -- usize has the end of the largest page
  abbrev pub Addressable : Type 0
  Addressable = bytes L (largest L) < word

  -- the address of a frame
  abbrev pub address : ℕ → ℕ
  address f = f * bytes L smallest

  -- an allocator whose root has the largest size
  abbrev pub Allocator : Type 0
  Allocator = PageAllocator (suc (top L))

  -- a call of the original; it has no report
  unfoldable pub original : Call → Allocator → Ends (Told × Allocator)
  original (seed a e) self = do
    (result, next) ← add_memory_region L (suc (top L)) (address a) (address e) self
    gives (map_ok (λ done. none) result, next)
  original (acquire c) self = do
    (result, next) ← acquire_page L (suc (top L)) c self
    gives (map_ok some result, next)
  original (release b c) self = do
    next ← release_pages L (suc (top L)) (init (address b) c ∷ []) self
    gives (ok none, next)
  original report self = gives (ok none, self)

  -- the store's answer in the original's words
  abbrev pub told : Call → Answer → Told
  told (seed a e) (refused n) = err TooMuchMemory
  told (acquire c) (refused n) = err OutOfPages
  told (release b c) (refused n) = ok none
  told report (refused n) = ok none
  told c stored = ok none
  told (seed a e) (dealt b p) = ok none
  told (acquire c) (dealt b p) = ok (some (init (address b) c))
  told (release a c) (dealt b p) = ok none
  told report (dealt b p) = ok none
  told c (reported x y z) = ok none

  -- what the original tells of the calls that may be made to it, in order
  unfoldable pub originals : List Said → Allocator → Ends (List Told)
  originals [] self = gives []
  originals (x ∷ xs) self = if may_make x.call x.answer
      then (do
        (result, next) ← original x.call self
        results ← originals xs next
        gives (result ∷ results))
      else originals xs self

  -- what the store told of the same calls
  unfoldable pub tellings : List Said → List Told
  tellings [] = []
  tellings (x ∷ xs) = if may_make x.call x.answer then told x.call x.answer ∷ tellings xs else tellings xs

  -- for a tree store of at most `most` regions and a pool of n words
  module _ (most n : ℕ) where
    -- the calls to a tree store in the state s, each with its answer
    unfoldable pub transcript : List Call → State L → List Said
    transcript [] s = []
    transcript (c ∷ cs) s = let o = step L most n s c in record { call = c; answer = o.answer } ∷ transcript cs o.state

    -- on a ladder whose sizes multiply up, from an empty allocator on, the original never panics, and each page dealt and each 'out of pages' is the tree store's
    abbrev pub AsOriginal : Type 0
    AsOriginal = MultipliesUp L → Addressable → 1 ≤ n → (cs : List Call) → let said = transcript cs (fresh L) in originals said (empty_allocator (suc (top L))) ≡ gives (tellings said)
