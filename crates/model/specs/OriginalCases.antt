-- Short journals put to the original, computed. The calls that the store refuses with other than 3 or 8 are not made.
use Rattle.std.specs.Prelude.{◌≡◌, [], ◌∷◌, suc}
use Rattle.std.proofs.Math.Option.{none, some}
use Rattle.sizes.specs.Six.{six}
use Rattle.model.specs.Ladder.{top}
use Rattle.model.specs.Calls.{seed, acquire, release}
use Rattle.model.specs.TreeStore.{fresh}
use Rattle.model.specs.Rust.{gives, ok, err}
use Rattle.model.specs.StandIns.{OutOfPages, init}
use Rattle.model.specs.Original.{empty_allocator}
use Rattle.model.specs.AsOriginal.{originals, transcript}

-- document 01's journal; its second release is not made
abbrev pub OriginalJournal : Type 0
OriginalJournal = originals six (transcript six 2 16384 (seed 524288 524294 ∷ acquire 1 ∷ acquire 2 ∷ acquire 1 ∷ release 524288 1 ∷ release 524288 1 ∷ acquire 1 ∷ []) (fresh six)) (empty_allocator (suc (top six)))
    ≡ gives (ok none ∷ ok (some (init 2147483648 1)) ∷ err OutOfPages ∷ ok (some (init 2147487744 1)) ∷ ok none ∷ ok (some (init 2147483648 1)) ∷ [])

-- the last free page dealt and given back: max falls to none, and rises again
abbrev pub OriginalDrained : Type 0
OriginalDrained = originals six (transcript six 2 16384 (seed 524288 524289 ∷ acquire 1 ∷ acquire 1 ∷ release 524288 1 ∷ acquire 1 ∷ []) (fresh six)) (empty_allocator (suc (top six)))
    ≡ gives (ok none ∷ ok (some (init 2147483648 1)) ∷ err OutOfPages ∷ ok none ∷ ok (some (init 2147483648 1)) ∷ [])

-- a page merged again and dealt: a part of it given back does not bring the rest back
abbrev pub OriginalParts : Type 0
OriginalParts = originals six (transcript six 2 16384 (seed 524288 524292 ∷ acquire 1 ∷ release 524288 1 ∷ acquire 2 ∷ release 524288 1 ∷ acquire 2 ∷ acquire 1 ∷ []) (fresh six)) (empty_allocator (suc (top six)))
    ≡ gives (ok none ∷ ok (some (init 2147483648 1)) ∷ ok none ∷ ok (some (init 2147483648 2)) ∷ ok none ∷ err OutOfPages ∷ ok (some (init 2147483648 1)) ∷ [])
