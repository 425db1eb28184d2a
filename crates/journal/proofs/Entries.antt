-- Laws of what is read from a journal. Assumes nothing.
use mathlib.Core.Path.{◌≡◌, refl}
use mathlib.Core.List.{List}
use Prim.Native.Nat.{ℕ, ◌+◌, ◌*◌, ◌≤◌, ◌<◌}
use native.Mathlib.Omega.{arith}
use native.Mathlib.Numerals.{add-one}
use lib.ListN.{length, get_or, take, drop, drop_of_length-le}
use lib.Seq.{drop-cons, length-take-le}
use Rattle.std.specs.Int.{w64, from_le_bytes}
use Rattle.journal.specs.declared.Entry.TheVariants.{End}
use Rattle.journal.specs.Entries.{number, entry_of, read_at, nothing}

-- a number's lowest byte stands first
number-from : (s : List ℕ) (k : ℕ) → k < length s → number (drop k s) ≡ get_or s k 0 + 256 * number (drop (k + 1) s)
unfolding number
number-from s k h = rw (drop-cons s k 0 h, add-one k) refl

-- the number of eight bytes
number-eight : (s : List ℕ) → length s ≡ 8 → number s ≡ from_le_bytes w64 s
unfolding number
number-eight s h =
    let n0 = number-from s 0 (omega arith) in
    let n1 = number-from s 1 (omega arith) in
    let n2 = number-from s 2 (omega arith) in
    let n3 = number-from s 3 (omega arith) in
    let n4 = number-from s 4 (omega arith) in
    let n5 = number-from s 5 (omega arith) in
    let n6 = number-from s 6 (omega arith) in
    let n7 = number-from s 7 (omega arith) in
    let none : number (drop 8 s) ≡ 0 = rw (drop_of_length-le s {i = 8} (omega arith)) refl in
    omega arith

-- ... and of the first eight
pub number_first : (s : List ℕ) → 8 ≤ length s → number (take 8 s) ≡ from_le_bytes w64 (take 8 s)
number_first s h = number-eight (take 8 s) (length-take-le 8 s h)

-- at the end there is nothing
pub none_read : (j : List ℕ) (at : ℕ) → length j ≤ at → nothing End (length j) ≡ read_at j at
unfolding entry_of
none_read j at h = rw (drop_of_length-le j {i = at} h)
