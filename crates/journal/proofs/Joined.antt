-- Entries that a read's end cuts are joined: an entry that is not cut short is the same whatever follows it. Assumes nothing.
use mathlib.Core.Path.{◌≡◌, refl, ap, ◌∙◌}
use mathlib.Core.Logic.{◌≢◌}
use mathlib.Core.Bool.{Bool, true, false, cond}
use mathlib.Core.List.{List, [], ◌∷◌, ◌++◌}
use Prim.Native.Nat.{ℕ, ◌+◌, ◌≤◌}
use native.Mathlib.Omega.{arith}
use lib.Dec.{leb, eqb}
use lib.ListN.{length, take, drop, length-append, length-drop}
use lib.Seq.{take-append-le, drop-append-le}
use borrow.Author.Tests.{le-leb, leb-true}
use Rattle.journal.specs.declared.Entry.{Entry}
use Rattle.journal.specs.declared.Entry.TheVariants.{Report, Bad, End}
use Rattle.journal.specs.Entries.{whole, seed_body, acquire_body, release_body, seed_of, acquire_of, release_of, entry_of, read_at}

-- a body that is not cut short is whole
uncut : (n : ℕ) (s : List ℕ) (e : Entry) → whole n s e ≢ Bad 13 → n ≤ length s
uncut n s e h = go (leb n (length s)) refl
  where
    go : (x : Bool) → leb n (length s) ≡ x → n ≤ length s
    go true q = leb-true n (length s) q
    go false q = absurd (h (rw q))

module _ (s t : List ℕ) where
  -- a whole body is whole before what follows
  whole_same : (n : ℕ) (e : Entry) → n ≤ length s → whole n (s ++ t) e ≡ whole n s e
  whole_same n e l =
      let l' : n ≤ length s + length t = omega arith in
      rw (length-append s t) (simp (le-leb n (length s + length t) l', le-leb n (length s) l))

  -- bytes from the ninth on
  ninth : (k : ℕ) → k + 8 ≤ length s → take k (drop 8 (s ++ t)) ≡ take k (drop 8 s)
  ninth k l =
      let d = length-drop 8 s in
      let a : 8 ≤ length s = omega (arith, l) in
      let b : k ≤ length (drop 8 s) = omega (arith, d, l) in
      rw (drop-append-le 8 s t a) (take-append-le k (drop 8 s) t b)

  seed-same : seed_of s ≢ Bad 13 → seed_of (s ++ t) ≡ seed_of s
  seed-same h =
      let l : seed_body ≤ length s = uncut seed_body s _ h in
      let a : 8 ≤ length s = omega (arith, l) in
      rw (take-append-le 8 s t a, ninth 8 l) (whole_same seed_body _ l)

  acquire-same : acquire_of s ≢ Bad 13 → acquire_of (s ++ t) ≡ acquire_of s
  acquire-same h =
      let l : acquire_body ≤ length s = uncut acquire_body s _ h in
      rw (take-append-le 1 s t l) (whole_same acquire_body _ l)

  release-same : release_of s ≢ Bad 13 → release_of (s ++ t) ≡ release_of s
  release-same h =
      let l : release_body ≤ length s = uncut release_body s _ h in
      let a : 8 ≤ length s = omega (arith, l) in
      rw (take-append-le 8 s t a, ninth 1 l) (whole_same release_body _ l)

-- THE ENTRY AT THE FRONT OF SOME BYTES, unless there is none yet or it is cut short, is that of all bytes that begin so
pub joined : (s t : List ℕ) → entry_of s ≢ End → entry_of s ≢ Bad 13 → entry_of (s ++ t) ≡ entry_of s
unfolding entry_of
joined [] t e h = absurd (e refl)
joined (kind ∷ s) t e h = go1 (eqb kind 1) (eqb kind 2) (eqb kind 3) (eqb kind 4) h
  where
    go1 : (a b c d : Bool) → cond a (seed_of s) (cond b (acquire_of s) (cond c (release_of s) (cond d Report (Bad 12)))) ≢ Bad 13
        → cond a (seed_of (s ++ t)) (cond b (acquire_of (s ++ t)) (cond c (release_of (s ++ t)) (cond d Report (Bad 12)))) ≡ cond a (seed_of s) (cond b (acquire_of s) (cond c (release_of s) (cond d Report (Bad 12))))
    go1 true b c d h = seed-same s t h
    go1 false true c d h = acquire-same s t h
    go1 false false true d h = release-same s t h
    go1 false false false true h = refl
    go1 false false false false h = refl

-- ... and at any index
pub joined_at : (j t : List ℕ) (at : ℕ) → at ≤ length j → (read_at j at).entry ≢ End → (read_at j at).entry ≢ Bad 13 → (read_at (j ++ t) at).entry ≡ (read_at j at).entry
joined_at j t at l e h = ap entry_of (drop-append-le at j t l) ∙ joined (drop at j) t e h
