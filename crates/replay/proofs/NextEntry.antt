-- The bytes of the next entry say what it is, whatever follows them. Assumes nothing.
use Rattle.std.proofs.Common.{◌≡◌, ◌≤◌, ◌<◌, ◌≢◌, ℕ, suc, List, [], ◌∷◌, ◌++◌, length, take, get_or, arith, refl, sym, ap, ◌∙◌, append-nil, append_assoc, None, Some, Result, Ok, Err, IfOk}
use mathlib.Core.Bool.{Bool, true, false, cond}
use mathlib.Core.Logic.{◌⊎◌, inl, inr}
use lib.Dec.{leb, eqb}
use lib.Seq.{length-take-le}
use lib.ListN.{get_or-append}
use borrow.Author.Tests.{leb-true, leb-false}
use native.Mathlib.Decide.{dec_le}
use Rattle.std.proofs.lemmas.List.{get_or-take}
use Rattle.std.specs.declared.option.Option.{Option}
use Rattle.std.specs.Io.KnownBytes.{Consumes, IsAtEnd, prepend_known}
use Rattle.model.specs.Calls.{Call}
use Rattle.journal.specs.declared.Entry.{Entry}
use Rattle.journal.specs.declared.Entry.TheVariants.{Seed, Acquire, Release, Report, Bad, End}
use Rattle.journal.specs.Entries.{whole, seed_of, acquire_of, release_of, entry_of, behind}
use Rattle.journal.specs.Steps.{call, asked}
use Rattle.journal.proofs.Joined.{joined}
use Rattle.replay.specs.Printed.{kind_size, size_of, ReadsEntry}

-- the size of an entry is that of its kind
size-is : (s : List ℕ) → 0 < length s → size_of s ≡ kind_size (get_or s 0 0)
unfolding size_of
size-is [] h = absurd (omega arith)
size-is (k ∷ s) h = refl

-- the first byte stays
first-same : (n : ℕ) (e0 e1 : List ℕ) → 0 < n → take 1 e1 ≡ take 1 e0 → get_or (take n e1) 0 0 ≡ get_or e0 0 0
first-same n e0 e1 h e = get_or-take n e1 0 0 h ∙ sym (get_or-take 1 e1 0 0 (omega arith)) ∙ ap (λ (l : List ℕ). get_or l 0 0) e ∙ get_or-take 1 e0 0 0 (omega arith)

-- an entry's bytes are read behind that of its kind
module _ {E : Type 0} (a m b : Option (List ℕ)) (e0 e1 : List ℕ) (size : ℕ) (k : Consumes a m (take 1 e0)) (same : take 1 e1 ≡ take 1 e0) (z : size ≡ kind_size (get_or e0 0 0)) (within : size ≤ length e1) where
  pub entry-read : (r : Result ℕ E) → IfOk r (λ n. (1 ≤ n) × (n ≤ size)) → IfOk r (λ n. (first : Option (List ℕ)) → Consumes first m (take 1 e0) → Consumes first b (take n e1)) → IfOk r (λ n. n < size → IsAtEnd b)
      → IfOk r (λ n. ReadsEntry a b (take n e1))
  entry-read (Ok n) x y e = go (dec_le size n)
    where
      long : length (take n e1) ≡ n
      long = length-take-le n e1 (omega (arith, x, within))

      sized : size_of (take n e1) ≡ size
      sized = size-is (take n e1) (omega (arith, long, x)) ∙ ap kind_size (first-same n e0 e1 (omega (arith, x)) same) ∙ sym z

      go : Dec (size ≤ n) → ReadsEntry a b (take n e1)
      go (yes h) = record { consumes = y a k; fits = omega (arith, long, sized, x); whole = inl (omega (arith, long, sized, x, h)) }
      go (no h) = record { consumes = y a k; fits = omega (arith, long, sized, x); whole = inr (e (omega (arith, h))) }
  entry-read (Err f) x y e = tt

-- an entry has a byte
kind-some : (k : ℕ) → 1 ≤ kind_size k
kind-some k = go (eqb k 1) (eqb k 2) (eqb k 3)
  where
    go : (a b c : Bool) → 1 ≤ cond a 17 (cond b 2 (cond c 10 1))
    go true b c = omega arith
    go false true c = omega arith
    go false false true = omega arith
    go false false false = omega arith

-- ... and no more than the longest
pub kind-most : (k : ℕ) → kind_size k ≤ 17
kind-most k = go (eqb k 1) (eqb k 2) (eqb k 3)
  where
    go : (a b c : Bool) → cond a 17 (cond b 2 (cond c 10 1)) ≤ 17
    go true b c = omega arith
    go false true c = omega arith
    go false false true = omega arith
    go false false false = omega arith

-- an entry's bytes are taken of those that are ahead, where these are enough
module _ (old new into : List ℕ) (n : ℕ) (split : old ≡ take n into ++ new) (within : n ≤ length into) (z : n ≡ kind_size (get_or old 0 0)) where
  taken-long : length (take n into) ≡ n
  taken-long = length-take-le n into within

  taken-sized : size_of (take n into) ≡ n
  taken-sized =
      let some : 0 < length (take n into) = omega (arith, taken-long, z, kind-some (get_or old 0 0)) in
      size-is (take n into) some ∙ ap kind_size (sym (ap (λ (l : List ℕ). get_or l 0 0) split ∙ get_or-append (take n into) new 0 0 some)) ∙ sym z

  pub entry-taken : (r : Option (List ℕ)) → ReadsEntry (prepend_known old r) (prepend_known new r) (take n into)
  entry-taken r = record { consumes = go r; fits = omega (arith, taken-long, taken-sized); whole = inl (omega (arith, taken-long, taken-sized)) }
    where
      go : (r : Option (List ℕ)) → Consumes (prepend_known old r) (prepend_known new r) (take n into)
      go None = tt
      go (Some xs) = ap (λ (l : List ℕ). l ++ xs) split ∙ append_assoc (take n into) new xs

-- ---- what a whole body gives

-- the number of a bad entry
abbrev bad_number : Entry → ℕ
bad_number (Seed a e) = 0
bad_number (Acquire c) = 0
bad_number (Release a c) = 0
bad_number Report = 0
bad_number (Bad n) = n
bad_number End = 0

module _ (s : List ℕ) where
  abbrev by_kind : (a b c d : Bool) → Entry
  by_kind a b c d = cond a (seed_of s) (cond b (acquire_of s) (cond c (release_of s) (cond d Report (Bad 12))))

  abbrev size_by : (a b c : Bool) → ℕ
  size_by a b c = cond a 17 (cond b 2 (cond c 10 1))

  -- a body is never the end
  body-there : (n : ℕ) (e : Entry) → e ≢ End → whole n s e ≢ End
  body-there n e h = go (leb n (length s))
    where
      go : (x : Bool) → cond x e (Bad 13) ≢ End
      go true = h
      go false = λ q. cc

  there-kind : (a b c d : Bool) → by_kind a b c d ≢ End
  there-kind true b c d = body-there 16 _ (λ q. cc)
  there-kind false true c d = body-there 1 _ (λ q. cc)
  there-kind false false true d = body-there 9 _ (λ q. cc)
  there-kind false false false true = λ q. cc
  there-kind false false false false = λ q. cc

  -- a body that is long enough is not cut short
  not-cut : (n : ℕ) (e : Entry) → n ≤ length s → e ≢ Bad 13 → whole n s e ≢ Bad 13
  not-cut n e l h = go (leb n (length s)) refl
    where
      go : (x : Bool) → leb n (length s) ≡ x → cond x e (Bad 13) ≢ Bad 13
      go true q = h
      go false q = absurd (omega (arith, leb-false n (length s) q, l))

  whole-kind : (a b c d : Bool) → suc (length s) ≡ size_by a b c → by_kind a b c d ≢ Bad 13
  whole-kind true b c d l = not-cut 16 _ (omega (arith, l)) (λ q. cc)
  whole-kind false true c d l = not-cut 1 _ (omega (arith, l)) (λ q. cc)
  whole-kind false false true d l = not-cut 9 _ (omega (arith, l)) (λ q. cc)
  whole-kind false false false true l = λ q. cc
  whole-kind false false false false l = λ q. let z = ap bad_number q in absurd (omega (arith, z))

  -- a body that is not cut short ends where it is to
  whole-behind : (m : ℕ) (e : Entry) (n : ℕ) (k : Call) → suc (length s) ≤ suc m → behind e 1 n ≡ suc m → asked (whole m s e) ≡ call k → behind (whole m s e) 1 n ≡ suc (length s)
  whole-behind m e n k l b q = go (leb m (length s)) refl q
    where
      go : (x : Bool) → leb m (length s) ≡ x → asked (cond x e (Bad 13)) ≡ call k → behind (cond x e (Bad 13)) 1 n ≡ suc (length s)
      go true y z = omega (arith, leb-true m (length s) y, l, b)
      go false y z = cc

  behind-kind : (a b c d : Bool) (n : ℕ) (k : Call) → suc (length s) ≤ size_by a b c → asked (by_kind a b c d) ≡ call k → behind (by_kind a b c d) 1 n ≡ suc (length s)
  behind-kind true b c d n k l q = whole-behind 16 _ n k l refl q
  behind-kind false true c d n k l q = whole-behind 1 _ n k l refl q
  behind-kind false false true d n k l q = whole-behind 9 _ n k l refl q
  behind-kind false false false true n k l q = omega (arith, l)
  behind-kind false false false false n k l q = cc

-- THE NEXT ENTRY IS THAT OF ALL BYTES THAT BEGIN SO
pub next-same : (s t : List ℕ) → (length s ≡ size_of s) ⊎ (t ≡ []) → entry_of (s ++ t) ≡ entry_of s
unfolding size_of entry_of
next-same s t (inr e) = ap (λ (u : List ℕ). entry_of (s ++ u)) e ∙ ap entry_of (append-nil s)
next-same [] t (inl e) = absurd (omega (arith, e))
next-same (k ∷ s) t (inl e) = joined (k ∷ s) t (there-kind s (eqb k 1) (eqb k 2) (eqb k 3) (eqb k 4)) (whole-kind s (eqb k 1) (eqb k 2) (eqb k 3) (eqb k 4) e)

-- ... and where it asks for a call, it ends where they end
pub next-behind : (s : List ℕ) (n : ℕ) (k : Call) → length s ≤ size_of s → asked (entry_of s) ≡ call k → behind (entry_of s) 1 n ≡ length s
unfolding size_of entry_of
next-behind [] n k l q = cc
next-behind (x ∷ s) n k l q = behind-kind s (eqb x 1) (eqb x 2) (eqb x 3) (eqb x 4) n k l q
