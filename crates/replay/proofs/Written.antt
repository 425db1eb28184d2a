-- Laws of what is written: of a text, of what waits, and of the clauses that say so. Assumes nothing.
use Rattle.std.proofs.Common.{◌≡◌, ◌≤◌, ◌+◌, ℕ, List, [], ◌++◌, Result, Ok, Err, OnOk, OnErr, length, take, drop, arith, sym, ap, ◌∙◌, subst, append-nil, append_assoc, take-append-drop}
use lib.Seq.{length-take-le}
use Rattle.std.specs.declared.option.Option.{Option}
use Rattle.std.specs.Io.KnownBytes.{Keeps, Appends}
use Rattle.std.proofs.KnownBytes.{prepend_known-nil, Appends-nil, Appends-trans, Appends-kept, Keeps-trans}
use Rattle.journal.specs.Lines.{Appends as Puts}
use Rattle.replay.specs.Printed.{AppendsPart, Sends}

-- ---- what is written of a text

-- nothing more was written
pub part_kept : (a b c : Option (List ℕ)) (n : ℕ) (xs : List ℕ) → Appends a b (take n xs) → Keeps b c → AppendsPart a c xs
part_kept a b c n xs p q = record { part = take n xs; rest = drop n xs; split = sym (take-append-drop n xs); appends = Appends-kept _ _ _ _ p q }

-- no byte more was written
pub part_none : (a b c : Option (List ℕ)) (n k : ℕ) (xs ys : List ℕ) → Appends a b (take n xs) → k ≡ 0 → Appends b c (take k ys) → AppendsPart a c xs
part_none a b c n k xs ys p e q =
    let q0 : Appends b c [] = subst (λ (i : ℕ). Appends b c (take i ys)) e q in
    record { part = take n xs; rest = drop n xs; split = sym (take-append-drop n xs); appends = subst (Appends a c) (append-nil (take n xs)) (Appends-trans _ _ _ _ _ p q0) }

-- a text is written in three pieces
pub piece_first : {a b : Option (List ℕ)} (x y : List ℕ) → AppendsPart a b x → AppendsPart a b (x ++ y)
piece_first x y p = record { part = p.part; rest = p.rest ++ y; split = ap (λ (l : List ℕ). l ++ y) p.split ∙ append_assoc p.part p.rest y; appends = p.appends }

pub piece_then : {a b c : Option (List ℕ)} (x y : List ℕ) → Appends a b x → AppendsPart b c y → AppendsPart a c (x ++ y)
piece_then x y p q = record { part = x ++ q.part; rest = q.rest; split = ap (λ (l : List ℕ). x ++ l) q.split ∙ sym (append_assoc x q.part q.rest); appends = Appends-trans _ _ _ _ _ p q.appends }

-- ---- what is sent of what waits

-- what waits grows by a text
pub sends_more : {a b : Option (List ℕ)} {x y : List ℕ} (t : List ℕ) → Sends a b x y → Sends a b (x ++ t) (y ++ t)
sends_more {y = y} t p = record { sent = p.sent; split = ap (λ (l : List ℕ). l ++ t) p.split ∙ append_assoc p.sent y t; appends = p.appends }

-- a write that fails behind some that did not
pub ruleset parts = (part_kept, part_none)

-- tries that write nothing
pub ruleset keeping = (Keeps-trans)

-- a line is put behind what waits
pub sends_put : {a b : Option (List ℕ)} {x y : List ℕ} (t d z : List ℕ) (at r : ℕ) → Sends a b x y → take at d ≡ y → at ≤ length d → length y + 133 ≤ length d → Puts d at t r z → Sends a b (x ++ t) (take r z)
sends_put {a} {b} {x} {y} t d z at r p e l h q =
    let k : at + 133 ≤ length d = omega (arith, h, ap length e, length-take-le at d l) in
    subst (Sends a b (x ++ t)) (ap (λ (u : List ℕ). u ++ t) (sym e) ∙ sym (q.room k).1.bytes) (sends_more t p)

-- ---- clauses of results

pub on-err : {A E : Type 0} (r : Result A E) (P : Type 0) → P → OnErr r P
on-err (Ok x) P p = tt
on-err (Err e) P p = p

pub ok-more : {A E : Type 0} (r : Result A E) (P Q : Type 0) → (P → Q) → OnOk r P → OnOk r Q
ok-more (Ok x) P Q f p = f p
ok-more (Err e) P Q f p = tt

pub err-more : {A E : Type 0} (r : Result A E) (P Q : Type 0) → (P → Q) → OnErr r P → OnErr r Q
err-more (Ok x) P Q f p = tt
err-more (Err e) P Q f p = f p
