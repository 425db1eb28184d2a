-- The bytes that are taken are the next entry's.
use Rattle.std.proofs.Common.{rules, ◌≡◌, ◌+◌, ◌-◌, ◌≤◌, ◌<◌, ◌++◌, List, ℕ, length, take, drop, get_or, arith, ap, sym, ◌∙◌, length-drop, get_or-take, get_or-drop, take-take, drop-drop}
use mathlib.Core.Path.{subst⁻¹}
use lib.Seq.{take-append-le, take-add}
use Rattle.std.specs.Io.KnownBytes.{prepend_known}
use Rattle.replay.specs.Printed.{kind_size, ReadsEntry}
use Rattle.replay.specs.Source.{ahead}
use Rattle.replay.proofs.NextEntry.{entry-taken, kind-most}
use Rattle.replay.proofs.input.Source.take_entry.Goals as goal

-- what is ahead is what is taken and what stays
taken-ahead : (bytes : List ℕ) (start end n : ℕ) → n ≤ end - start → take (end - start) (drop start bytes) ≡ take n (drop start bytes) ++ take (end - (start + n)) (drop (start + n) bytes)
taken-ahead bytes start end n h =
    let whole : end - start ≡ n + (end - (start + n)) = omega (arith, h) in
    ap (λ (k : ℕ). take k (drop start bytes)) whole
    ∙ take-add n (end - (start + n)) (drop start bytes)
    ∙ ap (λ (l : List ℕ). take n (drop start bytes) ++ take (end - (start + n)) l) (drop-drop n start bytes)

pub returns-clause-reads : goal.returns-clause-reads
returns-clause-reads g c =
    let source = c.args.self.now in
    let front = drop source.start source.bytes in
    let n = c.entry_size-size.result in
    let copied = c.copy_from_slice.new.self in
    let most : n ≤ 17 = omega (arith, c.entry_size-size.ensures, kind-most (get_or source.bytes source.start 0)) in
    let there : 17 ≤ length copied = search rules in
    let width : source.start + 17 - source.start ≡ 17 = omega arith in
    let same : copied ≡ take 17 front = c.copy_from_slice.ensures.after ∙ ap (λ (k : ℕ). take k front) width in
    let full : length source.bytes ≡ 4096 = search rules in
    let within : n ≤ length front = omega (arith, most, full, length-drop source.start source.bytes, c.if-self-lt-ENTRY.false) in
    let some : 0 < source.end - source.start = search rules in
    let kind : get_or (ahead source) 0 0 ≡ get_or source.bytes source.start 0 = get_or-take (source.end - source.start) front 0 0 some ∙ get_or-drop source.start source.bytes 0 0 ∙ ap (λ (i : ℕ). get_or source.bytes i 0) (omega arith) in
    let taken : take n (copied ++ drop 17 c.args.entry.now) ≡ take n front = take-append-le n copied (drop 17 c.args.entry.now) (omega (arith, most, there)) ∙ ap (take n) same ∙ take-take n 17 front most in
    let r = g.R.Read.remaining source.reader in
    let rest = take (source.end - (source.start + n)) (drop (source.start + n) source.bytes) in
    subst⁻¹ (λ (e : List ℕ). ReadsEntry (prepend_known (ahead source) r) (prepend_known rest r) e) taken
    (entry-taken (ahead source) rest front n (taken-ahead source.bytes source.start source.end n c.if-self-size.false) within (c.entry_size-size.ensures ∙ ap kind_size (sym kind)) r)
