-- The bytes of the kind and of the body are those of the entry.
use Rattle.std.proofs.Common.{◌≡◌, ℕ, take, rules, arith, subst}
use Rattle.std.specs.Io.KnownBytes.{Consumes}
use Rattle.std.proofs.KnownBytes.{Consumes-nil}
use Rattle.replay.proofs.NextEntry.{entry-read}
use Rattle.replay.specs.Source.{left}
use Rattle.replay.proofs.input.Source.fill_entry.Goals as goal

pub returns-clause-reads : goal.returns-clause-reads
returns-clause-reads g c =
    let one : c.in_ok-kind.kind ≡ 1 = omega (arith, c.in_ok-kind.ensures.bound) in
    let k = subst (λ (n : ℕ). Consumes (left g.R.Read.remaining c.args.self.now) (left g.R.Read.remaining c.fill.new.self) (take n c.fill.new.bytes)) one (c.in_ok-kind.ensures.reads (left g.R.Read.remaining c.args.self.now) (Consumes-nil _)) in
    entry-read _ _ _ c.fill.new.bytes c.fill-2.new.bytes c.entry_size-size.result k c.fill-2.ensures.keeps c.entry_size-size.ensures (search rules) c.fill-2.result c.fill-2.ensures.bound c.fill-2.ensures.reads c.fill-2.ensures.end
