-- Behind two numbers are the bytes from the seventeenth on. Assumes nothing.
use Rattle.std.proofs.Common.{ap, drop, ◌∙◌}
use lib.Seq.{drop-drop}
use Rattle.journal.proofs.read_seed.Goals as goal

pub returns-clause-rest : goal.returns-clause-rest
returns-clause-rest c = c.in_ok-end.ensures.rest ∙ ap (drop 8) c.in_ok-start.ensures.rest ∙ drop-drop 8 8 c.args.body.now
