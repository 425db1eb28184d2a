-- What is written so far, and what there is to write for the bytes that are left.
use Rattle.replay.specs.Source.{left}
use Rattle.pages.specs.Calls.{store}
use Rattle.replay.proofs.Turns.{So}
use Rattle.replay.proofs.replay.Given as goal

abbrev pub invariant-loop-number : goal.invariant-loop-number
invariant-loop-number g l = So (left g.R.Read.remaining l.initial.input) (left g.R.Read.remaining l.input) (g.W.Write.contents l.initial.output) (g.W.Write.contents l.output) l.waiting l.number (store l.now l.pool)
