-- Each turn.
use Rattle.std.proofs.Common.{sym, ◌∙◌}
use Rattle.replay.proofs.Turns.{so-new, so-sent, so-part, so-turns, done-sent, done-all, done-part}
use Rattle.replay.proofs.Written.{on-err, ok-more, err-more}
use Rattle.replay.proofs.replay.Goals as goal

pub loop-number-init : goal.loop-number-init
loop-number-init g c = so-new _ _ _ _ c.new-waiting.ensures c.requires

pub returns-in-Err-clause-err : goal.returns-in-Err-clause-err
returns-in-Err-clause-err g c = so-part _ _ _ _ _ _ _ _ c.loop-number.invariant c.stopped.ensures.part

pub returns-in_err-print-clause-err : goal.returns-in_err-print-clause-err
returns-in_err-print-clause-err g c = on-err _ _ (so-part _ _ _ _ _ _ _ _ c.loop-number.invariant c.in_err-print.ensures.err)

pub loop-number-preserved : goal.loop-number-preserved
loop-number-preserved g c =
    let t = so-turns _ _ _ _ _ _ _ _ _ _ _ _ c.loop-number.invariant c.in-Ok.ensures.reads c.step-step.ensures in
    so-sent _ _ _ _ _ _ _ _ _ (t.more (sym c.ends.ensures ∙ c.if-ends.false)) c.in_ok-print.ensures.ok

pub returns-then-ends-clause-ok : goal.returns-then-ends-clause-ok
returns-then-ends-clause-ok g c =
    let t = so-turns _ _ _ _ _ _ _ _ _ _ _ _ c.loop-number.invariant c.in-Ok.ensures.reads c.step-step.ensures in
    let d = done-sent _ _ _ _ _ _ (t.all (sym c.ends.ensures ∙ c.if-ends.true)) c.in_ok-print.ensures.ok in
    ok-more _ _ _ (done-all _ _ _ _ _ d) c.flush.ensures.ok

pub returns-then-ends-clause-err : goal.returns-then-ends-clause-err
returns-then-ends-clause-err g c =
    let t = so-turns _ _ _ _ _ _ _ _ _ _ _ _ c.loop-number.invariant c.in-Ok.ensures.reads c.step-step.ensures in
    let d = done-sent _ _ _ _ _ _ (t.all (sym c.ends.ensures ∙ c.if-ends.true)) c.in_ok-print.ensures.ok in
    err-more _ _ _ (done-part _ _ _ _ _ d) c.flush.ensures.err

pub returns-in_err-flush-clause-err : goal.returns-in_err-flush-clause-err
returns-in_err-flush-clause-err g c = on-err _ _ (so-part _ _ _ _ _ _ _ _ c.loop-number.invariant c.in_err-flush.ensures.err)
