-- The first line, and then those of the entries.
use Rattle.replay.proofs.Written.{on-err}
use Rattle.replay.proofs.NewStore.{fresh-done, fresh-new}
use Rattle.replay.proofs.Started.{run-first, run-ok, run-err}
use Rattle.std.proofs.Common.{ℕ, refl}
use Rattle.std.proofs.lemmas.List.{length-replicate}
use Rattle.replay.specs.Printed.{pool_words}
use Rattle.replay.proofs.run.Goals as goal

pub returns-in_err-write_first_line-clause-err : goal.returns-in_err-write_first_line-clause-err
returns-in_err-write_first_line-clause-err g c = on-err _ _ (run-first _ _ _ c.in_err-write_first_line.ensures.err)

pub unwrap-state-requires : goal.unwrap-state-requires
unwrap-state-requires g c = fresh-done _ _ _ (length-replicate {A = ℕ} pool_words 0) c.fresh.ensures

pub replay-requires : goal.replay-requires
replay-requires g c = fresh-new _ _ _ _ refl c.unwrap-state.ensures c.fresh.ensures

pub returns-clause-ok : goal.returns-clause-ok
returns-clause-ok g c = run-ok c.replay.result _ _ _ _ _ c.new.ensures c.in_ok-write_first_line.ensures.ok c.replay.ensures.ok

pub returns-clause-err : goal.returns-clause-err
returns-clause-err g c = run-err c.replay.result _ _ _ _ _ c.new.ensures c.in_ok-write_first_line.ensures.ok c.replay.ensures.err
