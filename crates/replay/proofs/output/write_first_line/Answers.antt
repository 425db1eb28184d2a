-- The pieces of the first line, one behind the other.
use Rattle.std.proofs.Common.{◌∷◌, []}
use Rattle.replay.proofs.Written.{piece_first, piece_then, on-err, err-more}
use Rattle.replay.proofs.output.write_first_line.Goals as goal

pub returns-in_err-write_whole-clause-err : goal.returns-in_err-write_whole-clause-err
returns-in_err-write_whole-clause-err g c = on-err _ _ (piece_first _ (49 ∷ 54 ∷ 51 ∷ 56 ∷ 52 ∷ 10 ∷ []) c.in_err-write_whole.ensures.err)

pub returns-in_err-write_whole-2-clause-err : goal.returns-in_err-write_whole-2-clause-err
returns-in_err-write_whole-2-clause-err g c = on-err _ _ (piece_then _ _ c.in_ok-write_whole.ensures.ok (piece_first _ (10 ∷ []) c.in_err-write_whole-2.ensures.err))

pub returns-clause-err : goal.returns-clause-err
returns-clause-err g c = err-more _ _ _ (λ p. piece_then _ _ c.in_ok-write_whole.ensures.ok (piece_then _ _ c.in_ok-write_whole-2.ensures.ok p)) c.write_whole-3.ensures.err
