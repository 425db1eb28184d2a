-- The parts of a line, one behind the other. Assumes nothing.
use Rattle.journal.proofs.Lines.{line_printed}
use Rattle.journal.proofs.text.put_line.Goals as goal

pub returns-clause-put : goal.returns-clause-put
returns-clause-put c =
    line_printed _ _ _ c.put_decimal-next.ensures.put c.put-next.ensures c.put-next-2.ensures c.put_numbers-next.ensures.put c.put.ensures
