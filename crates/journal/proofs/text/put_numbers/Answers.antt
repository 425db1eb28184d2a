-- A space and a number each turn. Assumes nothing.
use Rattle.std.proofs.Common.{rules, arith}
use Rattle.journal.proofs.Lines.{number_none, number_more}
use Rattle.journal.proofs.text.put_numbers.Goals as goal

pub loop-number-init : goal.loop-number-init
loop-number-init c = search (rules, number_none)

pub loop-number-preserved : goal.loop-number-preserved
loop-number-preserved c = record {
  within = omega (arith, c.loop-number.invariant.within, c.put-next.ensures.index, c.put_decimal-next.ensures.upper_bound);
  put = number_more c.args.numbers.now c.loop-number.number-index (search rules) c.loop-number.invariant.put c.put-next.ensures c.put_decimal-next.ensures.put;
}
