-- Each number goes behind those before it. Assumes nothing.
use Rattle.std.proofs.Common.{◌+◌, ◌*◌, ◌≤◌, take}
use Rattle.journal.specs.Lines.{spaced, Put}
use Rattle.journal.proofs.text.put_numbers.Given as goal

abbrev pub invariant-loop-number : goal.invariant-loop-number
invariant-loop-number l = record {
  within : l.next ≤ l.at + 21 * l.number-index;
  put : Put l.initial.out l.at (spaced (take l.number-index l.numbers)) l.next l.out;
}
