-- `fill` ends, since each turn reads some bytes, and what it filled is what it consumed.
use Rattle.std.proofs.Common.{◌≡◌, ◌-◌, ◌≤◌, length, take}
use Rattle.std.specs.declared.option.Option.{Option}
use Prim.Native.Nat.{ℕ}
use mathlib.Core.List.{List}
use Rattle.std.specs.Io.KnownBytes.{Consumes}
use Rattle.replay.specs.Source.{left}
use Rattle.replay.proofs.input.Source.fill.Given as goal

abbrev pub invariant-loop-at : goal.invariant-loop-at
invariant-loop-at g l = record {
  same_length : length l.bytes ≡ length l.initial.bytes;
  from : l.from ≤ l.at;
  to : l.at ≤ l.to;
  keeps : take l.from l.bytes ≡ take l.from l.initial.bytes;
  reads : (first : Option (List ℕ)) → Consumes first (left g.R.Read.remaining l.initial.self) (take l.from l.initial.bytes) → Consumes first (left g.R.Read.remaining l.self) (take l.at l.bytes);
}

abbrev pub decreases-loop-at : goal.decreases-loop-at
decreases-loop-at g l = l.to - l.at
