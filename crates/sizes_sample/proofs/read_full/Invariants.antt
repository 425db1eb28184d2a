-- As many bytes have come as the buffer has, at most. Assumes nothing.
use Rattle.std.proofs.Common.{◌≤◌, length, ◌≡◌}
use Rattle.sizes_sample.proofs.read_full.Given as goal

abbrev pub invariant-loop : goal.invariant-loop
invariant-loop g l = (l.done ≤ length l.buffer) × (length l.buffer ≡ length l.fn.buffer)
