-- The six sizes multiply up, by one test that antt computes over the tables; so the laws hold of them, and P1. Assumes nothing.
use mathlib.Core.Path.{◌≡◌, refl}
use Prim.Native.Nat.{ℕ, ◌≤◌}
use Rattle.sizes.specs.Ladder.{largest, bytes, fan_out, frames}
use Rattle.sizes.specs.Six.{six, most_code, most_bytes, most_children}
use Rattle.sizes.specs.Laws.{MultipliesUp, LadderLaws, P1}
use Rattle.sizes.proofs.Test.{step, parents, multiplies, multiplies-up, below_at}
use Rattle.sizes.proofs.Ladder.{ladder-laws}

pub six-multiplies : MultipliesUp six
unfolding multiplies parents step largest bytes fan_out
six-multiplies = multiplies-up six tt

pub six-laws : LadderLaws six
six-laws = ladder-laws six six-multiplies

pub p1 : P1
unfolding frames fan_out largest
p1 = refl

-- the bounds hold of every number, also where it is no code
pub bytes_most : (c : ℕ) → bytes six c ≤ most_bytes
unfolding bytes
bytes_most c = below_at most_bytes six.sizes tt c

pub largest-most : largest six ≡ most_code
unfolding largest
largest-most = refl

pub bytes-largest : bytes six (largest six) ≡ most_bytes
unfolding bytes largest
bytes-largest = refl

pub fan_out-most : (c : ℕ) → fan_out six c ≤ most_children
unfolding fan_out
fan_out-most c = below_at most_children six.fan_outs tt c
