-- What the check says yes to. Assumes nothing.
use native.Mathlib.Omega.{arith}
use Rattle.sizes.specs.Six.{six}
use Rattle.pool.specs.Limits.{places, pool_limit}
use Rattle.pages.specs.Calls.{store, Places}
use Rattle.pages.proofs.Found.{passes}
use Rattle.pages.proofs.checked.Checked.of.Goals as goal

pub invariant_of-result : goal.invariant_of-result
invariant_of-result c =
    let s = store c.args.state.now c.args.pool.now in
    let a : Places six places pool_limit s = record { starts = omega arith; ends = omega arith } in
    record { placed = a; passed = passes s a (c.sound.ensures.0 c.if-sound.true) }
