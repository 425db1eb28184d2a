-- One turn of each loop over the regions. Assumes nothing.
use Rattle.pool.proofs.RegionTest.{length-here, length-past, length-end, zeros-start, zeros-stop, zeros-past, zeros-end, sum-here, sum_past, sum-end, pass-here, pass-stop, pass-past, pass-end}

pub ruleset counts = (length-here, length-past, length-end)

pub ruleset unused = (zeros-start, zeros-stop, zeros-past, zeros-end)

pub ruleset sums = (sum-here, sum_past, sum-end)

pub ruleset pass = (pass-here, pass-stop, pass-past, pass-end)
