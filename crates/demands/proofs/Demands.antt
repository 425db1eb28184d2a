-- THE THREE DEMANDS of the six sizes, and how large a pool must be, with the numbers of document 01. `DemandOne`, `DemandTwo`, `DemandThree`, `Room`, `RoomExact` and `GivesBack` have them for any ladder of at most 7 codes whose sizes multiply up, and any numbers, `AsOriginal` for one whose sizes are below 2^64.
use Rattle.sizes.specs.Six.{six}
use Rattle.sizes.proofs.Six.{six-multiplies}
use Rattle.model.proofs.Six.{six-addressable}
use Rattle.pool.specs.Limits.{places, pool_limit}
use Rattle.pool.proofs.Sizes.{small-six}
use Rattle.demands.specs.Demands.{Demand1, Demand2, Demand3}
use Rattle.demands.specs.Room.{EnoughRoom, NoLess, PlansEnough, PlansNoLess, GivesBack}
use Rattle.demands.proofs.DemandOne as One
use Rattle.demands.proofs.DemandTwo.{replies-frames, replies-lowest}
use Rattle.demands.proofs.DemandThree as Three
use Rattle.demands.proofs.Room as Room
use Rattle.demands.proofs.RoomExact as Exact
use Rattle.demands.proofs.GivesBack as Back
use Rattle.demands.proofs.AsOriginal.{as-original}

pub demand1 : Demand1 six places pool_limit
demand1 = One.demand1 six places pool_limit six-multiplies small-six

pub demand2 : Demand2 six places pool_limit
demand2 = record {
  frames = replies-frames six places pool_limit six-multiplies small-six;
  lowest = replies-lowest six places pool_limit six-multiplies small-six;
  original = as-original six places pool_limit six-multiplies small-six six-addressable;
}

pub demand3 : Demand3 six places pool_limit
demand3 = Three.demand3 six places pool_limit six-multiplies small-six

-- a pool of `room_for` words is enough
pub enough-room : EnoughRoom six places pool_limit
enough-room = Room.enough-room six places pool_limit six-multiplies small-six

-- ... and fewer are not
pub no_less : NoLess six places pool_limit
no_less = Exact.no_less six places pool_limit six-multiplies small-six

-- ... and room_for answers as many
pub plans-enough : PlansEnough six places pool_limit
plans-enough = Room.plans-enough six places pool_limit six-multiplies small-six

-- ... and no more
pub plans-no-less : PlansNoLess six places pool_limit
plans-no-less = Exact.plans-no-less six places pool_limit six-multiplies small-six

-- what was dealt can be given back, whatever the pool
pub gives_back : GivesBack six places pool_limit
gives_back = Back.gives_back six places pool_limit six-multiplies small-six
