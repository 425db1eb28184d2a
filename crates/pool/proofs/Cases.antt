-- The computed cases of `specs/Cases` hold. Assumes nothing.
use mathlib.Core.Path.{refl}
use Rattle.sizes.specs.Ladder.{largest, fan_out}
use Rattle.model.specs.Ladder.{fan, frames, top}
use Rattle.model.specs.Lists.{maximum, all, first as first_of}
use Rattle.model.specs.TreeStore.{largest_fit}
use Rattle.pool.specs.Nodes.{map_run, children_max, children_all, children_first, open_with, open_w, hand_w, refresh_w, merge_w, store_w, take_w, seed_w}
use Rattle.pool.specs.Room.{path, openings_w, pick_w, path_after, openings_after_w, seed_rest_w, seed_openings_w}
use Rattle.pool.specs.Cases.{laid, Seed, First, Second, Merged, Room}

pub seed : Seed
unfolding largest fan_out fan frames top maximum all first_of largest_fit map_run children_max children_all children_first open_with open_w hand_w refresh_w merge_w store_w take_w seed_w laid
seed = refl

pub first : First
unfolding largest fan_out fan frames top maximum all first_of largest_fit map_run children_max children_all children_first open_with open_w hand_w refresh_w merge_w store_w take_w seed_w laid
first = refl

pub second : Second
unfolding largest fan_out fan frames top maximum all first_of largest_fit map_run children_max children_all children_first open_with open_w hand_w refresh_w merge_w store_w take_w seed_w laid
second = refl

pub merged : Merged
unfolding largest fan_out fan frames top maximum all first_of largest_fit map_run children_max children_all children_first open_with open_w hand_w refresh_w merge_w store_w take_w seed_w laid
merged = refl

pub room : Room
unfolding largest fan_out fan frames top maximum all first_of largest_fit map_run children_max children_all children_first open_with open_w hand_w refresh_w merge_w store_w take_w seed_w path openings_w pick_w path_after openings_after_w seed_rest_w seed_openings_w
room = (refl, refl, refl, refl)
