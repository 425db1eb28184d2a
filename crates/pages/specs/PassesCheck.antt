-- What the check reads when it says yes: as a test of the words, it says what `Sound` says of the tree.
use Rattle.std.specs.Prelude.{◌≡◌, Bool, true, List, ℕ, suc, ◌-◌, ◌≤◌, length}
use Rattle.sizes.specs.Ladder.{Ladder}
use Rattle.model.specs.Ladder.{top}
use Rattle.pool.specs.Regions.{regions_of}
use Rattle.pool.specs.Words.{fan_out_of, frames_of}
use Rattle.pool.specs.Check.{passes, sweep, walk}
use Rattle.pool.specs.RegionTest.{regions_pass}

-- lies q k: a block may lie at the place k, seen from its parent at q
pub record PassesCheck (L : Ladder) (lies : ℕ → ℕ → Bool) (limit used : ℕ) (starts ends p : List ℕ) : Type 0 where
  pub low : 1 ≤ used
  pub high : used ≤ length p
  pub limited : length p ≤ limit
  pub regions : regions_pass L starts ends ≡ true
  pub walked : walk (fan_out_of L) (frames_of L) lies p (passes (fan_out_of L) (frames_of L) p (regions_of L starts ends)) used (suc (top L)) 0 0 0 ≡ used - 1
  pub swept : sweep (fan_out_of L) p (suc (top L)) (used - 1) 1 0 ≡ true
