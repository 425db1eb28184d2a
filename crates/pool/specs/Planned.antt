-- The room that regions can ever take, region by region, as it runs.
use Rattle.std.specs.Prelude.{Bool, not, cond, List, [], ◌∷◌, ℕ, zero, suc, pred, ◌+◌, ◌*◌, ◌-◌, ◌/◌, eqb}
use Rattle.sizes.specs.Ladder.{Ladder}
use Rattle.model.specs.Ladder.{fan, frames, top}
use Rattle.model.specs.Frames.{bit}
use Rattle.model.specs.Calls.{Region}
use Rattle.model.specs.Lists.{sum}
use Rattle.model.specs.TreeStore.{overlap}

-- the i-th node of n frames has a frame in a region
unfoldable pub meets : List Region → (n i : ℕ) → Bool
meets rs n i = not (eqb (sum (overlap (i * n) n) rs) 0)

-- how many nodes of n frames the frames from a to e touch, and none of the regions, where these share no frame with a to e: only the first and the last can be shared
unfoldable pub new_nodes : List Region → (a e n : ℕ) → ℕ
new_nodes rs a e n =
    let lo = a / n in
    let hi = pred e / n in
    suc hi - lo - bit (meets rs n lo) - cond (eqb lo hi) 0 (bit (meets rs n hi))

-- how many nodes of n frames the regions touch
unfoldable pub touched_by : List Region → (n : ℕ) → ℕ
touched_by [] n = 0
touched_by (r ∷ rs) n = new_nodes rs r.start r.end n + touched_by rs n

module _ (L : Ladder) where
  -- the words of the child blocks of all of them, down from the code suc d
  unfoldable pub blocks_by : List Region → (d : ℕ) → ℕ
  blocks_by gs zero = 0
  blocks_by gs (suc d) = suc (fan L (suc d)) * touched_by gs (frames L (suc d)) + blocks_by gs d

  -- these, and one for the root
  unfoldable pub room_by : List Region → ℕ
  room_by gs = suc (blocks_by gs (top L))
