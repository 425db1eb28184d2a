-- How many pool words regions can ever take: a child block for every node that a region touches (docs/SIZING.md).
use Rattle.std.specs.Prelude.{◌≡◌, not, List, [], ◌∷◌, ℕ, zero, suc, ◌+◌, ◌*◌, ◌<◌}
use Rattle.sizes.specs.Ladder.{Ladder}
use Rattle.sizes.specs.Six.{six}
use Rattle.model.specs.Ladder.{fan, top}
use Rattle.model.specs.Frames.{count}
use Rattle.model.specs.Calls.{Region, seeded}
use Rattle.model.specs.FrameStore.{size, blocks, bare}

module _ (L : Ladder) where
  -- how many nodes of the code a region touches: those with a frame in one
  unfoldable pub touched : List Region → (c : ℕ) → ℕ
  touched gs c = count (λ i. not (bare (seeded gs) (i * size L c) (size L c))) (blocks L c)

  -- the words of their child blocks, fan-out + 1 each, for each code from 2 to suc d
  unfoldable pub blocks_of : List Region → (d : ℕ) → ℕ
  blocks_of gs zero = 0
  blocks_of gs (suc d) = suc (fan L (suc d)) * touched gs (suc (suc d)) + blocks_of gs d

  -- these, and one for the root
  unfoldable pub room_for : List Region → ℕ
  room_for gs = suc (blocks_of gs (top L))

-- of the six sizes, a GiB at a multiple of a GiB takes 395,012 words
abbrev pub Gibibyte : Type 0
Gibibyte = (k : ℕ) → k < 131072 → room_for six (record { start = k * 262144; end = suc k * 262144 } ∷ []) ≡ 395012
