-- A ladder of page sizes as a tree sees it. A node with d sizes below its own has the code suc d; the smallest blocks, of code 1, are the frames.
-- Every definition takes the ladder, the two tables of `sizes`, as a parameter and knows none of its numbers.
use Rattle.std.specs.Prelude.{ℕ, zero, suc, pred, ◌+◌, ◌*◌, ◌/◌, ◌%◌, max, cond, ltb}
use Rattle.sizes.specs.Ladder.{Ladder, largest, fan_out}

module _ (L : Ladder) where
  -- how many children a node of code suc d has: its fan-out. Where the table has less than 2 no node with children stands; 2 there keeps the laws free of bounds
  unfoldable pub fan : ℕ → ℕ
  fan d = max 2 (fan_out L (suc d))

  -- how many frames a block of code suc d has
  unfoldable pub frames : ℕ → ℕ
  frames zero = 1
  frames (suc d) = fan (suc d) * frames d

  -- the root has the largest code, suc top
  unfoldable pub top : ℕ
  top = pred (largest L)

  -- the children looked at on the way from a node of code suc d to the block of code suc d' at its frame b: child number plus one, summed over the levels descended
  unfoldable pub probes : (d d' b : ℕ) → ℕ
  probes zero d' b = 0
  probes (suc d) d' b = cond (ltb d' (suc d)) (suc (b / frames d) + probes d d' (b % frames d)) 0

  -- the fan-outs of the levels descended, summed
  unfoldable pub fans : (d d' : ℕ) → ℕ
  fans zero d' = 0
  fans (suc d) d' = cond (ltb d' (suc d)) (fan (suc d) + fans d d') 0
