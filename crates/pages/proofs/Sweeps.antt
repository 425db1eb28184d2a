-- The sweep that counts free frames: where a block starts, what its header names, and the turn to the next block. Assumes nothing.
use mathlib.Core.List.{List}
use mathlib.Core.Path.{◌≡◌, refl, ap, ◌∙◌, subst}
use Prim.Native.Nat.{ℕ, ◌+◌, ◌-◌, ◌*◌, ◌≤◌, ◌<◌}
use native.Mathlib.Omega.{arith}
use lib.ListN.{length, drop}
use Rattle.std.proofs.lemmas.List.{length-drop, length-take-le}
use Rattle.sizes.specs.Six.{six, most_code}
use Rattle.model.specs.Ladder.{top}
use Rattle.model.specs.Lists.{sum}
use Rattle.pool.specs.Check.{SoundW}
use Rattle.pool.specs.Room.{tokens_in}
use Rattle.pool.specs.Words.{word, token_of, level_of, fan_out_of, frames_of, run}
use Rattle.pool.proofs.FreeFrames.{Here, Swept, swept-here, swept-next, swept-turn}
use Rattle.pool.proofs.Sizes.{root-level, top-frames}

-- where words are left, a block starts: its header names a node before it
module _ (p : List ℕ) (used total header : ℕ) (sound : SoundW six (top six) p used) (swept : Swept six (top six) p used total header) (more : header < used) where
  pub sweep-node : word p header < length p
  sweep-node = omega (arith, (swept-turn six (top six) p used sound total header swept more).before, more, sound.shape.high)

  -- ... and the block is that node's
  module _ (level : ℕ) (level_is : level ≡ level_of (word p (word p header))) where
    here : Here six (top six) p used level header
    here = swept-here six (top six) p used sound total header level swept more level_is

    pub sweep-least : 2 ≤ level
    sweep-least = here.low

    pub sweep-most : level ≤ most_code
    sweep-most = omega (arith, here.high, root-level)

    pub sweep-fits : header + 1 + fan_out_of six level ≤ length p
    sweep-fits = omega (arith, here.fits, sound.shape.high)

    -- the next turn
    module _ (block : List ℕ) (block_is : block ≡ run p (header + 1) (fan_out_of six level)) where
      pub sweep-long : length block ≡ fan_out_of six level
      sweep-long = ap length block_is ∙ length-take-le (fan_out_of six level) (drop (header + 1) p) (omega (arith, sweep-fits, length-drop (header + 1) p))

      pub sweep-next : (tokens size : ℕ) → tokens ≡ sum token_of block → size ≡ frames_of six (level - 1) → Swept six (top six) p used (total + tokens * size) (header + (1 + length block))
      unfolding tokens_in
      sweep-next tokens size t f =
          subst (Swept six (top six) p used (total + tokens * size)) (omega (arith, sweep-long))
          (swept-next six (top six) p used sound total header level (fan_out_of six level) tokens size swept more level_is refl (t ∙ ap (sum token_of) block_is) f)

-- what bounds a count
pub ruleset sweeps = (top-frames, sweep-most)
