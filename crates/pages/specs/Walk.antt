-- What the check's walk and its sweep look for, in the pool and with the state that they are given, for the six sizes.
use Rattle.std.specs.Prelude.{◌≡◌, Bool, true, List, ℕ, ◌+◌, ◌-◌, ◌≤◌, ltb}
use Rattle.sizes.specs.Six.{six, most_code}
use Rattle.sizes.specs.Size.{code_of}
use Rattle.sizes.specs.declared.page_size.PageSize.{PageSize}
use Rattle.pool.specs.Check.{Enter, passes, starts, tile, walk as walk_of, walk_block}
use Rattle.pool.specs.Limits.{most_frames}
use Rattle.pool.specs.Regions.{regions_of}
use Rattle.pool.specs.Words.{fan_out_of, frames_of}
use Rattle.pages.specs.declared.sound.Walk.{Walk}

-- the block of a size from the frame `base` on lies within the memory
abbrev pub InMemory : PageSize → (base : ℕ) → Type 0
InMemory size base = base + frames_of six (code_of size) ≤ most_frames

-- a block of so many words, its header among them, begins at the place and ends within used
pub record IsBlock (pool : List ℕ) (used place words : ℕ) : Type 0 where
  pub header : starts (fan_out_of six) pool most_code place ≡ true
  pub size : words ≡ tile (fan_out_of six) pool place + 1
  pub within : place + words ≤ used

module _ (walk : Walk) where
  abbrev pub used_of : ℕ
  used_of = walk.state.now.used

  -- whether the node of a level at the place, whose first frame is base, keeps the rules of max and token
  abbrev pub passes_at : (level place base : ℕ) → Bool
  passes_at = passes (fan_out_of six) (frames_of six) walk.pool.now (regions_of six walk.state.now.starts walk.state.now.ends)

  -- the child block of that node may be entered with the count
  abbrev pub MayEnter : (level place count : ℕ) → Type 0
  MayEnter = Enter (fan_out_of six) ltb walk.pool.now used_of

  -- the count, grown by the words of all blocks below that node; used, where a rule is broken or the count would come to used
  abbrev pub grown_below : (level place base count : ℕ) → ℕ
  grown_below = walk_of (fan_out_of six) (frames_of six) ltb walk.pool.now passes_at used_of

  -- the count, grown below each child of a node of the level; the first child stands at the place `first`
  abbrev pub grown_below_children : (level first base count : ℕ) → ℕ
  grown_below_children level first base = walk_block (grown_below (level - 1)) first base (frames_of six (level - 1)) (fan_out_of six level)
