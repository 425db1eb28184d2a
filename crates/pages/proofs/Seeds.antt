-- The words that a seed opens, block by block. Assumes nothing.
use mathlib.Core.List.{List}
use mathlib.Core.Path.{◌≡◌, refl, sym}
use Prim.Native.Nat.{ℕ, suc, pred, ◌+◌, ◌-◌, ◌≤◌, ◌<◌}
use native.Mathlib.Omega.{arith}
use Rattle.sizes.specs.Six.{six, most_code}
use Rattle.sizes.specs.Size.{code_of}
use Rattle.sizes.specs.declared.page_size.PageSize.{PageSize}
use Rattle.sizes.proofs.Six.{largest-most}
use Rattle.sizes.proofs.Size.{code-some, code-most}
use Rattle.model.specs.Ladder.{top}
use Rattle.model.specs.TreeStore.{largest_fit}
use Rattle.pool.specs.Asks.{NeedAsk, SeedAsk}
use Rattle.pool.specs.Room.{seed_openings_w, seed_rest_w}
use Rattle.pool.specs.Words.{frames_of}
use Rattle.pool.proofs.SeedNeed.{seed-first, seed-next, seed-none, seed-ask}
use Rattle.pages.specs.Before.{openings_by, left_by}
use Rattle.pages.specs.declared.room.Before.{Before}
use Rattle.pages.specs.declared.room.Before.TheVariants.{AsItIs, Stored}

-- the way from the root to a block of a seed may be read
pub seed-way : (size : PageSize) (p : List ℕ) (start at end : ℕ) → SeedAsk p start end → at < end → NeedAsk most_code (code_of size) p 0 at
seed-way size p start at end a l = seed-ask most_code (code_of size) p a.used at end a.readable l a.ends (sym largest-most) (code-some size) (code-most size)

-- a block's words, and those of what is left behind it
pub seed-turn : (before : Before) (size : PageSize) (p : List ℕ) (at end : ℕ) → at < end → code_of size ≡ suc (largest_fit six (top six) at end)
    → left_by before (end - at) p at end ≡ openings_by before (pred most_code) (pred (code_of size)) p 0 at + seed_rest_w six (end - (at + frames_of six (code_of size))) p (at + frames_of six (code_of size)) end
seed-turn AsItIs size p at end l c = sym (seed-first p at end most_code (code_of size) (frames_of six (code_of size)) l (sym largest-most) c refl (openings_by AsItIs (pred most_code) (pred (code_of size)) p 0 at) refl)
seed-turn Stored size p at end l c = sym (seed-next p at end most_code (code_of size) (frames_of six (code_of size)) l (sym largest-most) c refl (openings_by Stored (pred most_code) (pred (code_of size)) p 0 at) refl)

-- nothing is left behind the end
pub seed-over : (before : Before) (p : List ℕ) (at end : ℕ) → end ≤ at → left_by before (end - at) p at end ≡ 0
unfolding seed_openings_w
seed-over AsItIs p at end h = let z : end - at ≡ 0 = omega arith in rw (z, seed_openings_w)
seed-over Stored p at end h = seed-none p at end h

pub ruleset seeds = (seed-turn, seed-over)
