-- The six sizes by the level of a node, as the tables of `sizes` have them, and the root's. Assumes nothing.
use mathlib.Core.Path.{◌≡◌, refl, sym, ap, ap₂, ◌∙◌}
use Prim.Native.Nat.{ℕ, zero, suc, pred, ◌+◌, ◌*◌, ◌-◌, ◌/◌, ◌≤◌, ◌<◌}
use native.Mathlib.Numerals.{sub-one}
use native.Mathlib.Omega.{arith}
use Rattle.sizes.specs.Ladder.{smallest, largest as largest_code, bytes, fan_out, frames as frames_by_code, largest_at, frame_address}
use Rattle.sizes.specs.Six.{six, most_code}
use Rattle.sizes.proofs.Six.{bytes_most, largest-most}
use Rattle.model.specs.Ladder.{fan, frames, top}
use Rattle.model.specs.TreeStore.{largest_fit}
use Rattle.model.proofs.Ladder.{fan-pos, frames-pos}
use Rattle.model.proofs.Seed.{largest_fit-ok}
use Rattle.model.proofs.Six.{six-tables}
use Rattle.pool.specs.Limits.{most_frames}
use Rattle.pool.specs.Words.{fan_out_of, frames_of}

pub fan_out-at : (level : ℕ) → 2 ≤ level → level ≤ most_code → fan_out six level ≡ fan_out_of six level
fan_out-at zero lo hi = absurd (omega arith)
fan_out-at (suc zero) lo hi = absurd (omega arith)
fan_out-at (suc (suc d)) lo hi = sym (six-tables.fan_agrees d (omega (arith, largest-most)))

pub fan_out-some : (level : ℕ) → 2 ≤ level → 1 ≤ fan_out_of six level
fan_out-some zero lo = absurd (omega arith)
fan_out-some (suc zero) lo = absurd (omega arith)
fan_out-some (suc (suc d)) lo = fan-pos six d

pub page : bytes six smallest ≡ 4096
unfolding bytes
page = refl

bytes-at : (level : ℕ) → 1 ≤ level → level ≤ most_code → bytes six level ≡ frames_of six level * 4096
bytes-at zero lo hi = absurd (omega arith)
bytes-at (suc d) lo hi = six-tables.in_bytes d (omega (arith, largest-most)) ∙ ap (λ (x : ℕ). frames six d * x) page

frames-some : (level : ℕ) → 1 ≤ level → 1 ≤ frames_of six level
frames-some zero lo = absurd (omega arith)
frames-some (suc d) lo = frames-pos six d

-- a block's bytes in pages are its frames
pub frames-at : (level : ℕ) → 1 ≤ level → level ≤ most_code → (bytes six level / 4096 ≡ frames_of six level) × (1 ≤ frames_of six level) × (frames_of six level ≤ most_frames)
frames-at level lo hi =
    let e = bytes-at level lo hi in
    (omega (arith, e), frames-some level lo, omega (arith, e, bytes_most level))

-- the frames of a node of a level, and those of its children: all of them are the node's
pub frames-own : (level : ℕ) → 1 ≤ level → frames six (pred level) ≡ frames_of six level
frames-own zero lo = absurd (omega arith)
frames-own (suc d) lo = refl

pub frames-below : (level : ℕ) → 2 ≤ level → frames_of six (level - 1) ≡ frames six (pred (pred level))
frames-below zero lo = absurd (omega arith)
frames-below (suc zero) lo = absurd (omega arith)
frames-below (suc (suc d)) lo = ap (frames_of six) (sub-one (suc (suc d)))

pub children-frames : (level : ℕ) → 2 ≤ level → frames_of six level ≡ fan_out_of six level * frames_of six (level - 1)
unfolding frames
children-frames zero lo = absurd (omega arith)
children-frames (suc zero) lo = absurd (omega arith)
children-frames (suc (suc d)) lo = ap (λ (j : ℕ). fan six (suc d) * frames_of six j) (sym (sub-one (suc (suc d))))

-- the root is a node of the largest size, whose frames are all frames
pub root-level : most_code ≡ suc (top six)
unfolding top largest_code
root-level = refl

-- a node's level has room for the six sizes
pub small-six : suc (top six) < 8
small-six = omega (arith, root-level)

pub root-frames : frames_of six most_code ≡ most_frames
unfolding frames fan fan_out
root-frames = refl

pub top-frames : frames six (top six) ≡ most_frames
top-frames = sym (ap (frames_of six) root-level) ∙ root-frames

-- no frame up to the end of the largest block is cut off
pub frame-address : (f : ℕ) → f ≤ most_frames → frame_address six f ≡ f * bytes six smallest
unfolding frame_address frames_by_code fan_out largest_code
frame-address f h = ap (λ (x : ℕ). x * bytes six smallest) (omega arith)

pub largest_fit-at : (a e : ℕ) → a < e → e ≤ most_frames
    → (largest_at six (frame_address six a) (frame_address six e) ≡ suc (largest_fit six (top six) a e)) × (a + frames_of six (suc (largest_fit six (top six) a e)) ≤ e)
largest_fit-at a e l h = (
  ap₂ (λ (x y : ℕ). largest_at six x y) (frame-address a (omega arith)) (frame-address e h) ∙ six-tables.largest_agrees a e l,
  (largest_fit-ok six (top six) a e l).2,
)
