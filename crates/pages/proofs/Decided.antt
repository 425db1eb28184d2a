-- What the check finds of a sound store, and of no other, test by test. Assumes nothing.
use mathlib.Core.Bool.{true, true≢false}
use mathlib.Core.List.{List}
use mathlib.Core.Path.{◌≡◌, sym, ap, ◌∙◌}
use Prim.Native.Nat.{ℕ, ◌-◌, ◌≤◌, ◌<◌}
use native.Mathlib.Omega.{arith}
use lib.Dec.{eqb, ltb}
use lib.ListN.{length}
use borrow.Author.Tests.{eq-eqb, eqb-true}
use Rattle.std.proofs.Common.{Option, Some, None, unwrap_or}
use Rattle.std.specs.Option.{option_eq}
use Rattle.sizes.specs.Six.{six, most_code}
use Rattle.sizes.proofs.Six.{six-multiplies}
use Rattle.pool.specs.Check.{passes, sweep, walk}
use Rattle.pool.specs.Limits.{places, pool_limit}
use Rattle.pool.specs.RegionTest.{regions_pass}
use Rattle.pool.specs.Regions.{regions_of}
use Rattle.pool.specs.Words.{fan_out_of, frames_of}
use Rattle.pool.proofs.Sizes.{root-frames, root-level}
use Rattle.pages.specs.Sound.{Sound}
use Rattle.pages.proofs.Decide.{check_sound, sound-check}

-- the walk from the root
abbrev root_walk : (used : ℕ) (starts ends p : List ℕ) (level : ℕ) → ℕ
root_walk used starts ends p level = walk (fan_out_of six) (frames_of six) ltb p (passes (fan_out_of six) (frames_of six) p (regions_of six starts ends)) used level 0 0 0

module _ (used : ℕ) (starts ends p : List ℕ) (ls : length starts ≡ places) (le : length ends ≡ places) where
  pub check-sound : 1 ≤ used → used ≤ length p → length p ≤ pool_limit → regions_pass six starts ends ≡ true → root_walk used starts ends p most_code ≡ used - 1 → sweep (fan_out_of six) p most_code (used - 1) 1 0 ≡ true → Sound six ltb places pool_limit used starts ends p
  check-sound low high limited regions walked swept =
      check_sound six six-multiplies places pool_limit used starts ends p ls le (record {
        low = low;
        high = high;
        limited = limited;
        regions = regions;
        walked = ap (root_walk used starts ends p) (sym root-level) ∙ walked;
        swept = ap (λ (level : ℕ). sweep (fan_out_of six) p level (used - 1) 1 0) (sym root-level) ∙ swept;
      })

  pub sound-regions : Sound six ltb places pool_limit used starts ends p → regions_pass six starts ends ≡ true
  sound-regions s = (sound-check six six-multiplies places pool_limit used starts ends p ls le s).regions

  pub sound-walked : Sound six ltb places pool_limit used starts ends p → root_walk used starts ends p most_code ≡ used - 1
  sound-walked s = ap (root_walk used starts ends p) root-level ∙ (sound-check six six-multiplies places pool_limit used starts ends p ls le s).walked

  pub sound-swept : Sound six ltb places pool_limit used starts ends p → sweep (fan_out_of six) p most_code (used - 1) 1 0 ≡ true
  sound-swept s = ap (λ (level : ℕ). sweep (fan_out_of six) p level (used - 1) 1 0) root-level ∙ (sound-check six six-multiplies places pool_limit used starts ends p ls le s).swept

-- a count is n exactly if the test says so, where none stands for a number above n
pub same-count : (count : Option ℕ) (n used : ℕ) → n < used → unwrap_or count used ≡ n → option_eq eqb count (Some n) ≡ true
same-count None n used lt e = absurd (omega arith)
same-count (Some count) n used lt e = eq-eqb count n e

pub count-same : (count : Option ℕ) (n used : ℕ) → option_eq eqb count (Some n) ≡ true → unwrap_or count used ≡ n
count-same None n used e = absurd (true≢false (sym e))
count-same (Some count) n used e = eqb-true count n e

pub ruleset decides = (check-sound, sound-regions, sound-walked, sound-swept, same-count, count-same, root-frames)
