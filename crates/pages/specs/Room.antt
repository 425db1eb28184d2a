-- What room_for answers: how many pool words a state's regions and one more can ever take.
use Rattle.std.specs.Prelude.{◌≡◌, false, List, ◌∷◌, ℕ, zero, suc}
use Rattle.sizes.specs.Ladder.{Ladder, address_frame}
use Rattle.model.specs.Calls.{Region, seed, verdict}
use Rattle.model.specs.Room.{room_for}
use Rattle.pool.specs.Regions.{Regions, regions_of, newest}
use Rattle.pages.specs.declared.state.State.{State}
use Rattle.pages.specs.Calls.{refusals}

-- the region from a to e, and those of the state, in frames
abbrev pub with_region : Ladder → State → (a e : ℕ) → List Region
with_region L s a e = record { start = address_frame L a; end = address_frame L e } ∷ regions_of L s.starts s.ends

-- the words, unless it is refused
abbrev pub room_or : (refusal words : ℕ) → ℕ
room_or zero w = w
room_or (suc n) w = 0

-- a ladder, the most regions, the most words of a pool
module _ (L : Ladder) (most limit : ℕ) where
  -- the refusal number of a seed that no pool is needed for, so free frames do not matter: 2, 3, 5 or 4, the first in order winning; 0 for none
  unfoldable pub region_refusal : State → (a e : ℕ) → ℕ
  region_refusal s a e = verdict (refusals L most limit (record { free = λ f. false; regions = newest L s.starts s.ends }) (seed a e))

  -- THE PROMISE OF ROOM_FOR: 10 where the regions are not sound, else as a seed is refused but for 9
  pub record Plans (s : State) (a e : ℕ) (refusal words : ℕ) : Type 0 where
    pub unsound : (Regions L most s.starts s.ends → ⊥) → (refusal ≡ 10) × (words ≡ 0)
    pub sound : Regions L most s.starts s.ends → (refusal ≡ region_refusal s a e) × (words ≡ room_or (region_refusal s a e) (room_for L (with_region L s a e)))
