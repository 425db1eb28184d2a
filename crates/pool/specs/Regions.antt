-- The regions of a state (document 01, 'State and pool words'): a start and an end in bytes for each place, in seeding order.
use Rattle.std.specs.Prelude.{◌≡◌, cond, List, [], ◌∷◌, reverse, ℕ, ◌*◌, ◌%◌, ◌≤◌, ◌<◌, eqb, get_or}
use Rattle.sizes.specs.Ladder.{Ladder, smallest, largest, bytes, address_frame}
use Rattle.model.specs.Calls.{Region}

module _ (L : Ladder) where
  -- frame f lies between the addresses s and e
  pub record Holds (s e f : ℕ) : Type 0 where
    pub low : s ≤ f * bytes L smallest
    pub high : f * bytes L smallest < e

  -- region places are filled from the first without a gap and all behind them are zero; regions are page-aligned, not empty, end at or below the largest block's end and share no frame
  pub record Regions (most : ℕ) (starts ends : List ℕ) : Type 0 where
    pub count : ℕ
    pub few : count ≤ most
    pub rest : (i : ℕ) → count ≤ i → (get_or starts i 0 ≡ 0) × (get_or ends i 0 ≡ 0)
    pub aligned : (i : ℕ) → i < count → (get_or starts i 0 % bytes L smallest ≡ 0) × (get_or ends i 0 % bytes L smallest ≡ 0)
    pub some : (i : ℕ) → i < count → get_or starts i 0 < get_or ends i 0
    pub within : (i : ℕ) → i < count → get_or ends i 0 ≤ bytes L (largest L)
    pub alone : (i j f : ℕ) → i < j → j < count → Holds (get_or starts i 0) (get_or ends i 0) f → Holds (get_or starts j 0) (get_or ends j 0) f → ⊥

  -- the regions in frames, in seeding order: the places before the first whose end is 0; of a sound state these are all
  unfoldable pub regions_of : (starts ends : List ℕ) → List Region
  regions_of [] es = []
  regions_of (s ∷ ss) [] = []
  regions_of (s ∷ ss) (e ∷ es) = cond (eqb e 0) [] (record { start = address_frame L s; end = address_frame L e } ∷ regions_of ss es)

  -- the newest first, as the frame store has them
  abbrev pub newest : (starts ends : List ℕ) → List Region
  newest starts ends = reverse (regions_of starts ends)
