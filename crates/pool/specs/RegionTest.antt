-- The test of the regions, place by place, as it runs.
use Rattle.std.specs.Prelude.{Bool, true, ◌&&◌, cond, List, [], ◌∷◌, ℕ, suc, ◌%◌, leb, ltb, eqb, get_or, drop}
use Rattle.sizes.specs.Ladder.{Ladder, smallest, largest, bytes, address_frame}
use Rattle.model.specs.TreeStore.{apart}
use Rattle.pool.specs.Regions.{regions_of}

-- all places are zero
unfoldable pub zeros : (starts ends : List ℕ) → Bool
zeros [] es = true
zeros (s ∷ ss) [] = true
zeros (s ∷ ss) (e ∷ es) = eqb s 0 && (eqb e 0 && zeros ss es)

module _ (L : Ladder) where
  -- page-aligned, not empty, ends at or below the largest block's end
  unfoldable pub region_passes : (s e : ℕ) → Bool
  region_passes s e = eqb (s % bytes L smallest) 0 && (eqb (e % bytes L smallest) 0 && (ltb s e && leb e (bytes L (largest L))))

  unfoldable pub regions_pass : (starts ends : List ℕ) → Bool
  regions_pass [] es = true
  regions_pass (s ∷ ss) [] = true
  regions_pass (s ∷ ss) (e ∷ es) = cond (eqb e 0) (zeros (s ∷ ss) (e ∷ es)) (region_passes s e && (apart (address_frame L s) (address_frame L e) (regions_of L ss es) && regions_pass ss es))

  -- the region at the place i passes, and shares no frame with those behind it
  unfoldable pub region_at : (starts ends : List ℕ) → (i : ℕ) → Bool
  region_at ss es i =
      let s = get_or ss i 0 in
      let e = get_or es i 0 in
      region_passes s e && apart (address_frame L s) (address_frame L e) (regions_of L (drop (suc i) ss) (drop (suc i) es))
