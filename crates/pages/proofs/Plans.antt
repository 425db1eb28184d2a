-- The promise of room_for by what the code reads: the test of the regions, the refusal of a seed, the room by intervals. Assumes a ladder whose sizes multiply up.
use mathlib.Core.Bool.{true, false, true≢false}
use mathlib.Core.List.{◌∷◌}
use mathlib.Core.Path.{◌≡◌, refl, sym, ap, ap₂, ◌∙◌}
use Prim.Native.Nat.{ℕ, zero, suc}
use lib.ListN.{length}
use Rattle.sizes.specs.Ladder.{Ladder, address_frame}
use Rattle.sizes.specs.Laws.{MultipliesUp}
use Rattle.model.specs.Calls.{Regions as FrameRegions}
use Rattle.model.specs.FrameStore.{memory}
use Rattle.model.specs.Room.{room_for}
use Rattle.model.proofs.Regions.{apart-iff}
use Rattle.pool.specs.Planned.{room_by}
use Rattle.pool.specs.Regions.{regions_of}
use Rattle.pool.specs.RegionTest.{regions_pass}
use Rattle.pool.proofs.Planned.{room_by-room_for}
use Rattle.pool.proofs.Regions.{regions-fit, regions-of, regions-if}
use Rattle.pages.specs.declared.state.State.{State}
use Rattle.pages.specs.Room.{with_region, region_refusal, room_or, Plans}
use Rattle.pages.proofs.SeedTests.{spans-frames, Joins, joins}

module _ (L : Ladder) (most limit : ℕ) (m : MultipliesUp L) (s : State) (hs : length s.starts ≡ most) (he : length s.ends ≡ most) (x y : ℕ) where
  -- 10: the regions do not pass
  pub plans-unsound : regions_pass L s.starts s.ends ≡ false → Plans L most limit s x y 10 0
  plans-unsound e = record {
    unsound = λ r. (refl, refl);
    sound = λ r. absurd (true≢false (sym (regions-if L m most s.starts s.ends hs he r) ∙ e));
  }

  module _ (h : regions_pass L s.starts s.ends ≡ true) where
    -- a refusal of the seed
    pub plans-refused : (n : ℕ) → n ≡ region_refusal L most limit s x y → (n ≡ 0 → ⊥) → Plans L most limit s x y n 0
    plans-refused zero e z = absurd (z refl)
    plans-refused (suc n) e z = record {
      unsound = λ r. absurd (r (regions-of L m most s.starts s.ends hs he h));
      sound = λ r. (e, ap (λ (k : ℕ). room_or k (room_for L (with_region L s x y))) e);
    }

    -- a region that joins the others, and these, are regions of memory
    pub joined : Joins L most limit m s h x y → FrameRegions (memory L) (with_region L s x y)
    joined j =
        let rest = regions-fit L m s.starts s.ends h in
        let f = spans-frames L m x y j.spans in
        (record { some = f.some; ends = f.within; alone = (apart-iff (memory L) (address_frame L x) (address_frame L y) (regions_of L s.starts s.ends) rest f.some).0 j.alone }, rest)

    -- no refusal: the words are counted by intervals
    pub plans-room : (f g w : ℕ) → 0 ≡ region_refusal L most limit s x y → f ≡ address_frame L x → g ≡ address_frame L y
        → w ≡ room_by L (record { start = f; end = g } ∷ regions_of L s.starts s.ends) → Plans L most limit s x y 0 w
    plans-room f g w e hf hg hw = record {
      unsound = λ r. absurd (r (regions-of L m most s.starts s.ends hs he h));
      sound = λ r. (e, words ∙ ap (λ (k : ℕ). room_or k (room_for L (with_region L s x y))) e);
    }
      where
        words : w ≡ room_for L (with_region L s x y)
        words = hw ∙ ap₂ (λ (i j : ℕ). room_by L (record { start = i; end = j } ∷ regions_of L s.starts s.ends)) hf hg ∙ room_by-room_for L (with_region L s x y) (joined (joins L most limit m s h x y (sym e)))
