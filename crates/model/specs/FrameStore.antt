-- The frame store: what a user believes. Its state is which frames are free and which regions were seeded; every answer is defined by them alone.
-- It has no tree and no pool, so it never refuses with 9.
use Rattle.std.specs.Prelude.{◌≡◌, Bool, true, false, ◌&&◌, not, cond, List, [], ◌∷◌, ℕ, zero, suc, pred, ◌+◌, ◌*◌, ◌-◌, ◌/◌, ◌%◌, ◌<◌, leb, ltb, eqb, length}
use Rattle.sizes.specs.Ladder.{Ladder}
use Rattle.model.specs.Ladder.{frames, top, probes}
use Rattle.model.specs.Frames.{paint, count}
use Rattle.model.specs.Calls.{Region, seeded, Call, seed, acquire, release, report, stored, dealt, reported, Test, refuse, verdict, Outcome, settle}

-- every number below n passes
unfoldable pub all_below : (ℕ → Bool) → ℕ → Bool
all_below p zero = true
all_below p (suc n) = all_below p n && p n

-- the first number below n that passes, n if none does
unfoldable pub first_below : (ℕ → Bool) → ℕ → ℕ
first_below p zero = 0
first_below p (suc n) = cond (p 0) 0 (suc (first_below (λ i. p (suc i)) n))

-- every frame of the block of s frames at b is in g
unfoldable pub whole : (ℕ → Bool) → (b s : ℕ) → Bool
whole g b s = all_below (λ j. g (b + j)) s

-- no frame of it is
unfoldable pub bare : (ℕ → Bool) → (b s : ℕ) → Bool
bare g b s = all_below (λ j. not (g (b + j))) s

-- which frames are free, and the regions
pub record Frames : Type 0 where
  pub free : ℕ → Bool
  pub regions : List Region

module _ (L : Ladder) where
  -- how many frames memory has
  abbrev pub memory : ℕ
  memory = frames L (top L)

  -- how many frames a block of the code has
  abbrev pub size : ℕ → ℕ
  size c = frames L (pred c)

  -- how many aligned blocks of the code there are
  abbrev pub blocks : ℕ → ℕ
  blocks c = memory / size c

  -- the number of the lowest of them that is wholly in g
  unfoldable pub lowest_free : (ℕ → Bool) → ℕ → ℕ
  lowest_free g c = first_below (λ i. whole g (i * size c) (size c)) (blocks c)

  -- the largest code, c at most, of which a block is wholly in g
  unfoldable pub largest_free : (ℕ → Bool) → ℕ → ℕ
  largest_free g zero = 0
  largest_free g (suc c) = cond (ltb (lowest_free g (suc c)) (blocks (suc c))) (suc c) (largest_free g c)

  -- the same regions, and the same frames of memory free
  pub record Same (g g' : Frames) : Type 0 where
    pub regions : g.regions ≡ g'.regions
    pub frames : (f : ℕ) → f < memory → g.free f ≡ g'.free f

  -- what each call does, unless it is refused
  unfoldable pub frame_act : Frames → Call → Outcome Frames
  frame_act s (seed a e) = record { state = record { free = paint a (e - a) true s.free; regions = record { start = a; end = e } ∷ s.regions }; answer = stored }
  frame_act s (acquire c) =
      let b = lowest_free s.free c * size c in
      record { state = record { free = paint b (size c) false s.free; regions = s.regions }; answer = dealt b (probes L (top L) (pred c) b) }
  frame_act s (release b c) = record { state = record { free = paint b (size c) true s.free; regions = s.regions }; answer = stored }
  frame_act s report = record { state = s; answer = reported (count (seeded s.regions) memory) (count s.free memory) (largest_free s.free (suc (top L))) }

  module _ (most : ℕ) where
    -- the refusals of each call, in document 01's order
    unfoldable pub refusals : Frames → Call → List Test
    refusals s (seed a e) =
        refuse 2 (leb e a) ∷ refuse 3 (ltb memory e) ∷ refuse 5 (leb most (length s.regions)) ∷ refuse 4 (not (bare (seeded s.regions) a (e - a))) ∷ []
    refusals s (acquire c) = refuse 1 (eqb c 0) ∷ refuse 1 (ltb (suc (top L)) c) ∷ refuse 8 (leb (blocks c) (lowest_free s.free c)) ∷ []
    refusals s (release b c) =
        refuse 1 (eqb c 0) ∷ refuse 1 (ltb (suc (top L)) c) ∷ refuse 2 (not (eqb (b % size c) 0)) ∷ refuse 3 (ltb (memory - size c) b)
        ∷ refuse 6 (not (whole (seeded s.regions) b (size c))) ∷ refuse 7 (not (bare s.free b (size c))) ∷ []
    refusals s report = []

    unfoldable pub frame_step : Frames → Call → Outcome Frames
    frame_step s c = settle (verdict (refusals s c)) s (frame_act s c)
