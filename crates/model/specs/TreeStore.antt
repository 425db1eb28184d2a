-- The store on a tree: seed, acquire, release and report, each with its refusals in order, for a pool of n words and a given most number of regions.
use Rattle.std.specs.Prelude.{Bool, true, false, ◌&&◌, not, List, [], ◌∷◌, ℕ, zero, suc, pred, ◌+◌, ◌-◌, ◌/◌, ◌%◌, max, min, leb, ltb, eqb, length}
use Rattle.sizes.specs.Ladder.{Ladder}
use Rattle.model.specs.Ladder.{frames, top, probes}
use Rattle.model.specs.Calls.{Region, Call, seed, acquire, release, report, stored, dealt, reported, Test, refuse, verdict, Outcome, settle}
use Rattle.model.specs.Lists.{maximum, sum, all}
use Rattle.model.specs.Tree.{node, Tree, empty, child, largest, words, free_frames, store, remove, pick}

-- how many frames of the block of s frames at b lie in the region
abbrev pub overlap : (b s : ℕ) → Region → ℕ
overlap b s r = min r.end (b + s) - max r.start b

-- every frame of the block lies in a region, where regions share no frame
abbrev pub covered : List Region → (b s : ℕ) → Bool
covered rs b s = eqb (sum (overlap b s) rs) s

-- the frames from a to e are in no region
abbrev pub apart : (a e : ℕ) → List Region → Bool
apart a e rs = all (λ r. leb (min e r.end) (max a r.start)) rs

-- the frames of all regions
abbrev pub seeded_frames : List Region → ℕ
seeded_frames rs = sum (λ r. r.end - r.start) rs

module _ (L : Ladder) where
  -- some frame of the block of code suc d' at b is free
  unfoldable pub any_free : (d d' : ℕ) → Tree d → ℕ → Bool
  any_free zero d' v b = v
  any_free (suc d) d' (node true ks) b = true
  any_free (suc d) d' (node false ks) b = elim (ltb d' (suc d)) [
    | false ↦ ltb 0 (maximum (largest d) ks)
    | true ↦ any_free d d' (child d ks (b / frames L d)) (b % frames L d)
  ]

  -- for a < e, one less than the largest code, suc d at most, of a block that is aligned at a and ends at or before e
  unfoldable pub largest_fit : (d a e : ℕ) → ℕ
  largest_fit zero a e = 0
  largest_fit (suc d) a e = elim (eqb (a % frames L (suc d)) 0 && leb (a + frames L (suc d)) e) [ true ↦ suc d | false ↦ largest_fit d a e ]

  -- store the frames from a to e, the largest block first, in k blocks at most
  unfoldable pub seed_from : ℕ → Tree (top L) → (a e : ℕ) → Tree (top L)
  seed_from zero t a e = t
  seed_from (suc k) t a e = elim (ltb a e) [
    | false ↦ t
    | true ↦ let d = largest_fit (top L) a e in seed_from k (store L (top L) d t a) (a + frames L d) e
  ]

  -- the pool words in use
  unfoldable pub used : Tree (top L) → ℕ
  used t = suc (words (top L) t)

  pub record State : Type 0 where
    pub tree : Tree (top L)
    pub regions : List Region

  abbrev pub fresh : State
  fresh = record { tree = empty (top L); regions = [] }

  -- the block that an acquire of the code deals
  abbrev pub picked : State → (code : ℕ) → ℕ
  picked s c = pick L (top L) (pred c) s.tree

  -- what each call does, unless it is refused
  unfoldable pub act : State → Call → Outcome State
  act s (seed a e) = record { state = record { tree = seed_from (e - a) s.tree a e; regions = record { start = a; end = e } ∷ s.regions }; answer = stored }
  act s (acquire c) = record {
    state = record { tree = remove L (top L) (pred c) s.tree (picked s c); regions = s.regions };
    answer = dealt (picked s c) (probes L (top L) (pred c) (picked s c));
  }
  act s (release b c) = record { state = record { tree = store L (top L) (pred c) s.tree b; regions = s.regions }; answer = stored }
  act s report = record { state = s; answer = reported (seeded_frames s.regions) (free_frames L (top L) s.tree) (largest (top L) s.tree) }

  -- the openings of the call would carry used past the pool's n words
  abbrev pub lacks_room : (n : ℕ) → State → Call → Bool
  lacks_room n s c = ltb n (used (act s c).state.tree)

  module _ (most : ℕ) where
    -- the refusals of each call, in document 01's order
    unfoldable pub tests : (n : ℕ) → State → Call → List Test
    tests n s (seed a e) =
        refuse 2 (leb e a) ∷ refuse 3 (ltb (frames L (top L)) e) ∷ refuse 5 (leb most (length s.regions))
        ∷ refuse 4 (not (apart a e s.regions)) ∷ refuse 9 (lacks_room n s (seed a e)) ∷ []
    tests n s (acquire c) = refuse 1 (eqb c 0) ∷ refuse 1 (ltb (suc (top L)) c) ∷ refuse 8 (ltb (largest (top L) s.tree) c) ∷ refuse 9 (lacks_room n s (acquire c)) ∷ []
    tests n s (release b c) =
        refuse 1 (eqb c 0) ∷ refuse 1 (ltb (suc (top L)) c) ∷ refuse 2 (not (eqb (b % frames L (pred c)) 0)) ∷ refuse 3 (ltb (frames L (top L) - frames L (pred c)) b)
        ∷ refuse 6 (not (covered s.regions b (frames L (pred c)))) ∷ refuse 7 (any_free (top L) (pred c) s.tree b) ∷ refuse 9 (lacks_room n s (release b c)) ∷ []
    tests n s report = []

    unfoldable pub step : (n : ℕ) → State → Call → Outcome State
    step n s c = settle (verdict (tests n s c)) s (act s c)
