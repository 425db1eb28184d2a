-- The laws of trees, seeding, tests and probes, over any ladder: the statements. `proofs/` proves each once.
use Rattle.std.specs.Prelude.{◌≡◌, ◌↔◌, Bool, true, false, List, [], ◌∷◌, ℕ, suc, ◌+◌, ◌*◌, ◌-◌, ◌%◌, ◌≤◌, ◌<◌}
use Rattle.sizes.specs.Ladder.{Ladder, smallest, largest as largest_code, bytes, fan_out, frames as frames_of, largest_at}
use Rattle.sizes.specs.Laws.{MultipliesUp}
use Rattle.sizes.specs.Six.{six}
use Rattle.model.specs.Ladder.{fan, frames, top, probes, fans}
use Rattle.model.specs.Frames.{Wholly, Changed, Lowest, count}
use Rattle.model.specs.Calls.{Region, Regions, seeded}
use Rattle.model.specs.FrameStore.{memory, blocks, lowest_free}
use Rattle.model.specs.Tree.{Tree, largest, words, free, free_frames, Sound, openings, store, remove, pick, looked}
use Rattle.model.specs.TreeStore.{covered, apart, any_free, largest_fit, seed_from}

-- the tests of regions, where these are not empty and share no frame
pub record RegionLaws (rs : List Region) : Type 0 where
  -- 4: a seed shares no frame with a region
  pub apart_is : (a e : ℕ) → a < e → (apart a e rs ≡ true) ↔ Wholly (seeded rs) a (e - a) false
  -- 6: every frame of a released block lies in a region
  pub covered_is : (b s : ℕ) → (covered rs b s ≡ true) ↔ Wholly (seeded rs) b s true

-- a block may straddle regions that touch at m
abbrev pub Straddles : Type 0
Straddles = (a m e b s : ℕ) → a < m → m < e → a ≤ b → b + s ≤ e → covered (record { start = m; end = e } ∷ record { start = a; end = m } ∷ []) b s ≡ true

module _ (L : Ladder) where
  -- the tree's numbers are those of the tables, at every code
  pub record OfTables : Type 0 where
    pub fan_agrees : (d : ℕ) → suc (suc d) ≤ largest_code L → fan L (suc d) ≡ fan_out L (suc (suc d))
    pub frames_agree : (d : ℕ) → suc d ≤ largest_code L → frames L d ≡ frames_of L (suc d)
    pub in_bytes : (d : ℕ) → suc d ≤ largest_code L → bytes L (suc d) ≡ frames L d * bytes L smallest
    pub largest_agrees : (a e : ℕ) → a < e → largest_at L (a * bytes L smallest) (e * bytes L smallest) ≡ suc (largest_fit L (top L) a e)

  -- the children looked at are no more than there are on the way, and none for the largest code
  pub record ProbeLaws : Type 0 where
    pub bounded : (d d' b : ℕ) → b < frames L d → probes L d d' b ≤ fans L d d'
    pub none : (d b : ℕ) → probes L d d b ≡ 0

  -- the block of code suc d' at frame b stands in a node of code suc d
  pub record BlockIn (d d' b : ℕ) : Type 0 where
    pub deep : d' ≤ d
    pub aligned : b % frames L d' ≡ 0
    pub fits : b + frames L d' ≤ frames L d

  -- what the frame store's search for a block of code suc d finds: the lowest wholly free one, and nothing exactly if there is none
  pub record FrameLaws (g : ℕ → Bool) (d : ℕ) : Type 0 where
    pub found : lowest_free L g (suc d) < blocks L (suc d) → Lowest g (memory L) (frames L d) (lowest_free L g (suc d) * frames L d)
    pub none : (blocks L (suc d) ≤ lowest_free L g (suc d)) ↔ ((b : ℕ) → BlockIn (top L) d b → Wholly g b (frames L d) true → ⊥)

  -- t' has the frames of the block of code suc d' at b set to v, all others as in t, and is sound
  abbrev pub Made : (d d' : ℕ) → Bool → Tree d → ℕ → Tree d → Type 0
  Made d d' v t b t' = Changed (free L d t) (free L d t') (frames L d) b (frames L d') v × Sound L d t'

  -- t' is sound and offers the same frames
  pub record Alike (d : ℕ) (t t' : Tree d) : Type 0 where
    pub frames : (f : ℕ) → f < frames L d → free L d t f ≡ free L d t' f
    pub sound : Sound L d t'

  -- the laws of a sound tree
  pub record TreeLaws (d : ℕ) (t : Tree d) : Type 0 where
    -- a wholly free aligned block of a size exists exactly if largest is at least its code (8 is refused exactly if none does)
    pub offers : (d' : ℕ) → d' ≤ d → (suc d' ≤ largest d t) ↔ ((b : ℕ) × BlockIn d d' b × Wholly (free L d t) b (frames L d') true)
    -- pick is the lowest such block
    pub lowest : (d' : ℕ) → suc d' ≤ largest d t → Lowest (free L d t) (frames L d) (frames L d') (pick L d d' t)
    -- the children looked at on the way to it are counted by its base and code alone
    pub looked : (d' : ℕ) → suc d' ≤ largest d t → looked L d d' t ≡ probes L d d' (pick L d d' t)
    -- largest and pick depend on the free frames alone
    pub same_largest : (t' : Tree d) → Alike d t t' → largest d t ≡ largest d t'
    pub same_pick : (t' : Tree d) → Alike d t t' → (d' : ℕ) → suc d' ≤ largest d t → pick L d d' t ≡ pick L d d' t'
    -- 7: some frame of a block is free
    pub any_free_is : (d' b : ℕ) → BlockIn d d' b → (any_free L d d' t b ≡ false) ↔ Wholly (free L d t) b (frames L d') false
    -- the free frames are counted
    pub counted : free_frames L d t ≡ count (free L d t) (frames L d)
    -- after taking a wholly free block the free frames are those before less the block
    pub taken : (d' b : ℕ) → BlockIn d d' b → Wholly (free L d t) b (frames L d') true → Made d d' false t b (remove L d d' t b)
    pub fewer : (d' b : ℕ) → BlockIn d d' b → Wholly (free L d t) b (frames L d') true → free_frames L d t ≡ free_frames L d (remove L d d' t b) + frames L d'
    -- after storing a block none of whose frames is free, those before and the block
    pub stored : (d' b : ℕ) → BlockIn d d' b → Wholly (free L d t) b (frames L d') false → Made d d' true t b (store L d d' t b)
    pub more : (d' b : ℕ) → BlockIn d d' b → Wholly (free L d t) b (frames L d') false → free_frames L d (store L d d' t b) ≡ free_frames L d t + frames L d'
    -- both open the block's unopened ancestors, and shut nothing
    pub taken_words : (d' b : ℕ) → BlockIn d d' b → words d (remove L d d' t b) ≡ words d t + openings L d d' t b
    pub stored_words : (d' b : ℕ) → BlockIn d d' b → words d (store L d d' t b) ≡ words d t + openings L d d' t b

  -- d is one less than the largest code of a block that is aligned at a and ends at or before e
  pub record LargestFit (a e d : ℕ) : Type 0 where
    pub deep : d ≤ top L
    pub aligned : a % frames L d ≡ 0
    pub ends : a + frames L d ≤ e
    pub most : (d' : ℕ) → d' ≤ top L → a % frames L d' ≡ 0 → a + frames L d' ≤ e → d' ≤ d

  -- the laws of seeding the frames from a to e, none of them free before
  pub record SeedLaws (t : Tree (top L)) (a e : ℕ) : Type 0 where
    -- it frees exactly these, and keeps soundness
    pub frames : Changed (free L (top L) t) (free L (top L) (seed_from L (e - a) t a e)) (frames L (top L)) a (e - a) true
    pub sound : Sound L (top L) (seed_from L (e - a) t a e)
    pub more : free_frames L (top L) (seed_from L (e - a) t a e) ≡ free_frames L (top L) t + (e - a)
    -- it ends: more turns change nothing
    pub ends : (k : ℕ) → e - a ≤ k → seed_from L k t a e ≡ seed_from L (e - a) t a e
    -- touching regions merge: seeded in two parts that touch at m, the same frames are offered as seeded at once, so the same blocks
    pub merges : (m : ℕ) → a ≤ m → m ≤ e → Alike (top L) (seed_from L (e - a) t a e) (seed_from L (e - m) (seed_from L (m - a) t a m) m e)

  -- what is proved of every ladder, tree, set of frames and list of regions
  pub record Laws : Type 0 where
    pub of_tables : MultipliesUp L → OfTables
    pub probe_laws : ProbeLaws
    pub tree_laws : (d : ℕ) (t : Tree d) → Sound L d t → TreeLaws d t
    pub largest_fit_is : (a e : ℕ) → a < e → LargestFit a e (largest_fit L (top L) a e)
    pub seed_laws : (t : Tree (top L)) (a e : ℕ) → Sound L (top L) t → a ≤ e → e ≤ memory L → Wholly (free L (top L) t) a (e - a) false → SeedLaws t a e
    pub region_laws : (rs : List Region) → Regions (memory L) rs → RegionLaws rs
    pub frame_laws : (g : ℕ → Bool) (d : ℕ) → d ≤ top L → FrameLaws g d

-- no acquire of the six sizes looks at more than 1,412 children
abbrev pub SixProbes : Type 0
SixProbes = (d' b : ℕ) → b < frames six (top six) → probes six (top six) d' b ≤ 1412
