-- Which frames are free, read off the words of a pool: no tree is needed to say it.
use Rattle.std.specs.Prelude.{Bool, true, false, List, ℕ, zero, suc, ◌+◌, ◌/◌, ◌%◌}
use Rattle.sizes.specs.Ladder.{Ladder}
use Rattle.model.specs.Ladder.{frames, top}
use Rattle.pool.specs.Words.{word, link_of, has_token}

module _ (L : Ladder) where
  -- is frame f free, counted from the first frame of the node of level d + 1 at q: a token stands at or above it on its path
  unfoldable pub free_below : (d : ℕ) → List ℕ → (q f : ℕ) → Bool
  free_below zero p q f = has_token (word p q)
  free_below (suc d) p q f = elim (has_token (word p q)) [
    | true ↦ true
    | false ↦ elim (link_of (word p q)) [ zero ↦ false | suc k ↦ free_below d p (suc (suc k) + f / frames L d) (f % frames L d) ]
  ]

  -- is frame f of memory free
  abbrev pub is_free : List ℕ → ℕ → Bool
  is_free p f = free_below (top L) p 0 f
