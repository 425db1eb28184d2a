-- What is read off a pool before a call writes: the words that it would open, the block that an acquire takes, whether a frame of a block is free.
use Rattle.std.specs.Prelude.{Bool, true, false, List, ℕ, zero, suc, ◌+◌, ◌*◌, ◌/◌, ◌%◌, ltb}
use Rattle.sizes.specs.Ladder.{Ladder}
use Rattle.model.specs.Ladder.{fan, frames, top}
use Rattle.model.specs.Lists.{sum}
use Rattle.model.specs.TreeStore.{largest_fit}
use Rattle.pool.specs.Words.{word, max_of, token_of, link_of, has_token, first_child, run}
use Rattle.pool.specs.Nodes.{children_first}

-- how many of the n nodes from a on have tokens
unfoldable pub tokens_in : List ℕ → (a n : ℕ) → ℕ
tokens_in p a n = sum token_of (run p a n)

module _ (L : Ladder) where
  -- the words that opening a whole path takes, from an unopened node of level d + 1 down to a block of level d' + 1
  unfoldable pub path : (d d' : ℕ) → ℕ
  path zero d' = 0
  path (suc d) d' = elim (ltb d' (suc d)) [ false ↦ 0 | true ↦ suc (fan L (suc d)) + path d d' ]

  -- the words that a store or an acquire of the block of level d' + 1 at frame b of the node of level d + 1 at q opens
  unfoldable pub openings_w : (d d' : ℕ) → List ℕ → (q b : ℕ) → ℕ
  openings_w zero d' p q b = 0
  openings_w (suc d) d' p q b = elim (ltb d' (suc d)) [
    | false ↦ 0
    | true ↦ elim (link_of (word p q)) [ zero ↦ suc (fan L (suc d)) + path d d' | suc k ↦ openings_w d d' p (suc (suc k) + b / frames L d) (b % frames L d) ]
  ]

  -- the first frame of the block of level d' + 1 that an acquire takes
  unfoldable pub pick_w : (d d' : ℕ) → List ℕ → (q : ℕ) → ℕ
  pick_w zero d' p q = 0
  pick_w (suc d) d' p q = elim (has_token (word p q)) [
    | true ↦ 0
    | false ↦ let i = children_first (suc d') p (first_child p q) (fan L (suc d)) in i * frames L d + pick_w d d' p (first_child p q + i)
  ]

  -- is some frame of the block free
  unfoldable pub any_free_w : (d d' : ℕ) → List ℕ → (q b : ℕ) → Bool
  any_free_w zero d' p q b = elim (has_token (word p q)) [ true ↦ true | false ↦ ltb 0 (max_of (word p q)) ]
  any_free_w (suc d) d' p q b = elim (has_token (word p q)) [
    | true ↦ true
    | false ↦ elim (ltb d' (suc d)) [
      | false ↦ ltb 0 (max_of (word p q))
      | true ↦ elim (link_of (word p q)) [ zero ↦ false | suc k ↦ any_free_w d d' p (suc (suc k) + b / frames L d) (b % frames L d) ]
    ]
  ]

  -- of a seed's later blocks: an unopened node on the way that also holds the frame before the block is open by then
  unfoldable pub path_after : (d d' b : ℕ) → ℕ
  path_after zero d' b = 0
  path_after (suc d) d' zero = path (suc d) d'
  path_after (suc d) d' (suc b) = elim (ltb d' (suc d)) [ false ↦ 0 | true ↦ path_after d d' (suc b % frames L d) ]

  -- the words that the store of a block at b opens, where the frame before b was stored since
  unfoldable pub openings_after_w : (d d' : ℕ) → List ℕ → (q b : ℕ) → ℕ
  openings_after_w zero d' p q b = 0
  openings_after_w (suc d) d' p q zero = openings_w (suc d) d' p q 0
  openings_after_w (suc d) d' p q (suc b) = elim (ltb d' (suc d)) [
    | false ↦ 0
    | true ↦ elim (link_of (word p q)) [ zero ↦ path_after d d' (suc b % frames L d) | suc k ↦ openings_after_w d d' p (suc (suc k) + suc b / frames L d) (suc b % frames L d) ]
  ]

  -- the words that a seed of the frames from a to e opens, in k blocks at most: behind its first block, and in all
  unfoldable pub seed_rest_w : (k : ℕ) → List ℕ → (a e : ℕ) → ℕ
  seed_rest_w zero p a e = 0
  seed_rest_w (suc k) p a e = elim (ltb a e) [
    | false ↦ 0
    | true ↦ let c = largest_fit L (top L) a e in openings_after_w (top L) c p 0 a + seed_rest_w k p (a + frames L c) e
  ]

  unfoldable pub seed_openings_w : (k : ℕ) → List ℕ → (a e : ℕ) → ℕ
  seed_openings_w zero p a e = 0
  seed_openings_w (suc k) p a e = elim (ltb a e) [
    | false ↦ 0
    | true ↦ let c = largest_fit L (top L) a e in openings_w (top L) c p 0 a + seed_rest_w k p (a + frames L c) e
  ]
