-- The words of a pool (document 01, 'State and pool words'): the fields of a node word, and what stands at a place.
use Rattle.std.specs.Prelude.{Bool, List, ℕ, zero, suc, ◌+◌, ◌*◌, ◌/◌, ◌%◌, eqb, get_or, take, drop}
use Rattle.sizes.specs.Ladder.{Ladder}
use Rattle.model.specs.Ladder.{fan, frames}

-- the word at a place; 0 behind the pool's end
abbrev pub word : List ℕ → ℕ → ℕ
word p q = get_or p q 0

-- a node word by its fields
unfoldable pub pack : (max token level link : ℕ) → ℕ
pack m t l k = m + 8 * t + 16 * l + 128 * k

-- the code of the largest free block at or below the node, 0 for none
abbrev pub max_of : ℕ → ℕ
max_of v = v % 8

-- 1 if the node itself is offered whole
abbrev pub token_of : ℕ → ℕ
token_of v = v / 8 % 2

-- the node's code
abbrev pub level_of : ℕ → ℕ
level_of v = v / 16 % 8

-- the place of the header of its child block, 0 if unopened
abbrev pub link_of : ℕ → ℕ
link_of v = v / 128

-- the node is offered whole
abbrev pub has_token : ℕ → Bool
has_token v = eqb (token_of v) 1

-- the place of the first child of the node at q, behind the header
abbrev pub first_child : List ℕ → ℕ → ℕ
first_child p q = suc (link_of (word p q))

-- the n words from the place a on
abbrev pub run : List ℕ → (a n : ℕ) → List ℕ
run p a n = take n (drop a p)

-- f a + f (a + 1) + …, n summands
unfoldable pub sum_over : (a n : ℕ) → (ℕ → ℕ) → ℕ
sum_over a zero f = 0
sum_over a (suc n) f = f a + sum_over (suc a) n f

module _ (L : Ladder) where
  -- how many children a node of a level has. A node of level 1 has none in a sound pool; its number here is that of `model/specs/Ladder`
  abbrev pub fan_out_of : ℕ → ℕ
  fan_out_of zero = 0
  fan_out_of (suc d) = fan L d

  -- how many frames a node of a level has
  abbrev pub frames_of : ℕ → ℕ
  frames_of zero = 0
  frames_of (suc d) = frames L d
