-- The words that a store or an acquire opens, by what is known of the frame before the block.
use Rattle.std.specs.Prelude.{List, ℕ}
use Rattle.sizes.specs.Six.{six}
use Rattle.pool.specs.Room.{openings_w, openings_after_w, seed_openings_w, seed_rest_w}
use Rattle.pages.specs.declared.room.Before.{Before}
use Rattle.pages.specs.declared.room.Before.TheVariants.{AsItIs, Stored}

-- the words that the block of level d' + 1 at frame b of the node of level d + 1 at q opens
abbrev pub openings_by : Before → (d d' : ℕ) → List ℕ → (q b : ℕ) → ℕ
openings_by AsItIs d d' p q b = openings_w six d d' p q b
openings_by Stored d d' p q b = openings_after_w six d d' p q b

-- the words that what is left of a seed opens, in k blocks at most
abbrev pub left_by : Before → (k : ℕ) → List ℕ → (a e : ℕ) → ℕ
left_by AsItIs k p a e = seed_openings_w six k p a e
left_by Stored k p a e = seed_rest_w six k p a e
