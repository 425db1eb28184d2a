-- Document 01's journal on words, computed: every word of the pool behind each call. The words are the reference's of `oracle/`.
use Rattle.std.specs.Prelude.{◌≡◌, List, [], ◌∷◌, ◌++◌, ℕ, set, replicate}
use Rattle.sizes.specs.Six.{six}
use Rattle.pool.specs.Nodes.{Words, Taken, store_w, take_w, words, seed_w}
use Rattle.pool.specs.Room.{openings_w, pick_w, seed_openings_w}

-- so many words of one value
pub data Run : Type 0 where
  of : (n word : ℕ) → Run

unfoldable pub laid : List Run → List ℕ
laid [] = []
laid (of n v ∷ rs) = replicate n v ++ laid rs

-- a new root in a pool of zeros
abbrev pub fresh : (n : ℕ) → Words
fresh n = words (set (replicate n 0) 0 96) 1

-- the words below the root of 16 KiB, 4 KiB and 4 KiB at 2^31, by those that differ from call to call: the path's, the 16 KiB node's, and what stands behind them
abbrev pub document : (root path512 path1 path2 node16 : ℕ) → List Run → List ℕ
document a b c d e rest =
    laid (of 1 a ∷ of 1 0 ∷ of 1 b ∷ of 255 80 ∷ of 1 2 ∷ of 2 64 ∷ of 1 c ∷ of 509 64 ∷ of 1 261 ∷ of 1 d ∷ of 511 48 ∷ of 1 772 ∷ of 1 e ∷ of 1 180897 ∷ of 126 32 ∷ of 1 1286 ∷ of 2 25 ∷ of 2 16 ∷ rest)

abbrev pub seeded : Words
seeded = seed_w six 6 (fresh 1423) 524288 524294

abbrev pub first : Taken
first = take_w six 5 0 seeded 0

abbrev pub second : Taken
second = take_w six 5 0 first.words 0

-- the seed stores 16, 4 and 4 KiB (P6)
abbrev pub Seed : Type 0
Seed = seeded ≡ words (document 226 33106 98754 164402 42 (of 5 0 ∷ [])) 1418

-- its acquires (P7): the first opens the 16 KiB node and hands its token on
abbrev pub First : Type 0
First = first ≡ record { words = words (document 225 33105 98753 164401 181537 (of 1 1285 ∷ of 1 16 ∷ of 3 25 ∷ [])) 1423; base = 524288; probes = 7 }

abbrev pub Second : Type 0
Second = second ≡ record { words = words (document 225 33105 98753 164401 181537 (of 1 1285 ∷ of 2 16 ∷ of 2 25 ∷ [])) 1423; base = 524289; probes = 8 }

-- both given back: the four merge again, and their words are cleared
abbrev pub Merged : Type 0
Merged = store_w six 5 0 (store_w six 5 0 second.words 0 524288) 0 524289 ≡ words (document 226 33106 98754 164402 181546 (of 1 1285 ∷ of 4 16 ∷ [])) 1423

-- what is read before: 16 KiB at 2^31 takes 1,412 words of a new pool (P9), the seed 1,417, and the first acquire 5 behind the seed
abbrev pub Room : Type 0
Room = (openings_w six 5 1 (fresh 1).pool 0 524288 ≡ 1412) × (seed_openings_w six 6 (fresh 1).pool 524288 524294 ≡ 1417) × (pick_w six 5 0 seeded.pool 0 ≡ 524288) × (openings_w six 5 0 seeded.pool 0 524288 ≡ 5)
