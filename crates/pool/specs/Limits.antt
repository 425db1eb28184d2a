-- The numbers of document 01's state and pool, each once.
use Rattle.std.specs.Prelude.{ℕ, ◌/◌, get_or}
use Rattle.sizes.specs.Six.{six, most_bytes}

-- how many region places a state has
abbrev pub places : ℕ
places = 8

-- the most words that a pool may have
abbrev pub pool_limit : ℕ
pool_limit = 1048576

-- a link is below it: a word of 32 bits has 25 for it
abbrev pub link_limit : ℕ
link_limit = 33554432

-- how many frames the largest block has
abbrev pub most_frames : ℕ
most_frames = most_bytes / get_or six.sizes 1 0
