-- What the functions on nodes ask of their arguments: a node that may be read, a block within it, and room for what is opened.
use Rattle.std.specs.Prelude.{◌≡◌, false, List, ℕ, zero, suc, pred, ◌+◌, ◌-◌, ◌≤◌, ◌<◌, length}
use Rattle.sizes.specs.Ladder.{Ladder}
use Rattle.sizes.specs.Six.{six, most_code}
use Rattle.model.specs.Ladder.{frames, top}
use Rattle.model.specs.Frames.{Wholly}
use Rattle.model.specs.Tree.{largest, free, Sound as SoundTree, pick}
use Rattle.pool.specs.Limits.{pool_limit, most_frames}
use Rattle.pool.specs.Words.{word, max_of, link_of, fan_out_of}
use Rattle.pool.specs.Room.{openings_w, seed_openings_w}
use Rattle.pool.specs.View.{view}
use Rattle.pool.specs.Blocks.{Child, Readable}
use Rattle.pool.specs.Check.{SoundW}

-- each max at and below the node at q is the largest block of its tree
abbrev pub Maxed : Ladder → (d : ℕ) → List ℕ → (q : ℕ) → Type 0
Maxed L zero p q = max_of (word p q) ≡ largest 0 (view L 0 (word p) q)
Maxed L (suc d) p q = (max_of (word p q) ≡ largest (suc d) (view L (suc d) (word p) q)) × ((y : ℕ) → Child (fan_out_of L) p (suc d) q y → Maxed L d p y)

-- to open a node
pub record OpenAsk (level : ℕ) (p : List ℕ) (u q : ℕ) : Type 0 where
  pub lo : 2 ≤ level
  pub hi : level ≤ most_code
  pub at : q < u
  pub fit : u ≤ length p
  pub cap : length p ≤ pool_limit
  pub room : link_of (word p q) ≡ 0 → u + fan_out_of six level + 1 ≤ length p

-- to write an open node and its run of children
pub record RunAsk (level : ℕ) (p : List ℕ) (q : ℕ) : Type 0 where
  pub lo : 2 ≤ level
  pub hi : level ≤ most_code
  pub at : q < length p
  pub run : link_of (word p q) + 1 + fan_out_of six level ≤ length p

-- to store a block
pub record StoreAsk (level code : ℕ) (p : List ℕ) (u q b : ℕ) : Type 0 where
  pub lo : 1 ≤ code
  pub deep : code ≤ level
  pub hi : level ≤ most_code
  pub cap : length p ≤ pool_limit
  pub readable : Readable six (pred level) p u q
  pub base : b < frames six (pred level)
  pub room : u + openings_w six (pred level) (pred code) p q b ≤ length p

-- to take the first block of a code
pub record TakeAsk (level code : ℕ) (p : List ℕ) (u q : ℕ) : Type 0 where
  pub lo : 1 ≤ code
  pub deep : code ≤ level
  pub hi : level ≤ most_code
  pub cap : length p ≤ pool_limit
  pub readable : Readable six (pred level) p u q
  pub sound : SoundTree six (pred level) (view six (pred level) (word p) q)
  pub maxed : Maxed six (pred level) p q
  pub offers : suc (pred code) ≤ largest (pred level) (view six (pred level) (word p) q)
  pub room : u + openings_w six (pred level) (pred code) p q (pick six (pred level) (pred code) (view six (pred level) (word p) q)) ≤ length p

-- to find that block
pub record PickAsk (level code : ℕ) (p : List ℕ) (q : ℕ) : Type 0 where
  pub lo : 1 ≤ code
  pub deep : code ≤ level
  pub hi : level ≤ most_code
  pub used : ℕ
  pub readable : Readable six (pred level) p used q
  pub sound : SoundTree six (pred level) (view six (pred level) (word p) q)
  pub maxed : Maxed six (pred level) p q
  pub offers : suc (pred code) ≤ largest (pred level) (view six (pred level) (word p) q)

-- to read the way to a block
pub record NeedAsk (level code : ℕ) (p : List ℕ) (q b : ℕ) : Type 0 where
  pub lo : 1 ≤ code
  pub deep : code ≤ level
  pub hi : level ≤ most_code
  pub used : ℕ
  pub readable : Readable six (pred level) p used q
  pub base : b < frames six (pred level)

-- to count the words of a seed from the frame a to the frame e
pub record SeedAsk (p : List ℕ) (a e : ℕ) : Type 0 where
  pub used : ℕ
  pub readable : Readable six (top six) p used 0
  pub some : a < e
  pub ends : e ≤ most_frames

-- to read the root's max
pub record SoundAsk (p : List ℕ) : Type 0 where
  pub used : ℕ
  pub sound : SoundW six (top six) p used

-- to store the frames from a to e, none of them free
pub record SpanAsk (p : List ℕ) (u a e : ℕ) : Type 0 where
  pub cap : length p ≤ pool_limit
  pub sound : SoundW six (top six) p u
  pub order : a ≤ e
  pub ends : e ≤ most_frames
  pub held : Wholly (free six (top six) (view six (top six) (word p) 0)) a (e - a) false
  pub room : u + seed_openings_w six (e - a) p a e ≤ length p
