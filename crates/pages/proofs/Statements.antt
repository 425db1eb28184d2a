-- From words to the tree: a pool whose blocks are in order and whose nodes keep the rules of max and token holds a sound tree of the model,
-- and what is read off its words or written to them is the model's on that tree. For any ladder of at most 7 codes: the level field has 3 bits.
use mathlib.Core.Path.{◌≡◌}
use mathlib.Core.Logic.{◌⊎◌}
use mathlib.Core.Bool.{true, false}
use mathlib.Core.List.{List}
use Prim.Native.Nat.{ℕ, suc, ◌+◌, ◌-◌, ◌≤◌, ◌<◌}
use lib.Dec.{eqb, ltb}
use lib.ListN.{length}
use Rattle.sizes.specs.Ladder.{Ladder}
use Rattle.sizes.specs.Laws.{MultipliesUp}
use Rattle.model.specs.Ladder.{frames, top, probes}
use Rattle.model.specs.Frames.{Wholly, within, bit}
use Rattle.model.specs.Calls.{seeded}
use Rattle.model.specs.Tree.{words as tree_words, free, Sound, openings, store, remove, pick}
use Rattle.model.specs.TreeStore.{any_free, seed_from}
use Rattle.model.specs.Laws.{BlockIn}
use Rattle.pool.specs.Words.{word, pack, max_of, token_of, level_of, link_of, frames_of}
use Rattle.pool.specs.Nodes.{Words, words, store_w, take_w, seed_w}
use Rattle.pool.specs.Room.{openings_w, pick_w, any_free_w, seed_openings_w}
use Rattle.pool.specs.View.{view}
use Rattle.pool.specs.Regions.{Regions, regions_of}
use Rattle.pages.specs.Sound.{Below, times, Sound as SoundStore}
use Rattle.pool.specs.Blocks.{Readable}
use Rattle.pool.specs.Check.{Marked, SoundW}
use Rattle.pool.specs.Asks.{Maxed}

-- a node word and its fields name each other
pub record Fields : Type 0 where
  pub unpacked : (m t l k : ℕ) → m < 8 → t < 2 → l < 8 → (max_of (pack m t l k) ≡ m) × (token_of (pack m t l k) ≡ t) × (level_of (pack m t l k) ≡ l) × (link_of (pack m t l k) ≡ k)
  pub packed : (v : ℕ) → pack (max_of v) (token_of v) (level_of v) (link_of v) ≡ v

-- the s frames from b on and the n frames from c on share none
abbrev pub Apart : (b s c n : ℕ) → Type 0
Apart b s c n = (b + s ≤ c) ⊎ (c + n ≤ b)

module _ (L : Ladder) where
  -- how often x is the place of the node of level d + 1 at q or stands in the blocks below it
  abbrev pub places_in : List ℕ → (x d q : ℕ) → ℕ
  places_in p x d q = bit (eqb q x) + times L p x (suc d) q

  -- o comes from p with u words used by a change at the node of level d + 1 at q
  pub record Changes (d : ℕ) (p : List ℕ) (u q : ℕ) (o : Words) : Type 0 where
    -- no word in use changes but the node's own and those of the blocks below it
    pub only : (x : ℕ) → x < u → places_in p x d q ≡ 0 → word o.pool x ≡ word p x
    -- the places that it has more are the new blocks', from u on
    pub more : (x : ℕ) → places_in o.pool x d q ≡ places_in p x d q + bit (within u (o.used - u) x)
    pub behind : (x : ℕ) → o.used ≤ x → word o.pool x ≡ word p x
    pub length : length o.pool ≡ length p
    pub grows : u ≤ o.used

  -- the block of level d' + 1 at frame b of a node is held, and the pool has room for what its store opens
  pub record Held (d d' : ℕ) (p : List ℕ) (u q b : ℕ) : Type 0 where
    pub block : BlockIn L d d' b
    pub held : Wholly (free L d (view L d (word p) q)) b (frames L d') false
    pub room : u + openings_w L d d' p q b ≤ length p

  -- some block of level d' + 1 is offered, and the pool has room for what taking the first opens
  pub record Offered (d d' : ℕ) (p : List ℕ) (u q : ℕ) : Type 0 where
    pub deep : d' ≤ d
    pub offers : suc d' ≤ max_of (word p q)
    pub room : u + openings_w L d d' p q (pick_w L d d' p q) ≤ length p

  -- the laws of the node of level d + 1 at q, which may be read and keeps the rules of max and token
  pub record NodeLaws (d : ℕ) (p : List ℕ) (u q : ℕ) : Type 0 where
    pub sound : Sound L d (view L d (word p) q)
    -- max is the largest block of the view, at the node and at all below it
    pub max : Maxed L d p q
    -- storing on words is `store` on the view
    pub stored : (d' b : ℕ) → Held d d' p u q b → (view L d (word (store_w L d d' (words p u) q b).pool) q ≡ store L d d' (view L d (word p) q) b) × Changes d p u q (store_w L d d' (words p u) q b)
    -- the descent by max is `pick`
    pub picked : (d' : ℕ) → d' ≤ d → suc d' ≤ max_of (word p q) → pick_w L d d' p q ≡ pick L d d' (view L d (word p) q)
    -- taking on words is `remove` of the picked block, and the children counted are the model's probes
    pub taken : (d' : ℕ) → Offered d d' p u q
        → ((take_w L d d' (words p u) q).base ≡ pick_w L d d' p q) × ((take_w L d d' (words p u) q).probes ≡ probes L d d' (pick_w L d d' p q))
        × (view L d (word (take_w L d d' (words p u) q).words.pool) q ≡ remove L d d' (view L d (word p) q) (pick_w L d d' p q)) × Changes d p u q (take_w L d d' (words p u) q).words
    -- the words to be opened, and whether a frame of a block is free, are the view's
    pub openings : (d' b : ℕ) → b < frames L d → openings_w L d d' p q b ≡ openings L d d' (view L d (word p) q) b
    pub any_free_is : (d' b : ℕ) → b < frames L d → any_free_w L d d' p q b ≡ any_free L d d' (view L d (word p) q) b
    -- used afterwards is used before and the words that were read
    pub stored_used : (d' b : ℕ) → Held d d' p u q b → (store_w L d d' (words p u) q b).used ≡ u + openings_w L d d' p q b
    pub taken_used : (d' : ℕ) → Offered d d' p u q → (take_w L d d' (words p u) q).words.used ≡ u + openings_w L d d' p q (pick_w L d d' p q)
    -- beside the path to the block, what lies below a node whose frames are apart from the block's stays as it is
    pub stored_apart : (d' b m r c x : ℕ) → Held d d' p u q b → Below L p (suc d) q 0 m r c → Apart b (frames L d') c (frames_of L m) → 1 ≤ times L p x m r → word (store_w L d d' (words p u) q b).pool x ≡ word p x
    pub taken_apart : (d' m r c x : ℕ) → Offered d d' p u q → Below L p (suc d) q 0 m r c → Apart (pick_w L d d' p q) (frames L d') c (frames_of L m) → 1 ≤ times L p x m r
        → word (take_w L d d' (words p u) q).words.pool x ≡ word p x

  -- o is what a seed of the frames from a to e leaves of p with u words used
  pub record Seeds (p : List ℕ) (u a e : ℕ) (o : Words) : Type 0 where
    pub tree : view L (top L) (word o.pool) 0 ≡ seed_from L (e - a) (view L (top L) (word p) 0) a e
    pub sound : SoundW L (top L) o.pool o.used
    pub used : o.used ≡ u + seed_openings_w L (e - a) p a e
    pub length : length o.pool ≡ length p
    pub behind : (x : ℕ) → o.used ≤ x → word o.pool x ≡ word p x

  -- the laws of a pool as a whole
  pub record PoolLaws (p : List ℕ) (u : ℕ) : Type 0 where
    pub root : NodeLaws (top L) p u 0
    -- the words in use are the root's and those of the view's blocks
    pub used : u ≡ suc (tree_words (top L) (view L (top L) (word p) 0))
    -- room, read before a write: the words that would be in use behind a store or an acquire, whether or not the pool has them
    pub stored_words : (d' b : ℕ) → b < frames L (top L) → suc (tree_words (top L) (store L (top L) d' (view L (top L) (word p) 0) b)) ≡ u + openings_w L (top L) d' p 0 b
    pub taken_words : (d' : ℕ) → d' ≤ top L → suc d' ≤ max_of (word p 0) → suc (tree_words (top L) (remove L (top L) d' (view L (top L) (word p) 0) (pick_w L (top L) d' p 0))) ≡ u + openings_w L (top L) d' p 0 (pick_w L (top L) d' p 0)
    -- storing, taking and seeding keep the pool sound
    pub stored : (d' b : ℕ) → Held (top L) d' p u 0 b → SoundW L (top L) (store_w L (top L) d' (words p u) 0 b).pool (store_w L (top L) d' (words p u) 0 b).used
    pub taken : (d' : ℕ) → Offered (top L) d' p u 0 → SoundW L (top L) (take_w L (top L) d' (words p u) 0).words.pool (take_w L (top L) d' (words p u) 0).words.used
    -- a seed of frames none of which is free: its words, read off the pool before it, and its stores
    pub seeded_words : (a e : ℕ) → a ≤ e → e ≤ frames L (top L) → Wholly (free L (top L) (view L (top L) (word p) 0)) a (e - a) false
        → suc (tree_words (top L) (seed_from L (e - a) (view L (top L) (word p) 0) a e)) ≡ u + seed_openings_w L (e - a) p a e
    pub seeded : (a e : ℕ) → a ≤ e → e ≤ frames L (top L) → Wholly (free L (top L) (view L (top L) (word p) 0)) a (e - a) false → u + seed_openings_w L (e - a) p a e ≤ length p
        → Seeds p u a e (seed_w L (e - a) (words p u) a e)

  -- every free frame of the view lies in a region
  abbrev pub Covered : (starts ends p : List ℕ) → Type 0
  Covered starts ends p = (f : ℕ) → f < frames L (top L) → free L (top L) (view L (top L) (word p) 0) f ≡ true → seeded (regions_of L starts ends) f ≡ true

  -- Sound as document 01 has it is: sound words, sound regions, and every free frame in one of them; storing a block of the regions, taking one and seeding keep it
  pub record SoundLaws (most limit : ℕ) (starts ends : List ℕ) : Type 0 where
    pub to_words : (p : List ℕ) (u : ℕ) → SoundStore L ltb most limit u starts ends p → SoundW L (top L) p u × Regions L most starts ends × (length p ≤ limit) × Covered starts ends p
    pub of_words : (p : List ℕ) (u : ℕ) → SoundW L (top L) p u → Regions L most starts ends → length p ≤ limit → Covered starts ends p → SoundStore L ltb most limit u starts ends p
    pub stored : (p : List ℕ) (u d' b : ℕ) → SoundStore L ltb most limit u starts ends p → Held (top L) d' p u 0 b → Wholly (seeded (regions_of L starts ends)) b (frames L d') true
        → SoundStore L ltb most limit (store_w L (top L) d' (words p u) 0 b).used starts ends (store_w L (top L) d' (words p u) 0 b).pool
    pub taken : (p : List ℕ) (u d' : ℕ) → SoundStore L ltb most limit u starts ends p → Offered (top L) d' p u 0
        → SoundStore L ltb most limit (take_w L (top L) d' (words p u) 0).words.used starts ends (take_w L (top L) d' (words p u) 0).words.pool
    -- the regions behind the seed hold those before it and the frames seeded
    pub seeded : (p : List ℕ) (u a e : ℕ) (starts' ends' : List ℕ) → SoundStore L ltb most limit u starts ends p → a ≤ e → e ≤ frames L (top L) → Wholly (free L (top L) (view L (top L) (word p) 0)) a (e - a) false
        → u + seed_openings_w L (e - a) p a e ≤ length p → length starts' ≡ most → length ends' ≡ most → Regions L most starts' ends'
        → ((f : ℕ) → seeded (regions_of L starts ends) f ≡ true → seeded (regions_of L starts' ends') f ≡ true) → Wholly (seeded (regions_of L starts' ends')) a (e - a) true
        → SoundStore L ltb most limit (seed_w L (e - a) (words p u) a e).used starts' ends' (seed_w L (e - a) (words p u) a e).pool

  -- what is proved, for a ladder of at most 7 codes
  pub record Laws : Type 0 where
    pub sound : MultipliesUp L → suc (top L) < 8 → (most limit : ℕ) (starts ends : List ℕ) → length starts ≡ most → length ends ≡ most → SoundLaws most limit starts ends
    pub nodes : (d : ℕ) (p : List ℕ) (u q : ℕ) → suc d < 8 → Readable L d p u q → Marked L d p q → NodeLaws d p u q
    pub pools : (p : List ℕ) (u : ℕ) → suc (top L) < 8 → SoundW L (top L) p u → PoolLaws p u
