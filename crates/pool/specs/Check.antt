-- The check of a pool as it runs: a walk that goes down from the root, tests each node and counts words, and a sweep over the blocks.
use Rattle.std.specs.Prelude.{◌≡◌, Bool, true, false, ◌&&◌, not, List, ℕ, zero, suc, ◌+◌, ◌≤◌, ◌<◌, leb, ltb, eqb}
use Rattle.sizes.specs.Ladder.{Ladder}
use Rattle.model.specs.Calls.{Region}
use Rattle.model.specs.TreeStore.{covered}
use Rattle.pool.specs.Words.{word, max_of, token_of, level_of, link_of, fan_out_of}
use Rattle.pool.specs.Nodes.{children_max, children_all}
use Rattle.pool.specs.Blocks.{Child, Shape}

-- ---- the sweep
module _ (fan : ℕ → ℕ) where
  -- a block may start at s: its header names a place before it, whose link names s, and whose level is 2 to top
  abbrev pub starts : List ℕ → (top s : ℕ) → Bool
  starts p top s = ltb (word p s) s && (eqb (link_of (word p (word p s))) s && (leb 2 (level_of (word p (word p s))) && leb (level_of (word p (word p s))) top))

  abbrev pub tile : List ℕ → (s : ℕ) → ℕ
  tile p s = fan (level_of (word p (word p s)))

  -- k words from s on are the last t words of a block and then whole blocks
  unfoldable pub sweep : List ℕ → (top k s t : ℕ) → Bool
  sweep p top zero s t = eqb t 0
  sweep p top (suc k) s zero = starts p top s && sweep p top k (suc s) (tile p s)
  sweep p top (suc k) s (suc t) = sweep p top k (suc s) t

-- ---- the test of one node
-- the children's max, and whether they all have tokens; an unopened node has none
unfoldable pub max_below : List ℕ → (n link : ℕ) → ℕ
max_below p n zero = 0
max_below p n (suc k) = children_max p (suc (suc k)) n

unfoldable pub all_below : List ℕ → (n link : ℕ) → Bool
all_below p n zero = false
all_below p n (suc k) = children_all p (suc (suc k)) n

-- a node of level l and word v, with m the children's max, and a whether they all have tokens
unfoldable pub marks_pass : (l v m : ℕ) → Bool → Bool
marks_pass l v m a = elim (token_of v) [ zero ↦ eqb (max_of v) m && not a | suc _ ↦ eqb (max_of v) l && eqb m 0 ]

-- a token's block, n frames from b on, lies in the union of the regions
unfoldable pub in_regions : List Region → (v b n : ℕ) → Bool
in_regions rs v b n = elim (token_of v) [ zero ↦ true | suc _ ↦ covered rs b n ]

-- the node of level l at q, whose first frame is b
module _ (fan frames : ℕ → ℕ) (p : List ℕ) (rs : List Region) where
  unfoldable pub passes : (l q b : ℕ) → Bool
  passes l q b = marks_pass l (word p q) (max_below p (fan l) (link_of (word p q))) (all_below p (fan l) (link_of (word p q))) && in_regions rs (word p q) b (frames l)

-- ---- the walk
-- f takes a place, a first frame and a count and gives the new count: n nodes from the place a and the frame b on, d frames each
unfoldable pub walk_block : (ℕ → ℕ → ℕ → ℕ) → (a b d n c : ℕ) → ℕ
walk_block f a b d zero c = c
walk_block f a b d (suc n) c = walk_block f (suc a) (b + d) d n (f a b c)

abbrev pub walk_if : Bool → (ℕ → ℕ → ℕ → ℕ) → (used a b d n c : ℕ) → ℕ
walk_if true f used a b d n c = walk_block f a b d n c
walk_if false f used a b d n c = used

-- ord q L: the block at L may belong to the node at q
module _ (fan : ℕ → ℕ) (ord : ℕ → ℕ → Bool) (p : List ℕ) where
  -- the block at L of the node of level l + 1 at q may be entered with the count c
  abbrev pub enters : (used l q L c : ℕ) → Bool
  enters used l q L c = leb 1 l && (ord q L && (ltb (L + fan (suc l)) used && (eqb (word p L) q && ltb (c + suc (fan (suc l))) used)))

  -- the same as a rule, for the node of level l at q
  pub record Enter (used l q c : ℕ) : Type 0 where
    pub deep : 2 ≤ l
    pub level : level_of (word p q) ≡ l
    pub past : ord q (link_of (word p q)) ≡ true
    pub some : 1 ≤ link_of (word p q)
    pub fits : link_of (word p q) + fan l < used
    pub head : word p (link_of (word p q)) ≡ q
    pub room : c + fan l + 1 < used

-- test: the test of a node
module _ (fan frames : ℕ → ℕ) (ord : ℕ → ℕ → Bool) (p : List ℕ) (test : ℕ → ℕ → ℕ → Bool) where
  abbrev pub walk_link : Bool → (link : ℕ) → (ℕ → ℕ → ℕ → ℕ) → (used l q b c : ℕ) → ℕ
  walk_link false link f used l q b c = used
  walk_link true zero f used l q b c = c
  walk_link true (suc k) f used l q b c = walk_if (enters fan ord p used l q (suc k) c) f used (suc (suc k)) b (frames l) (fan (suc l)) (c + suc (fan (suc l)))

  -- the count c grown by the words of all blocks seen from the node of level l at q, whose first frame is b; used if a rule is broken or the count would come to used
  unfoldable pub walk : (used l q b c : ℕ) → ℕ
  walk used zero q b c = used
  walk used (suc l) q b c = walk_link (eqb (level_of (word p q)) (suc l) && test (suc l) q b) (link_of (word p q)) (walk used l) used l q b c

-- ---- what the check has found: the blocks are in order, and each node keeps the rules of max and token
module _ (L : Ladder) where
  abbrev pub Rule : (d : ℕ) → List ℕ → (q : ℕ) → Type 0
  Rule d p q = marks_pass (suc d) (word p q) (max_below p (fan_out_of L (suc d)) (link_of (word p q))) (all_below p (fan_out_of L (suc d)) (link_of (word p q))) ≡ true

  abbrev pub Marked : (d : ℕ) → List ℕ → (q : ℕ) → Type 0
  Marked zero p q = Rule 0 p q
  Marked (suc d) p q = Rule (suc d) p q × ((y : ℕ) → Child (fan_out_of L) p (suc d) q y → Marked d p y)

  pub record SoundW (d : ℕ) (p : List ℕ) (used : ℕ) : Type 0 where
    pub shape : Shape (fan_out_of L) (suc d) p used
    pub marks : Marked d p 0
