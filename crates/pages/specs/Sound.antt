-- Sound, as document 01 has it: a field for each clause, in its order. For any ladder, any rule where a block may lie, any number of region places and any limit of the pool.
use Rattle.std.specs.Prelude.{◌≡◌, Bool, true, false, List, ℕ, zero, suc, ◌+◌, ◌-◌, ◌*◌, ◌≤◌, ◌<◌, length}
use Rattle.sizes.specs.Ladder.{Ladder}
use Rattle.model.specs.Ladder.{top}
use Rattle.model.specs.Frames.{Wholly, within, bit}
use Rattle.model.specs.Calls.{seeded}
use Rattle.pool.specs.Words.{word, max_of, token_of, level_of, link_of, sum_over, fan_out_of, frames_of}
use Rattle.pool.specs.Nodes.{children_max, children_all}
use Rattle.pool.specs.Regions.{Regions, regions_of}

module _ (L : Ladder) (p : List ℕ) where
  -- the node of level m at the place r, whose first frame is c, is the node of level l at q, whose first frame is b, or lies below it
  pub data Below (l q b : ℕ) : (m r c : ℕ) → Type 0 where
    itself : Below l q b l q b
    deeper : {m r c : ℕ} (k i : ℕ) → Below l q b (suc m) r c → link_of (word p r) ≡ suc k → i < fan_out_of L (suc m) → Below l q b m (suc (suc k) + i) (c + i * frames_of L m)

  -- the nodes of the tree: the root, at place 0, and all below it
  abbrev pub Node : (level place frame : ℕ) → Type 0
  Node l q b = Below (suc (top L)) 0 0 l q b

  -- how often the place x stands in the blocks below the node of level l at q; a block is its header's place and its children's
  unfoldable pub times : (x l q : ℕ) → ℕ
  times x zero q = 0
  times x (suc l) q = elim (link_of (word p q)) [ zero ↦ 0 | suc k ↦ bit (within (suc k) (suc (fan_out_of L (suc l))) x) + sum_over (suc (suc k)) (fan_out_of L (suc l)) (times x l) ]

-- lies q k: a block may lie at the place k, seen from its parent at q
module _ (L : Ladder) (lies : ℕ → ℕ → Bool) (most limit : ℕ) where
  -- state and pool are sound
  pub record Sound (used : ℕ) (starts ends : List ℕ) (p : List ℕ) : Type 0 where
    -- used is at least 1 and at most the pool's length, which is within its limit
    pub low : 1 ≤ used
    pub high : used ≤ length p
    pub limited : length p ≤ limit
    -- levels match the tree
    pub level : (l q b : ℕ) → Node L p l q b → level_of (word p q) ≡ l
    -- a node of code 1 has link 0
    pub leaf : (q b : ℕ) → Node L p 1 q b → link_of (word p q) ≡ 0
    -- links and headers name each other
    pub header : (l q b k : ℕ) → Node L p l q b → link_of (word p q) ≡ suc k → word p (suc k) ≡ q
    -- the blocks fill places 1 to used − 1 with no gap and no overlap: each is met exactly once, and no other
    pub filled : (x : ℕ) → times L p x (suc (top L)) 0 ≡ bit (within 1 (used - 1) x)
    -- each block lies behind its parent
    pub behind : (l q b k : ℕ) → Node L p l q b → link_of (word p q) ≡ suc k → lies q (suc k) ≡ true
    -- a token node has max = level and nothing offered below it
    pub token : (l q b : ℕ) → Node L p l q b → token_of (word p q) ≡ 1 → max_of (word p q) ≡ l
    pub quiet : (l q b m r c : ℕ) → Node L p l q b → token_of (word p q) ≡ 1 → Below L p l q b m r c → m < l → token_of (word p r) ≡ 0
    -- an unopened node without token has max 0
    pub unopened : (l q b : ℕ) → Node L p l q b → token_of (word p q) ≡ 0 → link_of (word p q) ≡ 0 → max_of (word p q) ≡ 0
    -- an opened node without token has the maximum of its children, and not all its children have tokens
    pub opened : (l q b k : ℕ) → Node L p l q b → token_of (word p q) ≡ 0 → link_of (word p q) ≡ suc k → max_of (word p q) ≡ children_max p (suc (suc k)) (fan_out_of L l)
    pub gap : (l q b k : ℕ) → Node L p l q b → token_of (word p q) ≡ 0 → link_of (word p q) ≡ suc k → children_all p (suc (suc k)) (fan_out_of L l) ≡ false
    -- the regions' clauses
    pub regions : Regions L most starts ends
    -- every token's block lies in the union of the regions
    pub inside : (l q b : ℕ) → Node L p l q b → token_of (word p q) ≡ 1 → Wholly (seeded (regions_of L starts ends)) b (frames_of L l) true
