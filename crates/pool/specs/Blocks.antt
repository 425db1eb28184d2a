-- The blocks that are seen from a node on, sums over them, and the rules of their places. `fan` has the children of a node of each level, for any ladder.
use Rattle.std.specs.Prelude.{◌≡◌, Bool, true, List, ℕ, zero, suc, ◌+◌, ◌≤◌, ◌<◌, eqb, ltb, length}
use Rattle.sizes.specs.Ladder.{Ladder}
use Rattle.model.specs.Frames.{bit}
use Rattle.pool.specs.Words.{word, level_of, link_of, sum_over, fan_out_of}

-- x is one of the n numbers from a on
abbrev pub In : (a n x : ℕ) → Type 0
In a n x = (a ≤ x) × (x < a + n)

-- 1 where y is x, else 0
unfoldable pub delta : (y x : ℕ) → ℕ
delta y x = bit (eqb y x)

-- how often x is a child's place in a block of n children with its header at L
unfoldable pub child_in : (x L n : ℕ) → ℕ
child_in x L n = sum_over (suc L) n (λ y. delta y x)

-- of a block at the place L (0: no block): g of it, and f of each child's place
abbrev pub of_block : (ℕ → ℕ → ℕ) → ℕ → (ℕ → ℕ) → ℕ → ℕ
of_block g n f zero = 0
of_block g n f (suc k) = g (suc k) n + sum_over (suc (suc k)) n f

module _ (fan : ℕ → ℕ) where
  -- the sum of g L n over all blocks, of n children at L, that are seen from the node of level l at q
  unfoldable pub total : List ℕ → (ℕ → ℕ → ℕ) → (l q : ℕ) → ℕ
  total p g zero q = 0
  total p g (suc l) q = of_block g (fan (suc l)) (total p g l) (link_of (word p q))

  -- how often x is a header's place, a child's place, either; and the words of the blocks
  abbrev pub head_met : List ℕ → (x l q : ℕ) → ℕ
  head_met p x l q = total p (λ L n. delta L x) l q

  abbrev pub child_met : List ℕ → (x l q : ℕ) → ℕ
  child_met p x l q = total p (λ L n. child_in x L n) l q

  unfoldable pub met : List ℕ → (x l q : ℕ) → ℕ
  met p x l q = total p (λ L n. delta L x + child_in x L n) l q

  unfoldable pub size : List ℕ → (l q : ℕ) → ℕ
  size p l q = total p (λ L n. suc n) l q

  -- how often x is a place of the node at q: its own, or one of the blocks seen from it
  unfoldable pub places_of : List ℕ → (x l q : ℕ) → ℕ
  places_of p x l q = delta q x + met p x l q

  -- no place is met twice
  abbrev pub Sep : List ℕ → (l q : ℕ) → Type 0
  Sep p l q = (x : ℕ) → places_of p x l q ≤ 1

  -- an open node at q, and its child at y
  pub record Child (p : List ℕ) (l q y : ℕ) : Type 0 where
    pub k : ℕ
    pub link : link_of (word p q) ≡ suc k
    pub at : In (suc (suc k)) (fan (suc l)) y

-- a test as a rule
abbrev pub By : (ℕ → ℕ → Bool) → ℕ → ℕ → Type 0
By ord q L = ord q L ≡ true

-- Ord q L: where the block at L may lie, seen from its node at q
module _ (fan : ℕ → ℕ) (Ord : ℕ → ℕ → Type 0) where
  -- the rules of the block at L of the node of level l + 1 at q, where sub says them of its children
  pub record OkBlock (p : List ℕ) (used l q L : ℕ) (sub : ℕ → Type 0) : Type 0 where
    pub deep : 1 ≤ l
    pub past : Ord q L
    pub fits : L + fan (suc l) < used
    pub head : word p L ≡ q
    pub children : (y : ℕ) → In (suc L) (fan (suc l)) y → sub y

  abbrev pub OkLink : List ℕ → (used l q : ℕ) → (ℕ → Type 0) → (link : ℕ) → Type 0
  OkLink p used l q sub zero = Unit
  OkLink p used l q sub (suc k) = OkBlock p used l q (suc k) sub

  -- the rules of the blocks at and below the node of level l at q
  unfoldable pub Ok : List ℕ → (used l q : ℕ) → Type 0
  Ok p used zero q = ⊥
  Ok p used (suc l) q = (level_of (word p q) ≡ suc l) × OkLink p used l q (Ok p used l) (link_of (word p q))

-- the blocks are in order: their rules hold, and each place of the used part behind the root is met exactly once
module _ (fan : ℕ → ℕ) where
  abbrev pub Once : List ℕ → (top used : ℕ) → Type 0
  Once p top used = (x : ℕ) → 1 ≤ x → x < used → met fan p x top 0 ≡ 1

  pub record Shape (top : ℕ) (p : List ℕ) (used : ℕ) : Type 0 where
    pub low : 1 ≤ used
    pub high : used ≤ length p
    pub rules : Ok fan (By ltb) p used top 0
    pub once : Once p top used

-- the node with d sizes below its own at q may be read: its blocks are in order, and no place is met twice
pub record Readable (L : Ladder) (d : ℕ) (p : List ℕ) (u q : ℕ) : Type 0 where
  pub at : q < u
  pub fit : u ≤ length p
  pub ok : Ok (fan_out_of L) (By ltb) p u (suc d) q
  pub sep : Sep (fan_out_of L) p (suc d) q
