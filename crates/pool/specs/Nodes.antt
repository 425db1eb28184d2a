-- What opening, handing on, merging, storing, taking and seeding write, word by word (document 01, 'What the calls do'). A node with d sizes below its own has the level suc d.
-- A name of the model with a W behind it is the model's on words. Words are rewritten a list at a time, so that cases compute.
use Rattle.std.specs.Prelude.{Bool, true, false, List, [], ◌∷◌, ℕ, zero, suc, ◌+◌, ◌*◌, ◌/◌, ◌%◌, leb, ltb, set}
use Rattle.sizes.specs.Ladder.{Ladder}
use Rattle.model.specs.Ladder.{fan, frames, top}
use Rattle.model.specs.Lists.{maximum, all, first}
use Rattle.model.specs.TreeStore.{largest_fit}
use Rattle.pool.specs.Words.{word, max_of, link_of, has_token, first_child, run}

-- a pool and how many of its words are used
pub record Words : Type 0 where
  pub pool : List ℕ
  pub used : ℕ

-- the pool p with u of its words used
abbrev pub words : List ℕ → (u : ℕ) → Words
words p u = record { pool = p; used = u }

-- a node's word with other marks: m is its max, and 8 more with a token
abbrev pub with_marks : (m v : ℕ) → ℕ
with_marks m v = v / 16 * 16 + m

-- f of each of the n words from a on
unfoldable pub map_run : (ℕ → ℕ) → List ℕ → (a n : ℕ) → List ℕ
map_run f [] a n = []
map_run f (x ∷ p) (suc a) n = x ∷ map_run f p a n
map_run f (x ∷ p) zero zero = x ∷ p
map_run f (x ∷ p) zero (suc n) = f x ∷ map_run f p zero n

-- the largest max of n nodes from a on
unfoldable pub children_max : List ℕ → (a n : ℕ) → ℕ
children_max p a n = maximum max_of (run p a n)

-- whether all of them have tokens
unfoldable pub children_all : List ℕ → (a n : ℕ) → Bool
children_all p a n = all has_token (run p a n)

-- the number of the first whose max is at least the code c
unfoldable pub children_first : (c : ℕ) → List ℕ → (a n : ℕ) → ℕ
children_first c p a n = first (λ v. leb c (max_of v)) (run p a n)

-- the marks of the node at q are set
abbrev pub mark_w : (m : ℕ) → Words → (q : ℕ) → Words
mark_w m s q = record { pool = set s.pool q (with_marks m (word s.pool q)); used = s.used }

-- what an acquire leaves, the first frame of the block that it takes, counted from the node's, and the children looked at
pub record Taken : Type 0 where
  pub words : Words
  pub base : ℕ
  pub probes : ℕ

module _ (L : Ladder) where
  -- the node of level d + 2 at q gets a child block at the place u: a header that names q, and new children
  unfoldable pub open_with : List ℕ → (u d q : ℕ) → List ℕ
  open_with p u d q = set (map_run (λ _. 16 * suc d) (set p u q) (suc u) (fan L (suc d))) q (word p q + 128 * u)

  -- by the node's link
  abbrev pub open_if : (d : ℕ) → Words → (q link : ℕ) → Words
  open_if d s q zero = record { pool = open_with s.pool s.used d q; used = s.used + suc (fan L (suc d)) }
  open_if d s q (suc l) = s

  -- initialize_children_if_needed: the block goes at the used count
  unfoldable pub open_w : (d : ℕ) → Words → (q : ℕ) → Words
  open_w d s q = open_if d s q (link_of (word s.pool q))

  -- divide_page_token_if_necessary: a token of the node is handed on to all its children
  abbrev pub hand_if : Bool → (d : ℕ) → List ℕ → (q : ℕ) → List ℕ
  hand_if true d p q = set (map_run (with_marks (8 + suc d)) p (first_child p q) (fan L (suc d))) q (with_marks 0 (word p q))
  hand_if false d p q = p

  unfoldable pub hand_w : (d : ℕ) → List ℕ → (q : ℕ) → List ℕ
  hand_w d p q = hand_if (has_token (word p q)) d p q

  -- the node's max becomes its children's
  unfoldable pub refresh_w : (d : ℕ) → List ℕ → (q : ℕ) → List ℕ
  refresh_w d p q = set p q (with_marks (children_max p (first_child p q) (fan L (suc d))) (word p q))

  -- try_to_merge_page_tokens: where all children have tokens, theirs are cleared and the node gets one
  abbrev pub merge_if : Bool → (d : ℕ) → List ℕ → (q : ℕ) → List ℕ
  merge_if true d p q = set (map_run (with_marks 0) p (first_child p q) (fan L (suc d))) q (with_marks (8 + suc (suc d)) (word p q))
  merge_if false d p q = refresh_w d p q

  unfoldable pub merge_w : (d : ℕ) → List ℕ → (q : ℕ) → List ℕ
  merge_w d p q = merge_if (children_all p (first_child p q) (fan L (suc d))) d p q

  -- store_page_token: the block of level d' + 1 at frame b of the node of level d + 1 at q
  unfoldable pub store_w : (d d' : ℕ) → Words → (q b : ℕ) → Words
  store_w zero d' s q b = mark_w 9 s q
  store_w (suc d) d' s q b = elim (ltb d' (suc d)) [
    | false ↦ mark_w (8 + suc (suc d)) s q
    | true ↦
        let o = open_w d s q in
        let r = store_w d d' o (first_child o.pool q + b / frames L d) (b % frames L d) in
        record { pool = merge_w d r.pool q; used = r.used }
  ]

  -- acquire_page_token: the first block of level d' + 1 of the node of level d + 1 at q
  unfoldable pub take_w : (d d' : ℕ) → Words → (q : ℕ) → Taken
  take_w zero d' s q = record { words = mark_w 0 s q; base = 0; probes = 0 }
  take_w (suc d) d' s q = elim (ltb d' (suc d)) [
    | false ↦ record { words = mark_w 0 s q; base = 0; probes = 0 }
    | true ↦
        let o = open_w d s q in
        let p = hand_w d o.pool q in
        let i = children_first (suc d') p (first_child p q) (fan L (suc d)) in
        let r = take_w d d' (record { pool = p; used = o.used }) (first_child p q + i) in
        record { words = record { pool = refresh_w d r.words.pool q; used = r.words.used }; base = i * frames L d + r.base; probes = r.probes + i + 1 }
  ]

  -- the stores of a seed of the frames from a to e, in k blocks at most
  unfoldable pub seed_w : (k : ℕ) → Words → (a e : ℕ) → Words
  seed_w zero s a e = s
  seed_w (suc k) s a e = elim (ltb a e) [
    | false ↦ s
    | true ↦ let c = largest_fit L (top L) a e in seed_w k (store_w (top L) c s 0 a) (a + frames L c) e
  ]
