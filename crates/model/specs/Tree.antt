-- The tree of the page store: tokens on nodes, which frames they offer, and what storing and taking a block do to it (document 01, 'What the calls do').
use Rattle.std.specs.Prelude.{◌≡◌, ◌⊎◌, Bool, true, false, cond, List, [], ◌∷◌, map, ℕ, zero, suc, ◌+◌, ◌*◌, ◌/◌, ◌%◌, ◌<◌, leb, ltb, length, get_or, set, replicate}
use Rattle.sizes.specs.Ladder.{Ladder}
use Rattle.model.specs.Ladder.{fan, frames}
use Rattle.model.specs.Frames.{bit}
use Rattle.model.specs.Lists.{maximum, sum, all, first}

-- a node: its token, and its children, none until it is opened
pub data NodeOf (A : Type 0) : Type 0 where
  node : Bool → List A → NodeOf A

-- the nodes of code suc d; one of code 1 is its token
abbrev pub Tree : ℕ → Type 0
Tree zero = Bool
Tree (suc d) = NodeOf (Tree d)

-- is the node itself offered whole
abbrev pub token : (d : ℕ) → Tree d → Bool
token zero v = v
token (suc d) (node v ks) = v

-- an unopened node without token
abbrev pub empty : (d : ℕ) → Tree d
empty zero = false
empty (suc d) = node false []

-- the node with its token set to v
abbrev pub mark : (d : ℕ) → Bool → Tree d → Tree d
mark zero v u = v
mark (suc d) v (node u ks) = node v ks

-- child i of a node whose children are ks; an unopened node counts as having empty ones
abbrev pub child : (d : ℕ) → List (Tree d) → ℕ → Tree d
child d ks i = get_or ks i (empty d)

-- the code of the largest block offered at or below the node, 0 for none
unfoldable pub largest : (d : ℕ) → Tree d → ℕ
largest zero v = bit v
largest (suc d) (node true ks) = suc (suc d)
largest (suc d) (node false ks) = maximum (largest d) ks

-- the pool words that the tree takes behind its root's: a header and the children for each opened node
unfoldable pub words : (d : ℕ) → Tree d → ℕ
words zero v = 0
words (suc d) (node v []) = 0
words (suc d) (node v (k ∷ ks)) = suc (length (k ∷ ks)) + sum (words d) (k ∷ ks)

-- merging: where all children have tokens, theirs are cleared and the node gets one
unfoldable pub merge : (d : ℕ) → List (Tree d) → Tree (suc d)
merge d ks = cond (all (token d) ks) (node true (map (mark d false) ks)) (node false ks)

module _ (L : Ladder) where
  -- is frame f free, counted from the node's first: a token stands at or above it
  unfoldable pub free : (d : ℕ) → Tree d → ℕ → Bool
  free zero v f = v
  free (suc d) (node true ks) f = true
  free (suc d) (node false ks) f = free d (child d ks (f / frames L d)) (f % frames L d)

  -- how many frames are free
  unfoldable pub free_frames : (d : ℕ) → Tree d → ℕ
  free_frames zero v = bit v
  free_frames (suc d) (node true ks) = frames L (suc d)
  free_frames (suc d) (node false ks) = sum (free_frames d) ks

  -- a node of code suc (suc d) is sound, where S says it of its children: none or as many as its fan-out, nothing offered below a token, and not all children have tokens
  pub record SoundNode (d : ℕ) (S : Tree d → Type 0) (v : Bool) (ks : List (Tree d)) : Type 0 where
    pub shape : (length ks ≡ 0) ⊎ (length ks ≡ fan L (suc d))
    pub children : (i : ℕ) → S (child d ks i)
    pub quiet : v ≡ true → maximum (largest d) ks ≡ 0
    pub gap : (i : ℕ) × (i < fan L (suc d)) × (token d (child d ks i) ≡ false)

  abbrev pub Sound : (d : ℕ) → Tree d → Type 0
  Sound zero v = Unit {0}
  Sound (suc d) (node v ks) = SoundNode d (Sound d) v ks

  -- opening: the children, made if there are none
  unfoldable pub opened : (d : ℕ) → List (Tree d) → List (Tree d)
  opened d [] = replicate (fan L (suc d)) (empty d)
  opened d (k ∷ ks) = k ∷ ks

  -- handing on: the children after the node's token v, if it has one, is handed on to all of them
  unfoldable pub handed_on : (d : ℕ) → Bool → List (Tree d) → List (Tree d)
  handed_on d true ks = map (mark d true) (opened d ks)
  handed_on d false ks = opened d ks

  -- the words that opening a node whose children are ks takes
  abbrev pub opening : (d : ℕ) → List (Tree d) → ℕ
  opening d [] = suc (fan L (suc d))
  opening d (k ∷ ks) = 0

  -- the words that opening every unopened proper ancestor of the block of code suc d' at frame b takes
  unfoldable pub openings : (d d' : ℕ) → Tree d → ℕ → ℕ
  openings zero d' v b = 0
  openings (suc d) d' (node v ks) b = elim (ltb d' (suc d)) [ false ↦ 0 | true ↦ opening d ks + openings d d' (child d ks (b / frames L d)) (b % frames L d) ]

  -- store the block of code suc d' at frame b: opening on the way down, merging on the way up
  unfoldable pub store : (d d' : ℕ) → Tree d → ℕ → Tree d
  store zero d' v b = true
  store (suc d) d' (node v ks) b = elim (ltb d' (suc d)) [
    | false ↦ node true ks
    | true ↦ merge d (set (opened d ks) (b / frames L d) (store d d' (child d (opened d ks) (b / frames L d)) (b % frames L d)))
  ]

  -- take the block of code suc d' at frame b: opening and handing tokens on on the way down
  unfoldable pub remove : (d d' : ℕ) → Tree d → ℕ → Tree d
  remove zero d' v b = false
  remove (suc d) d' (node v ks) b = elim (ltb d' (suc d)) [
    | false ↦ node false ks
    | true ↦ node false (set (handed_on d v ks) (b / frames L d) (remove d d' (child d (handed_on d v ks) (b / frames L d)) (b % frames L d)))
  ]

  -- the block of code suc d' that an acquire takes, where one is offered: at each node the first child that offers the code
  unfoldable pub pick : (d d' : ℕ) → Tree d → ℕ
  pick zero d' v = 0
  pick (suc d) d' (node true ks) = 0
  pick (suc d) d' (node false ks) =
      let i = first (λ k. leb (suc d') (largest d k)) ks in
      i * frames L d + pick d d' (child d ks i)

  -- the children that an acquire of the code looks at on its way down: at each level those up to the first that offers it, behind opening and handing on
  unfoldable pub looked : (d d' : ℕ) → Tree d → ℕ
  looked zero d' v = 0
  looked (suc d) d' (node v ks) = elim (ltb d' (suc d)) [
    | false ↦ 0
    | true ↦ let i = first (λ k. leb (suc d') (largest d k)) (handed_on d v ks) in suc i + looked d d' (child d (handed_on d v ks) i)
  ]
