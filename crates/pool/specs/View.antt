-- A pool read as the model's tree: places are forgotten, and nothing above knows where a block lies.
use Rattle.std.specs.Prelude.{List, [], ◌∷◌, ℕ, zero, suc}
use Rattle.sizes.specs.Ladder.{Ladder}
use Rattle.model.specs.Ladder.{fan}
use Rattle.model.specs.Tree.{node, Tree}
use Rattle.pool.specs.Words.{link_of, has_token}

-- g of the n numbers from i on
unfoldable pub tab : {A : Type 0} → (ℕ → A) → (i n : ℕ) → List A
tab g i zero = []
tab g i (suc n) = g i ∷ tab g (suc i) n

-- the children of a node by its link: none, or g of each of the n places behind the header
abbrev pub block : {A : Type 0} → (n : ℕ) → (ℕ → A) → (link : ℕ) → List A
block n g zero = []
block n g (suc k) = tab g (suc (suc k)) n

module _ (L : Ladder) where
  -- the tree at the place q, where w has the word of each place
  unfoldable pub view : (d : ℕ) → (w : ℕ → ℕ) → (q : ℕ) → Tree d
  view zero w q = has_token (w q)
  view (suc d) w q = node (has_token (w q)) (block (fan L (suc d)) (view d w) (link_of (w q)))
