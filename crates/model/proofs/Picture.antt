-- How a tree looks in the original: the nodes and the allocator that the proofs find the original to keep. Assumes nothing.
use mathlib.Core.Path.{◌≡◌}
use mathlib.Core.Bool.{Bool, true, false}
use mathlib.Core.Option.{Option, none, some}
use mathlib.Core.List.{List, [], ◌∷◌}
use Prim.Native.Nat.{ℕ, zero, suc, ◌+◌, ◌%◌, ◌≤◌, ◌<◌}
use Rattle.sizes.specs.Ladder.{Ladder, largest as largest_code, bytes}
use Rattle.model.specs.Ladder.{top}
use Rattle.model.specs.Tree.{node, Tree, largest}
use Rattle.model.specs.Rust.{word}
use Rattle.model.specs.StandIns.{coded, Page, init}
use Rattle.model.specs.Original.{PageStorageTreeNode, PageAllocator}

-- the page, where v says so
abbrev pub given : Bool → Page → Option Page
given true page = some page
given false page = none

-- f of each element and its address, the addresses a step apart
unfoldable pub spread : {A B : Type 0} → (ℕ → A → B) → (base step : ℕ) → List A → List B
spread f base step [] = []
spread f base step (x ∷ xs) = f base x ∷ spread f (base + step) step xs

-- a node of code suc d may stand at base: its code is one of the ladder, it is aligned, and usize has its end
pub record NodeAt (L : Ladder) (d base : ℕ) : Type 0 where
  pub code : suc d ≤ largest_code L
  pub aligned : base % bytes L (suc d) ≡ 0
  pub ends : base + bytes L (suc d) < word

module _ (L : Ladder) where
  -- the node of a tree whose first byte is at base
  unfoldable pub picture : (d base : ℕ) → Tree d → PageStorageTreeNode (suc d)
  picture zero base v = record { page_token = given v (init base 1); max_allocable_page_size = coded (largest 0 v); children = [] }
  picture (suc d) base (node v ks) = record {
    page_token = given v (init base (suc (suc d)));
    max_allocable_page_size = coded (largest (suc d) (node v ks));
    children = spread (picture d) base (bytes L (suc d)) ks;
  }

  -- the allocator of a store's tree
  abbrev pub allocator : Tree (top L) → PageAllocator (suc (top L))
  allocator t = record { base_address = 0; root = picture (top L) 0 t }
