-- A ladder of page sizes, and what the small functions of the original answer on it (document 01, 'Sizes' and 'Port order').
-- Definitions only, total on any numbers: where there is no size, a code or a number is 0.
use Rattle.std.specs.Prelude.{Bool, ◌&&◌, cond, List, ℕ, zero, suc, pred, ◌+◌, ◌*◌, ◌-◌, ◌/◌, ◌%◌, min, leb, ltb, eqb, length, get_or}

-- the bytes and the fan-outs, each a table indexed by code; code 0 is no size
pub record Ladder : Type 0 where
  pub sizes : List ℕ
  pub fan_outs : List ℕ

-- the smallest code
abbrev pub smallest : ℕ
smallest = 1

module _ (L : Ladder) where
  -- the largest code
  unfoldable pub largest : ℕ
  largest = pred (length L.sizes)

  -- how many bytes a block of the code has
  unfoldable pub bytes : ℕ → ℕ
  bytes c = get_or L.sizes c 0

  -- how many children a node of the code has
  unfoldable pub fan_out : ℕ → ℕ
  fan_out c = get_or L.fan_outs c 0

  -- how many blocks of the smallest code a block of the code has: the fan-outs multiplied
  unfoldable pub frames : ℕ → ℕ
  frames zero = 0
  frames (suc zero) = 1
  frames (suc (suc c)) = fan_out (suc (suc c)) * frames (suc c)

  -- a number as a size code, where it is one
  unfoldable pub code : ℕ → ℕ
  code n = cond (leb smallest n && leb n largest) n 0

  -- the next smaller code, the next larger one
  unfoldable pub smaller : ℕ → ℕ
  smaller c = cond (ltb smallest c && leb c largest) (c - 1) 0

  unfoldable pub larger : ℕ → ℕ
  larger c = cond (leb smallest c && ltb c largest) (c + 1) 0

  -- which child of the node of code c at base holds the address a
  unfoldable pub child_index : (base c a : ℕ) → ℕ
  child_index base c a = (a - base) / bytes (smaller c)

  -- the node of code c at base ends at or before the largest block's end, and has a child of the number i
  unfoldable pub is_child : (base c i : ℕ) → Bool
  is_child base c i = ltb i (fan_out c) && leb base (bytes largest - bytes c)

  -- the address of that child, and its code
  unfoldable pub child_address : (base c i : ℕ) → ℕ
  child_address base c i = cond (is_child base c i) (base + i * bytes (smaller c)) 0

  unfoldable pub child_size : (base c i : ℕ) → ℕ
  child_size base c i = cond (is_child base c i) (smaller c) 0

  -- the block of code c is aligned at a and ends at or before e
  unfoldable pub fits : (a e c : ℕ) → Bool
  fits a e c = eqb (a % bytes c) 0 && leb (a + bytes c) e

  -- the largest code up to c whose block fits
  unfoldable pub largest_up_to : (c a e : ℕ) → ℕ
  largest_up_to zero a e = 0
  largest_up_to (suc c) a e = cond (fits a e (suc c)) (suc c) (largest_up_to c a e)

  -- the largest code whose block is aligned at a and ends at or before e
  unfoldable pub largest_at : (a e : ℕ) → ℕ
  largest_at a e = largest_up_to largest a e

  -- the address of a frame; a number past the last frame stands for the end of the largest block
  unfoldable pub frame_address : ℕ → ℕ
  frame_address f = min f (frames largest) * bytes smallest

  -- the frame that holds an address
  unfoldable pub address_frame : ℕ → ℕ
  address_frame a = a / bytes smallest
