-- What holds of every ladder whose sizes multiply up: the statements. `proofs/` proves them, each once over the code.
use Rattle.std.specs.Prelude.{◌≡◌, ℕ, suc, ◌+◌, ◌*◌, ◌-◌, ◌%◌, ◌^◌, ◌≤◌, ◌<◌}
use Rattle.std.specs.Int.{◌∣◌}
use Rattle.sizes.specs.Ladder.{Ladder, smallest, largest, bytes, fan_out, frames, smaller, child_index, child_address, child_size, largest_at, frame_address, address_frame}
use Rattle.sizes.specs.Six.{six}

-- at most 7 codes, the smallest block not empty; children have the codes from 2 up alone, two or more each, and there bytes are the fan-out times the bytes of the code below
pub record MultipliesUp (L : Ladder) : Type 0 where
  pub some : smallest ≤ largest L
  pub few : largest L ≤ 7
  pub page : 0 < bytes L smallest
  pub parents : (c : ℕ) → 0 < fan_out L c → (smallest < c) × (c ≤ largest L)
  pub wide : (c : ℕ) → smallest ≤ c → c < largest L → 2 ≤ fan_out L (suc c)
  pub multiply : (c : ℕ) → smallest ≤ c → c < largest L → bytes L (suc c) ≡ fan_out L (suc c) * bytes L c

-- a code of the ladder
pub record IsCode (L : Ladder) (c : ℕ) : Type 0 where
  pub low : smallest ≤ c
  pub high : c ≤ largest L

-- the block of code c is aligned at a and ends at or before e
pub record Fits (L : Ladder) (a e c : ℕ) : Type 0 where
  pub code : IsCode L c
  pub aligned : a % bytes L c ≡ 0
  pub ends : a + bytes L c ≤ e

-- m is the largest code whose block fits, and 0 where none does
pub record LargestFit (L : Ladder) (a e m : ℕ) : Type 0 where
  pub fits : 0 < m → Fits L a e m
  pub most : (c : ℕ) → Fits L a e c → c ≤ m

-- the child i of the node of code c at base holds the address a
pub record Holds (L : Ladder) (base c i a : ℕ) : Type 0 where
  pub child : i < fan_out L c
  pub low : base + i * bytes L (smaller L c) ≤ a
  pub high : a < base + suc i * bytes L (smaller L c)

-- the child i of the node of code c at base starts at a, has the code d, and is the one that holds a
pub record ChildAt (L : Ladder) (base c i a d : ℕ) : Type 0 where
  pub address : child_address L base c i ≡ a
  pub size : child_size L base c i ≡ d
  pub index : child_index L base c a ≡ i

-- the laws of a ladder
pub record LadderLaws (L : Ladder) : Type 0 where
  -- a smaller size divides a larger one
  pub divides : (c d : ℕ) → IsCode L c → IsCode L d → c ≤ d → bytes L c ∣ bytes L d
  -- alignment at a size gives alignment at each smaller one
  pub aligned : (a c d : ℕ) → IsCode L c → IsCode L d → c ≤ d → a % bytes L d ≡ 0 → a % bytes L c ≡ 0
  -- a size has as many smallest blocks as its fan-outs multiply to
  pub product : (c : ℕ) → IsCode L c → bytes L c ≡ frames L c * bytes L smallest
  -- a smaller code is a smaller size
  pub grows : (c d : ℕ) → IsCode L c → IsCode L d → c < d → bytes L c < bytes L d
  -- the largest page size at an address is the largest that fits
  pub largest_at_is : (a e : ℕ) → LargestFit L a e (largest_at L a e)
  -- the children lie side by side from their node's base on, each of the next smaller code, and each has its own index
  pub children : (base c i : ℕ) → base + bytes L c ≤ bytes L (largest L) → i < fan_out L c → ChildAt L base c i (base + i * bytes L (smaller L c)) (c - 1)
  -- an address in a node lies in the child of the index
  pub holds : (base c a : ℕ) → IsCode L c → smallest < c → base ≤ a → a < base + bytes L c → Holds L base c (child_index L base c a) a
  -- a frame and its address name each other, up to the largest block's end
  pub frame_back : (f : ℕ) → f ≤ frames L (largest L) → address_frame L (frame_address L f) ≡ f
  pub address_back : (a : ℕ) → a % bytes L smallest ≡ 0 → a ≤ bytes L (largest L) → frame_address L (address_frame L a) ≡ a

-- P1: the fan-outs multiply to 2^35 frames
abbrev pub P1 : Type 0
P1 = frames six (largest six) ≡ 2 ^ 35
