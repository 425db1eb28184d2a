-- Sets of frames, as functions to Bool: what holds throughout a block, what a change of a block is, the lowest block, how many frames there are.
-- A block is its first frame b and its number of frames s.
use Rattle.std.specs.Prelude.{◌≡◌, Bool, true, false, ◌&&◌, cond, ℕ, zero, suc, ◌+◌, ◌%◌, ◌≤◌, ◌<◌, leb, ltb}

-- every frame of the block has the value v
abbrev pub Wholly : (ℕ → Bool) → (b s : ℕ) → Bool → Type 0
Wholly g b s v = (f : ℕ) → b ≤ f → f < b + s → g f ≡ v

-- g' is g with v throughout the block; below N nothing else differs
pub record Changed (g g' : ℕ → Bool) (N b s : ℕ) (v : Bool) : Type 0 where
  pub inside : (f : ℕ) → b ≤ f → f < b + s → g' f ≡ v
  pub below : (f : ℕ) → f < b → g' f ≡ g f
  pub above : (f : ℕ) → b + s ≤ f → f < N → g' f ≡ g f

-- b is the first frame of the lowest aligned block of s frames below N that is wholly in g
pub record Lowest (g : ℕ → Bool) (N s b : ℕ) : Type 0 where
  pub aligned : b % s ≡ 0
  pub fits : b + s ≤ N
  pub whole : Wholly g b s true
  pub lowest : (c : ℕ) → c % s ≡ 0 → c + s ≤ N → Wholly g c s true → b ≤ c

-- frame f lies in the block
abbrev pub within : (b s f : ℕ) → Bool
within b s f = leb b f && ltb f (b + s)

-- g, with v throughout the block
abbrev pub paint : (b s : ℕ) → Bool → (ℕ → Bool) → ℕ → Bool
paint b s v g f = cond (within b s f) v (g f)

abbrev pub bit : Bool → ℕ
bit true = 1
bit false = 0

-- how many frames below n are in g
unfoldable pub count : (ℕ → Bool) → ℕ → ℕ
count g zero = 0
count g (suc n) = bit (g n) + count g n
