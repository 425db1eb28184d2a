-- The cases at the fences that document 01 marks P, and the unmarked one, as one list: what the promises say, from fresh, on pools of zeros.
use Rattle.std.specs.Prelude.{◌≡◌, List, [], ◌∷◌, ◌++◌, map, ℕ, ◌+◌, ◌*◌, ◌^◌, ◌-◌, ◌<◌, replicate}
use Rattle.sizes.specs.Ladder.{largest, frames}
use Rattle.sizes.specs.Six.{six}
use Rattle.model.specs.Calls.{Call, seed, acquire, release}
use Rattle.pool.specs.Limits.{places, pool_limit}
use Rattle.pool.specs.Words.{word}
use Rattle.pool.specs.Cases.{of, document}
use Rattle.pages.specs.Calls.{Store, Reply, fresh_reply}
use Rattle.demands.specs.Demands.{Runs}

-- what a reply says: refusal, base, probes, and the words used behind it
pub data Line : Type 0 where
  line : (refusal base probes used : ℕ) → Line

-- a reply's line
abbrev pub line_of : Reply → Line
line_of r = line r.refusal r.base r.probes r.store.state.used

-- from fresh on a pool of n words, these calls get these lines, and leave a store of which Left holds
abbrev pub Leaves : (n : ℕ) → List Call → List Line → (Left : Store → Type 0) → Type 0
Leaves n cs ls Left = (rs : List Reply) (s : Store) → Runs six places pool_limit (fresh_reply six places pool_limit (replicate n 0)).store cs rs s → (map line_of rs ≡ ls) × Left s

-- ... whatever store they leave
abbrev pub Says : (n : ℕ) → List Call → List Line → Type 0
Says n cs ls = Leaves n cs ls (λ s. Unit {0})

-- an acquire of each code
abbrev pub codes : List Call
codes = acquire 1 ∷ acquire 2 ∷ acquire 3 ∷ acquire 4 ∷ acquire 5 ∷ acquire 6 ∷ []

-- its six refusals with 8
abbrev pub out : (used : ℕ) → List Line
out u = replicate 6 (line 8 0 0 u)

-- the seed of 16 KiB at 2^31
abbrev pub page16 : Call
page16 = seed (2 ^ 31) (2 ^ 31 + 16384)

-- the release of its frame i
abbrev pub back : ℕ → Call
back i = release (2 ^ 31 + 4096 * i) 1

-- the seed of the frame 2 * i alone
abbrev pub lone : ℕ → Call
lone i = seed (8192 * i) (8192 * i + 4096)

-- document 01's list, by its numbers
pub record Fences : Type 0 where
  pub P1 : frames six (largest six) ≡ 2 ^ 35
  pub P2 : Says 16384 codes (out 1)
  pub P3 : Leaves 16384 (seed 0 (2 ^ 47) ∷ []) (line 0 0 0 1 ∷ []) (λ s. word s.pool 0 ≡ 110) × Says 16384 (seed 0 (2 ^ 47) ∷ acquire 6 ∷ codes) (line 0 0 0 1 ∷ line 0 0 0 1 ∷ out 1)
  pub P4 : Says 16384 (seed 0 (2 ^ 47 + 4096) ∷ []) (line 3 0 0 1 ∷ [])
  pub P5 : Says 16384 (seed 4096 4096 ∷ []) (line 2 0 0 1 ∷ [])
  -- 42 is the token of 16 KiB, the two 25 within `document` are those of 4 KiB
  pub P6 : Leaves 1423 (seed 2147483648 2147508224 ∷ []) (line 0 0 0 1418 ∷ []) (λ s. s.pool ≡ document 226 33106 98754 164402 42 (of 5 0 ∷ []))
  pub P7 : Says 16384 (seed 2147483648 2147508224 ∷ acquire 1 ∷ acquire 2 ∷ acquire 1 ∷ release 2147483648 1 ∷ release 2147483648 1 ∷ [])
      (line 0 0 0 1418 ∷ line 0 2147483648 7 1423 ∷ line 8 0 0 1423 ∷ line 0 2147487744 8 1423 ∷ line 0 0 0 1423 ∷ line 7 0 0 1423 ∷ [])
  -- in any order: a, b, c, d are 0 to 3, each once, where their powers of 2 add up to 15
  pub P8 : (a b c d : ℕ) → a < 4 → b < 4 → c < 4 → d < 4 → 2 ^ a + 2 ^ b + 2 ^ c + 2 ^ d ≡ 15
      → Says 16384 (page16 ∷ acquire 1 ∷ acquire 1 ∷ acquire 1 ∷ acquire 1 ∷ back a ∷ back b ∷ back c ∷ back d ∷ acquire 2 ∷ [])
      (line 0 0 0 1413 ∷ line 0 2147483648 7 1418 ∷ line 0 2147487744 8 1418 ∷ line 0 2147491840 9 1418 ∷ line 0 2147495936 10 1418 ∷ replicate 4 (line 0 0 0 1418) ++ (line 0 2147483648 6 1418 ∷ []))
  pub P9 : Says 1412 (page16 ∷ []) (line 9 0 0 1 ∷ []) × Says 1413 (page16 ∷ []) (line 0 0 0 1413 ∷ [])
  pub P10 : Says 16384 (seed (2 ^ 47 - 4096) (2 ^ 47) ∷ acquire 1 ∷ []) (line 0 0 0 1418 ∷ line 0 140737488351232 1412 1418 ∷ [])
  pub P11 : Says 16384 (page16 ∷ release (2 ^ 31 + 16384) 1 ∷ []) (line 0 0 0 1413 ∷ line 6 0 0 1413 ∷ [])
  pub P12 : Says 16384 (lone 0 ∷ lone 1 ∷ lone 2 ∷ lone 3 ∷ lone 4 ∷ lone 5 ∷ lone 6 ∷ lone 7 ∷ lone 8 ∷ [])
      (line 0 0 0 1418 ∷ line 0 0 0 1418 ∷ line 0 0 0 1423 ∷ line 0 0 0 1423 ∷ line 0 0 0 1428 ∷ line 0 0 0 1428 ∷ line 0 0 0 1433 ∷ line 0 0 0 1433 ∷ line 5 0 0 1433 ∷ [])
  -- a 4 KiB part of a 16 KiB page whose node was never opened: 9 or accepted, by room
  pub part : Says 1413 (page16 ∷ acquire 2 ∷ back 1 ∷ []) (line 0 0 0 1413 ∷ line 0 2147483648 6 1413 ∷ line 9 0 0 1413 ∷ [])
      × Says 1418 (page16 ∷ acquire 2 ∷ back 1 ∷ []) (line 0 0 0 1413 ∷ line 0 2147483648 6 1413 ∷ line 0 0 0 1418 ∷ [])
