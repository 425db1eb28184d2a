-- What the verdict of a list of tests says. Assumes nothing.
use mathlib.Core.Path.{◌≡◌, refl}
use mathlib.Core.Bool.{true, false}
use mathlib.Core.List.{List, [], ◌∷◌}
use Prim.Native.Nat.{ℕ, ◌<◌}
use native.Mathlib.Omega.{arith}
use Rattle.model.specs.Calls.{Test, refuse, verdict}

-- every test failed
abbrev Clear : List Test → Type 0
Clear [] = Unit {0}
Clear (refuse n v ∷ ts) = (v ≡ false) × Clear ts

abbrev Numbered : List Test → Type 0
Numbered [] = Unit {0}
Numbered (refuse n v ∷ ts) = (0 < n) × Numbered ts

-- a call without refusal failed every test
pub clear : (ts : List Test) → Numbered ts → verdict ts ≡ 0 → Clear ts
clear [] p e = tt
clear (refuse n true ∷ ts) p e = absurd (omega arith)
clear (refuse n false ∷ ts) p e = (refl, clear ts p.1 e)

-- two answers of different kinds are never one
pub never : ◌≡◌ {A = ℕ} 0 1 → ⊥
never e = omega arith
