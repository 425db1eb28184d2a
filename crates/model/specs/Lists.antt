-- Four answers about a list, by a value of each element.
use Rattle.std.specs.Prelude.{Bool, true, ◌&&◌, cond, List, [], ◌∷◌, ℕ, suc, ◌+◌, max}

unfoldable pub maximum : {A : Type 0} → (A → ℕ) → List A → ℕ
maximum g [] = 0
maximum g (x ∷ xs) = max (g x) (maximum g xs)

unfoldable pub sum : {A : Type 0} → (A → ℕ) → List A → ℕ
sum g [] = 0
sum g (x ∷ xs) = g x + sum g xs

unfoldable pub all : {A : Type 0} → (A → Bool) → List A → Bool
all p [] = true
all p (x ∷ xs) = p x && all p xs

-- the place of the first element that passes, the length if none does
unfoldable pub first : {A : Type 0} → (A → Bool) → List A → ℕ
first p [] = 0
first p (x ∷ xs) = cond (p x) 0 (suc (first p xs))
