-- The words of Rust that the original uses, on values: statements one after the other, panics, and what the library's Option, Result and Vec answer.
use Rattle.std.specs.Prelude.{if◌then◌else◌, Bool, true, false, List, [], ◌∷◌, ℕ, zero, suc, ◌+◌, ◌*◌, ◌-◌, ◌/◌, ◌^◌, max, leb, ltb, length}
use Rattle.std.proofs.Math.Option.{Option, none, some}
use Rattle.model.specs.Lists.{first}

-- what a function ends in: a panic (or a loop without end), or a value
pub data Ends (A : Type 0) : Type 0 where
  panics : Ends A
  gives : A → Ends A

-- a statement and the next one, which may use its value: a `do` block means these two
abbrev pub ◌>>=◌ : {A B : Type 0} → Ends A → (A → Ends B) → Ends B
◌>>=◌ panics f = panics
◌>>=◌ (gives a) f = f a

abbrev pub ◌>>◌ : {A B : Type 0} → Ends A → Ends B → Ends B
◌>>◌ panics y = panics
◌>>◌ (gives a) y = y

-- assert!(test)
abbrev pub assert : Bool → Ends (Unit {0})
assert true = gives tt
assert false = panics

-- how many numbers usize has
unfoldable pub word : ℕ
word = 2 ^ 64

-- a + b, a * b, a - b and a / b of usize
abbrev pub plus : (a b : ℕ) → Ends ℕ
plus a b = do
  assert (ltb (a + b) word)
  gives (a + b)

abbrev pub times : (a b : ℕ) → Ends ℕ
times a b = do
  assert (ltb (a * b) word)
  gives (a * b)

abbrev pub minus : (a b : ℕ) → Ends ℕ
minus a b = do
  assert (leb b a)
  gives (a - b)

abbrev pub over : (a b : ℕ) → Ends ℕ
over a b = do
  assert (ltb 0 b)
  gives (a / b)

-- o.is_some(), o.unwrap()
abbrev pub is_some : {A : Type 0} → Option A → Bool
is_some none = false
is_some (some a) = true

abbrev pub unwrap : {A : Type 0} → Option A → Ends A
unwrap none = panics
unwrap (some a) = gives a

-- o >= Some(n), and o.max(p): None comes first
abbrev pub at_least : Option ℕ → ℕ → Bool
at_least none n = false
at_least (some m) n = leb n m

abbrev pub max_option : Option ℕ → Option ℕ → Option ℕ
max_option none p = p
max_option (some m) none = some m
max_option (some m) (some n) = some (max m n)

-- Result
pub data Result (A E : Type 0) : Type 0 where
  ok : A → Result A E
  err : E → Result A E

-- r.unwrap()
abbrev pub unwrap_ok : {A E : Type 0} → Result A E → Ends A
unwrap_ok (ok a) = gives a
unwrap_ok (err e) = panics

-- r.map(f)
abbrev pub map_ok : {A B E : Type 0} → (A → B) → Result A E → Result B E
map_ok f (ok a) = ok (f a)
map_ok f (err e) = err e

-- ensure!(test, e)?, in a function that changes a state: the state comes back as it is
abbrev pub ensure : {A E S : Type 0} → Bool → E → S → Ends (Result A E × S) → Ends (Result A E × S)
ensure true e s rest = rest
ensure false e s rest = gives (err e, s)

-- xs[i]
unfoldable pub element : {A : Type 0} → List A → ℕ → Ends A
element [] i = panics
element (x ∷ xs) zero = gives x
element (x ∷ xs) (suc i) = element xs i

-- xs.is_empty()
abbrev pub is_empty : {A : Type 0} → List A → Bool
is_empty [] = true
is_empty (x ∷ xs) = false

-- xs.iter().position(p).unwrap()
unfoldable pub position : {A : Type 0} → (A → Bool) → List A → Ends ℕ
position p xs = do
  assert (ltb (first p xs) (length xs))
  gives (first p xs)

-- xs.iter().map(f).max().flatten()
unfoldable pub max_of_all : {A : Type 0} → (A → Option ℕ) → List A → Option ℕ
max_of_all f [] = none
max_of_all f (x ∷ xs) = max_option (f x) (max_of_all f xs)

-- xs.iter_mut().map(f).collect(): what f takes out of each element, and the elements after
unfoldable pub map_collect : {A B : Type 0} → (A → Ends (B × A)) → List A → Ends (List B × List A)
map_collect f [] = gives ([], [])
map_collect f (x ∷ xs) = do
  (y, left) ← f x
  (ys, rest) ← map_collect f xs
  gives (y ∷ ys, left ∷ rest)

-- (i..i + n).map(f).collect()
unfoldable pub collect_from : {A : Type 0} → (i n : ℕ) → (ℕ → Ends A) → Ends (List A)
collect_from i zero f = gives []
collect_from i (suc n) f = do
  x ← f i
  xs ← collect_from (suc i) n f
  gives (x ∷ xs)

-- for x in xs { s = body(s, x) }
unfoldable pub for_each : {A S : Type 0} → List A → S → (S → A → Ends S) → Ends S
for_each [] s body = gives s
for_each (x ∷ xs) s body = do
  next ← body s x
  for_each xs next body

-- while test(s) { s = next(s) }, for so many turns at most
unfoldable pub while : {S : Type 0} → (turns : ℕ) → (S → Ends Bool) → (S → S) → S → Ends S
while zero test next s = panics
while (suc n) test next s = do
  again ← test s
  if again then while n test next (next s) else gives s
