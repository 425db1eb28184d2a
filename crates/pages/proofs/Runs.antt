-- Lists of words: one word more of a look along them, and a run of them rewritten. Assumes nothing.
use Rattle.std.proofs.Common.{◌≡◌, ℕ, zero, suc, ◌+◌, ◌-◌, ◌≤◌, ◌<◌, max, Bool, true, false, ◌&&◌, List, [], ◌∷◌, length, get_or, drop, map, set, replicate, length-drop, refl, sym, ap, ◌∙◌, add-one, arith}
use borrow.Rule.Slice.PartMut.{mid_of, put_mid}
use Rattle.std.proofs.Math.Seq.{drop-cons, length-take-le}
use Rattle.std.specs.List.{list_all}
use Rattle.model.specs.Lists.{maximum, all, first}
use Rattle.pool.specs.Words.{run}
use Rattle.pool.proofs.Lists.{map_run-none, map_run-next}
use Rattle.pool.specs.Nodes.{map_run}

-- what is left at a place is the word there and what is left behind it
left : (xs : List ℕ) (i : ℕ) → i < length xs → drop i xs ≡ get_or xs i 0 ∷ drop (i + 1) xs
left xs i h = rw add-one (drop-cons xs i 0 h)

module _ (g : ℕ → ℕ) where
  pub maximum-left : (xs : List ℕ) (i : ℕ) → i < length xs → maximum g (drop i xs) ≡ max (g (get_or xs i 0)) (maximum g (drop (i + 1) xs))
  unfolding maximum
  maximum-left xs i h = rw (left xs i h)

  pub maximum-end : (xs : List ℕ) (i : ℕ) → length xs ≤ i → maximum g (drop i xs) ≡ 0
  unfolding maximum
  maximum-end [] zero h = refl
  maximum-end [] (suc i) h = refl
  maximum-end (x ∷ xs) zero h = absurd (omega arith)
  maximum-end (x ∷ xs) (suc i) h = maximum-end xs i (omega arith)

module _ (p : ℕ → Bool) where
  pub first-passes : (xs : List ℕ) (i : ℕ) → i < length xs → p (get_or xs i 0) ≡ true → first p (drop i xs) ≡ 0
  unfolding first
  first-passes xs i h e = rw (left xs i h, e)

  pub first-fails : (xs : List ℕ) (i : ℕ) → i < length xs → p (get_or xs i 0) ≡ false → first p (drop i xs) ≡ first p (drop (i + 1) xs) + 1
  unfolding first
  first-fails xs i h e = rw (left xs i h, e) (omega arith)

  pub first-end : (xs : List ℕ) (i : ℕ) → length xs ≤ i → first p (drop i xs) ≡ 0
  unfolding first
  first-end [] zero h = refl
  first-end [] (suc i) h = refl
  first-end (x ∷ xs) zero h = absurd (omega arith)
  first-end (x ∷ xs) (suc i) h = first-end xs i (omega arith)

pub all-list : {A : Type 0} (p : A → Bool) (xs : List A) → list_all p xs ≡ all p xs
unfolding all
all-list p [] = refl
all-list p (x ∷ xs) = ap (λ (b : Bool). p x && b) (all-list p xs)

-- no word rewritten yet
pub map_run-start : (f : ℕ → ℕ) (xs : List ℕ) → map_run f xs 0 0 ≡ xs
map_run-start f xs = map_run-none f xs 0

-- a loop's next turn over all words
pub map_run-turn : (f : ℕ → ℕ) (xs ys : List ℕ) (i r : ℕ) → ys ≡ map_run f xs 0 i → i < length xs → r ≡ f (get_or ys i 0) → set ys i r ≡ map_run f xs 0 (i + 1)
map_run-turn f xs ys i r e h v =
    let z : 0 + i ≡ i = omega arith in
    rw z at (map_run-next f xs ys 0 i r e (omega arith) (v ∙ ap (λ (x : ℕ). f (get_or ys x 0)) (sym z)))

-- every word rewritten
pub map_run-all : (f : ℕ → ℕ) (xs : List ℕ) (n : ℕ) → length xs ≤ n → map_run f xs 0 n ≡ map f xs
unfolding map_run
map_run-all f [] n h = refl
map_run-all f (x ∷ xs) zero h = absurd (omega arith)
map_run-all f (x ∷ xs) (suc n) h = ap {B = List ℕ} (λ (l : List ℕ). f x ∷ l) (map_run-all f xs n (omega arith))

-- a part of the list, rewritten word by word and put back
put-mapped : (f : ℕ → ℕ) (xs : List ℕ) (a n : ℕ) → put_mid a n xs (map f (mid_of a n xs)) ≡ map_run f xs a n
unfolding map_run
put-mapped f [] zero zero = refl
put-mapped f [] zero (suc n) = refl
put-mapped f [] (suc a) zero = refl
put-mapped f [] (suc a) (suc n) = refl
put-mapped f (x ∷ xs) (suc a) n = ap {B = List ℕ} (λ (l : List ℕ). x ∷ l) (put-mapped f xs a n)
put-mapped f (x ∷ xs) zero zero = refl
put-mapped f (x ∷ xs) zero (suc n) = ap {B = List ℕ} (λ (l : List ℕ). f x ∷ l) (put-mapped f xs zero n)

-- the same of the n words from a on, as the code has them
pub run-mapped : (f : ℕ → ℕ) (xs : List ℕ) (a n m : ℕ) (ys : List ℕ) → n ≡ m → ys ≡ map f (mid_of a (a + n - a) xs) → put_mid a (a + n - a) xs ys ≡ map_run f xs a m
run-mapped f xs a n m ys e h =
    let k : a + n - a ≡ m = omega arith in
    rw (h, k) (put-mapped f xs a m)

map-same : (v : ℕ) (xs : List ℕ) → replicate (length xs) v ≡ map (λ _. v) xs
map-same v [] = refl
map-same v (x ∷ xs) = ap {B = List ℕ} (λ (l : List ℕ). v ∷ l) (map-same v xs)

pub run-filled : (v : ℕ) (xs : List ℕ) (a n m : ℕ) (ys : List ℕ) → n ≡ m → ys ≡ replicate (length (mid_of a (a + n - a) xs)) v → put_mid a (a + n - a) xs ys ≡ map_run (λ _. v) xs a m
run-filled v xs a n m ys e h = run-mapped (λ _. v) xs a n m ys e (h ∙ map-same v (mid_of a (a + n - a) xs))

pub length-run : (xs : List ℕ) (a n : ℕ) → a + n ≤ length xs → length (run xs a n) ≡ n
length-run xs a n h = length-take-le n (drop a xs) (omega (arith, length-drop a xs))

pub ruleset looks = (maximum-left, maximum-end, first-passes, first-fails, first-end)

pub ruleset rewrites = (map_run-start, map_run-turn, map_run-all)
