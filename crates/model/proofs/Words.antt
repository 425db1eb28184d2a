-- The pool words that a tree takes: a store and a take add what they open, and nothing is given up. Assumes nothing.
use mathlib.Core.Path.{◌≡◌, refl, sym, ap, ◌∙◌, subst}
use mathlib.Core.Bool.{Bool, true, false}
use mathlib.Core.List.{List, [], ◌∷◌, map}
use Prim.Native.Nat.{ℕ, zero, suc, ◌+◌, ◌/◌, ◌%◌, ◌<◌}
use native.Mathlib.Omega.{arith}
use native.Mathlib.Nat.{mod-lt, le_of_suc-le-suc, not-suc-le-zero}
use lib.Dec.{ltb}
use lib.ListN.{length, get_or, set, replicate, length-set, length-map, length-replicate}
use Rattle.sizes.specs.Ladder.{Ladder}
use Rattle.model.specs.Ladder.{fan, frames}
use Rattle.model.specs.Lists.{sum, all}
use Rattle.model.specs.Tree.{node, Tree, token, empty, mark, child, words, merge, Sound, opened, handed_on, opening, openings, store, remove}
use Rattle.model.proofs.Ladder.{fan-pos, frames-pos}
use Rattle.model.proofs.Lists.{get_or-map-lt}
use Rattle.model.proofs.Change.{child-lt, opened-child, opened-length, handed_on-length, handed_on-sound}

-- a token takes no words
words-mark : (d : ℕ) (v : Bool) (t : Tree d) → words d (mark d v t) ≡ words d t
unfolding words
words-mark zero v t = refl
words-mark (suc d) v (node u []) = refl
words-mark (suc d) v (node u (k ∷ ks)) = refl

sum-mark : (d : ℕ) (v : Bool) (ks : List (Tree d)) → sum (words d) (map (mark d v) ks) ≡ sum (words d) ks
unfolding sum
sum-mark d v [] = refl
sum-mark d v (k ∷ ks) = omega (arith, words-mark d v k, sum-mark d v ks)

-- replacing an element changes a sum by its value
sum-set : {A : Type 0} (g : A → ℕ) (xs : List A) (i : ℕ) (x z : A) → i < length xs → sum g (set xs i x) + g (get_or xs i z) ≡ sum g xs + g x
unfolding sum
sum-set g [] i x z h = absurd (not-suc-le-zero h)
sum-set g (y ∷ xs) zero x z h = omega arith
sum-set g (y ∷ xs) (suc i) x z h = omega (arith, sum-set g xs i x z (le_of_suc-le-suc h))

-- an empty node takes no words
pub words-empty : (d : ℕ) → words d (empty d) ≡ 0
unfolding words
words-empty zero = refl
words-empty (suc d) = refl

sum-empty : (d n : ℕ) → sum (words d) (replicate n (empty d)) ≡ 0
unfolding sum
sum-empty d zero = refl
sum-empty d (suc n) = omega (arith, words-empty d, sum-empty d n)

-- an opened node takes a header, its children and what these take
words-node : (d : ℕ) (v : Bool) (ks : List (Tree d)) → 0 < length ks → words (suc d) (node v ks) ≡ suc (length ks) + sum (words d) ks
unfolding words
words-node d v [] h = absurd (omega arith)
words-node d v (k ∷ ks) h = refl

-- merging gives nothing up
words-merge : (d : ℕ) (xs : List (Tree d)) → 0 < length xs → words (suc d) (merge d xs) ≡ suc (length xs) + sum (words d) xs
unfolding merge
words-merge d xs h = go (all (token d) xs) refl
  where
    go : (x : Bool) → all (token d) xs ≡ x → words (suc d) (merge d xs) ≡ suc (length xs) + sum (words d) xs
    go false e = rw (e, merge) (words-node d false xs h)
    go true e = rw (e, merge)
        (omega (arith, words-node d true (map (mark d false) xs) (omega (arith, length-map xs (mark d false))), length-map xs (mark d false), sum-mark d false xs))

module _ (L : Ladder) where
  -- opening adds its words
  words_opened : (d : ℕ) (v : Bool) (ks : List (Tree d)) → suc (length (opened L d ks)) + sum (words d) (opened L d ks) ≡ words (suc d) (node v ks) + opening L d ks
  unfolding opened words
  words_opened d v [] = omega (arith, length-replicate (fan L (suc d)) (empty d), sum-empty d (fan L (suc d)))
  words_opened d v (k ∷ ks) = omega arith

  -- handing on adds no more than opening does
  words-handed : (d : ℕ) (v : Bool) (ks : List (Tree d)) → suc (length (handed_on L d v ks)) + sum (words d) (handed_on L d v ks) ≡ words (suc d) (node v ks) + opening L d ks
  unfolding handed_on
  words-handed d false ks = words_opened d false ks
  words-handed d true ks = omega (arith, words_opened d true ks, length-map (opened L d ks) (mark d true), sum-mark d true (opened L d ks))

  openings-mark : (d d' : ℕ) (v : Bool) (t : Tree d) (b : ℕ) → openings L d d' (mark d v t) b ≡ openings L d d' t b
  unfolding openings
  openings-mark zero d' v t b = refl
  openings-mark (suc d) d' v (node u ks) b = refl

  -- a child that got a token opens what it opened before
  handed-openings : (d d' : ℕ) (v : Bool) (ks : List (Tree d)) (i c : ℕ) → i < length (handed_on L d v ks) → openings L d d' (child d (handed_on L d v ks) i) c ≡ openings L d d' (child d ks i) c
  unfolding handed_on
  handed-openings d d' false ks i c h = ap (λ (t : Tree d). openings L d d' t c) (opened-child L d ks i)
  handed-openings d d' true ks i c h =
      ap (λ (t : Tree d). openings L d d' t c) (get_or-map-lt (mark d true) (opened L d ks) i (empty d) (omega (arith, length-map (opened L d ks) (mark d true))))
      ∙ openings-mark d d' true (child d (opened L d ks) i) c ∙ ap (λ (t : Tree d). openings L d d' t c) (opened-child L d ks i)

  -- one child replaced by one that has opened so many words more
  words-replaced : (d : ℕ) (v : Bool) (ks xs : List (Tree d)) (i n : ℕ) (x : Tree d) → i < length xs → suc (length xs) + sum (words d) xs ≡ words (suc d) (node v ks) + opening L d ks
      → words d x ≡ words d (child d xs i) + n → suc (length (set xs i x)) + sum (words d) (set xs i x) ≡ words (suc d) (node v ks) + (opening L d ks + n)
  words-replaced d v ks xs i n x h e k = omega (arith, length-set xs i x, sum-set (words d) xs i x (empty d) h)

  -- a store adds what it opens
  pub words-store : (d d' : ℕ) (t : Tree d) (b : ℕ) → Sound L d t → b < frames L d → words d (store L d d' t b) ≡ words d t + openings L d d' t b
  unfolding store openings words
  words-store zero d' t b s h = refl
  words-store (suc d) d' (node v ks) b s h = go (ltb d' (suc d)) refl (words-store d d')
    where
      go : (x : Bool) → ltb d' (suc d) ≡ x → ((t : Tree d) (b : ℕ) → Sound L d t → b < frames L d → words d (store L d d' t b) ≡ words d t + openings L d d' t b)
          → words (suc d) (store L (suc d) d' (node v ks) b) ≡ words (suc d) (node v ks) + openings L (suc d) d' (node v ks) b
      go false e ih = rw (e, store, openings) (omega (arith, words-mark (suc d) true (node v ks)))
      go true e ih =
          let O = opened L d ks in
          let i = b / frames L d in
          let c = b % frames L d in
          let R = store L d d' (child d O i) c in
          let len = opened-length L d ks s.shape in
          let lt : i < length O = omega (arith, len, child-lt L d b h) in
          let ok = opened-child L d ks i in
          let k = ih (child d O i) c (subst (Sound L d) (sym ok) (s.children i)) (mod-lt b (frames-pos L d)) ∙ ap (λ (t : Tree d). words d (child d O i) + openings L d d' t c) ok in
          rw (e, store, openings) (words-merge d (set O i R) (omega (arith, length-set O i R, len, fan-pos L d)) ∙ words-replaced d v ks O i (openings L d d' (child d ks i) c) R lt (words_opened d v ks) k)

  -- a take too
  pub words-remove : (d d' : ℕ) (t : Tree d) (b : ℕ) → Sound L d t → b < frames L d → words d (remove L d d' t b) ≡ words d t + openings L d d' t b
  unfolding remove openings words
  words-remove zero d' t b s h = refl
  words-remove (suc d) d' (node v ks) b s h = go (ltb d' (suc d)) refl (words-remove d d')
    where
      go : (x : Bool) → ltb d' (suc d) ≡ x → ((t : Tree d) (b : ℕ) → Sound L d t → b < frames L d → words d (remove L d d' t b) ≡ words d t + openings L d d' t b)
          → words (suc d) (remove L (suc d) d' (node v ks) b) ≡ words (suc d) (node v ks) + openings L (suc d) d' (node v ks) b
      go false e ih = rw (e, remove, openings) (omega (arith, words-mark (suc d) false (node v ks)))
      go true e ih =
          let H = handed_on L d v ks in
          let i = b / frames L d in
          let c = b % frames L d in
          let R = remove L d d' (child d H i) c in
          let len = handed_on-length L d v ks s.shape in
          let lt : i < length H = omega (arith, len, child-lt L d b h) in
          let k = ih (child d H i) c (handed_on-sound L d v ks s i) (mod-lt b (frames-pos L d)) ∙ ap (λ (n : ℕ). words d (child d H i) + n) (handed-openings d d' v ks i c lt) in
          rw (e, remove, openings) (words-node d false (set H i R) (omega (arith, length-set H i R, len, fan-pos L d)) ∙ words-replaced d v ks H i (openings L d d' (child d ks i) c) R lt (words-handed d v ks) k)
