-- The number of free frames: as a count over the frames, and as a sum over the tree. Assumes nothing.
use mathlib.Core.Path.{◌≡◌, refl, sym, ap, ◌∙◌}
use mathlib.Core.Logic.{⊎_elim}
use mathlib.Core.Bool.{Bool, true, false}
use mathlib.Core.List.{List, [], ◌∷◌}
use Prim.Native.Nat.{ℕ, zero, suc, ◌+◌, ◌*◌, ◌/◌, ◌%◌, ◌<◌}
use native.Mathlib.Omega.{arith}
use native.Mathlib.Nat.{div-eq_of_lt, mod-eq_of_lt, add-div_left, add-mod_left, zero-mul, suc-mul, add_comm}
use native.Mathlib.Numerals.{add-one}
use lib.ListN.{length, get_or}
use Rattle.sizes.specs.Ladder.{Ladder}
use Rattle.model.specs.Ladder.{fan, frames}
use Rattle.model.specs.Frames.{Wholly, count}
use Rattle.model.specs.Lists.{sum}
use Rattle.model.specs.Tree.{node, Tree, empty, child, free, free_frames, Sound, store, remove}
use Rattle.model.specs.Laws.{BlockIn}
use Rattle.model.proofs.Ladder.{frames-pos}
use Rattle.model.proofs.Frames.{count_same, count-all, count-append, count-stored, count-taken}
use Rattle.model.proofs.Free.{largest-empty, quiet-free}
use Rattle.model.proofs.Change.{remove-done, store-done}

unfoldable sum_to : (ℕ → ℕ) → ℕ → ℕ
sum_to h zero = 0
sum_to h (suc m) = h 0 + sum_to (λ i. h (suc i)) m

-- the count over a node's frames is the sum of the counts over its children's
count-children : (n : ℕ) → 0 < n → (m : ℕ) (k : ℕ → ℕ → Bool) → count (λ f. k (f / n) (f % n)) (m * n) ≡ sum_to (λ i. count (k i) n) m
unfolding count sum_to
count-children n p zero k = rw (zero-mul n)
count-children n p (suc m) k =
    let G : ℕ → Bool = λ f. k (f / n) (f % n) in
    let a : count G n ≡ count (k 0) n = count_same G (k 0) n (λ f l. rw (div-eq_of_lt l, mod-eq_of_lt l)) in
    let b : count (λ f. G (n + f)) (m * n) ≡ count (λ f. k (suc (f / n)) (f % n)) (m * n) =
    count_same (λ f. G (n + f)) (λ f. k (suc (f / n)) (f % n)) (m * n) (λ f l. rw (add-div_left f p, add-mod_left n f, add-one (f / n))) in
    ap (count G) (suc-mul m n ∙ add_comm (m * n) n) ∙ count-append G n (m * n) ∙ omega (arith, a, b, count-children n p m (λ i. k (suc i)))

sum-list : {A : Type 0} (g : A → ℕ) (h : ℕ → ℕ) (xs : List A) (z : A) → ((i : ℕ) → g (get_or xs i z) ≡ h i) → sum g xs ≡ sum_to h (length xs)
unfolding sum sum_to
sum-list g h [] z e = refl
sum-list g h (x ∷ xs) z e = omega (arith, e 0, sum-list g (λ i. h (suc i)) xs z (λ i. e (suc i)))

module _ (L : Ladder) where
  -- the sum over the tree is the count over the frames
  pub free_frames-count : (d : ℕ) (t : Tree d) → Sound L d t → free_frames L d t ≡ count (free L d t) (frames L d)
  unfolding free_frames free count frames sum
  free_frames-count zero t s = omega arith
  free_frames-count (suc d) (node true ks) s = omega (arith, count-all (free L (suc d) (node true ks)) true (frames L (suc d)) (λ f. refl))
  free_frames-count (suc d) (node false []) s =
      omega (arith, count-all (free L (suc d) (node false [])) false (frames L (suc d)) (λ f. quiet-free L d (empty d) (f % frames L d) (largest-empty d)))
  free_frames-count (suc d) (node false (x ∷ xs)) s =
      let ks = x ∷ xs in
      let e : length ks ≡ fan L (suc d) = ⊎_elim (λ e. absurd (omega arith)) (λ e. e) s.shape in
      let h : ℕ → ℕ = λ i. count (free L d (child d ks i)) (frames L d) in
      sum-list (free_frames L d) h ks (empty d) (λ i. free_frames-count d (child d ks i) (s.children i))
      ∙ ap (sum_to h) e ∙ sym (count-children (frames L d) (frames-pos L d) (fan L (suc d)) (λ i. free L d (child d ks i)))

  -- the frames counted over the tree grow and fall by the block's
  pub stored-frames : (d d' : ℕ) (t : Tree d) (b : ℕ) → Sound L d t → BlockIn L d d' b → Wholly (free L d t) b (frames L d') false → free_frames L d (store L d d' t b) ≡ free_frames L d t + frames L d'
  stored-frames d d' t b s p h =
      let r = store-done L d d' t b s p h in
      omega (arith, free_frames-count d t s, free_frames-count d (store L d d' t b) r.1, count-stored (free L d t) (free L d (store L d d' t b)) (frames L d) b (frames L d') r.0 h p.fits)

  pub taken-frames : (d d' : ℕ) (t : Tree d) (b : ℕ) → Sound L d t → BlockIn L d d' b → Wholly (free L d t) b (frames L d') true → free_frames L d t ≡ free_frames L d (remove L d d' t b) + frames L d'
  taken-frames d d' t b s p h =
      let r = remove-done L d d' t b s p h in
      omega (arith, free_frames-count d t s, free_frames-count d (remove L d d' t b) r.1, count-taken (free L d t) (free L d (remove L d d' t b)) (frames L d) b (frames L d') r.0 h p.fits)
