-- The words that a seed's stores open, read off the tree before the first of them: a node on the way to a block is new unless it holds the frame before the block. Assumes nothing.
use mathlib.Core.Bool.{Bool, true, false}
use mathlib.Core.List.{List, [], ◌∷◌, map}
use mathlib.Core.Logic.{◌⊎◌, inl, inr, ◌≢◌}
use mathlib.Core.Path.{◌≡◌, refl, sym, ◌∙◌, subst}
use Prim.Native.Nat.{ℕ, zero, suc, ◌+◌, ◌*◌, ◌/◌, ◌%◌, ◌≤◌, ◌<◌}
use native.Mathlib.Decide.{dec_lt, ℕ_discrete}
use native.Mathlib.Nat.{div-add-mod', zero-mod}
use native.Mathlib.Omega.{arith}
use lib.Dec.{ltb}
use lib.ListN.{length, set, length-set, get_or-eq_default, length-map}
use lib.Seq.{get_or-set_same, get_or-set_other}
use borrow.Author.Tests.{ltb-true, ltb-false}
use Rattle.sizes.specs.Ladder.{Ladder}
use Rattle.model.proofs.Change.{child-lt, opened-child, opened-length, place_down}
use Rattle.model.proofs.Free.{frames-le}
use Rattle.model.proofs.Ladder.{fan-pos, frames-dvd, frames-pos}
use Rattle.model.proofs.Lists.{get_or-map-lt}
use Rattle.model.proofs.Range.{child-at, child-no, low_fits}
use Rattle.model.specs.Ladder.{fan, frames, top}
use Rattle.model.specs.Laws.{BlockIn}
use Rattle.model.specs.Lists.{all}
use Rattle.model.specs.Tree.{Sound, Tree, child, empty, mark, merge, node, opened, opening, openings, store, token}
use Rattle.model.specs.TreeStore.{largest_fit}

-- what stands at b: at 0 the one, elsewhere the other
abbrev pub at0 : ℕ → Type 0 → Type 0 → Type 0
at0 zero A B = A
at0 (suc b) A B = B

module _ (L : Ladder) where
  -- the words that the store of the block of code suc d' at b opens, where the frame before b was stored since t
  unfoldable pub openings_after : (d d' : ℕ) → Tree d → ℕ → ℕ
  openings_after zero d' t b = 0
  openings_after (suc d) d' (node v ks) zero = openings L (suc d) d' (node v ks) zero
  openings_after (suc d) d' (node v ks) (suc b) = elim (ltb d' (suc d)) [ false ↦ 0 | true ↦ openings_after d d' (child d ks (suc b / frames L d)) (suc b % frames L d) ]

  -- the words that a seed of the frames from a to e opens, in k blocks at most: behind its first block, and in all
  unfoldable pub seed_rest : ℕ → Tree (top L) → (a e : ℕ) → ℕ
  seed_rest zero t a e = 0
  seed_rest (suc k) t a e = elim (ltb a e) [
    | false ↦ 0
    | true ↦ let c = largest_fit L (top L) a e in openings_after (top L) c t a + seed_rest k t (a + frames L c) e
  ]

  unfoldable pub seed_openings : ℕ → Tree (top L) → (a e : ℕ) → ℕ
  seed_openings zero t a e = 0
  seed_openings (suc k) t a e = elim (ltb a e) [
    | false ↦ 0
    | true ↦ let c = largest_fit L (top L) a e in openings L (top L) c t a + seed_rest k t (a + frames L c) e
  ]

module _ (L : Ladder) where
  -- opened alike
  abbrev pub SameO : (d : ℕ) → Tree d → Tree d → Type 0
  SameO zero t t' = Unit {0}
  SameO (suc d) (node v ks) (node v' ks') = (opening L d ks ≡ opening L d ks') × ((j : ℕ) → SameO d (child d ks j) (child d ks' j))

  -- from the frame b on opened alike; t' came from t by stores before b
  abbrev pub Later : (d : ℕ) → Tree d → Tree d → ℕ → Type 0
  Later zero t t' b = Unit {0}
  Later (suc d) (node v ks) (node v' ks') b = at0 b (SameO (suc d) (node v ks) (node v' ks'))
      (((j : ℕ) → b / frames L d < j → SameO d (child d ks j) (child d ks' j)) × Later d (child d ks (b / frames L d)) (child d ks' (b / frames L d)) (b % frames L d))

  -- ... the last of which ended at b: the nodes that hold its last frame are open
  abbrev pub After : (d : ℕ) → Tree d → Tree d → ℕ → Type 0
  After zero t t' b = Unit {0}
  After (suc d) (node v ks) (node v' ks') b = at0 b (SameO (suc d) (node v ks) (node v' ks'))
      ((opening L d ks' ≡ 0) × ((j : ℕ) → b / frames L d < j → SameO d (child d ks j) (child d ks' j)) × After d (child d ks (b / frames L d)) (child d ks' (b / frames L d)) (b % frames L d))

  pub same_refl : (d : ℕ) (t : Tree d) → SameO d t t
  same_refl zero t = tt
  same_refl (suc d) (node v ks) = (refl, λ j. same_refl d (child d ks j))

  pub later_refl : (d : ℕ) (t : Tree d) (b : ℕ) → Later d t t b
  later_refl zero t b = tt
  later_refl (suc d) (node v ks) zero = same_refl (suc d) (node v ks)
  later_refl (suc d) (node v ks) (suc b) = (λ j l. same_refl d (child d ks j), later_refl d (child d ks (suc b / frames L d)) (suc b % frames L d))

  pub after-later : (d : ℕ) (t t' : Tree d) (b : ℕ) → After d t t' b → Later d t t' b
  after-later zero t t' b a = tt
  after-later (suc d) (node v ks) (node v' ks') zero a = a
  after-later (suc d) (node v ks) (node v' ks') (suc b) a = (a.1, after-later d (child d ks (suc b / frames L d)) (child d ks' (suc b / frames L d)) (suc b % frames L d) a.2)

  -- tokens do not matter
  pub same-mark : (d : ℕ) (v : Bool) (t t' : Tree d) → SameO d t t' → SameO d t (mark d v t')
  same-mark zero v t t' s = tt
  same-mark (suc d) v (node x ks) (node y ks') s = s

  pub after-mark : (d : ℕ) (v : Bool) (t t' : Tree d) (b : ℕ) → After d t t' b → After d t (mark d v t') b
  after-mark zero v t t' b a = tt
  after-mark (suc d) v (node x ks) (node y ks') zero a = a
  after-mark (suc d) v (node x ks) (node y ks') (suc b) a = a

  pub same-need : (d d' : ℕ) (t t' : Tree d) (b : ℕ) → SameO d t t' → openings L d d' t' b ≡ openings L d d' t b
  unfolding openings
  same-need zero d' t t' b s = refl
  same-need (suc d) d' (node v ks) (node v' ks') b s = go (ltb d' (suc d)) refl (same-need d d' (child d ks (b / frames L d)) (child d ks' (b / frames L d)) (b % frames L d) (s.1 (b / frames L d)))
    where
      go : (x : Bool) → ltb d' (suc d) ≡ x → openings L d d' (child d ks' (b / frames L d)) (b % frames L d) ≡ openings L d d' (child d ks (b / frames L d)) (b % frames L d)
          → openings L (suc d) d' (node v' ks') b ≡ openings L (suc d) d' (node v ks) b
      go false e ih = rw (e, openings)
      go true e ih = rw (e, openings) (omega (arith, s.0, ih))

  -- THE NEED OF THE NEXT STORE, read off the tree before the first
  pub after-need : (d d' : ℕ) (t t' : Tree d) (b : ℕ) → After d t t' b → openings L d d' t' b ≡ openings_after L d d' t b
  unfolding openings openings_after
  after-need zero d' t t' b a = refl
  after-need (suc d) d' (node v ks) (node v' ks') zero a = same-need (suc d) d' (node v ks) (node v' ks') 0 a
  after-need (suc d) d' (node v ks) (node v' ks') (suc b) a = go (ltb d' (suc d)) refl (after-need d d' (child d ks (suc b / frames L d)) (child d ks' (suc b / frames L d)) (suc b % frames L d) a.2)
    where
      go : (x : Bool) → ltb d' (suc d) ≡ x → openings L d d' (child d ks' (suc b / frames L d)) (suc b % frames L d) ≡ openings_after L d d' (child d ks (suc b / frames L d)) (suc b % frames L d)
          → openings L (suc d) d' (node v' ks') (suc b) ≡ openings_after L (suc d) d' (node v ks) (suc b)
      go false e ih = rw (e, openings, openings_after)
      go true e ih = rw (e, openings, openings_after) (omega (arith, a.0, ih))

  -- merging opens nothing and shuts nothing
  pub opening-map : (d : ℕ) (f : Tree d → Tree d) (ks : List (Tree d)) → opening L d (map f ks) ≡ opening L d ks
  opening-map d f [] = refl
  opening-map d f (k ∷ ks) = refl

  opening-none : (d : ℕ) (ks : List (Tree d)) → 0 < length ks → opening L d ks ≡ 0
  opening-none d [] h = absurd (omega arith)
  opening-none d (k ∷ ks) h = refl

  -- a node whose children, tokens apart, are xs: what is said of it at b
  made : (d : ℕ) (v v' : Bool) (ks xs : List (Tree d)) (b : ℕ) → 0 < b → 0 < length xs → ((j : ℕ) → b / frames L d < j → SameO d (child d ks j) (child d xs j))
      → After d (child d ks (b / frames L d)) (child d xs (b / frames L d)) (b % frames L d) → After (suc d) (node v ks) (node v' xs) b
  made d v v' ks xs zero h l s a = absurd (omega arith)
  made d v v' ks xs (suc b) h l s a = (opening-none d xs l, s, a)

  child-map : (d : ℕ) (xs : List (Tree d)) (j : ℕ) → (child d (map (mark d false) xs) j ≡ mark d false (child d xs j)) ⊎ (child d (map (mark d false) xs) j ≡ child d xs j)
  child-map d xs j = elim (dec_lt j (length xs)) [
    | yes l ↦ inl (get_or-map-lt (mark d false) xs j (empty d) l)
    | no l ↦ inr (get_or-eq_default (map (mark d false) xs) (empty d) {n = j} (omega (arith, length-map xs (mark d false))) ∙ sym (get_or-eq_default xs (empty d) {n = j} (omega arith)))
  ]

  after-merge : (d : ℕ) (v : Bool) (ks xs : List (Tree d)) (b : ℕ) → 0 < b → 0 < length xs → ((j : ℕ) → b / frames L d < j → SameO d (child d ks j) (child d xs j))
      → After d (child d ks (b / frames L d)) (child d xs (b / frames L d)) (b % frames L d) → After (suc d) (node v ks) (merge d xs) b
  unfolding merge
  after-merge d v ks xs b h l s a = go (all (token d) xs) refl
    where
      i : ℕ
      i = b / frames L d

      same_m : (j : ℕ) → SameO d (child d ks j) (child d xs j) → SameO d (child d ks j) (child d (map (mark d false) xs) j)
      same_m j q = elim (child-map d xs j) [ inl e ↦ rw e (same-mark d false (child d ks j) (child d xs j) q) | inr e ↦ rw e q ]

      after_m : After d (child d ks (b / frames L d)) (child d (map (mark d false) xs) (b / frames L d)) (b % frames L d)
      after_m = elim (child-map d xs (b / frames L d)) [ inl e ↦ rw e (after-mark d false (child d ks (b / frames L d)) (child d xs (b / frames L d)) (b % frames L d) a) | inr e ↦ rw e a ]

      go : (x : Bool) → all (token d) xs ≡ x → After (suc d) (node v ks) (merge d xs) b
      go false e = rw (e, merge) (made d v false ks xs b h l s a)
      go true e = rw (e, merge) (made d v true ks (map (mark d false) xs) b h (omega (arith, length-map xs (mark d false))) (λ j k. same_m j (s j k)) after_m)

  -- A STORE CARRIES IT TO THE BLOCK'S END
  pub store-after : (d d' : ℕ) (t t' : Tree d) (b : ℕ) → Sound L d t' → BlockIn L d d' b → Later d t t' b → b + frames L d' < frames L d → After d t (store L d d' t' b) (b + frames L d')
  unfolding store
  store-after zero d' t t' b s p h l = tt
  store-after (suc d) d' (node v ks) (node v' ks') b s p h l = go (ltb d' (suc d)) refl (store-after d d')
    where
      n : ℕ
      n = frames L d

      m : ℕ
      m = frames L d'

      O : List (Tree d)
      O = opened L d ks'

      i : ℕ
      i = b / frames L d

      go : (x : Bool) → ltb d' (suc d) ≡ x
          → ((t t' : Tree d) (b : ℕ) → Sound L d t' → BlockIn L d d' b → Later d t t' b → b + frames L d' < frames L d → After d t (store L d d' t' b) (b + frames L d'))
          → After (suc d) (node v ks) (store L (suc d) d' (node v' ks') b) (b + frames L d')
      go false e ih = absurd (omega (arith, frames-le L (suc d) d' (ltb-false d' (suc d) e)))
      go true e ih = rw (e, store) (by (ℕ_discrete (b % frames L d + frames L d') (frames L d)))
        where
          lt' : d' < suc d
          lt' = ltb-true d' (suc d) e

          fit : b % frames L d + frames L d' ≤ frames L d
          fit = low_fits (frames L d) (frames L d') b (frames-pos L d) (frames-dvd L d' d (omega (arith, lt'))) p.aligned

          len : length O ≡ fan L (suc d)
          len = opened-length L d ks' s.shape

          inr' : i < fan L (suc d)
          inr' = child-lt L d b (omega (arith, p.fits, frames-pos L d'))

          R : Tree d
          R = store L d d' (child d O i) (b % frames L d)

          X : List (Tree d)
          X = set O i R

          len_x : 0 < length X
          len_x = omega (arith, length-set O i R, len, fan-pos L d)

          here : child d X i ≡ R
          here = get_or-set_same O i R (empty d) (omega (arith, len, inr'))

          there : (j : ℕ) → j ≢ i → child d X j ≡ child d ks' j
          there j ne = get_or-set_other O i j R (empty d) ne ∙ opened-child L d ks' j

          -- what is known of the children from the store's on
          children_later : (b : ℕ) → at0 b (SameO (suc d) (node v ks) (node v' ks')) (((j : ℕ) → b / frames L d < j → SameO d (child d ks j) (child d ks' j)) × Later d (child d ks (b / frames L d)) (child d ks' (b / frames L d)) (b % frames L d))
              → (j : ℕ) → b / frames L d < j → SameO d (child d ks j) (child d ks' j)
          children_later zero h j k = h.1 j
          children_later (suc b) h j k = h.0 j k

          zero-later : (d : ℕ) (t t' : Tree d) → SameO d t t' → Later d t t' 0
          zero-later zero t t' q = tt
          zero-later (suc d) (node x xs) (node y ys) q = q

          child_here : (b : ℕ) → at0 b (SameO (suc d) (node v ks) (node v' ks')) (((j : ℕ) → b / frames L d < j → SameO d (child d ks j) (child d ks' j)) × Later d (child d ks (b / frames L d)) (child d ks' (b / frames L d)) (b % frames L d))
              → Later d (child d ks (b / frames L d)) (child d ks' (b / frames L d)) (b % frames L d)
          child_here zero h = rw (zero-mod (frames L d)) (zero-later d (child d ks (0 / frames L d)) (child d ks' (0 / frames L d)) (h.1 (0 / frames L d)))
          child_here (suc b) h = h.1

          zero-after : (d : ℕ) (t t' : Tree d) → SameO d t t' → After d t t' 0
          zero-after zero t t' q = tt
          zero-after (suc d) (node x xs) (node y ys) q = q

          by : Dec (b % frames L d + frames L d' ≡ frames L d) → After (suc d) (node v ks) (merge d X) (b + frames L d')
          by (no ne) =
              let eq : b + frames L d' ≡ i * frames L d + (b % frames L d + frames L d') = omega (arith, div-add-mod' b (frames L d)) in
              let q = child-no (frames L d) (b + frames L d') i (b % frames L d + frames L d') eq (omega (arith, fit)) in
              let r = child-at (frames L d) (b + frames L d') i (b % frames L d + frames L d') eq (omega (arith, fit)) in
              after-merge d v ks X (b + frames L d') (omega (arith, frames-pos L d')) len_x
              (λ j k. subst (SameO d (child d ks j)) (sym (there j (λ z. omega (arith, q, k)))) (children_later b h j (omega (arith, q, k))))
              (rw (q, r, here) (ih (child d ks i) (child d O i) (b % frames L d) (subst (Sound L d) (sym (opened-child L d ks' i)) (s.children i)) (place_down L d d' b p lt')
              (subst (λ (x : Tree d). Later d (child d ks i) x (b % frames L d)) (sym (opened-child L d ks' i)) (child_here b h)) (omega (arith, fit))))
          by (yes eqn) =
              let eq : b + frames L d' ≡ suc i * frames L d + 0 = omega (arith, div-add-mod' b (frames L d)) in
              let q = child-no (frames L d) (b + frames L d') (suc i) 0 eq (frames-pos L d) in
              let r = child-at (frames L d) (b + frames L d') (suc i) 0 eq (frames-pos L d) in
              after-merge d v ks X (b + frames L d') (omega (arith, frames-pos L d')) len_x
              (λ j k. subst (SameO d (child d ks j)) (sym (there j (λ z. omega (arith, q, k)))) (children_later b h j (omega (arith, q, k))))
              (rw (q, r) (zero-after d (child d ks (suc i)) (child d X (suc i)) (subst (SameO d (child d ks (suc i))) (sym (there (suc i) (λ z. omega arith))) (children_later b h (suc i) (omega arith)))))
