-- Demand 2 on one tree: `largest` says which blocks are wholly free, and `pick` is the lowest of them. Assumes nothing.
use mathlib.Core.Path.{◌≡◌, refl, sym, ap, ◌∙◌}
use mathlib.Core.Logic.{⊎_elim}
use mathlib.Core.Bool.{Bool, true, false, true≢false, false≢true}
use mathlib.Core.List.{List}
use Prim.Native.Nat.{ℕ, zero, suc, ◌+◌, ◌*◌, ◌-◌, ◌/◌, ◌%◌, ◌≤◌, ◌<◌, zero-le}
use native.Mathlib.Omega.{arith}
use native.Mathlib.Decide.{dec_lt}
use native.Mathlib.Nat.{div-add-mod', mul-le-mul_right, zero-mod, mod-eq-zero_of_dvd, dvd-add, dvd-mul_left_of_dvd, dvd_of_mod-eq-zero}
use lib.Dec.{leb}
use Rattle.sizes.specs.Ladder.{Ladder}
use Rattle.model.specs.Ladder.{fan, frames}
use Rattle.model.specs.Frames.{Wholly, Lowest}
use Rattle.model.specs.Lists.{maximum, first}
use Rattle.model.specs.Tree.{node, Tree, token, empty, child, largest, free, Sound, pick}
use Rattle.model.proofs.Ladder.{frames-pos, frames-dvd}
use Rattle.model.proofs.Range.{fits, child-no, child-at, low-aligned, low_fits, block_in}
use Rattle.model.proofs.Lists.{maximum-get_or, maximum-le, First, first-first}

-- the code of a block is at most the node's own
pub largest-le : (d : ℕ) (t : Tree d) → largest d t ≤ suc d
unfolding largest
largest-le zero true = omega arith
largest-le zero false = omega arith
largest-le (suc d) (node true ks) = omega arith
largest-le (suc d) (node false ks) = omega (arith, maximum-le (largest d) (suc d) ks (largest-le d))

-- an empty node offers nothing
pub largest-empty : (d : ℕ) → largest d (empty d) ≡ 0
unfolding largest maximum
largest-empty zero = refl
largest-empty (suc d) = refl

-- no child offers more than its node, and nothing below a node that offers nothing does
pub largest-child : (d : ℕ) (ks : List (Tree d)) (i : ℕ) → largest d (child d ks i) ≤ maximum (largest d) ks
largest-child d ks i = maximum-get_or (largest d) ks i (empty d) (largest-empty d)

-- i blocks of n frames and an aligned block in the next
aligned_up : (n s i r : ℕ) → n % s ≡ 0 → r % s ≡ 0 → (i * n + r) % s ≡ 0
aligned_up n s i r h k = mod-eq-zero_of_dvd s (dvd-add s (dvd-mul_left_of_dvd s (dvd_of_mod-eq-zero s h) i) (dvd_of_mod-eq-zero s k))

-- the lowest block depends on the free frames alone
pub lowest-same : (g g' : ℕ → Bool) (N s b b' : ℕ) → ((f : ℕ) → f < N → g f ≡ g' f) → Lowest g N s b → Lowest g' N s b' → b ≡ b'
lowest-same g g' N s b b' e x y = omega (
  arith,
  x.lowest b' y.aligned y.fits (λ f p q. e f (omega (arith, y.fits)) ∙ y.whole f p q),
  y.lowest b x.aligned x.fits (λ f p q. sym (e f (omega (arith, x.fits))) ∙ x.whole f p q),
)

module _ (L : Ladder) where
  -- every frame of a token node is free
  pub token-free : (d : ℕ) (t : Tree d) (f : ℕ) → token d t ≡ true → free L d t f ≡ true
  unfolding free
  token-free zero v f e = e
  token-free (suc d) (node true ks) f e = refl
  token-free (suc d) (node false ks) f e = absurd (false≢true e)

  pub quiet-free : (d : ℕ) (t : Tree d) (f : ℕ) → largest d t ≡ 0 → free L d t f ≡ false
  unfolding largest free
  quiet-free zero true f e = absurd (omega arith)
  quiet-free zero false f e = refl
  quiet-free (suc d) (node true ks) f e = absurd (omega arith)
  quiet-free (suc d) (node false ks) f e = quiet-free d (child d ks (f / frames L d)) (f % frames L d) (omega (arith, largest-child d ks (f / frames L d)))

  -- a sound node without token has a frame that is not free
  pub not_full : (d : ℕ) (t : Tree d) → Sound L d t → token d t ≡ false → (f : ℕ) × (f < frames L d) × (free L d t f ≡ false)
  unfolding free frames
  not_full zero v s e = (0, omega arith, e)
  not_full (suc d) (node true ks) s e = absurd (true≢false e)
  not_full (suc d) (node false ks) s e =
      let i = s.gap.0 in
      let r = not_full d (child d ks i) (s.children i) s.gap.2 in
      let f = i * frames L d + r.0 in (
        f,
        omega (arith, r.1, mul-le-mul_right (frames L d) s.gap.1),
        rw (child-no (frames L d) f i r.0 refl r.1, child-at (frames L d) f i r.0 refl r.1) r.2,
      )

  -- a wholly free aligned block is covered by one token at or above it
  pub block-largest : (d d' : ℕ) (t : Tree d) (b : ℕ) → Sound L d t → d' ≤ d → b % frames L d' ≡ 0 → b + frames L d' ≤ frames L d → Wholly (free L d t) b (frames L d') true → suc d' ≤ largest d t
  unfolding free largest
  block-largest zero d' true b s l al r h = omega arith
  block-largest zero d' false b s l al r h = absurd (false≢true (h b (omega arith) (omega (arith, frames-pos L d'))))
  block-largest (suc d) d' (node true ks) b s l al r h = omega arith
  block-largest (suc d) d' (node false ks) b s l al r h = go (dec_lt d' (suc d)) (λ m. block-largest d d' (child d ks (b / n)) (b % n) (s.children (b / n)) m)
    where
      n : ℕ
      n = frames L d

      go : Dec (d' < suc d) → (d' ≤ d → b % n % frames L d' ≡ 0 → b % n + frames L d' ≤ n → Wholly (free L d (child d ks (b / n))) (b % n) (frames L d') true → suc d' ≤ largest d (child d ks (b / n))) → suc d' ≤ maximum (largest d) ks
      go (yes k) ih = omega (arith, largest-child d ks (b / n), ih (omega arith) (low-aligned n (frames L d') b (frames-pos L d) (frames-dvd L d' d (omega arith)) al) (low_fits n (frames L d') b (frames-pos L d) (frames-dvd L d' d (omega arith)) al) (block_in n (frames L d') b (frames-pos L d) (frames-dvd L d' d (omega arith)) al (λ j. free L d (child d ks j)) true h))
      go (no k) ih =
          let e : d' ≡ suc d = omega arith in
          let x = not_full (suc d) (node false ks) s refl in
          absurd (false≢true (sym x.2 ∙ h x.0 (omega (arith, r, ap (frames L) e)) (omega (arith, r, x.1, ap (frames L) e))))

  -- the smaller size divides the larger, as a remainder
  pub frames-mod : (d' d : ℕ) → d' ≤ d → frames L d % frames L d' ≡ 0
  frames-mod d' d h = mod-eq-zero_of_dvd (frames L d') (frames-dvd L d' d h)

  pub frames-le : (d' d : ℕ) → d' ≤ d → frames L d' ≤ frames L d
  frames-le d' d h = omega (arith, fits (frames L d') 0 (frames L d) (zero-mod (frames L d')) (frames-mod d' d h) (frames-pos L d))

  -- what `pick` gives is the lowest wholly free aligned block
  pub pick-lowest : (d d' : ℕ) (t : Tree d) → Sound L d t → suc d' ≤ largest d t → Lowest (free L d t) (frames L d) (frames L d') (pick L d d' t)
  unfolding free largest pick frames
  pick-lowest zero d' true s h =
      let e : d' ≡ 0 = omega arith in
      rw e (record { aligned = zero-mod (frames L 0); fits = omega arith; whole = λ f p q. refl; lowest = λ c p q r. zero-le })
  pick-lowest zero d' false s h = absurd (omega arith)
  pick-lowest (suc d) d' (node true ks) s h = record {
    aligned = zero-mod (frames L d');
    fits = omega (arith, frames-le d' (suc d) (omega arith));
    whole = λ f p q. refl;
    lowest = λ c p q r. zero-le;
  }
  pick-lowest (suc d) d' (node false ks) s h = go (first (λ x. leb (suc d') (largest d x)) ks) (first-first (largest d) (suc d') ks (empty d) (omega arith) h) (λ i. pick-lowest d d' (child d ks i) (s.children i))
    where
      n : ℕ
      n = frames L d

      go : (i : ℕ) → First (largest d) (suc d') ks (empty d) i → ((j : ℕ) → suc d' ≤ largest d (child d ks j) → Lowest (free L d (child d ks j)) n (frames L d') (pick L d d' (child d ks j)))
          → Lowest (free L (suc d) (node false ks)) (frames L (suc d)) (frames L d') (i * n + pick L d d' (child d ks i))
      go i w ih = record {
        aligned = aligned_up n (frames L d') i (pick L d d' (child d ks i)) (frames-mod d' d l) q.aligned;
        fits = omega (arith, q.fits, mul-le-mul_right n m);
        whole = λ f x y. let r = f - i * n in
            rw (child-no n f i r (omega arith) (omega (arith, q.fits)), child-at n f i r (omega arith) (omega (arith, q.fits)))
            (q.whole r (omega arith) (omega arith));
        lowest = λ c al x y.
            let a = low-aligned n (frames L d') c (frames-pos L d) (frames-dvd L d' d l) al in
            let b = low_fits n (frames L d') c (frames-pos L d) (frames-dvd L d' d l) al in
            let z = block_in n (frames L d') c (frames-pos L d) (frames-dvd L d' d l) al (λ j. free L d (child d ks j)) true y in
            let k = block-largest d d' (child d ks (c / n)) (c % n) (s.children (c / n)) l a b z in
            order c k ((ih (c / n) k).lowest (c % n) a b z) (dec_lt (c / n) i) (dec_lt i (c / n));
      }
        where
          q : Lowest (free L d (child d ks i)) n (frames L d') (pick L d d' (child d ks i))
          q = ih i w.reaches

          m : i < fan L (suc d)
          m = ⊎_elim (λ e. absurd (omega (arith, w.in_range))) (λ e. omega (arith, w.in_range)) s.shape

          l : d' ≤ d
          l = omega (arith, w.reaches, largest-le d (child d ks i))

          order : (c : ℕ) → suc d' ≤ largest d (child d ks (c / n)) → pick L d d' (child d ks (c / n)) ≤ c % n → Dec (c / n < i) → Dec (i < c / n) → i * n + pick L d d' (child d ks i) ≤ c
          order c k o (yes x) y = absurd (omega (arith, w.before (c / n) x))
          order c k o (no x) (yes y) = omega (arith, mul-le-mul_right n y, div-add-mod' c n, q.fits)
          order c k o (no x) (no y) =
              let e : c / n ≡ i = omega arith in
              omega (arith, ap (λ (j : ℕ). j * n) e, ap (λ (j : ℕ). pick L d d' (child d ks j)) e, div-add-mod' c n)

  -- a sound node none of whose frames is free offers nothing
  pub none-quiet : (d : ℕ) (t : Tree d) → Sound L d t → ((f : ℕ) → f < frames L d → free L d t f ≡ false) → largest d t ≡ 0
  none-quiet d t s h = go (dec_lt 0 (largest d t))
    where
      go : Dec (0 < largest d t) → largest d t ≡ 0
      go (no k) = omega arith
      go (yes k) =
          let q = pick-lowest d 0 t s k in
          let p = pick L d 0 t in
          absurd (true≢false (sym (q.whole p (omega arith) (omega (arith, frames-pos L 0))) ∙ h p (omega (arith, q.fits, frames-pos L 0))))

  -- a sound tree that offers all frames of another offers its codes
  pub largest-more : (d : ℕ) (t t' : Tree d) → Sound L d t → Sound L d t' → ((f : ℕ) → f < frames L d → free L d t f ≡ true → free L d t' f ≡ true) → largest d t ≤ largest d t'
  largest-more d t t' s s' e = go (largest d t) refl
    where
      go : (l : ℕ) → largest d t ≡ l → l ≤ largest d t'
      go zero k = omega arith
      go (suc d') k =
          let q = pick-lowest d d' t s (omega arith) in
          block-largest d d' t' (pick L d d' t) s' (omega (arith, largest-le d t)) q.aligned q.fits (λ f x y. e f (omega (arith, q.fits)) (q.whole f x y))
