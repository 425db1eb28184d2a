-- Frames of an aligned block: which child holds it, and where in the child it lies. Arithmetic only.
-- Assumes nothing.
use mathlib.Core.Path.{◌≡◌, refl, ap, ◌∙◌}
use mathlib.Core.Logic.{◌≢◌}
use mathlib.Core.Bool.{Bool}
use Prim.Native.Nat.{ℕ, ◌+◌, ◌*◌, ◌-◌, ◌/◌, ◌%◌, ◌≤◌, ◌<◌, ◌∣◌}
use native.Mathlib.Omega.{arith}
use native.Mathlib.Decide.{ℕ_discrete}
use native.Mathlib.Nat.{div-add-mod', mod-lt, mod-mod_of_dvd, mod-eq-zero_of_dvd, mul-le-mul_right, lt_of_mul-lt-mul_right, div-eq_of_lt-le, mul_assoc, add-mul, mul-div-mul_right}
use Rattle.model.specs.Frames.{Wholly, Changed}

-- an aligned block that starts below a multiple of its size ends at or below it
pub fits : (s x n : ℕ) → x % s ≡ 0 → n % s ≡ 0 → x < n → x + s ≤ n
fits s x n h k l =
    let a : x / s < n / s = lt_of_mul-lt-mul_right s (omega (arith, div-add-mod' x s, div-add-mod' n s)) in
    omega (arith, div-add-mod' x s, div-add-mod' n s, mul-le-mul_right s a)

-- frame i·n + r of a node, r < n, lies in child i, and is frame r of it
pub child-no : (n f i r : ℕ) → f ≡ i * n + r → r < n → f / n ≡ i
child-no n f i r e h = div-eq_of_lt-le n (omega arith) (omega arith)

pub child-at : (n f i r : ℕ) → f ≡ i * n + r → r < n → f % n ≡ r
child-at n f i r e h = omega (arith, div-add-mod' f n, ap (λ (j : ℕ). j * n) (child-no n f i r e h))

-- a remainder in pages, and in bytes
pub scale-mod : (a n p : ℕ) → 0 < p → a * p % (n * p) ≡ a % n * p
scale-mod a n p h = omega (
  arith,
  div-add-mod' (a * p) (n * p),
  ap (λ (x : ℕ). x * (n * p)) (mul-div-mul_right a n h),
  mul_assoc (a / n) n p,
  ap (λ (x : ℕ). x * p) (div-add-mod' a n),
  add-mul (a / n * n) (a % n) p,
)

-- the parts of a frame number
module _ (n s b : ℕ) (pos : 0 < n) (sn : s ∣ n) (al : b % s ≡ 0) where
  -- the block's place in its child is aligned, and the block ends in the child
  pub low-aligned : b % n % s ≡ 0
  low-aligned = mod-mod_of_dvd s b sn ∙ al

  pub low_fits : b % n + s ≤ n
  low_fits = fits s (b % n) n low-aligned (mod-eq-zero_of_dvd s sn) (mod-lt b pos)

  -- a frame of the block is in the block's child
  pub same-child : (f : ℕ) → b ≤ f → f < b + s → f / n ≡ b / n
  same-child f p q = child-no n f (b / n) (f - b / n * n) (omega (arith, div-add-mod' b n)) (omega (arith, div-add-mod' b n, low_fits))

  -- two frames in one child lie there as far apart as in the node
  pub shift : (f : ℕ) → f / n ≡ b / n → f + b % n ≡ b + f % n
  shift f e = omega (arith, ap (λ (j : ℕ). j * n) e, div-add-mod' b n, div-add-mod' f n)

  -- what is changed at the block in child b / n is changed at the block in the node
  pub changed-node : (k k' : ℕ → ℕ → Bool) (N : ℕ) (v : Bool)
      → ((j : ℕ) → j ≢ b / n → (f : ℕ) → k' j f ≡ k j f)
      → Changed (k (b / n)) (k' (b / n)) n (b % n) s v
      → Changed (λ f. k (f / n) (f % n)) (λ f. k' (f / n) (f % n)) N b s v
  changed-node k k' N v other c = record {
    inside = λ f p q. let e = same-child f p q in
        rw e (c.inside (f % n) (omega (arith, shift f e)) (omega (arith, shift f e)));
    below = λ f p. go f (ℕ_discrete (f / n) (b / n)) (λ e. rw e (c.below (f % n) (omega (arith, shift f e))));
    above = λ f p q. go f (ℕ_discrete (f / n) (b / n)) (λ e. rw e (c.above (f % n) (omega (arith, shift f e)) (mod-lt f pos)));
  }
    where
      go : (f : ℕ) → Dec (f / n ≡ b / n) → (f / n ≡ b / n → k' (f / n) (f % n) ≡ k (f / n) (f % n)) → k' (f / n) (f % n) ≡ k (f / n) (f % n)
      go f (yes e) h = h e
      go f (no e) h = other (f / n) e (f % n)

  -- a block of the node is a block of its child
  pub block_in : (k : ℕ → ℕ → Bool) (v : Bool) → Wholly (λ f. k (f / n) (f % n)) b s v → Wholly (k (b / n)) (b % n) s v
  block_in k v h r p q =
      let f = b / n * n + r in
      let r<n : r < n = omega (arith, low_fits) in
      let e : k (f / n) (f % n) ≡ v = h f (omega (arith, div-add-mod' b n)) (omega (arith, div-add-mod' b n)) in
      rw (child-no n f (b / n) r refl r<n, child-at n f (b / n) r refl r<n) at e
