-- Facts of sets of frames: changes of a block, painting, bits and counts. Assumes nothing.
use mathlib.Core.Path.{◌≡◌, refl, sym, ap, ◌∙◌}
use mathlib.Core.Bool.{Bool, true, false, true≢false}
use Prim.Native.Nat.{ℕ, zero, suc, ◌+◌, ◌*◌, ◌-◌, ◌≤◌, ◌<◌, min}
use native.Mathlib.Omega.{arith}
use native.Mathlib.Decide.{dec_lt}
use native.Mathlib.Nat.{add-suc, add-zero, mul-zero, mul-suc}
use borrow.Author.Tests.{lt-ltb, le-ltb, le-leb, lt-leb}
use Rattle.model.specs.Frames.{Wholly, Changed, within, paint, bit, count}

-- a change of a whole node
pub changed-whole : (g g' : ℕ → Bool) (N b s : ℕ) (v : Bool) → b + s ≤ N → N ≤ s → ((f : ℕ) → g' f ≡ v) → Changed g g' N b s v
changed-whole g g' N b s v h k e = record {
  inside = λ f p q. e f;
  below = λ f p. absurd (omega arith);
  above = λ f p q. absurd (omega arith);
}

-- the same change, of functions that agree below N
pub changed-agree : (g g' h h' : ℕ → Bool) (N b s : ℕ) (v : Bool) → b + s ≤ N → ((f : ℕ) → f < N → h f ≡ g f) → ((f : ℕ) → f < N → h' f ≡ g' f) → Changed g g' N b s v → Changed h h' N b s v
changed-agree g g' h h' N b s v l e e' c = record {
  inside = λ f p q. e' f (omega arith) ∙ c.inside f p q;
  below = λ f p. e' f (omega arith) ∙ c.below f p ∙ sym (e f (omega arith));
  above = λ f p q. e' f q ∙ c.above f p q ∙ sym (e f q);
}

-- two changes side by side are one
pub changed-append : (g g' g'' : ℕ → Bool) (N a s s' m : ℕ) (v : Bool) → s + s' ≡ m → a + m ≤ N → Changed g g' N a s v → Changed g' g'' N (a + s) s' v → Changed g g'' N a m v
changed-append g g' g'' N a s s' m v e l c k = record {
  inside = λ f p q. go f p q (dec_lt f (a + s));
  below = λ f p. k.below f (omega arith) ∙ c.below f p;
  above = λ f p q. k.above f (omega arith) q ∙ c.above f (omega arith) q;
}
  where
    go : (f : ℕ) → a ≤ f → f < a + m → Dec (f < a + s) → g'' f ≡ v
    go f p q (yes x) = k.below f x ∙ c.inside f p x
    go f p q (no x) = k.inside f (omega arith) (omega arith)

-- nothing, or what already is so, is a change too
pub changed-id : (g : ℕ → Bool) (N b s : ℕ) (v : Bool) → Wholly g b s v → Changed g g N b s v
changed-id g N b s v h = record { inside = h; below = λ f p. refl; above = λ f p q. refl }

-- the same change of functions that agree below N leaves functions that agree below N
pub changed-same : (g g' h h' : ℕ → Bool) (N b s : ℕ) (v : Bool) → Changed g g' N b s v → Changed h h' N b s v → ((f : ℕ) → f < N → g f ≡ h f) → (f : ℕ) → f < N → g' f ≡ h' f
changed-same g g' h h' N b s v c k e f l = go (dec_lt f b) (dec_lt f (b + s))
  where
    go : Dec (f < b) → Dec (f < b + s) → g' f ≡ h' f
    go (yes x) y = c.below f x ∙ e f l ∙ sym (k.below f x)
    go (no x) (yes y) = c.inside f (omega arith) y ∙ sym (k.inside f (omega arith) y)
    go (no x) (no y) = c.above f (omega arith) l ∙ e f l ∙ sym (k.above f (omega arith) l)

-- which frames lie in a block
pub within_in : (b s f : ℕ) → b ≤ f → f < b + s → within b s f ≡ true
within_in b s f p q = rw (le-leb b f p, lt-ltb f (b + s) q)

pub within-below : (b s f : ℕ) → f < b → within b s f ≡ false
within-below b s f p = rw (lt-leb b f p)

pub within-above : (b s f : ℕ) → b + s ≤ f → within b s f ≡ false
within-above b s f p = rw (le-leb b f (omega arith), le-ltb f (b + s) p)

-- painting a block changes it
pub painted : (g : ℕ → Bool) (N b s : ℕ) (v : Bool) → Changed g (paint b s v g) N b s v
painted g N b s v = record {
  inside = λ f p q. rw (within_in b s f p q);
  below = λ f p. rw (within-below b s f p);
  above = λ f p q. rw (within-above b s f p);
}

-- what is painted true is not false
pub unpainted : (b s f : ℕ) (g : ℕ → Bool) → paint b s true g f ≡ false → g f ≡ false
unpainted b s f g e = go (within b s f) refl
  where
    go : (v : Bool) → within b s f ≡ v → g f ≡ false
    go true w = absurd (true≢false (rw w at e))
    go false w = rw w at e

-- painting true adds only
pub painted-more : (b s : ℕ) (g : ℕ → Bool) (f : ℕ) → g f ≡ true → paint b s true g f ≡ true
painted-more b s g f e = go (within b s f) refl
  where
    go : (v : Bool) → within b s f ≡ v → paint b s true g f ≡ true
    go true x = rw x refl
    go false x = rw x e

-- what is free stays in what is seeded: a change of a block to y, where the block is seeded if y is true and no frame is seeded no more
pub inside-changed : (S F S' F' : ℕ → Bool) (N b s : ℕ) (y : Bool) → (y ≡ true → Wholly S' b s true) → ((f : ℕ) → S f ≡ true → S' f ≡ true) → Changed F F' N b s y
    → ((f : ℕ) → f < N → F f ≡ true → S f ≡ true) → (f : ℕ) → f < N → F' f ≡ true → S' f ≡ true
inside-changed S F S' F' N b s y w u k h f l e = go (dec_lt f b) (dec_lt f (b + s))
  where
    go : Dec (f < b) → Dec (f < b + s) → S' f ≡ true
    go (yes p) q = u f (h f l (sym (k.below f p) ∙ e))
    go (no p) (yes q) = w (sym (k.inside f (omega arith) q) ∙ e) f (omega arith) q
    go (no p) (no q) = u f (h f l (sym (k.above f (omega arith) l) ∙ e))

pub bit_le : (v : Bool) → bit v ≤ 1
bit_le true = omega arith
bit_le false = omega arith

-- bits that are 0 or 1 are false or true
pub bit-zero : (v : Bool) → bit v ≡ 0 → v ≡ false
bit-zero true e = absurd (omega arith)
bit-zero false e = refl

pub bit-one : (v : Bool) → bit v ≡ 1 → v ≡ true
bit-one true e = refl
bit-one false e = absurd (omega arith)

-- at each frame below N the bits of seeded S are those of free F and held H together
abbrev pub Adds : (S F H : ℕ → Bool) → ℕ → Type 0
Adds S F H N = (f : ℕ) → f < N → bit (S f) ≡ bit (F f) + bit (H f)

-- a change of all three at one block keeps that, if the new values add up
pub adds-changed : (S F H S' F' H' : ℕ → Bool) (N b s : ℕ) (x y z : Bool) → bit x ≡ bit y + bit z → b + s ≤ N
    → Changed S S' N b s x → Changed F F' N b s y → Changed H H' N b s z → Adds S F H N → Adds S' F' H' N
adds-changed S F H S' F' H' N b s x y z e l p q r k f h = go (dec_lt f b) (dec_lt f (b + s))
  where
    go : Dec (f < b) → Dec (f < b + s) → bit (S' f) ≡ bit (F' f) + bit (H' f)
    go (yes u) w = omega (arith, k f h, ap bit (p.below f u), ap bit (q.below f u), ap bit (r.below f u))
    go (no u) (yes w) = omega (arith, ap bit (p.inside f (omega arith) w), ap bit (q.inside f (omega arith) w), ap bit (r.inside f (omega arith) w))
    go (no u) (no w) = omega (arith, k f h, ap bit (p.above f (omega arith) h), ap bit (q.above f (omega arith) h), ap bit (r.above f (omega arith) h))

pub count_same : (g h : ℕ → Bool) (n : ℕ) → ((f : ℕ) → f < n → g f ≡ h f) → count g n ≡ count h n
unfolding count
count_same g h zero e = refl
count_same g h (suc n) e = omega (arith, ap bit (e n (omega arith)), count_same g h n (λ f k. e f (omega arith)))

-- counts add where the bits do
pub count_add : (g h k : ℕ → Bool) (n : ℕ) → ((f : ℕ) → f < n → bit (g f) ≡ bit (h f) + bit (k f)) → count g n ≡ count h n + count k n
unfolding count
count_add g h k zero e = omega arith
count_add g h k (suc n) e = omega (arith, e n (omega arith), count_add g h k n (λ f l. e f (omega arith)))

pub count-le : (g : ℕ → Bool) (n : ℕ) → count g n ≤ n
unfolding count
count-le g zero = omega arith
count-le g (suc n) = omega (arith, bit_le (g n), count-le g n)

-- a full count has every frame
pub count-full : (g : ℕ → Bool) (n : ℕ) → count g n ≡ n → (f : ℕ) → f < n → g f ≡ true
unfolding count
count-full g zero e f l = absurd (omega arith)
count-full g (suc n) e f l = go (g n) refl (dec_lt f n) (λ k. count-full g n k f)
  where
    go : (v : Bool) → g n ≡ v → Dec (f < n) → (count g n ≡ n → f < n → g f ≡ true) → g f ≡ true
    go false x y ih = absurd (omega (arith, ap bit x, count-le g n))
    go true x (yes y) ih = ih (omega (arith, ap bit x)) y
    go true x (no y) ih = let z : f ≡ n = omega arith in rw z x

pub count-all : (g : ℕ → Bool) (v : Bool) (n : ℕ) → ((f : ℕ) → g f ≡ v) → count g n ≡ bit v * n
unfolding count
count-all g v zero e = rw (mul-zero (bit v))
count-all g v (suc n) e = omega (arith, ap bit (e n), count-all g v n e, mul-suc (bit v) n)

-- the count of a sum of ranges
pub count-append : (g : ℕ → Bool) (a n : ℕ) → count g (a + n) ≡ count g a + count (λ f. g (a + f)) n
unfolding count
count-append g a zero = rw (add-zero a, add-zero (count g a))
count-append g a (suc n) = rw (add-suc a n) (omega (arith, count-append g a n))

-- a block that becomes free adds its frames to the count
count-changed : (g h : ℕ → Bool) (N b s : ℕ) → Changed g h N b s true → Wholly g b s false → (n : ℕ) → n ≤ N → count h n ≡ count g n + min (n - b) s
unfolding count
count-changed g h N b s c k zero l = omega arith
count-changed g h N b s c k (suc n) l = go (dec_lt n b) (dec_lt n (b + s)) (count-changed g h N b s c k n (omega arith))
  where
    go : Dec (n < b) → Dec (n < b + s) → count h n ≡ count g n + min (n - b) s → bit (h n) + count h n ≡ bit (g n) + count g n + min (suc n - b) s
    go (yes x) y ih = omega (arith, ap bit (c.below n x))
    go (no x) (yes y) ih = omega (arith, ap bit (c.inside n (omega arith) y), ap bit (k n (omega arith) y))
    go (no x) (no y) ih = omega (arith, ap bit (c.above n (omega arith) l))

pub count-stored : (g h : ℕ → Bool) (N b s : ℕ) → Changed g h N b s true → Wholly g b s false → b + s ≤ N → count h N ≡ count g N + s
count-stored g h N b s c k l = omega (arith, count-changed g h N b s c k N (omega arith))

-- ... and one that is taken takes them away
pub count-taken : (g h : ℕ → Bool) (N b s : ℕ) → Changed g h N b s false → Wholly g b s true → b + s ≤ N → count g N ≡ count h N + s
count-taken g h N b s c k l = count-stored h g N b s
    (record { inside = k; below = λ f p. sym (c.below f p); above = λ f p q. sym (c.above f p q) }) c.inside l
