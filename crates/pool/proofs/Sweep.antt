-- The sweep, a law for each way through it. Assumes nothing.
use mathlib.Core.Bool.{Bool, true, false, ◌&&◌}
use mathlib.Core.List.{List}
use mathlib.Core.Path.{◌≡◌, refl, ap, ap₂, ◌∙◌}
use Prim.Native.Nat.{ℕ, zero, suc, ◌+◌, ◌≤◌, ◌<◌}
use native.Mathlib.Omega.{arith}
use borrow.Author.Tests.{eq-eqb, ne_eqb, le-leb, lt-ltb, leb-true, ltb-true, eqb-true}
use Rattle.pool.specs.Words.{level_of, link_of, word}
use Rattle.pool.specs.Check.{starts, sweep, tile}
use Rattle.pool.proofs.Cover.{and_intro, and-true}

-- a test whose passing is absurd fails
pub not-passes : (b : Bool) → (b ≡ true → ⊥) → b ≡ false
not-passes true h = absurd (h refl)
not-passes false h = refl

module _ (fan : ℕ → ℕ) (p : List ℕ) where
  -- ---- the sweep
  pub record Tile (top s : ℕ) : Type 0 where
    pub before : word p s < s
    pub names : link_of (word p (word p s)) ≡ s
    pub low : 2 ≤ level_of (word p (word p s))
    pub high : level_of (word p (word p s)) ≤ top

  tile-yes : (top s : ℕ) → Tile top s → starts fan p top s ≡ true
  tile-yes top s t = and_intro (lt-ltb (word p s) s t.before) (and_intro (eq-eqb (link_of (word p (word p s))) s t.names) (and_intro (le-leb 2 (level_of (word p (word p s))) t.low) (le-leb (level_of (word p (word p s))) top t.high)))

  tile-of : (top s : ℕ) → starts fan p top s ≡ true → Tile top s
  tile-of top s t =
      let t₀ = and-true t in
      let t₁ = and-true t₀.1 in
      let t₂ = and-true t₁.1 in
      record { before = ltb-true (word p s) s t₀.0; names = eqb-true (link_of (word p (word p s))) s t₁.0; low = leb-true 2 (level_of (word p (word p s))) t₂.0; high = leb-true (level_of (word p (word p s))) top t₂.1 }

  sweep-run : (top k s t : ℕ) → sweep fan p top (t + k) s t ≡ sweep fan p top k (s + t) 0
  unfolding sweep
  sweep-run top k s zero =
      let e : 0 + k ≡ k = omega arith in
      let e₂ : s ≡ s + 0 = omega arith in
      ap₂ (λ (j b : ℕ). sweep fan p top j b 0) e e₂
  sweep-run top k s (suc t) =
      let e : suc t + k ≡ suc (t + k) = omega arith in
      let e₂ : suc s + t ≡ s + suc t = omega arith in
      ap (λ (j : ℕ). sweep fan p top j s (suc t)) e ∙ sweep-run top k (suc s) t ∙ ap (λ (b : ℕ). sweep fan p top k b 0) e₂

  sweep-over : (top k s t : ℕ) → k < t → sweep fan p top k s t ≡ false
  unfolding sweep
  sweep-over top zero s t h = ne_eqb t 0 (λ e. omega arith)
  sweep-over top (suc k) s zero h = absurd (omega arith)
  sweep-over top (suc k) s (suc t) h = sweep-over top k (suc s) t (omega arith)

  sweep-suc : (top k s : ℕ) → sweep fan p top (suc k) s 0 ≡ (starts fan p top s && sweep fan p top k (suc s) (tile fan p s))
  unfolding sweep
  sweep-suc top k s = refl

  -- k words are left from s on, and a tile starts at s and fits into them; does not fit; does not start
  pub sweep-jump : (top k k' s : ℕ) → Tile top s → k ≡ tile fan p s + 1 + k' → sweep fan p top k s 0 ≡ sweep fan p top k' (s + tile fan p s + 1) 0
  sweep-jump top k k' s t e =
      let n : ℕ = tile fan p s in
      let e₁ : k ≡ suc (n + k') = omega arith in
      let e₂ : suc s + n ≡ s + n + 1 = omega arith in
      ap (λ (j : ℕ). sweep fan p top j s 0) e₁ ∙ sweep-suc top (n + k') s ∙ ap (λ (b : Bool). (b && sweep fan p top (n + k') (suc s) n)) (tile-yes top s t) ∙ sweep-run top k' (suc s) n ∙ ap (λ (b : ℕ). sweep fan p top k' b 0) e₂

  pub sweep-long : (top k s : ℕ) → 1 ≤ k → k ≤ tile fan p s → sweep fan p top k s 0 ≡ false
  sweep-long top zero s k1 h = absurd (omega arith)
  sweep-long top (suc k) s k1 h = sweep-suc top k s ∙ ap (λ (b : Bool). (starts fan p top s && b)) (sweep-over top k (suc s) (tile fan p s) (omega arith)) ∙ never (starts fan p top s)
    where
      never : (b : Bool) → (b && false) ≡ false
      never true = refl
      never false = refl

  pub sweep-refuse : (top k s : ℕ) → 1 ≤ k → (Tile top s → ⊥) → sweep fan p top k s 0 ≡ false
  sweep-refuse top zero s k1 h = absurd (omega arith)
  sweep-refuse top (suc k) s k1 h = sweep-suc top k s ∙ ap (λ (b : Bool). (b && sweep fan p top k (suc s) (tile fan p s))) (not-passes (starts fan p top s) (λ t. h (tile-of top s t)))

  pub sweep-end : (top s : ℕ) → sweep fan p top 0 s 0 ≡ true
  unfolding sweep
  sweep-end top s = refl
