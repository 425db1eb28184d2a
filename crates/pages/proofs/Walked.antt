-- The check's rules as its functions meet them: those of a node by whether it has a token and whether it is opened, and the walk's by its way through a node. Assumes nothing.
use mathlib.Core.Bool.{Bool, true, false, not, ◌&&◌, true≢false}
use mathlib.Core.List.{List}
use mathlib.Core.Path.{◌≡◌, refl, sym, ap, ◌∙◌}
use Prim.Native.Nat.{ℕ, zero, suc, ◌+◌, ◌-◌, ◌*◌, ◌≤◌, ◌<◌}
use native.Mathlib.Decide.{ℕ_discrete}
use native.Mathlib.Nat.{mul-le-mul_right}
use native.Mathlib.Omega.{arith}
use lib.Dec.{eqb, leb, ltb}
use borrow.Author.Tests.{eq-eqb, eqb-true, le-leb, leb-true, lt-ltb, ltb-true}
use Rattle.sizes.specs.Six.{six, most_code}
use Rattle.model.specs.Calls.{Region}
use Rattle.model.specs.Lists.{maximum, all}
use Rattle.model.specs.TreeStore.{covered}
use Rattle.pool.specs.Nodes.{children_all, children_max}
use Rattle.pool.specs.Words.{has_token, link_of, level_of, max_of, token_of, word, run, fan_out_of, frames_of}
use Rattle.pool.specs.Check.{enters, in_regions, marks_pass, passes, starts, sweep, tile, walk, walk_block, walk_if, walk_link}
use Rattle.pages.specs.Walk.{IsBlock}
use Rattle.pool.proofs.Cover.{and_intro, and-true}
use Rattle.pool.proofs.Walk.{walk-enter, walk-fails, walk-level, walk-refuse, walk-shut, walk_block-more, walk_block-none}
use Rattle.pool.proofs.Sizes.{children-frames}
use Rattle.pool.proofs.Sweep.{Tile, not-passes, sweep-end, sweep-jump, sweep-long, sweep-refuse}
use Rattle.pool.proofs.Marks.{mark-bare, mark-token, passes-open, passes-out, passes-shut, regions-bare, regions-token, token-none}

-- ---- the rules at one node
has-some : (v : ℕ) → has_token v ≡ true → token_of v ≡ 0 → ⊥
has-some v h z = omega (arith, eqb-true (token_of v) 1 h)

pub marks-with : (l v m : ℕ) (a : Bool) → has_token v ≡ true → marks_pass l v m a ≡ (eqb (max_of v) l && eqb m 0)
marks-with l v m a h = mark-token l v m a (has-some v h)

pub marks_without : (l v m : ℕ) (a : Bool) → has_token v ≡ false → marks_pass l v m a ≡ (eqb (max_of v) m && not a)
marks_without l v m a h = mark-bare l v m a (token-none v h)

pub regions-with : (rs : List Region) (v b n : ℕ) → has_token v ≡ true → in_regions rs v b n ≡ covered rs b n
regions-with rs v b n h = regions-token rs v b n (has-some v h)

pub regions_without : (rs : List Region) (v b n : ℕ) → has_token v ≡ false → in_regions rs v b n ≡ true
regions_without rs v b n h = regions-bare rs v b n (token-none v h)

-- the rules of an opened node, whose children stand from `first` on
pub passes_opened : (fan frames : ℕ → ℕ) (p : List ℕ) (rs : List Region) (l q b first : ℕ) → in_regions rs (word p q) b (frames l) ≡ true → 1 ≤ link_of (word p q) → first ≡ link_of (word p q) + 1
    → passes fan frames p rs l q b ≡ marks_pass l (word p q) (maximum max_of (run p first (fan l))) (all has_token (run p first (fan l)))
unfolding children_max children_all
passes_opened fan frames p rs l q b first i some e =
    passes-open fan frames p rs l q b i (λ z. omega arith)
    ∙ ap (λ (a : ℕ). marks_pass l (word p q) (maximum max_of (run p a (fan l))) (all has_token (run p a (fan l)))) (sym e)

pub ruleset marks = (marks-with, marks_without)

pub ruleset regions = (regions-with, regions_without)

pub ruleset node_rules = (passes-out, passes-shut, passes_opened)

-- ---- the sweep at the start of a block
tile-of : (fan : ℕ → ℕ) (p : List ℕ) (top s : ℕ) → starts fan p top s ≡ true → Tile fan p top s
tile-of fan p top s t =
    let t₀ = and-true t in
    let t₁ = and-true t₀.1 in
    let t₂ = and-true t₁.1 in
    record { before = ltb-true (word p s) s t₀.0; names = eqb-true (link_of (word p (word p s))) s t₁.0; low = leb-true 2 (level_of (word p (word p s))) t₂.0; high = leb-true (level_of (word p (word p s))) top t₂.1 }

tile-yes : (fan : ℕ → ℕ) (p : List ℕ) (top s : ℕ) → Tile fan p top s → starts fan p top s ≡ true
tile-yes fan p top s t = and_intro (lt-ltb (word p s) s t.before) (and_intro (eq-eqb (link_of (word p (word p s))) s t.names) (and_intro (le-leb 2 (level_of (word p (word p s))) t.low) (le-leb (level_of (word p (word p s))) top t.high)))

-- what is left behind a whole block, of what is left from its first word on
pub sweep_whole : (p : List ℕ) (used s words : ℕ) → IsBlock p used s words → sweep (fan_out_of six) p most_code (used - (s + words)) (s + words) 0 ≡ sweep (fan_out_of six) p most_code (used - s) s 0
sweep_whole p used s words b =
    let next : s + tile (fan_out_of six) p s + 1 ≡ s + words = omega (arith, b.size) in
    sym (sweep-jump (fan_out_of six) p most_code (used - s) (used - (s + words)) s (tile-of (fan_out_of six) p most_code s b.header) (omega (arith, b.size, b.within)) ∙ ap (λ (x : ℕ). sweep (fan_out_of six) p most_code (used - (s + words)) x 0) next)

pub sweep_broken : (p : List ℕ) (used s : ℕ) → s < used → ((words : ℕ) → IsBlock p used s words → ⊥) → sweep (fan_out_of six) p most_code (used - s) s 0 ≡ false
sweep_broken p used s some h = go (starts (fan_out_of six) p most_code s) refl
  where
    n : ℕ
    n = tile (fan_out_of six) p s

    long : starts (fan_out_of six) p most_code s ≡ true → used - s ≤ n
    long e = elim (ℕ_discrete (used - s - n) 0) [ yes z ↦ omega (arith, z) | no z ↦ absurd (h (n + 1) (record { header = e; size = refl; within = omega (arith, z) })) ]

    go : (b : Bool) → starts (fan_out_of six) p most_code s ≡ b → sweep (fan_out_of six) p most_code (used - s) s 0 ≡ false
    go true e = sweep-long (fan_out_of six) p most_code (used - s) s (omega arith) (long e)
    go false e = sweep-refuse (fan_out_of six) p most_code (used - s) s (omega arith) (λ t. true≢false (sym (tile-yes (fan_out_of six) p most_code s t) ∙ e))

pub sweep_ended : (fan : ℕ → ℕ) (p : List ℕ) (top k s : ℕ) → k ≡ 0 → sweep fan p top k s 0 ≡ true
sweep_ended fan p top k s e = ap (λ (x : ℕ). sweep fan p top x s 0) e ∙ sweep-end fan p top s

pub ruleset sweeps = (sweep_whole, sweep_broken, sweep_ended)

-- ---- a walk whose count has come to used stays there
module _ (fan frames : ℕ → ℕ) (ord : ℕ → ℕ → Bool) (p : List ℕ) (test : ℕ → ℕ → ℕ → Bool) where
  pub walk-full : (used l q b c : ℕ) → c ≡ used → walk fan frames ord p test used l q b c ≡ used
  unfolding walk
  walk-full used zero q b c e = refl
  walk-full used (suc l) q b c e = go (eqb (level_of (word p q)) (suc l) && test (suc l) q b) (link_of (word p q))
    where
      closed : (k : ℕ) → enters fan ord p used l q (suc k) c ≡ true → ⊥
      closed k t =
          let n : ℕ = fan (suc l) in
          let t₀ = and-true {a = leb 1 l} {b = ord q (suc k) && (ltb (suc k + n) used && (eqb (word p (suc k)) q && ltb (c + suc n) used))} t in
          let t₁ = and-true {a = ord q (suc k)} {b = ltb (suc k + n) used && (eqb (word p (suc k)) q && ltb (c + suc n) used)} t₀.1 in
          let t₂ = and-true {a = ltb (suc k + n) used} {b = eqb (word p (suc k)) q && ltb (c + suc n) used} t₁.1 in
          let t₃ = and-true {a = eqb (word p (suc k)) q} {b = ltb (c + suc n) used} t₂.1 in
          omega (arith, ltb-true (c + suc n) used t₃.1)

      go : (t : Bool) (v : ℕ) → walk_link fan frames ord p test t v (walk fan frames ord p test used l) used l q b c ≡ used
      go false v = refl
      go true zero = e
      go true (suc k) = ap (λ (t : Bool). walk_if t (walk fan frames ord p test used l) used (suc (suc k)) b (frames l) (fan (suc l)) (c + suc (fan (suc l)))) (not-passes (enters fan ord p used l q (suc k) c) (closed k))

  walk_block-full : (used l d n a b c : ℕ) → c ≡ used → walk_block (walk fan frames ord p test used l) a b d n c ≡ used
  unfolding walk_block
  walk_block-full used l d zero a b c e = e
  walk_block-full used l d (suc n) a b c e = walk_block-full used l d n (suc a) (b + d) (walk fan frames ord p test used l a b c) (walk-full used l a b c e)

  -- the first node that breaks a rule settles its block's walk
  pub walk_block-stopped : (used l d n a b c : ℕ) → 1 ≤ n → walk fan frames ord p test used l a b c ≡ used → walk_block (walk fan frames ord p test used l) a b d n c ≡ used
  walk_block-stopped used l d n a b c some e = walk_block-more (walk fan frames ord p test used l) a b d n c some ∙ walk_block-full used l d (n - 1) (a + 1) (b + d) (walk fan frames ord p test used l a b c) e

-- ---- a block's walk, child by child
pub walk_block-next : (f : ℕ → ℕ → ℕ → ℕ) (first base d n i count grown : ℕ) → i < n → grown ≡ f (first + i) (base + i * d) count → walk_block f (first + (i + 1)) (base + (i + 1) * d) d (n - (i + 1)) grown ≡ walk_block f (first + i) (base + i * d) d (n - i) count
walk_block-next f first base d n i count grown lt e =
    let place : first + (i + 1) ≡ first + i + 1 = omega arith in
    let frame : base + (i + 1) * d ≡ base + i * d + d = omega arith in
    let left : n - (i + 1) ≡ n - i - 1 = omega arith in
    rw (place, frame, left, e) (sym (walk_block-more f (first + i) (base + i * d) d (n - i) count (omega arith)))

pub walk_block-ended : (f : ℕ → ℕ → ℕ → ℕ) (a b d n c : ℕ) → n ≡ 0 → walk_block f a b d n c ≡ c
walk_block-ended f a b d n c e = ap (λ (k : ℕ). walk_block f a b d k c) e ∙ walk_block-none f a b d c

-- a child's frames are among its parent's
pub child-frames : (level i : ℕ) → 2 ≤ level → i < fan_out_of six level → i * frames_of six (level - 1) + frames_of six (level - 1) ≤ frames_of six level
child-frames level i deep lt = omega (arith, children-frames level deep, mul-le-mul_right (frames_of six (level - 1)) lt)

pub ruleset walks = (walk-level, walk-fails, walk-refuse, walk-shut, walk-enter)

pub ruleset block_walks = (walk_block-next, walk_block-ended, walk_block-stopped, child-frames)
