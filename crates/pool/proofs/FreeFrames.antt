-- The number of free frames of a sound pool, as a sum over its blocks, and that sum as a sweep from block to block has it. Assumes nothing.
use mathlib.Core.Bool.{Bool, true, false}
use mathlib.Core.List.{List, [], ◌∷◌}
use mathlib.Core.Logic.{inl, inr}
use mathlib.Core.Path.{◌≡◌, refl, sym, ap, ap₂, ◌∙◌, fun_ext, subst}
use Prim.Native.Nat.{ℕ, zero, suc, pred, ◌+◌, ◌*◌, ◌-◌, ◌/◌, ◌%◌, ◌≤◌, ◌<◌}
use native.Mathlib.Decide.{dec_lt, ℕ_discrete}
use native.Mathlib.Nat.{add-mul, zero-mul, one-mul}
use native.Mathlib.Numerals.{add-one, sub-one}
use native.Mathlib.Omega.{arith}
use lib.Dec.{ltb}
use lib.ListN.{length}
use borrow.Author.Tests.{eqb-true, eqb-false}
use Rattle.sizes.specs.Ladder.{Ladder}
use Rattle.model.proofs.Count.{free_frames-count}
use Rattle.model.proofs.Frames.{count-le}
use Rattle.model.specs.Frames.{bit}
use Rattle.model.specs.Ladder.{fan, frames}
use Rattle.model.specs.Lists.{maximum, sum}
use Rattle.model.specs.Tree.{Sound as SoundTree}
use Rattle.model.specs.Tree.{SoundNode, Tree, empty, free, free_frames, largest, node}
use Rattle.pool.specs.Room.{tokens_in}
use Rattle.pool.specs.View.{block, tab, view}
use Rattle.pool.specs.Words.{fan_out_of, frames_of, has_token, level_of, link_of, token_of, word, sum_over}
use Rattle.pool.specs.Blocks.{By, In, Ok, OkBlock, Once, child_in, child_met, delta, head_met, of_block, total}
use Rattle.pool.specs.Check.{SoundW, tile}
use Rattle.pool.proofs.Blocks.{Sees, child_in-in, delta-same, delta-other, met-split, ok-level, ok-open, sees-block, sees-ok, sum-delta, total-open, total-shut, total-sum, zero_or}
use Rattle.pool.proofs.Cover.{head_small, total-cong}
use Rattle.pool.proofs.Kept.{sound_w-tree}
use Rattle.pool.proofs.Lists.{run-tab}
use Rattle.pool.proofs.Needed.{Block, back, met-block, met-place, sees-level}
use Rattle.pool.proofs.Sums.{sum-add, sum-cong, sum-mul, sum-split, sum-zero}
use Rattle.pool.proofs.Tree.{tab-at}
use Rattle.pool.proofs.Used.{sum-tab}

-- ---- sums

tokens-sum : (p : List ℕ) (a n : ℕ) → a + n ≤ length p → tokens_in p a n ≡ sum_over a n (λ x. token_of (word p x))
unfolding tokens_in
tokens-sum p a n h = ap (sum token_of) (run-tab p a n h) ∙ sum-tab token_of (word p) a n

pub tokens_none : (p : List ℕ) (a : ℕ) → tokens_in p a 0 ≡ 0
unfolding tokens_in sum
tokens_none p a = refl

-- one word more
pub tokens-more : (p : List ℕ) (a n : ℕ) → a + n < length p → tokens_in p a (n + 1) ≡ tokens_in p a n + token_of (word p (a + n))
unfolding sum_over
tokens-more p a n h =
    let f : ℕ → ℕ = λ x. token_of (word p x) in
    tokens-sum p a (n + 1) (omega arith) ∙ sum-split a n 1 f ∙ ap₂ (λ (x y : ℕ). x + y) (sym (tokens-sum p a n (omega arith))) (omega arith)

-- the one number that is y picks its own summand
sum-pick : (a n y : ℕ) (f : ℕ → ℕ) → In a n y → sum_over a n (λ x. delta y x * f x) ≡ f y
sum-pick a n y f i =
    sum-cong a n (λ x. delta y x * f x) (λ x. delta y x * f y) same
    ∙ sum-mul a n (λ x. delta y x) (f y) ∙ ap (λ (t : ℕ). t * f y) (sum-delta a n y i) ∙ one-mul (f y)
  where
    same : (x : ℕ) → In a n x → delta y x * f x ≡ delta y x * f y
    same x r = elim (ℕ_discrete y x) [
      | yes e ↦ ap (λ (z : ℕ). delta y x * f z) (sym e)
      | no e ↦ ap (λ (t : ℕ). t * f x) (delta-other y x e) ∙ zero-mul (f x) ∙ sym (ap (λ (t : ℕ). t * f y) (delta-other y x e) ∙ zero-mul (f y))
    ]

-- a run whose first summand alone weighs something, and what follows
sum-front : (s n r : ℕ) (f : ℕ → ℕ) → ((x : ℕ) → In (suc s) n x → f x ≡ 0) → sum_over s (suc n + r) f ≡ f s + sum_over (s + 1 + n) r f
unfolding sum_over
sum-front s n r f h =
    let e : s + suc n ≡ s + 1 + n = omega arith in
    sum-split s (suc n) r f ∙ ap₂ (λ (t a : ℕ). f s + t + sum_over a r f) (sum-zero (suc s) n f h) e ∙ omega arith

of_block-mul : (g : ℕ → ℕ → ℕ) (n : ℕ) (f : ℕ → ℕ) (c v : ℕ) → of_block (λ L j. g L j * c) n (λ y. f y * c) v ≡ of_block g n f v * c
of_block-mul g n f c zero = sym (zero-mul c)
of_block-mul g n f c (suc k) = ap (λ (t : ℕ). g (suc k) n * c + t) (sum-mul (suc (suc k)) n f c) ∙ sym (add-mul (g (suc k) n) (sum_over (suc (suc k)) n f) c)

total-mul : (fan : ℕ → ℕ) (p : List ℕ) (g : ℕ → ℕ → ℕ) (c l q : ℕ) → total fan p (λ L j. g L j * c) l q ≡ total fan p g l q * c
unfolding total
total-mul fan p g c zero q = sym (zero-mul c)
total-mul fan p g c (suc l) q =
    ap (λ (f : ℕ → ℕ). of_block (λ L j. g L j * c) (fan (suc l)) f (link_of (word p q))) (fun_ext (λ y. total-mul fan p g c l y))
    ∙ of_block-mul g (fan (suc l)) (total fan p g l) c (link_of (word p q))

-- ---- the tree

sum-quiet : {A : Type 0} (g h : A → ℕ) → ((x : A) → g x ≡ 0 → h x ≡ 0) → (xs : List A) → maximum g xs ≡ 0 → sum h xs ≡ 0
unfolding maximum sum
sum-quiet g h f [] e = refl
sum-quiet g h f (x ∷ xs) e = omega (arith, f x (omega arith), sum-quiet g h f xs (omega arith))

token-bit : (v : ℕ) → bit (has_token v) ≡ token_of v
token-bit v = go (has_token v) refl
  where
    go : (b : Bool) → has_token v ≡ b → bit b ≡ token_of v
    go true e = sym (eqb-true (v / 8 % 2) 1 e)
    go false e = let ne = eqb-false (v / 8 % 2) 1 e in omega (arith, ne)

module _ (L : Ladder) where
  -- no more frames are free than there are
  frames-most : (d : ℕ) (t : Tree d) → SoundTree L d t → free_frames L d t ≤ frames L d
  frames-most d t s = omega (arith, free_frames-count L d t s, count-le (free L d t) (frames L d))

  -- where nothing is offered no frame is free
  quiet-frames : (d : ℕ) (t : Tree d) → largest d t ≡ 0 → free_frames L d t ≡ 0
  unfolding largest free_frames
  quiet-frames zero t e = e
  quiet-frames (suc d) (node true ks) e = absurd (omega arith)
  quiet-frames (suc d) (node false ks) e = sum-quiet (largest d) (free_frames L d) (quiet-frames d) ks e

  -- ---- the weight of the block at a place: its tokens, each with the frames of a child
  module _ (p : List ℕ) where
    unfoldable pub weight : ℕ → ℕ
    weight s = tokens_in p (suc s) (tile (fan_out_of L) p s) * frames_of L (pred (level_of (word p (word p s))))

    -- the header leads back to its node, whose level gives the number of children and their frames
    weight_is : (d q k : ℕ) → word p (suc k) ≡ q → level_of (word p q) ≡ suc (suc d) → suc (suc k) + fan L (suc d) ≤ length p
        → weight (suc k) ≡ sum_over (suc (suc k)) (fan L (suc d)) (λ y. token_of (word p y) * frames L d)
    unfolding weight
    weight_is d q k e v h =
        let z : level_of (word p (word p (suc k))) ≡ suc (suc d) = ap (λ (r : ℕ). level_of (word p r)) e ∙ v in
        ap (λ (l : ℕ). tokens_in p (suc (suc k)) (fan_out_of L l) * frames_of L (pred l)) z
        ∙ ap (λ (t : ℕ). t * frames L d) (tokens-sum p (suc (suc k)) (fan L (suc d)) h)
        ∙ sym (sum-mul (suc (suc k)) (fan L (suc d)) (λ y. token_of (word p y)) (frames L d))

    -- the frames below the node of depth d at q, as the blocks have them
    abbrev pub below : (d q : ℕ) → ℕ
    below d q = total (fan_out_of L) p (λ s n. weight s) (suc d) q

    -- THE FREE FRAMES ARE THE NODE'S OWN AND THOSE OF THE BLOCKS
    module _ (used : ℕ) (fit : used ≤ length p) where
      view-frames : (d q : ℕ) → Ok (fan_out_of L) (By ltb) p used (suc d) q → SoundTree L d (view L d (word p) q) → free_frames L d (view L d (word p) q) ≡ token_of (word p q) * frames L d + below d q
      unfolding free_frames view frames sum
      view-frames zero q o s = elim (zero_or (link_of (word p q))) [
        | inl z ↦ omega (arith, token-bit (word p q), total-shut (fan_out_of L) p (λ s n. weight s) 1 q z)
        | inr ke ↦ absurd (omega (arith, (ok-open (fan_out_of L) (By ltb) p used 0 q ke.0 o ke.1).deep))
      ]
      view-frames (suc d) q o s = go (link_of (word p q)) refl s (view-frames d)
        where
          T : ℕ → Tree d
          T = view L d (word p)

          -- by the token: with one the children offer nothing
          own : (v : Bool) → has_token (word p q) ≡ v → (ks : List (Tree d)) → SoundNode L d (SoundTree L d) v ks → free_frames L (suc d) (node v ks) ≡ token_of (word p q) * frames L (suc d) + sum (free_frames L d) ks
          own true e ks s =
              let t : token_of (word p q) ≡ 1 = eqb-true (word p q / 8 % 2) 1 e in
              let z : sum (free_frames L d) ks ≡ 0 = sum-quiet (largest d) (free_frames L d) (quiet-frames d) ks (s.quiet refl) in
              sym (ap₂ (λ (t c : ℕ). t * frames L (suc d) + c) t z ∙ omega (arith, one-mul (frames L (suc d))))
          own false e ks s =
              let ne = eqb-false (word p q / 8 % 2) 1 e in
              let t : token_of (word p q) ≡ 0 = omega (arith, ne) in
              sym (ap (λ (t : ℕ). t * frames L (suc d) + sum (free_frames L d) ks) t ∙ omega (arith, zero-mul (frames L (suc d))))

          go : (l : ℕ) → link_of (word p q) ≡ l → SoundNode L d (SoundTree L d) (has_token (word p q)) (block (fan L (suc d)) T l)
              → ((y : ℕ) → Ok (fan_out_of L) (By ltb) p used (suc d) y → SoundTree L d (T y) → free_frames L d (T y) ≡ token_of (word p y) * frames L d + below d y)
              → free_frames L (suc d) (node (has_token (word p q)) (block (fan L (suc d)) T (link_of (word p q)))) ≡ token_of (word p q) * frames L (suc d) + below (suc d) q
          go zero e s ih = rw e (own (has_token (word p q)) refl [] s ∙ ap (λ (t : ℕ). token_of (word p q) * frames L (suc d) + t) (sym (total-shut (fan_out_of L) p (λ s n. weight s) (suc (suc d)) q e)))
          go (suc k) e s ih =
              let b = ok-open (fan_out_of L) (By ltb) p used (suc d) q k o e in
              let a : ℕ = suc (suc k) in
              let n : ℕ = fan L (suc d) in
              let room : a + n ≤ length p = omega (arith, b.fits) in
              let sub : (y : ℕ) → In a n y → SoundTree L d (T y) = λ y i.
              let z : a + (y - a) ≡ y = omega arith in
              subst (SoundTree L d) (tab-at T a n (y - a) (empty d) (omega arith) ∙ ap T z) (s.children (y - a)) in
              let each : (y : ℕ) → In a n y → free_frames L d (T y) ≡ token_of (word p y) * frames L d + below d y = λ y i. ih y (b.children y i) (sub y i) in
              rw e (own (has_token (word p q)) refl (tab T a n) s ∙ ap (λ (t : ℕ). token_of (word p q) * frames L (suc d) + t)
              (sum-tab (free_frames L d) T a n
              ∙ sum-cong a n (λ y. free_frames L d (T y)) (λ y. token_of (word p y) * frames L d + below d y) each
              ∙ sum-add a n (λ y. token_of (word p y) * frames L d) (below d)
              ∙ ap (λ (t : ℕ). t + sum_over a n (below d)) (sym (weight_is d q k b.head (ok-level (fan_out_of L) (By ltb) p used (suc (suc d)) q o) room))
              ∙ sym (total-open (fan_out_of L) p (λ s n. weight s) (suc d) q k e)))

-- ---- the sweep
module _ (fan : ℕ → ℕ) (p : List ℕ) (top used : ℕ) where
  -- every block that starts before s ends before it
  abbrev pub Past : (s : ℕ) → Type 0
  Past s = (m r k : ℕ) → Sees fan p (suc m) r top 0 → link_of (word p r) ≡ suc k → suc k < s → suc k + fan (suc m) < s

  -- what is left from the place s on, where f weighs the headers
  abbrev pub left : (ℕ → ℕ) → (s : ℕ) → ℕ
  left f s = sum_over s (used - s) (λ x. head_met fan p x top 0 * f x)

  -- a block starts at s, where all before it end, and the next one behind its last child
  pub record Turn (f : ℕ → ℕ) (s : ℕ) : Type 0 where
    pub before : word p s < s
    pub low : 2 ≤ level_of (word p (word p s))
    pub high : level_of (word p (word p s)) ≤ top
    pub fits : s + tile fan p s < used
    pub next : Past (s + 1 + tile fan p s)
    pub sums : left f s ≡ f s + left f (s + 1 + tile fan p s)

-- in a pool whose blocks are in order
module _ (fan : ℕ → ℕ) (p : List ℕ) (top used : ℕ) (o : Ok fan (By ltb) p used top 0) (once : Once fan p top used) where
  -- the sum over the blocks is the sum over the places, of those that are headers
  left-all : 1 ≤ used → (f : ℕ → ℕ) → left fan p top used f 1 ≡ total fan p (λ s n. f s) top 0
  left-all u1 f =
      let F : ℕ → ℕ = λ x. head_met fan p x top 0 * f x in
      let none : head_met fan p 0 top 0 ≡ 0 =
      elim (zero_or (head_met fan p 0 top 0)) [
        | inl z ↦ z
        | inr ke ↦ absurd (omega (arith, met-place fan (By ltb) p used 0 top 0 o (omega (arith, met-split fan p 0 top 0, ke.1))))
      ] in
      let first : F 0 ≡ 0 = ap (λ (t : ℕ). t * f 0) none ∙ zero-mul (f 0) in
      let e : 1 + (used - 1) ≡ used = omega arith in
      let all : sum_over 0 used F ≡ total fan p (λ s n. f s) top 0 =
      sum-cong 0 used F (λ x. total fan p (λ s n. delta s x * f x) top 0) (λ x i. sym (total-mul fan p (λ s n. delta s x) (f x) top 0))
      ∙ total-sum fan p 0 used (λ x s n. delta s x * f x) top 0
      ∙ total-cong fan (By ltb) p used (λ s n. sum_over 0 used (λ x. delta s x * f x)) (λ s n. f s) (λ s n h. sum-pick 0 used s f (omega arith)) top 0 o in
      omega (arith, all, ap (λ (m : ℕ). sum_over 0 m F) e, first, sum-front 0 0 (used - 1) F (λ x i. absurd (omega arith)))

  turn : (f : ℕ → ℕ) (s : ℕ) → 1 ≤ s → s < used → Past fan p top used s → Turn fan p top used f s
  turn f s s1 su ends = record {
    before = omega (arith, head_small fan p used o b.sees b.link, at, ap (word p) at);
    low = omega (arith, level, ok.deep);
    high = omega (arith, level, sees-level fan p b.sees);
    fits = omega (arith, ok.fits, at, span);
    next = next;
    sums = sums;
  }
    where
      b : Block fan p s top 0
      b = met-block fan p s top 0 (omega (arith, once s s1 su))

      at : suc b.k ≡ s
      at = elim (ℕ_discrete (suc b.k) s) [ yes e ↦ e | no e ↦ absurd (omega (arith, b.has, ends b.m b.r b.k b.sees b.link (omega (arith, b.has)))) ]

      n : ℕ
      n = tile fan p s

      ok : OkBlock fan (By ltb) p used b.m b.r (suc b.k) (Ok fan (By ltb) p used b.m)
      ok = ok-open fan (By ltb) p used b.m b.r b.k (sees-ok fan (By ltb) used o b.sees) b.link

      span : fan (suc b.m) ≡ n
      span = (back fan (By ltb) p top used o once b.m b.r b.k b.sees b.link).1 ∙ ap (tile fan p) at

      level : level_of (word p (word p s)) ≡ suc b.m
      level = ap (λ (x : ℕ). level_of (word p x)) (ap (word p) (sym at) ∙ ok.head) ∙ ok-level fan (By ltb) p used (suc b.m) b.r (sees-ok fan (By ltb) used o b.sees)

      child : (x : ℕ) → In (suc s) n x → 1 ≤ child_met fan p x top 0
      child x i = omega (arith, sees-block fan (λ L n. child_in x L n) b.k b.sees b.link, child_in-in x (suc b.k) (fan (suc b.m)) (omega (arith, at, span)))

      no-head : (x : ℕ) → In (suc s) n x → head_met fan p x top 0 ≡ 0
      no-head x i = omega (arith, child x i, met-split fan p x top 0, once x (omega arith) (omega (arith, ok.fits, at, span)))

      a-head : head_met fan p s top 0 ≡ 1
      a-head = omega (arith, sees-block fan (λ L n. delta L s) b.k b.sees b.link, delta-same (suc b.k) s at, met-split fan p s top 0, once s s1 su)

      next : Past fan p top used (s + 1 + n)
      next m r k sees link lt = elim (dec_lt (suc k) s) [
        | yes c ↦ omega (arith, ends m r k sees link c)
        | no c ↦ elim (ℕ_discrete (suc k) s) [
          | yes e ↦ omega (arith, (back fan (By ltb) p top used o once m r k sees link).1 ∙ ap (tile fan p) e)
          | no e ↦ absurd (omega (arith, no-head (suc k) (omega arith), sees-block fan (λ L n. delta L (suc k)) k sees link, delta-same (suc k) (suc k) refl))
        ]
      ]

      sums : left fan p top used f s ≡ f s + left fan p top used f (s + 1 + n)
      sums =
          let F : ℕ → ℕ = λ x. head_met fan p x top 0 * f x in
          let e : used - s ≡ suc n + (used - (s + 1 + n)) = omega (arith, ok.fits, at, span) in
          ap (λ (m : ℕ). sum_over s m F) e
          ∙ sum-front s n (used - (s + 1 + n)) F (λ x i. ap (λ (t : ℕ). t * f x) (no-head x i) ∙ zero-mul (f x))
          ∙ ap (λ (t : ℕ). t + left fan p top used f (s + 1 + n)) (ap (λ (t : ℕ). t * f s) a-head ∙ one-mul (f s))

-- ---- the sweep of a sound pool
module _ (L : Ladder) (d : ℕ) (p : List ℕ) (used : ℕ) where
  -- a sweep that has come to the place s and has counted c frames: with those that are left they are the tree's
  pub record Swept (c s : ℕ) : Type 0 where
    pub low : 1 ≤ s
    pub high : s ≤ used
    pub past : Past (fan_out_of L) p (suc d) used s
    pub counts : c + left (fan_out_of L) p (suc d) used (weight L p) s ≡ free_frames L d (view L d (word p) 0)
    pub most : c ≤ frames L d

  -- a block starts at the place s, and its node has the level
  pub record Here (level s : ℕ) : Type 0 where
    pub is : level ≡ level_of (word p (word p s))
    pub low : 2 ≤ level
    pub high : level ≤ suc d
    pub fits : s + 1 + fan_out_of L level ≤ used

  module _ (sound : SoundW L d p used) where
    counted : (c x : ℕ) → c + x ≡ free_frames L d (view L d (word p) 0) → c ≤ frames L d
    counted c x e = omega (arith, frames-most L d (view L d (word p) 0) (sound_w-tree L d p used sound).1)

    -- it starts behind the root, with the root's own frames
    pub swept-start : (c : ℕ) → c ≡ token_of (word p 0) * frames L d → Swept c 1
    swept-start c e =
        let h = sound.shape in
        let all : left (fan_out_of L) p (suc d) used (weight L p) 1 ≡ below L p d 0 = left-all (fan_out_of L) p (suc d) used h.rules h.once h.low (weight L p) in
        let adds : c + left (fan_out_of L) p (suc d) used (weight L p) 1 ≡ free_frames L d (view L d (word p) 0) = ap₂ ◌+◌ e all ∙ sym (view-frames L p used h.high d 0 h.rules (sound_w-tree L d p used sound).1) in
        record { low = omega arith; high = h.low; past = λ m r k s l lt. absurd (omega arith); counts = adds; most = counted c (left (fan_out_of L) p (suc d) used (weight L p) 1) adds }

    -- it ends where no word is left
    pub swept-end : (c s : ℕ) → Swept c s → used ≤ s → c ≡ free_frames L d (view L d (word p) 0)
    unfolding sum_over
    swept-end c s w h =
        let e : used - s ≡ 0 = omega (arith, w.high) in
        let z : left (fan_out_of L) p (suc d) used (weight L p) s ≡ 0 = ap (λ (m : ℕ). sum_over s m (λ x. head_met (fan_out_of L) p x (suc d) 0 * weight L p x)) e in
        omega (arith, w.counts, z)

    pub swept-turn : (c s : ℕ) → Swept c s → s < used → Turn (fan_out_of L) p (suc d) used (weight L p) s
    swept-turn c s w h = turn (fan_out_of L) p (suc d) used sound.shape.rules sound.shape.once (weight L p) s w.low h w.past

    pub swept-here : (c s level : ℕ) → Swept c s → s < used → level ≡ level_of (word p (word p s)) → Here level s
    swept-here c s level w h e =
        let r = swept-turn c s w h in
        record { is = e; low = omega (arith, r.low); high = omega (arith, r.high); fits = omega (arith, r.fits, ap (fan_out_of L) e) }

    -- a turn, by the numbers that it reads: the header's node, its level, its children and their tokens and frames
    pub swept-next : (c s level n t f : ℕ) → Swept c s → s < used → level ≡ level_of (word p (word p s)) → n ≡ fan_out_of L level → t ≡ tokens_in p (s + 1) n → f ≡ frames_of L (level - 1) → Swept (c + t * f) (s + 1 + n)
    unfolding weight
    swept-next c s level n t f w h el en et ef =
        let r = swept-turn c s w h in
        let size : n ≡ tile (fan_out_of L) p s = en ∙ ap (fan_out_of L) el in
        let grows : t * f ≡ weight L p s = ap₂ (λ (x y : ℕ). x * y) (et ∙ ap₂ (λ (x y : ℕ). tokens_in p x y) (add-one s) size) (ef ∙ ap (frames_of L) (sub-one level ∙ ap pred el)) in
        let adds : c + t * f + left (fan_out_of L) p (suc d) used (weight L p) (s + 1 + n) ≡ free_frames L d (view L d (word p) 0) =
        ap (λ (m : ℕ). c + t * f + left (fan_out_of L) p (suc d) used (weight L p) (s + 1 + m)) size ∙ omega (arith, grows, r.sums, w.counts) in
        record {
          low = omega arith;
          high = omega (arith, r.fits);
          past = subst (λ (m : ℕ). Past (fan_out_of L) p (suc d) used (s + 1 + m)) (sym size) r.next;
          counts = adds;
          most = counted (c + t * f) (left (fan_out_of L) p (suc d) used (weight L p) (s + 1 + n)) adds;
        }
