-- What a seed asks of its parts and gets from them, at the code's own numbers. Assumes nothing of the six sizes; of another ladder, at most 7 codes whose sizes multiply up.
use mathlib.Core.Bool.{Bool, true, false, true≢false}
use mathlib.Core.List.{List}
use mathlib.Core.Path.{◌≡◌, refl, sym, ap, ap₂, ◌∙◌}
use Prim.Native.Nat.{ℕ, zero, suc, pred, ◌+◌, ◌-◌, ◌≤◌, ◌<◌}
use native.Mathlib.Decide.{dec_lt}
use native.Mathlib.Omega.{arith}
use lib.Dec.{eqb}
use lib.ListN.{length, set}
use Rattle.sizes.specs.Ladder.{Ladder, largest, bytes, address_frame}
use Rattle.sizes.specs.Laws.{MultipliesUp}
use Rattle.sizes.specs.Six.{six, most_code}
use Rattle.sizes.proofs.Six.{six-multiplies, largest-most}
use Rattle.model.specs.Calls.{Region, seeded, Call, seed}
use Rattle.model.specs.Ladder.{frames, top}
use Rattle.model.specs.Tree.{free}
use Rattle.model.specs.Lists.{sum}
use Rattle.model.specs.TreeStore.{apart, overlap, largest_fit}
use Rattle.model.proofs.Regions.{apart-iff}
use Rattle.pool.specs.Limits.{places, pool_limit, most_frames}
use Rattle.pool.specs.Nodes.{store_w, words, seed_w}
use Rattle.pool.specs.Check.{SoundW}
use Rattle.pool.specs.Regions.{Regions, regions_of}
use Rattle.pool.specs.Room.{seed_openings_w}
use Rattle.pool.specs.View.{view}
use Rattle.pool.specs.Words.{frames_of, word}
use Rattle.pool.specs.Asks.{SeedAsk, SpanAsk, StoreAsk}
use Rattle.pool.proofs.Kept.{shape-readable}
use Rattle.pool.proofs.Regions.{regions-fit, regions-if}
use Rattle.pool.proofs.RegionTest.{apart-sum}
use Rattle.pool.proofs.SeedSteps.{Next, seed_w-step, span-next}
use Rattle.pool.proofs.Sizes.{top-frames, small-six}
use Rattle.pool.proofs.With.{newest-length}
use Rattle.pages.specs.Calls.{Store, store, plain, settle, SoundStore, refusal_of, acted, served, words_of, Places}
use Rattle.pages.proofs.Statements.{Covered}
use Rattle.pages.proofs.SoundView.{sound-laws}
use Rattle.pages.specs.Room.{region_refusal}
use Rattle.pages.proofs.SeedTests.{seed-front, passing, Joins, joins}
use Rattle.pages.specs.Span.{Spans}
use Rattle.pages.proofs.Refusals.{seed-9}

-- ---- the stores of a seed, one after the other
module _ (p : List ℕ) (u a e root code : ℕ) (s : SpanAsk p u a e) (l : a < e) (r : root ≡ largest six) (c : code ≡ suc (largest_fit six (top six) a e)) where
  -- the first store of what is left, and the rest
  next : Next six p u a e (largest_fit six (top six) a e) (store_w six (top six) (largest_fit six (top six) a e) (words p u) 0 a)
  next = span-next six p u a e small-six (record { sound = s.sound; order = s.order; ends = omega (arith, s.ends, top-frames); held = s.held; room = s.room }) l

  -- the next block may be stored
  pub store-ask : code ≤ most_code → StoreAsk root code p u 0 a
  unfolding top
  store-ask hi =
      let deep : suc (largest_fit six (top six) a e) ≤ largest six = omega (arith, c, hi, largest-most) in
      let most : largest six ≤ most_code = omega (arith, largest-most) in
      let base : a < frames six (top six) = omega (arith, l, s.ends, top-frames) in
      rw (r, c) (record { lo = omega arith; deep = deep; hi = most; cap = s.cap; readable = shape-readable six (top six) p u s.sound.shape; base = base; room = next.room })

  -- behind it the seed of what is left is the seed
  pub span-turn : (f : ℕ) (p' : List ℕ) (u' : ℕ) → f ≡ frames_of six code → p' ≡ (store_w six (pred root) (pred code) (words p u) 0 a).pool → u' ≡ (store_w six (pred root) (pred code) (words p u) 0 a).used
      → SpanAsk p' u' (a + f) e × (length p' ≡ length p) × (seed_w six (e - (a + f)) (words p' u') (a + f) e ≡ seed_w six (e - a) (words p u) a e)
  unfolding top
  span-turn f p' u' g hp hu =
      let n = next in
      let k : ℕ = largest_fit six (top six) a e in
      let x : f ≡ frames six k = g ∙ ap (frames_of six) c in
      let y : p' ≡ (store_w six (top six) k (words p u) 0 a).pool = hp ∙ ap₂ (λ (i j : ℕ). (store_w six i j (words p u) 0 a).pool) (ap pred r) (ap pred c) in
      let z : u' ≡ (store_w six (top six) k (words p u) 0 a).used = hu ∙ ap₂ (λ (i j : ℕ). (store_w six i j (words p u) 0 a).used) (ap pred r) (ap pred c) in
      rw (x, y, z) (
        record { cap = omega (arith, s.cap, n.length); sound = n.rest.sound; order = n.rest.order; ends = s.ends; held = n.rest.held; room = n.rest.room },
        n.length,
        sym (seed_w-step six a e l (words p u)),
      )

-- ---- a seed that is not refused
module _ (L : Ladder) (most limit : ℕ) (m : MultipliesUp L) (small : suc (top L) < 8) (s : Store) (a : Places L most limit s) (h : SoundStore L most limit s) where
  -- the regions before the seed
  abbrev before : List Region
  before = regions_of L s.state.starts s.state.ends

  -- what it has passed
  pub record Accepted (x y : ℕ) : Type 0 where
    pub spans : Spans L x y
    pub few : length before < most
    pub alone : apart (address_frame L x) (address_frame L y) before ≡ true
    pub room : s.state.used + seed_openings_w L (address_frame L y - address_frame L x) s.pool (address_frame L x) (address_frame L y) ≤ length s.pool

  -- without a refusal the addresses and the regions have passed, and so has the room
  pub accepted : (x y : ℕ) → refusal_of L most limit s (seed x y) ≡ 0 → Accepted x y
  accepted x y z = record { spans = j.spans; few = j.few; alone = j.alone; room = room }
    where
      none : (n : ℕ) → region_refusal L most limit s.state x y ≡ n → region_refusal L most limit s.state x y ≡ 0
      none zero e = e
      none (suc n) e = absurd (omega (arith, z, seed-front L most limit s x y n e))

      j : Joins L most limit m s.state (passing L most limit m s a h) x y
      j = joins L most limit m s.state (passing L most limit m s a h) x y (none (region_refusal L most limit s.state x y) refl)

      room : s.state.used + seed_openings_w L (address_frame L y - address_frame L x) s.pool (address_frame L x) (address_frame L y) ≤ length s.pool
      room = elim (dec_lt (length s.pool) (s.state.used + seed_openings_w L (address_frame L y - address_frame L x) s.pool (address_frame L x) (address_frame L y))) [
        | yes k ↦ absurd (omega (arith, z, seed-9 L most limit m small s a h x y j.spans j.few j.alone k))
        | no k ↦ omega arith
      ]

module _ (L : Ladder) (most limit : ℕ) (s : Store) where
  -- a refusal is the reply
  pub refused-is : (c : Call) (n : ℕ) → n ≡ refusal_of L most limit s c → (n ≡ 0 → ⊥) → plain n s ≡ served L most limit s c
  unfolding served
  refused-is c zero e z = absurd (z refl)
  refused-is c (suc n) e z = ap (λ (k : ℕ). settle k s (acted L most limit s c)) e

  -- the stores and the region more are the reply of a seed that is not refused
  pub seeded-is : (x y f g u : ℕ) (p starts ends : List ℕ) → 0 ≡ refusal_of L most limit s (seed x y) → f ≡ address_frame L x → g ≡ address_frame L y → u ≡ (seed_w L (g - f) (words_of s) f g).used → p ≡ (seed_w L (g - f) (words_of s) f g).pool
      → starts ≡ set s.state.starts (length (regions_of L s.state.starts s.state.ends)) x → ends ≡ set s.state.ends (length (regions_of L s.state.starts s.state.ends)) y
      → plain 0 (store (record { used = u; starts = starts; ends = ends }) p) ≡ served L most limit s (seed x y)
  unfolding served acted
  seeded-is x y f g u p starts ends z hf hg hu hp hs he =
      let w = seed_w L (address_frame L y - address_frame L x) (words_of s) (address_frame L x) (address_frame L y) in
      let j : u ≡ w.used = hu ∙ ap₂ (λ (i k : ℕ). (seed_w L (k - i) (words_of s) i k).used) hf hg in
      let q : p ≡ w.pool = hp ∙ ap₂ (λ (i k : ℕ). (seed_w L (k - i) (words_of s) i k).pool) hf hg in
      rw (j, q, hs, he)
      (ap (λ (n : ℕ). plain 0 (store (record { used = w.used; starts = set s.state.starts n x; ends = set s.state.ends n y }) w.pool)) (sym (newest-length (regions_of L s.state.starts s.state.ends)))
      ∙ ap (λ (k : ℕ). settle k s (acted L most limit s (seed x y))) z)

-- ---- what the code reads of the six sizes
-- the overlaps that it sums tell whether a span lies apart from the regions
pub apart-read : (x y f g n : ℕ) (rs : List Region) → f ≡ address_frame six x → g ≡ address_frame six y → f ≤ g → n ≡ sum (overlap f (g - f)) rs → apart (address_frame six x) (address_frame six y) rs ≡ eqb n 0
apart-read x y f g n rs hf hg l e = sym (ap₂ (λ (i j : ℕ). apart i j rs) hf hg) ∙ sym (apart-sum f g rs l) ∙ ap (λ (k : ℕ). eqb k 0) (sym e)

-- the words that it counts are those of the span's seed
pub room-read : (x y f g n : ℕ) (p : List ℕ) → f ≡ address_frame six x → g ≡ address_frame six y → n ≡ seed_openings_w six (g - f) p f g → n ≡ seed_openings_w six (address_frame six y - address_frame six x) p (address_frame six x) (address_frame six y)
room-read x y f g n p hf hg e = e ∙ ap₂ (λ (i j : ℕ). seed_openings_w six (j - i) p i j) hf hg

module _ (x y : ℕ) (n : Spans six x y) (f g : ℕ) (hf : f ≡ address_frame six x) (hg : g ≡ address_frame six y) where
  -- a span of whole pages has some frames, from f to g
  pub span-frames : (f < g) × (g ≤ most_frames)
  unfolding address_frame bytes largest
  span-frames = (omega (arith, hf, hg, n.start, n.end, n.some), omega (arith, hg, n.within))

  module _ (s : Store) (a : Places six places pool_limit s) (h : SoundStore six places pool_limit s) where
    -- what the store's soundness says of its words
    w : SoundW six (top six) s.pool s.state.used × Regions six places s.state.starts s.state.ends × (length s.pool ≤ pool_limit) × Covered six s.state.starts s.state.ends s.pool
    w = (sound-laws six six-multiplies small-six places pool_limit s.state.starts s.state.ends a.starts a.ends).to_words s.pool s.state.used h

    -- the words that its seed takes may be counted
    pub seed-ask : SeedAsk s.pool f g
    seed-ask = record { used = s.state.used; readable = shape-readable six (top six) s.pool s.state.used w.0.shape; some = span-frames.0; ends = span-frames.1 }

    -- where it lies apart from the regions none of its frames is free, so they may be stored
    pub span-ask : apart (address_frame six x) (address_frame six y) (regions_of six s.state.starts s.state.ends) ≡ true
        → s.state.used + seed_openings_w six (address_frame six y - address_frame six x) s.pool (address_frame six x) (address_frame six y) ≤ length s.pool
        → SpanAsk s.pool s.state.used f g
    span-ask alone room = record {
      cap = w.2;
      sound = w.0;
      order = omega (arith, span-frames.0);
      ends = span-frames.1;
      held = λ i lo hi. held i (omega (arith, span-frames)) (outside i lo hi) (free six (top six) (view six (top six) (word s.pool) 0) i) refl;
      room = omega (arith, room, room-read x y f g (seed_openings_w six (g - f) s.pool f g) s.pool hf hg refl);
    }
      where
        outside : (i : ℕ) → f ≤ i → i < f + (g - f) → seeded (regions_of six s.state.starts s.state.ends) i ≡ false
        outside = (apart-iff (frames six (top six)) f g (regions_of six s.state.starts s.state.ends)
            (regions-fit six six-multiplies s.state.starts s.state.ends (regions-if six six-multiplies places s.state.starts s.state.ends a.starts a.ends w.1)) span-frames.0).0
            (ap₂ (λ (i j : ℕ). apart i j (regions_of six s.state.starts s.state.ends)) hf hg ∙ alone)

        held : (i : ℕ) → i < most_frames → seeded (regions_of six s.state.starts s.state.ends) i ≡ false → (v : Bool) → free six (top six) (view six (top six) (word s.pool) 0) i ≡ v → v ≡ false
        held i l o false e = refl
        held i l o true e = absurd (true≢false (sym (w.3 i (omega (arith, top-frames)) e) ∙ o))
