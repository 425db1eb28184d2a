-- The tests of regions say what they should of their frames, and the frames of regions are counted. Assumes nothing.
use mathlib.Core.Path.{◌≡◌, refl, sym, ap, ◌∙◌}
use mathlib.Core.Logic.{◌↔◌}
use mathlib.Core.Bool.{Bool, true, false, and-eq-true_iff, true≢false}
use mathlib.Core.List.{List, [], ◌∷◌}
use Prim.Native.Nat.{ℕ, zero, suc, ◌+◌, ◌-◌, ◌≤◌, ◌<◌, max, min}
use native.Mathlib.Omega.{arith}
use native.Mathlib.Decide.{dec_lt}
use native.Mathlib.Nat.{add-sub_of_le}
use lib.Dec.{leb}
use borrow.Author.Tests.{leb-true, leb-false, eqb-true, eq-eqb}
use Rattle.model.specs.Frames.{Wholly, within, paint, bit, count}
use Rattle.model.specs.Calls.{Region, seeded, Regions}
use Rattle.model.specs.Lists.{sum, all}
use Rattle.model.specs.TreeStore.{overlap, covered, apart}
use Rattle.model.proofs.Frames.{within_in, within-below, within-above, painted, unpainted, count_same, count_add, count-full, count-all, count-stored}

-- a region apart from the others has no frame of theirs
apart_none : (N a e : ℕ) (rs : List Region) → Regions N rs → apart a e rs ≡ true → (f : ℕ) → a ≤ f → f < e → seeded rs f ≡ false
unfolding seeded all
apart_none N a e [] k h f p q = refl
apart_none N a e (r ∷ rs) k h f p q =
    let x = (and-eq-true_iff (leb (min e r.end) (max a r.start)) (apart a e rs)).0 h in
    let y = leb-true (min e r.end) (max a r.start) x.0 in
    let z : within r.start (r.end - r.start) f ≡ false = elim (dec_lt f r.start) [
      | yes l ↦ within-below r.start (r.end - r.start) f l
      | no l ↦ within-above r.start (r.end - r.start) f (omega arith)
    ] in
    rw z (apart_none N a e rs k.1 x.1 f p q)

apart_some : (N a e : ℕ) (rs : List Region) → Regions N rs → a < e → ((f : ℕ) → a ≤ f → f < e → seeded rs f ≡ false) → apart a e rs ≡ true
unfolding seeded all
apart_some N a e [] k l h = refl
apart_some N a e (r ∷ rs) k l h = (and-eq-true_iff (leb (min e r.end) (max a r.start)) (apart a e rs)).1 (
  go (leb (min e r.end) (max a r.start)) refl,
  apart_some N a e rs k.1 l (λ f p q. unpainted r.start (r.end - r.start) f (seeded rs) (h f p q)),
)
  where
    go : (v : Bool) → leb (min e r.end) (max a r.start) ≡ v → leb (min e r.end) (max a r.start) ≡ true
    go true w = w
    go false w =
        let y = leb-false (min e r.end) (max a r.start) w in
        let f = max a r.start in
        absurd (true≢false (sym ((painted (seeded rs) (suc f) r.start (r.end - r.start) true).inside f (omega arith) (omega (arith, k.0.some))) ∙ h f (omega arith) (omega arith)))

-- the test of seed: no frame from a to e lies in a region
pub apart-iff : (N a e : ℕ) (rs : List Region) → Regions N rs → a < e → (apart a e rs ≡ true) ↔ Wholly (seeded rs) a (e - a) false
apart-iff N a e rs k l = (λ h f p q. apart_none N a e rs k h f p (omega arith), λ h. apart_some N a e rs k l (λ f p q. h f p (omega arith)))

-- no frame past N is seeded
pub seeded-past : (N : ℕ) (rs : List Region) → Regions N rs → (f : ℕ) → N ≤ f → seeded rs f ≡ false
unfolding seeded
seeded-past N [] k f h = refl
seeded-past N (r ∷ rs) k f h = rw (within-above r.start (r.end - r.start) f (omega (arith, k.0))) (seeded-past N rs k.1 f h)

-- the sizes of the regions add up to the seeded frames
pub seeded-count : (N : ℕ) (rs : List Region) → Regions N rs → count (seeded rs) N ≡ sum (λ r. r.end - r.start) rs
unfolding seeded sum
seeded-count N [] k = omega (arith, count-all (seeded []) false N (λ f. refl))
seeded-count N (r ∷ rs) k = omega (
  arith,
  k.0,
  seeded-count N rs k.1,
  count-stored (seeded rs) (seeded (r ∷ rs)) N r.start (r.end - r.start) (painted (seeded rs) N r.start (r.end - r.start) true)
      k.0.alone (omega (arith, k.0)),
)

-- the frames of a block that lie in one region
overlap-count : (b : ℕ) (r : Region) → r.start < r.end → (s : ℕ) → count (λ j. within r.start (r.end - r.start) (b + j)) s ≡ overlap b s r
unfolding count
overlap-count b r l zero = omega arith
overlap-count b r l (suc s) = go (dec_lt (b + s) r.start) (dec_lt (b + s) r.end) (overlap-count b r l s)
  where
    w : ℕ
    w = r.end - r.start

    go : Dec (b + s < r.start) → Dec (b + s < r.end) → count (λ j. within r.start w (b + j)) s ≡ overlap b s r
        → bit (within r.start w (b + s)) + count (λ j. within r.start w (b + j)) s ≡ overlap b (suc s) r
    go (yes x) y ih = omega (arith, ap bit (within-below r.start w (b + s) x))
    go (no x) (yes y) ih = omega (arith, ap bit (within_in r.start w (b + s) (omega arith) (omega arith)))
    go (no x) (no y) ih = omega (arith, ap bit (within-above r.start w (b + s) (omega arith)))

-- ... and in all of them
pub covered-count : (N b s : ℕ) (rs : List Region) → Regions N rs → count (λ j. seeded rs (b + j)) s ≡ sum (overlap b s) rs
unfolding seeded sum
covered-count N b s [] k = omega (arith, count-all (λ j. seeded [] (b + j)) false s (λ f. refl))
covered-count N b s (r ∷ rs) k =
    count_add (λ j. seeded (r ∷ rs) (b + j)) (λ j. within r.start (r.end - r.start) (b + j)) (λ j. seeded rs (b + j)) s (λ j l. both j (dec_lt (b + j) r.start) (dec_lt (b + j) r.end))
    ∙ omega (arith, overlap-count b r k.0.some s, covered-count N b s rs k.1)
  where
    w : ℕ
    w = r.end - r.start

    both : (j : ℕ) → Dec (b + j < r.start) → Dec (b + j < r.end) → bit (paint r.start w true (seeded rs) (b + j)) ≡ bit (within r.start w (b + j)) + bit (seeded rs (b + j))
    both j (yes x) y = rw (within-below r.start w (b + j) x) (omega arith)
    both j (no x) (yes y) = rw (within_in r.start w (b + j) (omega arith) (omega (arith, k.0)), k.0.alone (b + j) (omega arith) (omega arith)) (omega arith)
    both j (no x) (no y) = rw (within-above r.start w (b + j) (omega (arith, k.0))) (omega arith)

-- the test of release: every frame of the block lies in a region
pub covered-iff : (N b s : ℕ) (rs : List Region) → Regions N rs → (covered rs b s ≡ true) ↔ Wholly (seeded rs) b s true
covered-iff N b s rs k = (
  λ e f p q. rw (add-sub_of_le p) at (count-full (λ j. seeded rs (b + j)) s (covered-count N b s rs k ∙ eqb-true (sum (overlap b s) rs) s e) (f - b) (omega arith)),
  λ h. eq-eqb (sum (overlap b s) rs) s (sym (covered-count N b s rs k) ∙ count_same (λ j. seeded rs (b + j)) (λ j. true) s (λ j l. h (b + j) (omega arith) (omega arith)) ∙ omega (arith, count-all (λ j. true) true s (λ f. refl))),
)
