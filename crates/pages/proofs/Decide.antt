-- The check decides Sound, and Sound is sound words whose tokens are covered by regions that pass. Assumes nothing.
use mathlib.Core.Bool.{true}
use mathlib.Core.List.{List}
use mathlib.Core.Path.{◌≡◌, sym, ap, ◌∙◌}
use Prim.Native.Nat.{ℕ, zero, suc, ◌-◌, ◌≤◌}
use native.Mathlib.Omega.{arith}
use lib.Dec.{ltb}
use lib.ListN.{length}
use Rattle.sizes.specs.Ladder.{Ladder}
use Rattle.sizes.specs.Laws.{MultipliesUp}
use Rattle.model.specs.Calls.{Region}
use Rattle.model.specs.Ladder.{top}
use Rattle.model.specs.TreeStore.{covered}
use Rattle.pool.specs.Regions.{regions_of}
use Rattle.pages.specs.Sound.{Node, Sound}
use Rattle.pages.specs.PassesCheck.{PassesCheck}
use Rattle.pool.specs.Words.{fan_out_of, frames_of, token_of, word}
use Rattle.pool.specs.Blocks.{By, Ok, Shape, size}
use Rattle.pool.specs.Check.{SoundW, passes, sweep, walk}
use Rattle.pool.specs.RegionTest.{regions_pass}
use Rattle.pool.proofs.Cover.{cover, once-of-cover}
use Rattle.pages.proofs.Fields.{Rules, rules-sound, sound-rules, sound-pass}
use Rattle.pool.proofs.Needed.{size_is, sweep-yes}
use Rattle.pages.proofs.Nodes.{all_of, below_all, below-marked, marked-of, marked-rule}
use Rattle.pages.proofs.Quiet.{node-pos, passes-inside, passes_of, passes-rule}
use Rattle.pool.proofs.Walk.{All, all_here, walk-ok, walk-yes}

-- ---- the walk and the sweep say yes exactly where all nodes pass
module _ (L : Ladder) (rs : List Region) (p : List ℕ) where
  abbrev Passed : (l q b : ℕ) → Type 0
  Passed l q b = All (fan_out_of L) (frames_of L) ltb p (passes (fan_out_of L) (frames_of L) p rs) l q b

  abbrev count : (used : ℕ) → ℕ
  count used = walk (fan_out_of L) (frames_of L) ltb p (passes (fan_out_of L) (frames_of L) p rs) used (suc (top L)) 0 0 0

  shape_of : (u : ℕ) → suc u ≤ length p → Ok (fan_out_of L) (By ltb) p (suc u) (suc (top L)) 0 → size (fan_out_of L) p (suc (top L)) 0 ≡ u → sweep (fan_out_of L) p (suc (top L)) u 1 0 ≡ true → Shape (fan_out_of L) (suc (top L)) p (suc u)
  shape_of u high o e f = record {
    low = omega arith;
    high = high;
    rules = o;
    once = once-of-cover (fan_out_of L) (By ltb) p (suc (top L)) u o e (cover (fan_out_of L) p (suc (top L)) (suc u) o u 1 0 (omega arith) (omega arith) f (λ x x1 x2. absurd (omega arith)));
  }

  passed_here : (used l q b : ℕ) → Shape (fan_out_of L) (suc (top L)) p used → Node L p l q b → Passed l q b → passes (fan_out_of L) (frames_of L) p rs l q b ≡ true
  passed_here used zero q b s n a = absurd (omega (arith, node-pos L p used s zero q b n))
  passed_here used (suc l) q b s n a = all_here (fan_out_of L) (frames_of L) ltb p (passes (fan_out_of L) (frames_of L) p rs) l q b a

  held_of : (used : ℕ) → Shape (fan_out_of L) (suc (top L)) p used → Passed (suc (top L)) 0 0 → Rules L rs used p
  held_of used s a = record {
    shape = s;
    rule = λ l q b n. passes-rule (fan_out_of L) (frames_of L) p rs l q b (at l q b n);
    inside = λ l q b n t. passes-inside (fan_out_of L) (frames_of L) p rs l q b (at l q b n) t;
  }
    where
      at : (l q b : ℕ) → Node L p l q b → passes (fan_out_of L) (frames_of L) p rs l q b ≡ true
      at l q b n = passed_here used l q b s n (below_all L p ltb (passes (fan_out_of L) (frames_of L) p rs) a n)

  yes-held : (used : ℕ) → 1 ≤ used → used ≤ length p → count used ≡ used - 1 → sweep (fan_out_of L) p (suc (top L)) (used - 1) 1 0 ≡ true → Rules L rs used p
  yes-held zero low high e f = absurd (omega arith)
  yes-held (suc u) low high e f =
      let z : suc u - 1 ≡ u = omega arith in
      let r = walk-ok (fan_out_of L) (frames_of L) ltb p (passes (fan_out_of L) (frames_of L) p rs) (suc u) (suc (top L)) 0 0 0 (omega arith) in
      held_of (suc u) (shape_of u high r.0.0 (omega (arith, r.1)) (ap (λ (k : ℕ). sweep (fan_out_of L) p (suc (top L)) k 1 0) (sym z) ∙ f)) r.0.1

  sized : (used : ℕ) → Shape (fan_out_of L) (suc (top L)) p used → size (fan_out_of L) p (suc (top L)) 0 ≡ used - 1
  sized zero s = absurd (omega (arith, s.low))
  sized (suc u) s = size_is (fan_out_of L) (By ltb) p (suc (top L)) u s.rules s.once ∙ omega arith

  held-walked : (used : ℕ) → Rules L rs used p → count used ≡ used - 1
  held-walked used h =
      walk-yes (fan_out_of L) (frames_of L) ltb p (passes (fan_out_of L) (frames_of L) p rs) used (suc (top L)) 0 0 0 h.shape.rules
      (all_of L p ltb (passes (fan_out_of L) (frames_of L) p rs) (suc (top L)) 0 0 (λ l q b n. passes_of (fan_out_of L) (frames_of L) p rs l q b (h.rule l q b n) (h.inside l q b n)))
      (omega (arith, sized used h.shape, h.shape.low))
      ∙ omega (arith, sized used h.shape)

  held-swept : (used : ℕ) → Rules L rs used p → sweep (fan_out_of L) p (suc (top L)) (used - 1) 1 0 ≡ true
  held-swept used h = sweep-yes (fan_out_of L) p (suc (top L)) used h.shape.rules h.shape.once (used - 1) 1 0 (omega arith) (omega (arith, h.shape.low)) (λ m r k s e lt. absurd (omega arith)) (λ x i. absurd (omega (arith, i)))

module _ (L : Ladder) (mu : MultipliesUp L) (most limit used : ℕ) (starts ends p : List ℕ) (ls : length starts ≡ most) (le : length ends ≡ most) where
  -- THE CHECK DECIDES SOUND
  pub check_sound : PassesCheck L ltb limit used starts ends p → Sound L ltb most limit used starts ends p
  check_sound c = rules-sound L mu most limit used starts ends p ls le c.limited c.regions (yes-held L (regions_of L starts ends) p used c.low c.high c.walked c.swept)

  pub sound-check : Sound L ltb most limit used starts ends p → PassesCheck L ltb limit used starts ends p
  sound-check s =
      let h = sound-rules L mu most limit used starts ends p ls le s in
      record {
        low = s.low;
        high = s.high;
        limited = s.limited;
        regions = sound-pass L mu most limit used starts ends p ls le s;
        walked = held-walked L (regions_of L starts ends) p used h;
        swept = held-swept L (regions_of L starts ends) p used h;
      }

  -- SOUND IS SOUND WORDS WITH REGIONS
  pub sound-words : Sound L ltb most limit used starts ends p → SoundW L (top L) p used
  sound-words s =
      let h = sound-rules L mu most limit used starts ends p ls le s in
      record { shape = h.shape; marks = marked-of L p (top L) 0 0 h.rule }

  pub words-sound : 1 ≤ used → length p ≤ limit → regions_pass L starts ends ≡ true → SoundW L (top L) p used → ((l q b : ℕ) → Node L p l q b → token_of (word p q) ≡ 1 → covered (regions_of L starts ends) b (frames_of L l) ≡ true) → Sound L ltb most limit used starts ends p
  words-sound low lim pass s c = rules-sound L mu most limit used starts ends p ls le lim pass (record {
    shape = s.shape;
    rule = λ l q b n. marked-rule L p l q (node-pos L p used s.shape l q b n) (below-marked L p {l = suc (top L)} {q = 0} s.marks n);
    inside = c;
  })
