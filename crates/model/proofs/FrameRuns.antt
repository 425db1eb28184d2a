-- Demand 3 of the frame store: what its accepted calls keep. No tree is known here. Assumes nothing.
use mathlib.Core.Path.{◌≡◌, ap, ◌∙◌}
use mathlib.Core.Bool.{Bool, true, false}
use Prim.Native.Nat.{ℕ, suc, pred, ◌+◌, ◌*◌, ◌-◌, ◌≤◌, ◌<◌}
use native.Mathlib.Omega.{arith}
use native.Mathlib.Nat.{mul-le-mul_right, div-add-mod'}
use borrow.Author.Tests.{ltb-false, leb-false, not-false}
use Rattle.sizes.specs.Ladder.{Ladder}
use Rattle.model.specs.Ladder.{top}
use Rattle.model.specs.Frames.{Wholly, paint, bit}
use Rattle.model.specs.Calls.{seeded, Call, seed, acquire, release, report, verdict}
use Rattle.model.specs.FrameStore.{whole, bare, Frames, memory, size, blocks, lowest_free, frame_act, refusals}
use Rattle.model.specs.Laws.{BlockIn}
use Rattle.model.specs.Runs.{reckon}
use Rattle.model.proofs.Frames.{changed-id, painted, bit_le, bit-zero, bit-one, Adds, adds-changed}
use Rattle.model.proofs.FrameStore.{whole-iff, bare-iff, first_below-first, block-stands}
use Rattle.model.proofs.Verdict.{clear}

-- what the tests of a call that is not refused say
module _ (L : Ladder) (most : ℕ) (g : Frames) where
  pub record Seedable (a e : ℕ) : Type 0 where
    pub some : a < e
    pub ends : e ≤ memory L
    pub unseeded : Wholly (seeded g.regions) a (e - a) false

  pub seedable : (a e : ℕ) → verdict (refusals L most g (seed a e)) ≡ 0 → Seedable a e
  unfolding refusals
  seedable a e v =
      let t = clear (refusals L most g (seed a e)) (omega arith) v in
      record {
        some = leb-false e a t.0;
        ends = ltb-false (memory L) e t.1.0;
        unseeded = (bare-iff (seeded g.regions) a (e - a)).0 (not-false (bare (seeded g.regions) a (e - a)) t.1.1.1.0);
      }

  -- the lowest free block of the code
  pub record Dealable (c b : ℕ) : Type 0 where
    pub fits : b + size L c ≤ memory L
    pub whole : Wholly g.free b (size L c) true

  pub dealable : (c : ℕ) → verdict (refusals L most g (acquire c)) ≡ 0 → Dealable c (lowest_free L g.free c * size L c)
  unfolding refusals lowest_free
  dealable c v =
      let t = clear (refusals L most g (acquire c)) (omega arith) v in
      let i = lowest_free L g.free c in
      let l : i < blocks L c = leb-false (blocks L c) i t.1.1.0 in
      record {
        fits = omega (arith, mul-le-mul_right (size L c) l, div-add-mod' (memory L) (size L c));
        whole = (whole-iff g.free (i * size L c) (size L c)).0 ((first_below-first (λ j. whole g.free (j * size L c) (size L c)) (blocks L c)).passes l);
      }

  -- a block that is held
  pub record Releasable (b c : ℕ) : Type 0 where
    pub stands : BlockIn L (top L) (pred c) b
    pub inside : Wholly (seeded g.regions) b (size L c) true
    pub taken : Wholly g.free b (size L c) false

  pub releasable : (b c : ℕ) → verdict (refusals L most g (release b c)) ≡ 0 → Releasable b c
  unfolding refusals
  releasable b c v =
      let t = clear (refusals L most g (release b c)) (omega arith) v in
      let high : pred c ≤ top L = omega (arith, ltb-false (suc (top L)) c t.1.0) in
      record {
        stands = block-stands L b (pred c) high t.1.1.0 t.1.1.1.0;
        inside = (whole-iff (seeded g.regions) b (size L c)).0 (not-false (whole (seeded g.regions) b (size L c)) t.1.1.1.1.0);
        taken = (bare-iff g.free b (size L c)).0 (not-false (bare g.free b (size L c)) t.1.1.1.1.1.0);
      }

module _ (L : Ladder) where
  -- every seeded frame is free or held, never both, and no other frame is either
  pub record Split (g : Frames) (h : ℕ → Bool) : Type 0 where
    pub adds : Adds (seeded g.regions) g.free h (memory L)
    pub out : (f : ℕ) → memory L ≤ f → h f ≡ false

  -- free frames are seeded and not held
  free-seeded : (g : Frames) (h : ℕ → Bool) → Split g h → (b s : ℕ) → b + s ≤ memory L → Wholly g.free b s true → Wholly (seeded g.regions) b s true
  free-seeded g h k b s l w f p q =
      bit-one (seeded g.regions f) (omega (arith, k.adds f (omega arith), ap bit (w f p q), bit_le (seeded g.regions f)))

  pub free-unheld : (g : Frames) (h : ℕ → Bool) → Split g h → (b s : ℕ) → b + s ≤ memory L → Wholly g.free b s true → Wholly h b s false
  free-unheld g h k b s l w f p q = bit-zero (h f) (omega (arith, k.adds f (omega arith), ap bit (w f p q), bit_le (seeded g.regions f)))

  -- unseeded frames are not held
  unseeded-unheld : (g : Frames) (h : ℕ → Bool) → Split g h → (b s : ℕ) → b + s ≤ memory L → Wholly (seeded g.regions) b s false → Wholly h b s false
  unseeded-unheld g h k b s l w f p q = bit-zero (h f) (omega (arith, k.adds f (omega arith), ap bit (w f p q)))

  -- painting a block below N leaves what lies past it
  paint-out : (h : ℕ → Bool) (v : Bool) (b s : ℕ) → b + s ≤ memory L → ((f : ℕ) → memory L ≤ f → h f ≡ false) → (f : ℕ) → memory L ≤ f → paint b s v h f ≡ false
  paint-out h v b s l k f p = (painted h (suc f) b s v).above f (omega arith) (omega arith) ∙ k f p

  -- a call that is not refused keeps the split
  pub split-act : (most : ℕ) (g : Frames) (h : ℕ → Bool) → Split g h → (c : Call) → verdict (refusals L most g c) ≡ 0
      → Split (frame_act L g c).state (reckon L c (frame_act L g c).answer h)
  unfolding frame_act seeded
  split-act most g h k (seed a e) v =
      let x = seedable L most g a e v in
      let N = memory L in
      let S = seeded g.regions in
      let l : a + (e - a) ≤ N = omega (arith, x.some, x.ends) in
      record {
        adds = adds-changed S g.free h (paint a (e - a) true S) (paint a (e - a) true g.free) h N a (e - a) true true false (omega arith) l
            (painted S N a (e - a) true) (painted g.free N a (e - a) true) (changed-id h N a (e - a) false (unseeded-unheld g h k a (e - a) l x.unseeded)) k.adds;
        out = k.out;
      }
  split-act most g h k (acquire c) v =
      let b = lowest_free L g.free c * size L c in
      let x = dealable L most g c v in
      let N = memory L in
      let S = seeded g.regions in
      record {
        adds = adds-changed S g.free h S (paint b (size L c) false g.free) (paint b (size L c) true h) N b (size L c) true false true (omega arith) x.fits
            (changed-id S N b (size L c) true (free-seeded g h k b (size L c) x.fits x.whole)) (painted g.free N b (size L c) false) (painted h N b (size L c) true) k.adds;
        out = paint-out h true b (size L c) x.fits k.out;
      }
  split-act most g h k (release b c) v =
      let x = releasable L most g b c v in
      let N = memory L in
      let S = seeded g.regions in
      record {
        adds = adds-changed S g.free h S (paint b (size L c) true g.free) (paint b (size L c) false h) N b (size L c) true true false (omega arith) x.stands.fits
            (changed-id S N b (size L c) true x.inside) (painted g.free N b (size L c) true) (painted h N b (size L c) false) k.adds;
        out = paint-out h false b (size L c) x.stands.fits k.out;
      }
  split-act most g h k report v = k
