-- Demand 2: a sound state answers as the frame store does and leaves what it leaves, unless pool room is missing; and it stays sound.
-- Assumes nothing.
use mathlib.Core.Path.{◌≡◌, refl, sym, ap, ◌∙◌}
use mathlib.Core.Logic.{◌↔◌, ◌≢◌}
use mathlib.Core.Bool.{Bool, true, false, ◌&&◌, not, cond, and-eq-true_iff, true≢false, false≢true}
use mathlib.Core.List.{List, [], ◌∷◌}
use Prim.Native.Nat.{ℕ, zero, suc, ◌+◌, ◌*◌, ◌-◌, ◌≤◌, ◌<◌}
use native.Mathlib.Omega.{arith}
use native.Mathlib.Decide.{dec_lt}
use native.Mathlib.Nat.{le_of_suc-le-suc}
use lib.Dec.{leb, ltb}
use lib.ListN.{length}
use borrow.Author.Tests.{ltb-true, ltb-false, leb-false, le-ltb, not-false}
use Rattle.sizes.specs.Ladder.{Ladder}
use Rattle.model.specs.Ladder.{frames, top}
use Rattle.model.specs.Frames.{Wholly, Changed, paint, count}
use Rattle.model.specs.Calls.{Region, seeded, Call, seed, acquire, release, report, refused, Test, refuse, verdict}
use Rattle.model.specs.FrameStore.{whole, bare, Frames, memory, blocks, lowest_free, largest_free, Same, frame_act, refusals, frame_step}
use Rattle.model.specs.Tree.{Tree, largest, free, free_frames, Sound, store, remove, pick}
use Rattle.model.specs.TreeStore.{covered, apart, seeded_frames, any_free, seed_from, used, State, act, lacks_room, tests, step}
use Rattle.model.specs.Laws.{BlockIn}
use Rattle.model.specs.Demands.{shown, SoundState, AsFrames, Demand2}
use Rattle.model.proofs.Frames.{changed-same, painted, painted-more, inside-changed, count_same}
use Rattle.model.proofs.Free.{largest-le, lowest-same, block-largest, pick-lowest}
use Rattle.model.proofs.Change.{remove-done, store-done}
use Rattle.model.proofs.Count.{free_frames-count}
use Rattle.model.proofs.Regions.{apart-iff, seeded-count, covered-iff}
use Rattle.model.proofs.Seed.{seed-done, any_free-false, any_free-true}
use Rattle.model.proofs.FrameStore.{same_test, same-order, whole-iff, bare-iff, not-bare, lowest_free-le, lowest_free-lowest, block-stands}
use Rattle.model.proofs.Verdict.{never}

-- a tree's tests beside the frame store's: each pair says the same once the earlier ones have passed; past them all the tree may test for room, which w says is missing, and P holds
data Beside (w : Bool) (P : Type 0) : List Test → List Test → Type 0 where
  ends : w ≡ false → P → Beside w P [] []
  room : P → Beside w P (refuse 9 w ∷ []) []
  pair : {ts us : List Test} {x y : Bool} (k : ℕ) → (ltb 0 k && ltb k 9) ≡ true → x ≡ y → (x ≡ false → Beside w P ts us) → Beside w P (refuse k x ∷ ts) (refuse k y ∷ us)

-- the tree's verdict v is the frame store's u; where that is none, P holds, and v is 9 if room is missing
record Verdicts (w : Bool) (P : Type 0) (v u : ℕ) : Type 0 where
  accepted : u ≡ 0 → (v ≡ cond w 9 0) × P
  kept : 0 < u → v ≡ u
  low : u < 9

-- the verdicts of lists that stand beside each other
both-verdicts : (w : Bool) (P : Type 0) (ts us : List Test) → Beside w P ts us → Verdicts w P (verdict ts) (verdict us)
both-verdicts w P ts us (ends e p) = record { accepted = λ q. (rw e, p); kept = λ q. absurd (omega arith); low = omega arith }
both-verdicts true P ts us (room p) = record { accepted = λ q. (refl, p); kept = λ q. absurd (omega arith); low = omega arith }
both-verdicts false P ts us (room p) = record { accepted = λ q. (refl, p); kept = λ q. absurd (omega arith); low = omega arith }
both-verdicts w P ts us (pair {x = true} {y = true} k b e r) =
    let n = (and-eq-true_iff (ltb 0 k) (ltb k 9)).0 b in
    record { accepted = λ q. absurd (omega (arith, ltb-true 0 k n.0)); kept = λ q. refl; low = ltb-true k 9 n.1 }
both-verdicts w P ts us (pair {x = true} {y = false} k b e r) = absurd (true≢false e)
both-verdicts w P ts us (pair {x = false} {y = true} k b e r) = absurd (false≢true e)
both-verdicts w P ts us (pair {ts = ts'} {us = us'} {x = false} {y = false} k b e r) = both-verdicts w P ts' us' (r refl)

module _ (L : Ladder) where
  -- frames that are not seeded are not free
  pub unseeded-free : (most n : ℕ) (s : State L) → SoundState L most n s → (b m : ℕ) → b + m ≤ memory L → Wholly (seeded s.regions) b m false → Wholly (free L (top L) s.tree) b m false
  unseeded-free most n s i b m l x f p q = go (free L (top L) s.tree f) refl
    where
      go : (v : Bool) → free L (top L) s.tree f ≡ v → free L (top L) s.tree f ≡ false
      go true y = absurd (true≢false (sym (i.inside f (omega arith) y) ∙ x f p q))
      go false y = y

  -- what a call does where it is accepted is no refusal
  never-refused : (s : State L) (c : Call) (k : ℕ) → (act L s c).answer ≢ refused k
  unfolding act
  never-refused s (seed a e) k q = never cc
  never-refused s (acquire c) k q = never cc
  never-refused s (release b c) k q = never cc
  never-refused s report k q = never cc

  module _ (most n : ℕ) (s : State L) (g : Frames) where
    -- an accepted call answers and leaves the same, and keeps the state sound
    record SameAct (c : Call) : Type 0 where
      answer : (act L s c).answer ≡ (frame_act L g c).answer
      leaves : Same L (shown L (act L s c).state) (frame_act L g c).state
      keeps : used L (act L s c).state.tree ≤ n → SoundState L most n (act L s c).state

    -- demand 2 of a call, where its tests stand beside the frame store's
    as-frames : (c : Call) → SoundState L most n s → Same L (shown L s) g → Beside (lacks_room L n s c) (SameAct c) (tests L most n s c) (refusals L most g c) → AsFrames L most n s g c
    unfolding step frame_step
    as-frames c i w h = go (verdict (refusals L most g c)) (lacks_room L n s c) refl refl (both-verdicts (lacks_room L n s c) (SameAct c) (tests L most n s c) (refusals L most g c) h)
      where
        v : ℕ
        v = verdict (tests L most n s c)

        go : (u : ℕ) (x : Bool) → verdict (refusals L most g c) ≡ u → lacks_room L n s c ≡ x → Verdicts x (SameAct c) v u → AsFrames L most n s g c
        go zero true q e r = let z : v ≡ 9 = (r.accepted refl).0 in record {
          answer = rw (z, q) (λ k. absurd (k refl));
          leaves = rw (z, q) (λ k. absurd (k refl));
          nine = rw (z, q) (λ k. (refl, ltb-true n (used L (act L s c).state.tree) e), λ k. refl);
          refusal = rw z (λ k x. refl);
          keeps = rw z i;
        }
        go zero false q e r = let z : v ≡ 0 = (r.accepted refl).0 in record {
          answer = rw (z, q) (λ k. (r.accepted refl).1.answer);
          leaves = rw (z, q) (λ k. (r.accepted refl).1.leaves);
          nine = rw (z, q) (λ k. absurd (never-refused s c 9 k), λ k. absurd (omega (arith, k.1, ltb-false n (used L (act L s c).state.tree) e)));
          refusal = rw z (λ k x. absurd (never-refused s c k x));
          keeps = rw z ((r.accepted refl).1.keeps (ltb-false n (used L (act L s c).state.tree) e));
        }
        go (suc u) x q e r = let z : v ≡ suc u = r.kept (omega arith) in record {
          answer = rw (z, q) (λ k. refl);
          leaves = rw (z, q) (λ k. w);
          nine = rw (z, q) (λ k. absurd (let y : suc u ≡ 9 = cc in omega (arith, r.low)), λ k. absurd (omega (arith, k.0)));
          refusal = rw z (λ k x. refl);
          keeps = rw z i;
        }

    module _ (i : SoundState L most n s) (w : Same L (shown L s) g) where
      -- the tree offers a block of a code exactly if the frame store has one
      pub offered : (d : ℕ) → d ≤ top L → (suc d ≤ largest (top L) s.tree) ↔ (lowest_free L g.free (suc d) < blocks L (suc d))
      offered d deep = (
        λ h. let q = pick-lowest L (top L) d s.tree i.sound h in
            (lowest_free-le L g.free d deep (pick L (top L) d s.tree) q.aligned q.fits (λ f x y. sym (w.frames f (omega (arith, q.fits))) ∙ q.whole f x y)).1,
        λ h. let q = lowest_free-lowest L g.free d deep h in
            block-largest L (top L) d s.tree (lowest_free L g.free (suc d) * frames L d) i.sound deep q.aligned q.fits (λ f x y. w.frames f (omega (arith, q.fits)) ∙ q.whole f x y),
      )

      -- ... and deals the same
      same_block : (d : ℕ) → d ≤ top L → suc d ≤ largest (top L) s.tree → pick L (top L) d s.tree ≡ lowest_free L g.free (suc d) * frames L d
      same_block d deep h = lowest-same (free L (top L) s.tree) g.free (memory L) (frames L d) (pick L (top L) d s.tree) (lowest_free L g.free (suc d) * frames L d) w.frames
          (pick-lowest L (top L) d s.tree i.sound h) (lowest_free-lowest L g.free d deep ((offered d deep).0 h))

      -- the largest free code is the tree's
      same_largest : (c : ℕ) → c ≤ suc (top L) → largest (top L) s.tree ≤ c → largest_free L g.free c ≡ largest (top L) s.tree
      unfolding largest_free
      same_largest zero l h = omega arith
      same_largest (suc c) l h = go (ltb (lowest_free L g.free (suc c)) (blocks L (suc c))) refl (dec_lt c (largest (top L) s.tree)) (same_largest c (omega arith))
        where
          go : (v : Bool) → ltb (lowest_free L g.free (suc c)) (blocks L (suc c)) ≡ v → Dec (c < largest (top L) s.tree)
              → (largest (top L) s.tree ≤ c → largest_free L g.free c ≡ largest (top L) s.tree) → largest_free L g.free (suc c) ≡ largest (top L) s.tree
          go true e k ih = rw (e, largest_free) (omega (arith, (offered c (omega arith)).1 (ltb-true (lowest_free L g.free (suc c)) (blocks L (suc c)) e)))
          go false e (yes k) ih = absurd (omega (arith, (offered c (omega arith)).0 k, ltb-false (lowest_free L g.free (suc c)) (blocks L (suc c)) e))
          go false e (no k) ih = rw (e, largest_free) (ih (omega arith))

      -- test 4, of a region that is not empty
      pub same-apart : (a e : ℕ) → a < e → apart a e s.regions ≡ bare (seeded g.regions) a (e - a)
      same-apart a e l =
          let x = apart-iff (memory L) a e s.regions i.fit l in
          let y = bare-iff (seeded s.regions) a (e - a) in
          same_test (apart a e s.regions) (bare (seeded s.regions) a (e - a)) (λ h. y.1 (x.0 h)) (λ h. x.1 (y.0 h))
          ∙ ap (λ (rs : List Region). bare (seeded rs) a (e - a)) w.regions

      -- test 6
      pub same-covered : (b m : ℕ) → covered s.regions b m ≡ whole (seeded g.regions) b m
      same-covered b m =
          let x = covered-iff (memory L) b m s.regions i.fit in
          let y = whole-iff (seeded s.regions) b m in
          same_test (covered s.regions b m) (whole (seeded s.regions) b m) (λ h. y.1 (x.0 h)) (λ h. x.1 (y.0 h))
          ∙ ap (λ (rs : List Region). whole (seeded rs) b m) w.regions

      -- test 7, of a block in memory
      pub same-free : (d b : ℕ) → BlockIn L (top L) d b → any_free L (top L) d s.tree b ≡ not (bare g.free b (frames L d))
      same-free d b p = go (any_free L (top L) d s.tree b) refl
        where
          go : (v : Bool) → any_free L (top L) d s.tree b ≡ v → any_free L (top L) d s.tree b ≡ not (bare g.free b (frames L d))
          go true e = let r = any_free-true L (top L) d s.tree b i.sound p e in
              e ∙ sym (ap not (not-bare g.free b (frames L d) r.0 r.1 r.2 (sym (w.frames r.0 (omega (arith, p.fits, r.2))) ∙ r.3)))
          go false e = e ∙ sym (ap not ((bare-iff g.free b (frames L d)).1 (λ f x y. sym (w.frames f (omega (arith, p.fits))) ∙ any_free-false L (top L) d s.tree b i.sound p e f x y)))

      -- the tree's change of a block shows the frame store's
      same-change : (t : Tree (top L)) (b m : ℕ) (v : Bool) → Changed (free L (top L) s.tree) (free L (top L) t) (memory L) b m v
          → Same L (shown L (record { tree = t; regions = s.regions })) (record { free = paint b m v g.free; regions = g.regions })
      same-change t b m v c = record {
        regions = w.regions;
        frames = changed-same (free L (top L) s.tree) (free L (top L) t) g.free (paint b m v g.free) (memory L) b m v c (painted g.free (memory L) b m v) w.frames;
      }

      -- an accepted seed does the same
      act-seed : (a e : ℕ) → a < e → e ≤ memory L → length s.regions < most → Wholly (seeded s.regions) a (e - a) false → SameAct (seed a e)
      unfolding act frame_act seeded
      act-seed a e l h m x =
          let F = free L (top L) s.tree in
          let r = seed-done L (e - a) s.tree a e (e - a) i.sound (omega arith) h (omega arith) (unseeded-free most n s i a (e - a) (omega arith) x) in
          record {
            answer = refl;
            leaves = record { regions = ap {B = List Region} (λ rs. record { start = a; end = e } ∷ rs) w.regions; frames = (same-change (seed_from L (e - a) s.tree a e) a (e - a) true r.0).frames };
            keeps = λ k. record {
              sound = r.1;
              room = k;
              fit = (record { some = l; ends = h; alone = x }, i.fit);
              few = m;
              inside = inside-changed (seeded s.regions) F (paint a (e - a) true (seeded s.regions)) (free L (top L) (seed_from L (e - a) s.tree a e)) (memory L) a (e - a) true
                  (λ y. (painted (seeded s.regions) (memory L) a (e - a) true).inside) (painted-more a (e - a) (seeded s.regions)) r.0 i.inside;
            };
          }

      -- a sound tree with a block changed beside the same regions is a sound state
      sound-changed : (t : Tree (top L)) (b m : ℕ) (v : Bool) → (v ≡ true → Wholly (seeded s.regions) b m true) → Changed (free L (top L) s.tree) (free L (top L) t) (memory L) b m v
          → Sound L (top L) t → used L t ≤ n → SoundState L most n (record { tree = t; regions = s.regions })
      sound-changed t b m v k c x r = record {
        sound = x;
        room = r;
        fit = i.fit;
        few = i.few;
        inside = inside-changed (seeded s.regions) (free L (top L) s.tree) (seeded s.regions) (free L (top L) t) (memory L) b m v k (λ f e. e) c i.inside;
      }

      -- ... an acquire
      act-acquire : (d : ℕ) → d ≤ top L → suc d ≤ largest (top L) s.tree → SameAct (acquire (suc d))
      unfolding act frame_act
      act-acquire d deep h =
          let q = pick-lowest L (top L) d s.tree i.sound h in
          let b = pick L (top L) d s.tree in
          let r = remove-done L (top L) d s.tree b i.sound (record { deep = deep; aligned = q.aligned; fits = q.fits }) q.whole in
          record {
            answer = rw (same_block d deep h);
            leaves = rw (← same_block d deep h) (same-change (remove L (top L) d s.tree b) b (frames L d) false r.0);
            keeps = sound-changed (remove L (top L) d s.tree b) b (frames L d) false (λ e. absurd (false≢true e)) r.0 r.1;
          }

      -- ... a release
      act-release : (b d : ℕ) → BlockIn L (top L) d b → covered s.regions b (frames L d) ≡ true → any_free L (top L) d s.tree b ≡ false → SameAct (release b (suc d))
      unfolding act frame_act
      act-release b d p k h =
          let r = store-done L (top L) d s.tree b i.sound p (any_free-false L (top L) d s.tree b i.sound p h) in
          record {
            answer = refl;
            leaves = same-change (store L (top L) d s.tree b) b (frames L d) true r.0;
            keeps = sound-changed (store L (top L) d s.tree b) b (frames L d) true (λ e. (covered-iff (memory L) b (frames L d) s.regions i.fit).0 k) r.0 r.1;
          }

      -- ... a report
      act-report : SameAct report
      unfolding act frame_act
      act-report = record { leaves = w; answer = rw (x, y, z); keeps = λ r. i }
        where
          x : seeded_frames s.regions ≡ count (seeded g.regions) (memory L)
          x = sym (seeded-count (memory L) s.regions i.fit) ∙ ap (λ (rs : List Region). count (seeded rs) (memory L)) w.regions

          y : free_frames L (top L) s.tree ≡ count g.free (memory L)
          y = free_frames-count L (top L) s.tree i.sound ∙ count_same (free L (top L) s.tree) g.free (memory L) w.frames

          z : largest (top L) s.tree ≡ largest_free L g.free (suc (top L))
          z = sym (same_largest (suc (top L)) (omega arith) (largest-le (top L) s.tree))

      -- the tests of each call stand beside the frame store's
      beside : (c : Call) → Beside (lacks_room L n s c) (SameAct c) (tests L most n s c) (refusals L most g c)
      unfolding tests refusals act
      beside (seed a e) = pair 2 refl refl (λ h₁. pair 3 refl refl (λ h₂. pair 5 refl (ap (λ (rs : List Region). leb most (length rs)) w.regions) (λ h₃.
          let some : a < e = leb-false e a h₁ in
          pair 4 refl (ap not (same-apart a e some)) (λ h₄.
          room (act-seed a e some (ltb-false (memory L) e h₂) (leb-false most (length s.regions) h₃) ((apart-iff (memory L) a e s.regions i.fit some).0 (not-false (apart a e s.regions) h₄)))))))
      beside (acquire zero) = pair 1 refl refl (λ h. absurd (true≢false h))
      beside (acquire (suc d)) = pair 1 refl refl (λ h₁. pair 1 refl refl (λ h₂.
          let deep = le_of_suc-le-suc (ltb-false (suc (top L)) (suc d) h₂) in
          pair 8 refl (same-order (largest (top L) s.tree) (suc d) (lowest_free L g.free (suc d)) (blocks L (suc d)) (offered d deep)) (λ h₃.
          room (act-acquire d deep (ltb-false (largest (top L) s.tree) (suc d) h₃)))))
      beside (release b zero) = pair 1 refl refl (λ h. absurd (true≢false h))
      beside (release b (suc d)) = pair 1 refl refl (λ h₁. pair 1 refl refl (λ h₂. pair 2 refl refl (λ h₃. pair 3 refl refl (λ h₄.
          pair 6 refl (ap not (same-covered b (frames L d))) (λ h₅.
          let p = block-stands L b d (le_of_suc-le-suc (ltb-false (suc (top L)) (suc d) h₂)) h₃ h₄ in
          pair 7 refl (same-free d b p) (λ h₆. room (act-release b d p (not-false (covered s.regions b (frames L d)) h₅) h₆)))))))
      beside report = ends (le-ltb n (used L s.tree) i.room) act-report

pub demand2 : (L : Ladder) (most n : ℕ) → Demand2 L most n
demand2 L most n s g i w c = as-frames L most n s g c i w (beside L most n s g i w c)
