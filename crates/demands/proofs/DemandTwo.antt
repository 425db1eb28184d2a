-- Demand 2 on words: the replies on a sound store are the frame store's, asked in bytes. Assumes a ladder of at most 7 codes whose sizes multiply up.
use mathlib.Core.Path.{◌≡◌, refl, sym, ◌∙◌, subst}
use mathlib.Core.Logic.Iff
use mathlib.Core.Logic.{inl, inr, ◌↔◌, ◌≢◌}
use mathlib.Core.Bool.{Bool, true, false}
use mathlib.Core.List.{[], ◌∷◌}
use Prim.Native.Nat.{ℕ, zero, suc, pred, ◌*◌, ◌≤◌, ◌<◌}
use native.Mathlib.Omega.{arith}
use native.Mathlib.Nat.{zero-mod, le_of_suc-le-suc}
use native.Mathlib.Decide.{dec_lt}
use lib.Dec.{leb, ltb}
use borrow.Author.Tests.{ltb-false, leb-true, leb-false, le-ltb, le-leb, ne_eqb}
use Rattle.sizes.specs.Ladder.{Ladder, smallest, bytes, address_frame}
use Rattle.sizes.specs.Laws.{MultipliesUp}
use Rattle.model.specs.Ladder.{top, probes}
use Rattle.model.specs.Frames.{Lowest}
use Rattle.model.specs.Calls.{Call, seed, acquire, release, report, refused, dealt, refuse, verdict}
use Rattle.model.specs.FrameStore.{Frames, memory, size, blocks, lowest_free, Same, frame_act, frame_step, refusals as frame_refusals}
use Rattle.model.specs.TreeStore.{State as TreeState}
use Rattle.model.specs.Demands.{shown as tree_shown}
use Rattle.model.proofs.FrameStore.{frame_laws, same_self}
use Rattle.model.proofs.Ladder.{largest-top}
use Rattle.model.proofs.Verdict.{never}
use Rattle.pages.specs.Frames.{is_free}
use Rattle.pages.specs.Calls.{Store, Reply, SoundStore, shown, served, Replies, Places, tree_of}
use Rattle.demands.specs.Demands.{in_frames, result_of, answer_of, unaligned, FreeBlock, NoCode, AsFrames, Lowest-first}
use Rattle.pages.proofs.Shown.{shown-same}
use Rattle.demands.proofs.Serves.{frame-never, as-frames, served-unaligned, served-steps, served-leaves}

-- ---- the frame store
module _ (L : Ladder) (most : ℕ) (g : Frames) where
  -- two that show the same frames as a third
  same_by : (h k : Frames) → Same L g h → Same L g k → Same L h k
  same_by h k x y = record { regions = sym x.regions ∙ y.regions; frames = λ f l. sym (x.frames f l) ∙ y.frames f l }

  -- its answer is a refusal exactly if its verdict is
  frame-verdict : (c : Call) (k : ℕ) → ((frame_step L most g c).answer ≡ refused (suc k)) ↔ (verdict (frame_refusals L most g c) ≡ suc k)
  unfolding frame_step
  frame-verdict c k = (λ e. go (verdict (frame_refusals L most g c)) refl e, λ e. rw e)
    where
      go : (v : ℕ) → verdict (frame_refusals L most g c) ≡ v → (frame_step L most g c).answer ≡ refused (suc k) → v ≡ suc k
      go zero e q = absurd (frame-never L g c (suc k) (rw e at q))
      go (suc v) e q = let z : refused (suc v) ≡ refused (suc k) = rw e at q in cc

  -- ... and none exactly if its verdict is 0
  frame-accepts : (c : Call) → (verdict (frame_refusals L most g c) ≡ 0) ↔ ((k : ℕ) → (frame_step L most g c).answer ≢ refused k)
  unfolding frame_step
  frame-accepts c = (λ e k q. frame-never L g c k (rw e at q), λ n. go (verdict (frame_refusals L most g c)) refl n)
    where
      go : (v : ℕ) → verdict (frame_refusals L most g c) ≡ v → ((k : ℕ) → (frame_step L most g c).answer ≢ refused k) → v ≡ 0
      go zero e n = refl
      go (suc v) e n = absurd (n (suc v) (rw e))

  -- an acquire that is not refused by 1 names a code
  coded : (c : ℕ) → verdict (frame_refusals L most g (acquire c)) ≢ 1 → (d : ℕ) × (c ≡ suc d) × (d ≤ top L)
  unfolding frame_refusals
  coded zero h = absurd (h refl)
  coded (suc d) h = go (ltb (suc (top L)) (suc d)) refl
    where
      go : (x : Bool) → ltb (suc (top L)) (suc d) ≡ x → (e : ℕ) × (suc d ≡ suc e) × (e ≤ top L)
      go true e = absurd (h (rw (ne_eqb (suc d) 0 (λ z. omega arith), e)))
      go false e = (d, refl, le_of_suc-le-suc (ltb-false (suc (top L)) (suc d) e))

  -- one whose code is one gets 8 or nothing, by its search
  searched : (d : ℕ) → d ≤ top L → verdict (frame_refusals L most g (acquire (suc d))) ≡ verdict (refuse 8 (leb (blocks L (suc d)) (lowest_free L g.free (suc d))) ∷ [])
  unfolding frame_refusals
  searched d l = rw (ne_eqb (suc d) 0 (λ z. omega arith), le-ltb (suc (top L)) (suc d) (omega arith))

  -- 8 exactly if the search finds none
  eight : (d : ℕ) → d ≤ top L → (verdict (frame_refusals L most g (acquire (suc d))) ≡ 8) ↔ (blocks L (suc d) ≤ lowest_free L g.free (suc d))
  eight d l = (
    λ e. go (leb (blocks L (suc d)) (lowest_free L g.free (suc d))) refl (sym (searched d l) ∙ e),
    λ h. searched d l ∙ rw (le-leb (blocks L (suc d)) (lowest_free L g.free (suc d)) h),
  )
    where
      go : (x : Bool) → leb (blocks L (suc d)) (lowest_free L g.free (suc d)) ≡ x → verdict (refuse 8 x ∷ []) ≡ 8 → blocks L (suc d) ≤ lowest_free L g.free (suc d)
      go true e q = leb-true (blocks L (suc d)) (lowest_free L g.free (suc d)) e
      go false e q = absurd (omega arith)

  -- and nothing only if it finds one
  found : (d : ℕ) → d ≤ top L → verdict (frame_refusals L most g (acquire (suc d))) ≡ 0 → lowest_free L g.free (suc d) < blocks L (suc d)
  found d l v = go (leb (blocks L (suc d)) (lowest_free L g.free (suc d))) refl (sym (searched d l) ∙ v)
    where
      go : (x : Bool) → leb (blocks L (suc d)) (lowest_free L g.free (suc d)) ≡ x → verdict (refuse 8 x ∷ []) ≡ 0 → lowest_free L g.free (suc d) < blocks L (suc d)
      go true e q = absurd (omega arith)
      go false e q = leb-false (blocks L (suc d)) (lowest_free L g.free (suc d)) e

  -- an accepted acquire deals the lowest block
  deals-lowest : (c : ℕ) → verdict (frame_refusals L most g (acquire c)) ≡ 0 → Lowest g.free (memory L) (size L c) (lowest_free L g.free c * size L c)
  deals-lowest c v = let x = coded c (λ e. omega (arith, v, e)) in rw x.1 ((frame_laws L g.free x.0 x.2).found (found x.0 x.2 (rw x.1 at v)))

  -- what the frame store deals is the lowest block
  dealt-base : (c b p : ℕ) → dealt b p ≡ (frame_step L most g (acquire c)).answer → Lowest g.free (memory L) (size L c) b
  unfolding frame_step frame_act
  dealt-base c b p q = go (verdict (frame_refusals L most g (acquire c))) refl
    where
      go : (v : ℕ) → verdict (frame_refusals L most g (acquire c)) ≡ v → Lowest g.free (memory L) (size L c) b
      go zero e =
          let z : dealt b p ≡ dealt (lowest_free L g.free c * size L c) (probes L (top L) (pred c) (lowest_free L g.free c * size L c)) = rw e at q in
          let i : b ≡ lowest_free L g.free c * size L c = cc in
          rw i (deals-lowest c e)
      go (suc v) e = let z : dealt b p ≡ refused (suc v) = rw e at q in absurd (never cc)

module _ (L : Ladder) (most limit : ℕ) where
  -- a reply's answer is a refusal exactly if its number is
  pub answer-refused : (c : Call) (r : Reply) (k : ℕ) → (r.refusal ≡ suc k) ↔ (answer_of L most limit c r ≡ refused (suc k))
  answer-refused c r k = (λ e. rw e, λ q. go r.refusal q)
    where
      result : (c : Call) → result_of L most limit c r ≡ refused (suc k) → ⊥
      result (seed a e) q = never cc
      result (acquire d) q = never cc
      result (release b d) q = never cc
      result report q = never cc

      go : (n : ℕ) → elim n [ zero ↦ result_of L most limit c r | suc i ↦ refused (suc i) ] ≡ refused (suc k) → n ≡ suc k
      go zero q = absurd (result c q)
      go (suc n) q = cc

  module _ (m : MultipliesUp L) (small : suc (top L) < 8) where
    module _ (s : Store) (a : Places L most limit s) (h : SoundStore L most limit s) where
      -- what is served is the frame store's
      served-frames : (c : Call) → AsFrames L most limit s c (served L most limit s c)
      served-frames c = go (unaligned L most limit c) refl
        where
          go : (x : Bool) → unaligned L most limit c ≡ x → AsFrames L most limit s c (served L most limit s c)
          go true o = rw (served-unaligned L most limit m small s c o) (record {
            answer = λ k. rw o;
            leaves = λ k. rw o (same_self L (shown L most limit s));
            bytes = (zero-mod (bytes L smallest), zero-mod (bytes L smallest), zero-mod (bytes L smallest));
            nine = (λ e. absurd (omega arith), λ e. absurd (e.0 2 (rw o)));
            keeps = h;
          })
          go false o =
              let w = served-steps L most limit m small s c a h o in
              let f = as-frames L most limit m small s c a h in
              let r = served L most limit s c in
              record {
                answer = λ k. rw o (w.answer ∙ f.answer (λ z. k ((answer-refused c r 8).1 (w.answer ∙ z))));
                leaves = λ k. rw o (same_by L most (tree_shown L (tree_of L most limit r.store)) (shown L most limit r.store) (frame_step L most (shown L most limit s) (in_frames L most limit c)).state
                    (shown-same L most limit m small r.store) (subst (λ (t : TreeState L). Same L (tree_shown L t) (frame_step L most (shown L most limit s) (in_frames L most limit c)).state) (sym w.tree) (f.leaves (λ z. k ((answer-refused c r 8).1 (w.answer ∙ z))))));
                bytes = (served-leaves L most limit m small s c a h).bytes;
                keeps = (served-leaves L most limit m small s c a h).sound;
                nine = (
                  λ e. let z = f.nine.0 (sym w.answer ∙ (answer-refused c r 8).0 e) in (rw o ((frame-accepts L most (shown L most limit s) (in_frames L most limit c)).0 z.0), z.1),
                  λ e. (answer-refused c r 8).1 (w.answer ∙ f.nine.1 ((frame-accepts L most (shown L most limit s) (in_frames L most limit c)).1 (rw o at e.0), e.1)),
                );
              }

      -- an acquire's number is 8 exactly if the frame store's is
      served-eight : (c : ℕ) (r : Reply) → AsFrames L most limit s (acquire c) r → (r.refusal ≡ 8) ↔ (verdict (frame_refusals L most (shown L most limit s) (acquire c)) ≡ 8)
      served-eight c r f = (
        λ e. (frame-verdict L most (shown L most limit s) (acquire c) 7).0 (sym (f.answer (λ z. absurd (omega arith))) ∙ (answer-refused (acquire c) r 7).0 e),
        λ v. let w = (frame-verdict L most (shown L most limit s) (acquire c) 7).1 v in (answer-refused (acquire c) r 7).1 (f.answer (λ z. (f.nine.0 z).0 8 w) ∙ w),
      )

      -- 8 exactly if no block of the code is free
      no_block : (c : ℕ) → (verdict (frame_refusals L most (shown L most limit s) (acquire c)) ≡ 8) ↔ ((NoCode L most limit c → ⊥) × ((b : ℕ) → FreeBlock L most limit s c b → ⊥))
      no_block zero = (λ v. absurd (let x = coded L most (shown L most limit s) 0 (λ e. omega (arith, v, e)) in omega (arith, x.1)), λ x. absurd (x.0 (inl refl)))
      no_block (suc d) = (
        λ v.
            let x = coded L most (shown L most limit s) (suc d) (λ e. omega (arith, v, e)) in
            let l : d ≤ top L = omega (arith, x.1, x.2) in
            (λ z. code l z, λ b f. (frame_laws L (is_free L s.pool) d l).none.0 ((eight L most (shown L most limit s) d l).0 v) b (record { deep = l; aligned = f.aligned; fits = f.fits }) f.whole),
        λ x. go (dec_lt (top L) d) x,
      )
        where
          code : d ≤ top L → NoCode L most limit (suc d) → ⊥
          code l (inl e) = omega arith
          code l (inr k) = omega (arith, k, largest-top L m)

          go : Dec (top L < d) → (NoCode L most limit (suc d) → ⊥) × ((b : ℕ) → FreeBlock L most limit s (suc d) b → ⊥) → verdict (frame_refusals L most (shown L most limit s) (acquire (suc d))) ≡ 8
          go (yes k) x = absurd (x.0 (inr (omega (arith, largest-top L m))))
          go (no k) x =
              let l : d ≤ top L = omega arith in
              (eight L most (shown L most limit s) d l).1 ((frame_laws L (is_free L s.pool) d l).none.1 (λ b p w. x.1 b (record { aligned = p.aligned; fits = p.fits; whole = w })))

      -- an acquire served so takes the lowest block
      as-lowest : (c : ℕ) (r : Reply) → AsFrames L most limit s (acquire c) r → Lowest-first L most limit s c r
      as-lowest c r f = record {
        deals = λ e. dealt-base L most (shown L most limit s) c (address_frame L r.base) r.probes (sym (rw e) ∙ f.answer (λ z. absurd (omega arith)));
        none = Iff.trans (served-eight c r f) (no_block c);
      }

module _ (L : Ladder) (most limit : ℕ) (m : MultipliesUp L) (small : suc (top L) < 8) (s : Store) (a : Places L most limit s) (h : SoundStore L most limit s) where
  -- every reply on a sound store is the frame store's
  pub replies-frames : (c : Call) (r : Reply) → Replies L most limit s c r → AsFrames L most limit s c r
  replies-frames c r q = rw (q.sound h) (served-frames L most limit m small s a h c)

  -- and an acquire takes the lowest block
  pub replies-lowest : (c : ℕ) (r : Reply) → Replies L most limit s (acquire c) r → Lowest-first L most limit s c r
  replies-lowest c r q = as-lowest L most limit m small s a h c r (replies-frames (acquire c) r q)
