-- What was dealt can be given back: behind an accepted acquire no call shuts the way to the page, so its release opens nothing and never lacks pool room. Assumes a ladder of at most 7 codes whose sizes multiply up.
use mathlib.Core.Path.{◌≡◌, refl, sym, ap, ◌∙◌, subst}
use mathlib.Core.Logic.{◌⊎◌, inl, inr, ◌≢◌}
use mathlib.Core.Bool.{Bool, true, false, true≢false}
use mathlib.Core.List.{List}
use Prim.Native.Nat.{ℕ, zero, suc, pred, ◌+◌, ◌*◌, ◌%◌, ◌≤◌, ◌<◌}
use native.Mathlib.Omega.{arith}
use native.Mathlib.Nat.{add-mul, lt_of_mul-lt-mul_right, le_of_mul-le-mul_right}
use lib.ListN.{length}
use borrow.Author.Tests.{ltb-false, eqb-false}
use Rattle.sizes.specs.Ladder.{Ladder, smallest, largest, bytes, address_frame}
use Rattle.sizes.specs.Laws.{MultipliesUp}
use Rattle.model.specs.Ladder.{frames, top}
use Rattle.model.specs.Calls.{Call, acquire, release, verdict}
use Rattle.model.specs.FrameStore.{Frames, refusals as frame_refusals}
use Rattle.model.specs.TreeStore.{State as TreeState, used, act}
use Rattle.model.specs.Demands.{SoundState}
use Rattle.model.proofs.Ladder.{frames-pos, bytes-is, largest-top}
use Rattle.model.proofs.FrameRuns.{releasable}
use Rattle.model.proofs.Verdict.{clear}
use Rattle.model.proofs.Paths.{Way, way_up, way_step, way-dealt, way-used}
use Rattle.pool.proofs.Regions.{frame-bytes}
use Rattle.pages.specs.Calls.{Store, Reply, plain, SoundStore, shown, Replies, Places, tree_of}
use Rattle.pages.proofs.Shown.{sound-state}
use Rattle.demands.specs.Demands.{in_frames, unaligned, Runs, none, more}
use Rattle.demands.specs.Room.{GivesBack}
use Rattle.demands.proofs.Aligned.{Aligned, unaligned-or, refusals-none}
use Rattle.demands.proofs.Serves.{Steps, Leaves, as-frames, served-unaligned, served-steps, served-leaves}
use Rattle.demands.proofs.DemandTwo.{answer-refused}

module _ (L : Ladder) (most limit : ℕ) (m : MultipliesUp L) (small : suc (top L) < 8) where
  -- the bytes of a code are its frames'
  bytes_of : (c : ℕ) → c ≢ 0 → c ≤ largest L → bytes L c ≡ frames L (pred c) * bytes L smallest
  bytes_of zero h k = absurd (h refl)
  bytes_of (suc d) h k = bytes-is L m d k

  -- a release that the frame store accepts names a code
  coded : (g : Frames) (b c : ℕ) → verdict (frame_refusals L most g (release b c)) ≡ 0 → (c ≢ 0) × (c ≤ largest L)
  unfolding frame_refusals
  coded g b c v = let t = clear (frame_refusals L most g (release b c)) (omega arith) v in (eqb-false c 0 t.0, omega (arith, ltb-false (suc (top L)) c t.1.0, largest-top L m))

  -- where a page lies in a block, in bytes, its frame does
  frame-in : (b x c : ℕ) → c ≢ 0 → c ≤ largest L → b % bytes L smallest ≡ 0 → x % bytes L smallest ≡ 0 → b ≤ x → x < b + bytes L c
      → (address_frame L b ≤ address_frame L x) × (address_frame L x < address_frame L b + frames L (pred c))
  frame-in b x c i k h j p q =
      let n = bytes L smallest in
      let s = frames L (pred c) in
      let B = address_frame L b in
      let X = address_frame L x in
      let hb = frame-bytes L m b h in
      let hx = frame-bytes L m x j in
      let low : B * n ≤ X * n = omega (arith, hb, hx) in
      let high : X * n < (B + s) * n = omega (arith, hb, hx, add-mul B s n, bytes_of c i k) in
      (le_of_mul-le-mul_right low m.page, lt_of_mul-lt-mul_right n high)

  -- a sound store with the way to the block of code suc d at frame x open
  record Open (d x : ℕ) (s : Store) : Type 0 where
    places : Places L most limit s
    sound : SoundStore L most limit s
    way : Way L (top L) d (tree_of L most limit s).tree x

  -- what a call leaves
  left : (s : Store) → Places L most limit s → SoundStore L most limit s → (c : Call) (r : Reply) → Replies L most limit s c r → Leaves L most limit s r
  left s a h c r q = subst (Leaves L most limit s) (sym (q.sound h)) (served-leaves L most limit m small s c a h)

  -- a call without an unaligned address is the tree store's step
  stepped : (s : Store) → Places L most limit s → SoundStore L most limit s → (c : Call) (r : Reply) → Replies L most limit s c r → unaligned L most limit c ≡ false → Steps L most limit s c r
  stepped s a h c r q o = subst (Steps L most limit s c) (sym (q.sound h)) (served-steps L most limit m small s c a h o)

  -- every call keeps the way open
  open_next : (d x : ℕ) (s : Store) → Open d x s → (c : Call) (r : Reply) → Replies L most limit s c r → Open d x r.store
  open_next d x s k c r q = go (unaligned L most limit c) refl
    where
      go : (y : Bool) → unaligned L most limit c ≡ y → Open d x r.store
      go true o = let e : r ≡ plain 2 s = q.sound k.sound ∙ served-unaligned L most limit m small s c o in rw e k
      go false o =
          let l = left s k.places k.sound c r q in
          let e = (stepped s k.places k.sound c r q o).tree in
          record {
            places = l.places;
            sound = l.sound;
            way = subst (λ (t : TreeState L). Way L (top L) d t.tree x) (sym e) (way_step L most (length s.pool) (tree_of L most limit s) (in_frames L most limit c) d x k.way);
          }

  -- so do all calls
  open-run : (d x : ℕ) (s t : Store) (cs : List Call) (rs : List Reply) → Open d x s → Runs L most limit s cs rs t → Open d x t
  open-run d x s t cs rs k none = k
  open-run d x s t cs rs k (more {cs = cs'} {rs = rs'} c r q w) = open-run d x r.store t cs' rs' (open_next d x s k c r q) w

  -- an accepted acquire opens the way to the page that it deals
  open-dealt : (s : Store) → Places L most limit s → SoundStore L most limit s → (k : ℕ) (d : Reply) → Replies L most limit s (acquire k) d → d.refusal ≡ 0 → Open (pred k) (address_frame L d.base) d.store
  open-dealt s a h k d q z =
      let l = left s a h (acquire k) d q in
      let w = stepped s a h (acquire k) d q refl in
      let y = way-dealt L most (length s.pool) (tree_of L most limit s) k (address_frame L d.base) d.probes (sound-state L most limit m small s a h).sound (sym w.answer ∙ rw z) in
      record {
        places = l.places;
        sound = l.sound;
        way = subst (λ (t : TreeState L). Way L (top L) (pred k) t.tree (address_frame L d.base)) (sym w.tree) y;
      }

  -- where the way to a page is open, a release of a block that has it never lacks pool room
  open-release : (t : Store) (k x b c : ℕ) → x % bytes L smallest ≡ 0 → Open (pred k) (address_frame L x) t → k ≤ c → b ≤ x → x < b + bytes L c → (r : Reply) → Replies L most limit t (release b c) r → r.refusal ≢ 9
  open-release t k x b c h o l p u r q z = go (unaligned L most limit (release b c)) refl
    where
      T : TreeState L
      T = tree_of L most limit t

      state : SoundState L most (length t.pool) T
      state = sound-state L most limit m small t o.places o.sound

      -- 9 says that the frame store accepts it, and that the tree behind it has more words than the pool
      lacks : unaligned L most limit (release b c) ≡ false → (verdict (frame_refusals L most (shown L most limit t) (release (address_frame L b) c)) ≡ 0) × (length t.pool < used L (act L T (release (address_frame L b) c)).state.tree)
      lacks e = (as-frames L most limit m small t (release b c) o.places o.sound).nine.0 (sym (stepped t o.places o.sound (release b c) r q e).answer ∙ (answer-refused L most limit (release b c) r 8).0 z)

      -- but it has no more than the tree before it
      full : b % bytes L smallest ≡ 0 → verdict (frame_refusals L most (shown L most limit t) (release (address_frame L b) c)) ≡ 0
          → length t.pool < used L (act L T (release (address_frame L b) c)).state.tree → ⊥
      full e v w =
          let B = address_frame L b in
          let X = address_frame L x in
          let y = (releasable L most (shown L most limit t) B c v).stands in
          let n = coded (shown L most limit t) B c v in
          let f = frame-in b x c n.0 n.1 e h p u in
          let g = way_up L (top L) (pred k) (pred c) T.tree X B (omega (arith, l)) y.aligned f.0 f.1 o.way in
          omega (arith, w, state.room, way-used L T B c state.sound (omega (arith, y.fits, frames-pos L (pred c))) g)

      -- a release whose code is none is not accepted
      by : (verdict (frame_refusals L most (shown L most limit t) (release (address_frame L b) c)) ≡ 0) × (length t.pool < used L (act L T (release (address_frame L b) c)).state.tree)
          → (unaligned L most limit (release b c) ≡ true) ⊎ (Aligned L (release b c) ⊎ ((b' k' : ℕ) × (release b c ≡ release b' k') × ((k' ≡ 0) ⊎ (largest L < k')))) → unaligned L most limit (release b c) ≡ false → ⊥
      by n (inl e) f = true≢false (sym e ∙ f)
      by n (inr (inl e)) f = full e n.0 n.1
      by n (inr (inr y)) f =
          let i : y.1 ≡ c = let j = y.2 in cc in
          omega (arith, n.0, (refusals-none L most limit m small (shown L most limit t) b c (rw i at y.3)).1)

      -- nor is one with an unaligned address
      go : (y : Bool) → unaligned L most limit (release b c) ≡ y → ⊥
      go true e = let i : r ≡ plain 2 t = q.sound o.sound ∙ served-unaligned L most limit m small t (release b c) e in omega (arith, z, ap (λ (r : Reply). r.refusal) i)
      go false e = by (lacks e) (unaligned-or L most limit m small (release b c)) e

  -- WHAT WAS DEALT CAN BE GIVEN BACK
  pub gives_back : GivesBack L most limit
  gives_back s a h k d q z cs rs t w b c l p u r q' =
      open-release t k d.base b c (left s a h (acquire k) d q).bytes.0 (open-run (pred k) (address_frame L d.base) d.store t cs rs (open-dealt s a h k d q z) w) l p u r q'
