-- The replies of a run say what the tree store says of the same calls in frames. Assumes a ladder of at most 7 codes whose sizes multiply up, and calls without an unaligned address.
use mathlib.Core.Path.{◌≡◌, refl, sym, ap, ap₂, ◌∙◌, subst}
use mathlib.Core.Bool.{Bool, true, false, ◌&&◌, not, and-eq-true_iff}
use mathlib.Core.List.{List, [], ◌∷◌, map}
use Prim.Native.Nat.{ℕ, zero, suc, ◌*◌, ◌-◌, ◌%◌, ◌≤◌, ◌<◌}
use native.Mathlib.Omega.{arith}
use lib.ListN.{length, set, length-set}
use borrow.Author.Tests.{not-true}
use Rattle.sizes.specs.Ladder.{Ladder, smallest, largest, bytes, address_frame}
use Rattle.sizes.specs.Laws.{MultipliesUp}
use Rattle.model.specs.Ladder.{top}
use Rattle.model.specs.Calls.{Call, seed, acquire, release, report, Answer, refused, stored, dealt, reported}
use Rattle.model.specs.TreeStore.{State as TreeState, fresh, used, step}
use Rattle.pool.specs.Words.{pack}
use Rattle.pool.specs.Nodes.{words, seed_w}
use Rattle.pool.proofs.Regions.{frame-bytes}
use Rattle.pages.specs.Calls.{Store, Reply, settle, SoundStore, refusal_of, acted, served, Replies, fresh_reply, Places, tree_of}
use Rattle.demands.specs.Demands.{in_frames, answer_of, unaligned, Runs, none, more}
use Rattle.demands.specs.Fences.{Line, line, line_of}
use Rattle.pages.proofs.Decide.{sound-words}
use Rattle.pages.proofs.Laws.{pool-laws}
use Rattle.demands.proofs.Serves.{Steps, Leaves, served-steps, served-leaves}
use Rattle.demands.proofs.Rooted.{rooted, fresh-is, rooted-places, rooted-sound, rooted-tree}

-- the refusal of the first line, where there is one
abbrev heading : List Line → ℕ
heading [] = 0
heading (line n b k u ∷ ls) = n

module _ (L : Ladder) (most limit : ℕ) where
  -- the line of an answer in frames, with so many words used behind it
  abbrev pub told : Answer → (used : ℕ) → Line
  told (refused n) u = line n 0 0 u
  told stored u = line 0 0 0 u
  told (dealt b k) u = line 0 (b * bytes L smallest) k u
  told (reported x y z) u = line 0 0 0 u

  -- the tree store's lines, for a pool of n words
  unfoldable pub lines_from : (n : ℕ) → List Call → TreeState L → List Line
  lines_from n [] t = []
  lines_from n (c ∷ cs) t = let o = step L most n t (in_frames L most limit c) in told o.answer (used L o.state.tree) ∷ lines_from n cs o.state

  -- no call has an unaligned address
  abbrev pub aligned-calls : List Call → Bool
  aligned-calls [] = true
  aligned-calls (c ∷ cs) = not (unaligned L most limit c) && aligned-calls cs

  -- a reply that accepts is what the call does
  accepts : (s : Store) (c : Call) → (served L most limit s c).refusal ≡ 0 → served L most limit s c ≡ acted L most limit s c
  unfolding served
  accepts s c e = go (refusal_of L most limit s c) e
    where
      go : (k : ℕ) → (settle k s (acted L most limit s c)).refusal ≡ 0 → settle k s (acted L most limit s c) ≡ acted L most limit s c
      go zero q = refl
      go (suc k) q = absurd (omega arith)

  module _ (m : MultipliesUp L) (small : suc (top L) < 8) where
    -- what a call does says its line by its answer
    acted-told : (s : Store) (c : Call) → (acted L most limit s c).base % bytes L smallest ≡ 0
        → line_of (acted L most limit s c) ≡ told (answer_of L most limit c (acted L most limit s c)) (acted L most limit s c).store.state.used
    unfolding acted
    acted-told s (seed a e) h = refl
    acted-told s (acquire c) h = ap (λ (b : ℕ). line 0 b (acted L most limit s (acquire c)).probes (acted L most limit s (acquire c)).store.state.used) (sym (frame-bytes L m (acted L most limit s (acquire c)).base h))
    acted-told s (release b c) h = refl
    acted-told s report h = refl

    -- ... and so does its reply
    served-told : (s : Store) (c : Call) → (served L most limit s c).base % bytes L smallest ≡ 0
        → line_of (served L most limit s c) ≡ told (answer_of L most limit c (served L most limit s c)) (served L most limit s c).store.state.used
    unfolding served
    served-told s c h = go (refusal_of L most limit s c) h
      where
        go : (k : ℕ) → (settle k s (acted L most limit s c)).base % bytes L smallest ≡ 0
            → line_of (settle k s (acted L most limit s c)) ≡ told (answer_of L most limit c (settle k s (acted L most limit s c))) (settle k s (acted L most limit s c)).store.state.used
        go zero q = acted-told s c q
        go (suc k) q = refl

    -- the words used are the tree's
    used-tree : (s : Store) → Places L most limit s → SoundStore L most limit s → s.state.used ≡ used L (tree_of L most limit s).tree
    unfolding used
    used-tree s a h = (pool-laws L s.pool s.state.used small (sound-words L m most limit s.state.used s.state.starts s.state.ends s.pool a.starts a.ends h)).used

    -- what a reply on a sound store is and leaves
    record Replied (s : Store) (c : Call) (r : Reply) : Type 0 where
      steps : Steps L most limit s c r
      leaves : Leaves L most limit s r
      told : line_of r ≡ told (answer_of L most limit c r) r.store.state.used

    -- every reply is such a one
    replied : (s : Store) (c : Call) (r : Reply) → Places L most limit s → SoundStore L most limit s → unaligned L most limit c ≡ false → Replies L most limit s c r → Replied s c r
    replied s c r a h o q =
        let l = served-leaves L most limit m small s c a h in
        subst (Replied s c) (sym (q.sound h)) (record { steps = served-steps L most limit m small s c a h o; leaves = l; told = served-told s c l.bytes.0 })

    -- A RUN HAS THE TREE STORE'S LINES
    pub runs-lines : (s : Store) (cs : List Call) (rs : List Reply) (t : Store) → Places L most limit s → SoundStore L most limit s → aligned-calls cs ≡ true → Runs L most limit s cs rs t
        → map line_of rs ≡ lines_from (length s.pool) cs (tree_of L most limit s)
    unfolding lines_from
    runs-lines s cs rs t a h e none = refl
    runs-lines s cs rs t a h e (more {cs = ds} {rs = qs} c r q rest) =
        let x = (and-eq-true_iff (not (unaligned L most limit c)) (aligned-calls ds)).0 e in
        let i = replied s c r a h (not-true (unaligned L most limit c) x.0) q in
        let l = i.leaves in
        let u : r.store.state.used ≡ used L (step L most (length s.pool) (tree_of L most limit s) (in_frames L most limit c)).state.tree =
        used-tree r.store l.places l.sound ∙ ap (λ (y : TreeState L). used L y.tree) i.steps.tree in
        ap₂ (λ (y : Line) (ys : List Line). y ∷ ys) (i.told ∙ ap₂ told i.steps.answer u)
        (runs-lines r.store ds qs t l.places l.sound x.1 rest ∙ ap₂ (λ (n : ℕ) (y : TreeState L). lines_from n ds y) l.length i.steps.tree)

    -- from fresh
    module _ (p : List ℕ) (lo : 1 ≤ length p) (hi : length p ≤ limit) where
      -- what fresh leaves
      fresh-rooted : (fresh_reply L most limit p).store ≡ rooted L most limit p
      fresh-rooted = ap (λ (r : Reply). r.store) (fresh-is L most limit p lo hi)

      -- A RUN FROM FRESH HAS THE LINES OF THE FRESH TREE
      pub fresh_lines : (cs : List Call) (rs : List Reply) (s : Store) → aligned-calls cs ≡ true → Runs L most limit (fresh_reply L most limit p).store cs rs s → map line_of rs ≡ lines_from (length p) cs (fresh L)
      fresh_lines cs rs s e g =
          runs-lines (rooted L most limit p) cs rs s (rooted-places L most limit p) (rooted-sound L most limit m small p lo hi) e (subst (λ (t : Store). Runs L most limit t cs rs s) fresh-rooted g)
          ∙ ap₂ (λ (n : ℕ) (y : TreeState L). lines_from n cs y) (length-set p 0 (pack 0 0 (largest L) 0)) (rooted-tree L most limit m small p lo)

      -- the words of a pool that one accepted seed leaves
      pub seed-words : (a e : ℕ) (rs : List Reply) (s : Store) (u : ℕ) → Runs L most limit (fresh_reply L most limit p).store (seed a e ∷ []) rs s → map line_of rs ≡ line 0 0 0 u ∷ []
          → s.pool ≡ (seed_w L (address_frame L e - address_frame L a) (words (set p 0 (pack 0 0 (largest L) 0)) 1) (address_frame L a) (address_frame L e)).pool
      unfolding acted
      seed-words a e rs s u g q = go rs s (subst (λ (t : Store). Runs L most limit t (seed a e ∷ []) rs s) fresh-rooted g) q
        where
          go : (rs : List Reply) (s : Store) → Runs L most limit (rooted L most limit p) (seed a e ∷ []) rs s → map line_of rs ≡ line 0 0 0 u ∷ []
              → s.pool ≡ (seed_w L (address_frame L e - address_frame L a) (words (set p 0 (pack 0 0 (largest L) 0)) 1) (address_frame L a) (address_frame L e)).pool
          go rs s (more c r q none) x =
              let v : r ≡ served L most limit (rooted L most limit p) (seed a e) = q.sound (rooted-sound L most limit m small p lo hi) in
              let z : (served L most limit (rooted L most limit p) (seed a e)).refusal ≡ 0 = sym (ap (λ (y : Reply). y.refusal) v) ∙ ap heading x in
              ap (λ (y : Reply). y.store.pool) (v ∙ accepts (rooted L most limit p) (seed a e) z)
