-- Demand 2 beside the original: after the same calls from a fresh store it never panics, and each page dealt and each 'out of pages' is its own. Assumes a ladder of at most 7 codes whose sizes multiply up and are below 2^64.
use Rattle.std.specs.Prelude.{if◌then◌else◌}
use mathlib.Core.Path.{◌≡◌, refl, sym, ap, ap₂, ◌∙◌, subst, fun_ext}
use mathlib.Core.Bool.{Bool, true, false, cond}
use mathlib.Core.List.{List, [], ◌∷◌}
use Prim.Native.Nat.{ℕ, suc, ◌≤◌, ◌<◌}
use native.Mathlib.Omega.{arith}
use lib.ListN.{length}
use Rattle.sizes.specs.Ladder.{Ladder}
use Rattle.sizes.specs.Laws.{MultipliesUp}
use Rattle.model.specs.Ladder.{top}
use Rattle.model.specs.Calls.{Call, seed, acquire, release, report, Answer, refused}
use Rattle.model.specs.TreeStore.{State as TreeState, fresh as fresh_tree, step}
use Rattle.model.specs.Rust.{Ends, gives, ◌>>=◌}
use Rattle.model.specs.Original.{empty_allocator}
use Rattle.model.specs.AsOriginal.{may_make, Said, Told, Addressable, Allocator, original, told, originals, tellings, transcript}
use Rattle.model.proofs.AsOriginal.{skipped-originals, skipped-tellings}
use Rattle.model.proofs.AsOriginal.{as-original as tree-original}
use Rattle.pages.specs.Calls.{Store, Reply, plain, SoundStore, fresh_reply, Places, tree_of}
use Rattle.demands.specs.Demands.{in_frames, answer_of, unaligned, Runs, none, more, saids}
use Rattle.demands.proofs.Serves.{served-unaligned, served-steps, served-leaves}
use Rattle.demands.proofs.Rooted.{fresh-fits, fresh-is, rooted-tree}
use Rattle.demands.proofs.DemandThree.{fresh_keeps}

module _ (L : Ladder) where
  -- the original tells the same of both lists, and so did the store
  record SameTold (xs ys : List Said) : Type 0 where
    by_original : (self : Allocator L) → originals L xs self ≡ originals L ys self
    by_store : tellings L xs ≡ tellings L ys

  -- one more call in front of both
  told_more : (x : Said) (xs ys : List Said) → SameTold xs ys → SameTold (x ∷ xs) (x ∷ ys)
  unfolding originals tellings
  told_more x xs ys k = record {
    by_original = λ self. ap (λ (f : Allocator L → Ends (List Told)). if may_make x.call x.answer
        then (do
          (result, next) ← original L x.call self
          results ← f next
          gives (result ∷ results))
        else f self) (fun_ext k.by_original);
    by_store = ap (λ (rs : List Told). if may_make x.call x.answer then told L x.call x.answer ∷ rs else rs) k.by_store;
  }

  -- one that may not be made in front of the first
  told-skipped : (x : Said) (xs ys : List Said) → may_make x.call x.answer ≡ false → SameTold xs ys → SameTold (x ∷ xs) ys
  told-skipped x xs ys e k = record { by_original = λ self. skipped-originals L x xs self e ∙ k.by_original self; by_store = skipped-tellings L x xs e ∙ k.by_store }

-- a call that is refused by 2 may not be made
unmade : (c : Call) → may_make c (refused 2) ≡ false
unmade (seed a e) = refl
unmade (acquire c) = refl
unmade (release b c) = refl
unmade report = refl

module _ (L : Ladder) (most limit : ℕ) where
  -- the calls without an unaligned address, in frames
  unfoldable framed : List Call → List Call
  framed [] = []
  framed (c ∷ cs) = cond (unaligned L most limit c) (framed cs) (in_frames L most limit c ∷ framed cs)

  module _ (m : MultipliesUp L) (small : suc (top L) < 8) where
    -- a run on a sound store is told as the tree store's run of these
    same-told : (s t : Store) (cs : List Call) (rs : List Reply) → Places L most limit s → SoundStore L most limit s → Runs L most limit s cs rs t
        → SameTold L (saids L most limit cs rs) (transcript L most (length s.pool) (framed cs) (tree_of L most limit s))
    unfolding framed transcript
    same-told s t cs rs a h none = record { by_original = λ self. refl; by_store = refl }
    same-told s t cs rs a h (more {cs = cs'} {rs = rs'} c r q w) =
        let v = served-leaves L most limit m small s c a h in
        let x = ap (λ (z : Reply). z.store) (sym (q.sound h)) in
        go (unaligned L most limit c) refl (same-told r.store t cs' rs' (subst (Places L most limit) x v.places) (subst (SoundStore L most limit) x v.sound) w)
      where
        go : (x : Bool) → unaligned L most limit c ≡ x → SameTold L (saids L most limit cs' rs') (transcript L most (length r.store.pool) (framed cs') (tree_of L most limit r.store))
            → SameTold L (saids L most limit (c ∷ cs') (r ∷ rs')) (transcript L most (length s.pool) (cond x (framed cs') (in_frames L most limit c ∷ framed cs')) (tree_of L most limit s))
        go true o ih =
            let y : r ≡ plain 2 s = q.sound h ∙ served-unaligned L most limit m small s c o in
            let k : may_make (in_frames L most limit c) (answer_of L most limit c r) ≡ false = rw y (unmade (in_frames L most limit c)) in
            told-skipped L (record { call = in_frames L most limit c; answer = answer_of L most limit c r }) (saids L most limit cs' rs') (transcript L most (length s.pool) (framed cs') (tree_of L most limit s)) k
            (subst (λ (z : Reply). SameTold L (saids L most limit cs' rs') (transcript L most (length z.store.pool) (framed cs') (tree_of L most limit z.store))) y ih)
        go false o ih =
            let y = q.sound h in
            let n = length s.pool in
            let w = served-steps L most limit m small s c a h o in
            let u = step L most n (tree_of L most limit s) (in_frames L most limit c) in
            let size : length r.store.pool ≡ n = ap (λ (z : Reply). length z.store.pool) y ∙ (served-leaves L most limit m small s c a h).length in
            let tree : tree_of L most limit r.store ≡ u.state = ap (λ (z : Reply). tree_of L most limit z.store) y ∙ w.tree in
            let answer : answer_of L most limit c r ≡ u.answer = ap (answer_of L most limit c) y ∙ w.answer in
            subst (λ (zs : List Said). SameTold L (saids L most limit (c ∷ cs') (r ∷ rs')) zs)
            (ap₂ (λ (z : Answer) (zs : List Said). record { call = in_frames L most limit c; answer = z } ∷ zs) answer (ap₂ (λ (k : ℕ) (z : TreeState L). transcript L most k (framed cs') z) size tree))
            (told_more L (record { call = in_frames L most limit c; answer = answer_of L most limit c r }) (saids L most limit cs' rs') (transcript L most (length r.store.pool) (framed cs') (tree_of L most limit r.store)) ih)

    -- a fresh store holds the fresh tree
    fresh-tree : (p : List ℕ) → (fresh_reply L most limit p).refusal ≡ 0 → tree_of L most limit (fresh_reply L most limit p).store ≡ fresh_tree L
    fresh-tree p e = let b = fresh-fits L most limit p e in rw (fresh-is L most limit p b.0 b.1) (rooted-tree L most limit m small p b.0)

    -- EACH PAGE DEALT AND EACH 'OUT OF PAGES' IS THE ORIGINAL'S
    pub as-original : Addressable L → (p : List ℕ) → (fresh_reply L most limit p).refusal ≡ 0 → (cs : List Call) (rs : List Reply) (s : Store) → Runs L most limit (fresh_reply L most limit p).store cs rs s
        → originals L (saids L most limit cs rs) (empty_allocator (suc (top L))) ≡ gives (tellings L (saids L most limit cs rs))
    as-original w p e cs rs s u =
        let k = fresh_keeps L most limit m small p e in
        let n = length (fresh_reply L most limit p).store.pool in
        let some : 1 ≤ n = omega (arith, k.sound.low, k.sound.high) in
        let i = subst (λ (t : TreeState L). SameTold L (saids L most limit cs rs) (transcript L most n (framed cs) t)) (fresh-tree p e) (same-told (fresh_reply L most limit p).store s cs rs k.places k.sound u) in
        i.by_original (empty_allocator (suc (top L))) ∙ tree-original L most n m w some (framed cs) ∙ ap gives (sym i.by_store)
