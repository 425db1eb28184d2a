-- What a take and a store do to the free frames, and that they keep the tree sound. Assumes nothing.
use mathlib.Core.Path.{◌≡◌, refl, sym, ◌∙◌}
use mathlib.Core.Logic.{◌⊎◌, inl, inr}
use mathlib.Core.Bool.{Bool, true, false, true≢false, false≢true}
use mathlib.Core.List.{List, [], ◌∷◌, map}
use Prim.Native.Nat.{ℕ, zero, suc, ◌/◌, ◌%◌, ◌≤◌, ◌<◌, zero-le}
use native.Mathlib.Omega.{arith}
use native.Mathlib.Decide.{dec_lt, ℕ_discrete}
use native.Mathlib.Nat.{div-lt_iff_lt-mul}
use lib.Dec.{ltb}
use lib.ListN.{length, set, length-set, length-map, length-replicate, get_or-eq_default}
use lib.Seq.{get_or-set_same, get_or-set_other}
use borrow.Author.Tests.{ltb-true, ltb-false}
use Rattle.sizes.specs.Ladder.{Ladder}
use Rattle.model.specs.Ladder.{fan, frames}
use Rattle.model.specs.Frames.{Wholly, Changed}
use Rattle.model.specs.Lists.{maximum, all}
use Rattle.model.specs.Tree.{node, Tree, token, empty, mark, child, largest, merge, free, SoundNode, Sound, opened, handed_on, store, remove}
use Rattle.model.specs.Laws.{BlockIn, Made}
use Rattle.model.proofs.Ladder.{fan-pos, frames-pos, frames-dvd}
use Rattle.model.proofs.Range.{low-aligned, low_fits, changed-node, block_in}
use Rattle.model.proofs.Frames.{changed-whole, changed-agree}
use Rattle.model.proofs.Lists.{maximum-zero, all_true, all-false, get_or-rep, get_or-map-lt}
use Rattle.model.proofs.Free.{largest-empty, largest-child, token-free, quiet-free, not_full, frames-le, none-quiet}

token-mark : (d : ℕ) (v : Bool) (t : Tree d) → token d (mark d v t) ≡ v
token-mark zero v t = refl
token-mark (suc d) v (node u ks) = refl

pub token-empty : (d : ℕ) → token d (empty d) ≡ false
token-empty zero = refl
token-empty (suc d) = refl

module _ (L : Ladder) where
  -- a block of a node is a block of its child
  pub place_down : (d d' b : ℕ) → BlockIn L (suc d) d' b → d' < suc d → BlockIn L d d' (b % frames L d)
  place_down d d' b p l = record {
    deep = omega arith;
    aligned = low-aligned (frames L d) (frames L d') b (frames-pos L d) (frames-dvd L d' d (omega arith)) p.aligned;
    fits = low_fits (frames L d) (frames L d') b (frames-pos L d) (frames-dvd L d' d (omega arith)) p.aligned;
  }

  -- the child's number is below the fan-out
  pub child-lt : (d f : ℕ) → f < frames L (suc d) → f / frames L d < fan L (suc d)
  unfolding frames
  child-lt d f h = (div-lt_iff_lt-mul (frames-pos L d)).1 h

  -- opening changes no child
  pub opened-child : (d : ℕ) (ks : List (Tree d)) (i : ℕ) → child d (opened L d ks) i ≡ child d ks i
  unfolding opened
  opened-child d [] i = get_or-rep (fan L (suc d)) i (empty d)
  opened-child d (k ∷ ks) i = refl

  pub opened-length : (d : ℕ) (ks : List (Tree d)) → (length ks ≡ 0) ⊎ (length ks ≡ fan L (suc d)) → length (opened L d ks) ≡ fan L (suc d)
  unfolding opened
  opened-length d [] h = length-replicate (fan L (suc d)) (empty d)
  opened-length d (k ∷ ks) (inl e) = absurd (omega arith)
  opened-length d (k ∷ ks) (inr e) = e

  pub handed_on-length : (d : ℕ) (v : Bool) (ks : List (Tree d)) → (length ks ≡ 0) ⊎ (length ks ≡ fan L (suc d)) → length (handed_on L d v ks) ≡ fan L (suc d)
  unfolding handed_on
  handed_on-length d true ks h = length-map (opened L d ks) (mark d true) ∙ opened-length d ks h
  handed_on-length d false ks h = opened-length d ks h

  -- an empty node is sound
  pub sound_empty : (d : ℕ) → Sound L d (empty d)
  unfolding maximum
  sound_empty zero = tt
  sound_empty (suc d) = record { shape = inl refl; children = λ i. sound_empty d; quiet = λ e. refl; gap = (0, fan-pos L d, token-empty d) }

  -- a sound node that offers nothing may get a token; any sound node may lose its token
  sound-mark : (d : ℕ) (v : Bool) (t : Tree d) → Sound L d t → (v ≡ true → largest d t ≡ 0) → Sound L d (mark d v t)
  unfolding largest
  sound-mark zero v t s e = tt
  sound-mark (suc d) v (node true ks) s e = record { shape = s.shape; children = s.children; quiet = λ q. s.quiet refl; gap = s.gap }
  sound-mark (suc d) v (node false ks) s e = record { shape = s.shape; children = s.children; quiet = e; gap = s.gap }

  -- a sound token node that loses its token offers nothing
  pub unmark-quiet : (d : ℕ) (t : Tree d) → Sound L d t → token d t ≡ true → largest d (mark d false t) ≡ 0
  unfolding largest
  unmark-quiet zero t s e = refl
  unmark-quiet (suc d) (node true ks) s e = s.quiet refl
  unmark-quiet (suc d) (node false ks) s e = absurd (false≢true e)

  -- handing the token on changes no frame
  pub handed_on-free : (d : ℕ) (v : Bool) (ks : List (Tree d)) → SoundNode L d (Sound L d) v ks → (f : ℕ) → f < frames L (suc d)
      → free L (suc d) (node false (handed_on L d v ks)) f ≡ free L (suc d) (node v ks) f
  unfolding free handed_on
  handed_on-free d false ks s f h = rw (opened-child d ks (f / frames L d))
  handed_on-free d true ks s f h =
      let i = f / frames L d in
      let e = get_or-map-lt (mark d true) (opened L d ks) i (empty d) (omega (arith, opened-length d ks s.shape, child-lt d f h)) in
      rw e (token-free L d (mark d true (child d (opened L d ks) i)) (f % frames L d) (token-mark d true (child d (opened L d ks) i)))

  -- ... and leaves the children sound
  pub handed_on-sound : (d : ℕ) (v : Bool) (ks : List (Tree d)) → SoundNode L d (Sound L d) v ks → (i : ℕ) → Sound L d (child d (handed_on L d v ks) i)
  unfolding handed_on
  handed_on-sound d false ks s i = rw (opened-child d ks i) (s.children i)
  handed_on-sound d true ks s i = go (dec_lt i (length (opened L d ks)))
    where
      go : Dec (i < length (opened L d ks)) → Sound L d (child d (map (mark d true) (opened L d ks)) i)
      go (yes l) = rw (get_or-map-lt (mark d true) (opened L d ks) i (empty d) l, opened-child d ks i)
          (sound-mark d true (child d ks i) (s.children i) (λ e. omega (arith, s.quiet refl, largest-child d ks i)))
      go (no l) = rw (get_or-eq_default (map (mark d true) (opened L d ks)) (empty d) {n = i} (omega (arith, length-map (opened L d ks) (mark d true)))) (sound_empty d)

  -- a take leaves no token on the node
  remove-token : (d d' : ℕ) (t : Tree d) (b : ℕ) → token d (remove L d d' t b) ≡ false
  unfolding remove
  remove-token zero d' t b = refl
  remove-token (suc d) d' (node v ks) b = go (ltb d' (suc d)) refl
    where
      go : (x : Bool) → ltb d' (suc d) ≡ x → token (suc d) (remove L (suc d) d' (node v ks) b) ≡ false
      go true e = rw (e, remove)
      go false e = rw (e, remove)

  -- child b / frames d is replaced by a changed one
  module _ (d d' b : ℕ) (v : Bool) (ks : List (Tree d)) (len : length ks ≡ fan L (suc d)) (p : BlockIn L (suc d) d' b) (l : d' < suc d) where
    pub replaced : (x : Tree d) → Changed (free L d (child d ks (b / frames L d))) (free L d x) (frames L d) (b % frames L d) (frames L d') v
        → Changed (free L (suc d) (node false ks)) (free L (suc d) (node false (set ks (b / frames L d) x))) (frames L (suc d)) b (frames L d') v
    unfolding free
    replaced x c = changed-node (frames L d) (frames L d') b (frames-pos L d) (frames-dvd L d' d (omega arith)) p.aligned
        (λ j. free L d (child d ks j)) (λ j. free L d (child d (set ks (b / frames L d) x) j)) (frames L (suc d)) v
        (λ j ne f. rw (get_or-set_other ks (b / frames L d) j x (empty d) ne))
        (rw (get_or-set_same ks (b / frames L d) x (empty d) here) c)
      where
        here : b / frames L d < length ks
        here = omega (arith, len, child-lt d b (omega (arith, p.fits, frames-pos L d')))

    pub replaced-sound : (x : Tree d) → ((i : ℕ) → Sound L d (child d ks i)) → Sound L d x → (i : ℕ) → Sound L d (child d (set ks (b / frames L d) x) i)
    replaced-sound x s sx i = go (ℕ_discrete i (b / frames L d))
      where
        go : Dec (i ≡ b / frames L d) → Sound L d (child d (set ks (b / frames L d) x) i)
        go (yes e) = rw (e, get_or-set_same ks (b / frames L d) x (empty d) (omega (arith, len, child-lt d b (omega (arith, p.fits, frames-pos L d'))))) sx
        go (no e) = rw (get_or-set_other ks (b / frames L d) i x (empty d) e) (s i)

    -- the frames of the block, in the child
    pub block-child : (w : Bool) → Wholly (free L (suc d) (node false ks)) b (frames L d') w → Wholly (free L d (child d ks (b / frames L d))) (b % frames L d) (frames L d') w
    unfolding free
    block-child w h = block_in (frames L d) (frames L d') b (frames-pos L d) (frames-dvd L d' d (omega arith)) p.aligned (λ j. free L d (child d ks j)) w h

  -- a node that has all its frames free is a token node; taken whole it offers nothing
  remove-top : (d d' b : ℕ) (v : Bool) (ks : List (Tree d)) → SoundNode L d (Sound L d) v ks → BlockIn L (suc d) d' b → suc d ≤ d' → Wholly (free L (suc d) (node v ks)) b (frames L d') true → Made L (suc d) d' false (node v ks) b (node false ks)
  unfolding largest
  remove-top d d' b true ks s p l h = (
    changed-whole (free L (suc d) (node true ks)) (free L (suc d) (node false ks)) (frames L (suc d)) b (frames L d') false p.fits (frames-le L (suc d) d' l)
        (λ f. quiet-free L (suc d) (node false ks) f (s.quiet refl)),
    record { shape = s.shape; children = s.children; quiet = λ q. s.quiet refl; gap = s.gap },
  )
  remove-top d d' b false ks s p l h =
      let x = not_full L (suc d) (node false ks) s refl in
      absurd (false≢true (sym x.2 ∙ h x.0 (omega (arith, p.fits, frames-le L (suc d) d' l)) (omega (arith, x.1, frames-le L (suc d) d' l))))

  -- a take of a wholly free block: its frames are free no more, all else stays, and the tree stays sound
  pub remove-done : (d d' : ℕ) (t : Tree d) (b : ℕ) → Sound L d t → BlockIn L d d' b → Wholly (free L d t) b (frames L d') true → Made L d d' false t b (remove L d d' t b)
  unfolding remove free
  remove-done zero d' t b s p h = (changed-whole (free L 0 t) (free L 0 false) (frames L 0) b (frames L d') false p.fits (frames-le L 0 d' zero-le) (λ f. refl), tt)
  remove-done (suc d) d' (node v ks) b s p h = go (ltb d' (suc d)) refl (remove-done d d')
    where
      n : ℕ
      n = frames L d

      P : List (Tree d)
      P = handed_on L d v ks

      len : length P ≡ fan L (suc d)
      len = handed_on-length d v ks s.shape

      here : b / n < fan L (suc d)
      here = child-lt d b (omega (arith, p.fits, frames-pos L d'))

      go : (x : Bool) → ltb d' (suc d) ≡ x
          → ((t : Tree d) (c : ℕ) → Sound L d t → BlockIn L d d' c → Wholly (free L d t) c (frames L d') true → Made L d d' false t c (remove L d d' t c))
          → Made L (suc d) d' false (node v ks) b (remove L (suc d) d' (node v ks) b)
      go false e ih = rw (e, remove) (remove-top d d' b v ks s p (ltb-false d' (suc d) e) h)
      go true e ih = rw (e, remove) (
        changed-agree (free L (suc d) (node false P)) (free L (suc d) t') (free L (suc d) (node v ks)) (free L (suc d) t') (frames L (suc d)) b (frames L d') false p.fits
            (λ f k. sym (handed_on-free d v ks s f k)) (λ f k. refl) (replaced d d' b false P len p l R r.0),
        record {
          shape = inr (length-set P (b / n) R ∙ len);
          children = replaced-sound d d' b false P len p l R (handed_on-sound d v ks s) r.1;
          quiet = λ q. absurd (false≢true q);
          gap = (b / n, here, rw (get_or-set_same P (b / n) R (empty d) (omega (arith, len, here))) (remove-token d d' (child d P (b / n)) (b % n)));
        },
      )
        where
          R : Tree d
          R = remove L d d' (child d P (b / n)) (b % n)

          t' : Tree (suc d)
          t' = node false (set P (b / n) R)

          l : d' < suc d
          l = ltb-true d' (suc d) e

          r : Made L d d' false (child d P (b / n)) (b % n) R
          r = ih (child d P (b / n)) (b % n) (handed_on-sound d v ks s (b / n)) (place_down d d' b p l)
              (block-child d d' b false P len p l true (λ f x y. handed_on-free d v ks s f (omega (arith, p.fits)) ∙ h f x y))

  -- merging changes no frame, and the merged node is sound
  merge-done : (d : ℕ) (ks : List (Tree d)) → length ks ≡ fan L (suc d) → ((i : ℕ) → Sound L d (child d ks i))
      → ((f : ℕ) → f < frames L (suc d) → free L (suc d) (merge d ks) f ≡ free L (suc d) (node false ks) f) × Sound L (suc d) (merge d ks)
  unfolding free merge
  merge-done d ks len s = go (all (token d) ks) refl
    where
      go : (x : Bool) → all (token d) ks ≡ x
          → ((f : ℕ) → f < frames L (suc d) → free L (suc d) (merge d ks) f ≡ free L (suc d) (node false ks) f) × Sound L (suc d) (merge d ks)
      go false e = rw (e, merge) (
        λ f h. refl,
        record {
          shape = inr len;
          children = s;
          quiet = λ q. absurd (false≢true q);
          gap = let x = all-false (token d) ks (empty d) e in (x.0, omega (arith, x.1), x.2);
        },
      )
      go true e = rw (e, merge) (
        λ f h. sym (token-free L d (child d ks (f / frames L d)) (f % frames L d) (toks (f / frames L d) (child-lt d f h))),
        record {
          shape = inr (length-map ks (mark d false) ∙ len);
          children = λ i. children i (dec_lt i (length ks));
          quiet = λ q. maximum-zero (largest d) (map (mark d false) ks) (empty d) (λ i. quiet i (dec_lt i (length ks)));
          gap = (0, fan-pos L d, rw (at 0 (fan-pos L d)) (token-mark d false (child d ks 0)));
        },
      )
        where
          toks : (i : ℕ) → i < fan L (suc d) → token d (child d ks i) ≡ true
          toks i h = all_true (token d) ks (empty d) e i (omega arith)

          at : (i : ℕ) → i < fan L (suc d) → child d (map (mark d false) ks) i ≡ mark d false (child d ks i)
          at i h = get_or-map-lt (mark d false) ks i (empty d) (omega arith)

          past : (i : ℕ) → ¬ (i < length ks) → child d (map (mark d false) ks) i ≡ empty d
          past i h = get_or-eq_default (map (mark d false) ks) (empty d) {n = i} (omega (arith, length-map ks (mark d false)))

          children : (i : ℕ) → Dec (i < length ks) → Sound L d (child d (map (mark d false) ks) i)
          children i (yes h) = rw (at i (omega arith)) (sound-mark d false (child d ks i) (s i) (λ q. absurd (false≢true q)))
          children i (no h) = rw (past i h) (sound_empty d)

          quiet : (i : ℕ) → Dec (i < length ks) → largest d (child d (map (mark d false) ks) i) ≡ 0
          quiet i (yes h) = rw (at i (omega arith)) (unmark-quiet d (child d ks i) (s i) (toks i (omega arith)))
          quiet i (no h) = rw (past i h) (largest-empty d)

  -- a store of a block none of whose frames is free: its frames are free, all else stays, and the tree stays sound
  pub store-done : (d d' : ℕ) (t : Tree d) (b : ℕ) → Sound L d t → BlockIn L d d' b → Wholly (free L d t) b (frames L d') false → Made L d d' true t b (store L d d' t b)
  unfolding store free largest handed_on
  store-done zero d' t b s p h = (changed-whole (free L 0 t) (free L 0 true) (frames L 0) b (frames L d') true p.fits (frames-le L 0 d' zero-le) (λ f. refl), tt)
  store-done (suc d) d' (node true ks) b s p h = absurd (true≢false (h b (omega arith) (omega (arith, frames-pos L d'))))
  store-done (suc d) d' (node false ks) b s p h = go (ltb d' (suc d)) refl (store-done d d')
    where
      n : ℕ
      n = frames L d

      O : List (Tree d)
      O = opened L d ks

      len : length O ≡ fan L (suc d)
      len = opened-length d ks s.shape

      go : (x : Bool) → ltb d' (suc d) ≡ x
          → ((t : Tree d) (c : ℕ) → Sound L d t → BlockIn L d d' c → Wholly (free L d t) c (frames L d') false → Made L d d' true t c (store L d d' t c))
          → Made L (suc d) d' true (node false ks) b (store L (suc d) d' (node false ks) b)
      go false e ih = let l = frames-le L (suc d) d' (ltb-false d' (suc d) e) in rw (e, store) (
        changed-whole (free L (suc d) (node false ks)) (free L (suc d) (node true ks)) (frames L (suc d)) b (frames L d') true p.fits l (λ f. refl),
        record {
          shape = s.shape;
          children = s.children;
          gap = s.gap;
          quiet = λ q. none-quiet L (suc d) (node false ks) s (λ f k. h f (omega (arith, p.fits)) (omega arith));
        },
      )
      go true e ih = rw (e, store) (
        changed-agree (free L (suc d) (node false O)) (free L (suc d) (node false X)) (free L (suc d) (node false ks)) (free L (suc d) (merge d X)) (frames L (suc d)) b (frames L d') true p.fits
            (λ f k. sym (handed_on-free d false ks s f k)) m.0 (replaced d d' b true O len p l R r.0),
        m.1,
      )
        where
          R : Tree d
          R = store L d d' (child d O (b / n)) (b % n)

          X : List (Tree d)
          X = set O (b / n) R

          l : d' < suc d
          l = ltb-true d' (suc d) e

          r : Made L d d' true (child d O (b / n)) (b % n) R
          r = ih (child d O (b / n)) (b % n) (handed_on-sound d false ks s (b / n)) (place_down d d' b p l)
              (block-child d d' b true O len p l false (λ f x y. handed_on-free d false ks s f (omega (arith, p.fits)) ∙ h f x y))

          m : ((f : ℕ) → f < frames L (suc d) → free L (suc d) (merge d X) f ≡ free L (suc d) (node false X) f) × Sound L (suc d) (merge d X)
          m = merge-done d X (length-set O (b / n) R ∙ len) (replaced-sound d d' b true O len p l R (handed_on-sound d false ks s) r.1)
