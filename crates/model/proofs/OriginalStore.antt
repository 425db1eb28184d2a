-- The original's store_page_token is the tree's store: on the picture of a sound tree it never panics, and it gives the picture of the tree after. Assumes nothing.
use mathlib.Core.Path.{◌≡◌, refl, ap, ◌∙◌}
use mathlib.Core.Bool.{Bool, true, false, true≢false}
use mathlib.Core.List.{List}
use Prim.Native.Nat.{ℕ, zero, suc, ◌+◌, ◌*◌, ◌/◌, ◌%◌, ◌≤◌, ◌<◌}
use native.Mathlib.Omega.{arith}
use native.Mathlib.Decide.{dec_lt}
use lib.Dec.{ltb}
use lib.ListN.{length, set, length-set}
use borrow.Author.Tests.{lt-ltb, ltb-true, ltb-false, le-leb, eq-eqb, ne_eqb}
use Rattle.sizes.specs.Ladder.{Ladder, smallest, bytes}
use Rattle.sizes.specs.Laws.{MultipliesUp}
use Rattle.model.specs.Ladder.{fan, frames}
use Rattle.model.specs.Frames.{Wholly}
use Rattle.model.specs.Lists.{maximum}
use Rattle.model.specs.Tree.{node, Tree, empty, mark, child, largest, merge, free, Sound, opened, handed_on, store}
use Rattle.model.specs.Laws.{BlockIn, Made}
use Rattle.model.specs.Rust.{gives, word}
use Rattle.model.specs.StandIns.{init}
use Rattle.model.specs.Original.{store_page_token_in_this_node, child_address_and_size, store_page_token}
use Rattle.model.proofs.Ladder.{frames-pos, smaller-suc}
use Rattle.model.proofs.Free.{block-largest, largest-more}
use Rattle.model.proofs.Change.{place_down, child-lt, opened-length, handed_on-free, handed_on-sound, replaced-sound, block-child, store-done}
use Rattle.model.proofs.Picture.{NodeAt, picture}
use Rattle.model.proofs.OriginalLists.{unwrap-coded, some-coded, max-coded, spread-element, spread-set, maximum-set}
use Rattle.model.proofs.OriginalLadder.{address-in-child, node-down}
use Rattle.model.proofs.OriginalPicture.{picture-most, picture-store, merge-is, initialize-is, index_of}

module _ (L : Ladder) where
  -- a block that is stored is offered, and what was offered before still is
  store-offers : (d d' : ℕ) (t : Tree d) (b : ℕ) → Sound L d t → BlockIn L d d' b → Wholly (free L d t) b (frames L d') false → suc d' ≤ largest d (store L d d' t b)
  store-offers d d' t b s p h =
      let r = store-done L d d' t b s p h in
      block-largest L d d' (store L d d' t b) b r.1 p.deep p.aligned p.fits r.0.inside

  store-grows : (d d' : ℕ) (t : Tree d) (b : ℕ) → Sound L d t → BlockIn L d d' b → Wholly (free L d t) b (frames L d') false → largest d t ≤ largest d (store L d d' t b)
  store-grows d d' t b s p h = largest-more L d t (store L d d' t b) s r.1 (λ f l e. kept f l e (dec_lt f b) (dec_lt f (b + frames L d')))
    where
      r : Made L d d' true t b (store L d d' t b)
      r = store-done L d d' t b s p h

      kept : (f : ℕ) → f < frames L d → free L d t f ≡ true → Dec (f < b) → Dec (f < b + frames L d') → free L d (store L d d' t b) f ≡ true
      kept f y x (yes u) w = r.0.below f u ∙ x
      kept f y x (no u) (yes w) = r.0.inside f (omega arith) w
      kept f y x (no u) (no w) = r.0.above f (omega arith) y ∙ x

module _ (L : Ladder) (m : MultipliesUp L) where
  -- a block that is the whole node
  store-here : (d base : ℕ) (t : Tree d) → store_page_token L (suc d) base (init base (suc d)) (picture L d base t) ≡ gives (picture L d base (mark d true t), suc d)
  unfolding store_page_token store_page_token_in_this_node
  store-here d base t = rw (le-leb (suc d) (suc d) (omega arith), eq-eqb (suc d) (suc d) refl, eq-eqb base base refl, ← picture-store L d base t)

  store-whole : (d d' base address : ℕ) (t : Tree d) → d' ≡ d → address ≡ base
      → store_page_token L (suc d) base (init address (suc d')) (picture L d base t) ≡ gives (picture L d base (mark d true t), suc d)
  store-whole d d' base address t x e = rw (x, e) (store-here d base t)

  -- it starts where the node does
  here : (d d' base b address : ℕ) → d' ≡ d → BlockIn L d d' b → address ≡ base + b * bytes L smallest → address ≡ base
  here d d' base b address x p e =
      let z : b ≡ 0 = omega (arith, p.fits, ap (frames L) x) in
      omega (arith, ap (λ (y : ℕ). y * bytes L smallest) z)

  pub child-at-index : (d base i : ℕ) → NodeAt L (suc d) base → i < fan L (suc d) → child_address_and_size L base (suc (suc d)) i ≡ gives (base + i * bytes L (suc d), suc d)
  unfolding child_address_and_size
  child-at-index d base i x l =
      let y = (node-down L m d base i x l).ends in
      rw (smaller-suc L m d x.code, lt-ltb (i * bytes L (suc d)) word (omega arith), lt-ltb (base + i * bytes L (suc d)) word (omega arith))

  -- to store a block none of whose frames is free
  abbrev StoreIs : (d d' : ℕ) → Type 0
  StoreIs d d' = (base b address : ℕ) (t : Tree d) → NodeAt L d base → address ≡ base + b * bytes L smallest
      → Sound L d t → BlockIn L d d' b → Wholly (free L d t) b (frames L d') false
      → store_page_token L (suc d) base (init address (suc d')) (picture L d base t) ≡ gives (picture L d base (store L d d' t b), largest d (store L d d' t b))

  pub store_is : (d d' : ℕ) → StoreIs d d'
  unfolding store_page_token store free largest picture handed_on
  store_is zero d' base b address t c e s p h =
      let x : d' ≡ 0 = omega (arith, p.deep) in
      store-whole 0 d' base address t x (here 0 d' base b address x p e)
  store_is (suc d) d' base b address (node true ks) c e s p h = absurd (true≢false (h b (omega arith) (omega (arith, frames-pos L d'))))
  store_is (suc d) d' base b address (node false ks) c e s p h = go (ltb d' (suc d)) refl (store_is d d')
    where
      go : (x : Bool) → ltb d' (suc d) ≡ x → StoreIs d d'
          → store_page_token L (suc (suc d)) base (init address (suc d')) (picture L (suc d) base (node false ks))
          ≡ gives (picture L (suc d) base (store L (suc d) d' (node false ks) b), largest (suc d) (store L (suc d) d' (node false ks) b))
      go false x ih =
          let y : d' ≡ suc d = omega (arith, p.deep, ltb-false d' (suc d) x) in
          store-whole (suc d) d' base address (node false ks) y (here (suc d) d' base b address y p e) ∙ rw (x, store)
      go true x ih = rw (
        le-leb (suc d') (suc (suc d)) (omega (arith, l)),
        ne_eqb (suc (suc d)) (suc d') (λ q. absurd (omega (arith, l))),
        smaller-suc L m d c.code,
        initialize-is L m d base c false ks,
        index_of L m d base c b address d' l e,
        child-at-index d base i c i<fan,
        spread-element (picture L d) base (bytes L (suc d)) O i (empty d) here',
        r,
        some-coded (largest d R) (omega (arith, offers)),
        max-coded (maximum (largest d) O) (largest d R),
        ← (maximum-set (largest d) O i R (empty d) here' grows),
        spread-set (picture L d) base (bytes L (suc d)) O i R,
        merge-is L m d base c X (length-set O i R ∙ len) sounds,
        x,
        store,
        picture-most L (suc d) base (merge d X),
        unwrap-coded (largest (suc d) (merge d X)) (omega (arith, offered)),
      )
        where
          l : d' < suc d
          l = ltb-true d' (suc d) x

          i : ℕ
          i = b / frames L d

          O : List (Tree d)
          O = opened L d ks

          len : length O ≡ fan L (suc d)
          len = opened-length L d ks s.shape

          i<fan : i < fan L (suc d)
          i<fan = child-lt L d b (omega (arith, p.fits, frames-pos L d'))

          here' : i < length O
          here' = omega (arith, len, i<fan)

          R : Tree d
          R = store L d d' (child d O i) (b % frames L d)

          X : List (Tree d)
          X = set O i R

          sound : Sound L d (child d O i)
          sound = handed_on-sound L d false ks s i

          place : BlockIn L d d' (b % frames L d)
          place = place_down L d d' b p l

          bare : Wholly (free L d (child d O i)) (b % frames L d) (frames L d') false
          bare = block-child L d d' b true O len p l false (λ f x y. handed_on-free L d false ks s f (omega (arith, p.fits)) ∙ h f x y)

          offers : suc d' ≤ largest d R
          offers = store-offers L d d' (child d O i) (b % frames L d) sound place bare

          grows : largest d (child d O i) ≤ largest d R
          grows = store-grows L d d' (child d O i) (b % frames L d) sound place bare

          sounds : (j : ℕ) → Sound L d (child d X j)
          sounds = replaced-sound L d d' b true O len p l R (handed_on-sound L d false ks s) (store-done L d d' (child d O i) (b % frames L d) sound place bare).1

          offered : suc d' ≤ largest (suc d) (merge d X)
          offered = rw (x, store) at (store-offers L (suc d) d' (node false ks) b s p h)

          r : store_page_token L (suc d) (base + i * bytes L (suc d)) (init address (suc d')) (picture L d (base + i * bytes L (suc d)) (child d O i))
              ≡ gives (picture L d (base + i * bytes L (suc d)) R, largest d R)
          r = ih (base + i * bytes L (suc d)) (b % frames L d) address (child d O i) (node-down L m d base i c i<fan) (address-in-child L m d base b address c.code e) sound place bare
