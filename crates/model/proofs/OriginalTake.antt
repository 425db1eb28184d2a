-- The original's acquire_page_token is the tree's take of the block that `pick` names: on the picture of a sound tree it never panics, and it gives the picture of the tree after. Assumes nothing.
use mathlib.Core.Path.{◌≡◌, refl, ap, ◌∙◌}
use mathlib.Core.Bool.{Bool, true, false}
use mathlib.Core.List.{List}
use Prim.Native.Nat.{ℕ, zero, suc, ◌+◌, ◌*◌, ◌/◌, ◌%◌, ◌≤◌, ◌<◌}
use native.Mathlib.Omega.{arith}
use lib.Dec.{leb, ltb}
use lib.ListN.{set}
use borrow.Author.Tests.{ltb-true, ltb-false, le-leb, lt-leb, eq-eqb, ne_eqb}
use Rattle.sizes.specs.Ladder.{Ladder, smallest, bytes}
use Rattle.sizes.specs.Laws.{MultipliesUp}
use Rattle.model.specs.Ladder.{fan, frames}
use Rattle.model.specs.Tree.{node, Tree, token, empty, mark, child, largest, Sound, handed_on, remove, pick}
use Rattle.model.specs.Rust.{gives, at_least, ok, err}
use Rattle.model.specs.StandIns.{OutOfPages, init}
use Rattle.model.specs.Original.{max_of, acquire_page_token}
use Rattle.model.proofs.Ladder.{frames-pos, smaller-suc}
use Rattle.model.proofs.Range.{child-no, child-at}
use Rattle.model.proofs.Free.{largest-le, pick-lowest}
use Rattle.model.proofs.Change.{opened-length, handed_on-length, handed_on-sound}
use Rattle.model.proofs.Descent.{token-largest, largest-token, token-pick, Down, looks_to, down}
use Rattle.model.proofs.Picture.{NodeAt, picture}
use Rattle.model.proofs.OriginalLists.{at-least-coded, spread-element, spread-set, spread-position, spread-max}
use Rattle.model.proofs.OriginalLadder.{address-in-child, node-down}
use Rattle.model.proofs.OriginalPicture.{picture-token, picture-most, picture-acquire, initialize-is, divide_is}
use Rattle.model.proofs.OriginalStore.{child-at-index}

module _ (L : Ladder) where
  -- a size that the node does not offer
  pub acquire-none : (d d' base : ℕ) (t : Tree d) → largest d t < suc d' → acquire_page_token L (suc d) base (suc d') (picture L d base t) ≡ gives (err OutOfPages, picture L d base t)
  unfolding acquire_page_token
  acquire-none d d' base t h = rw (picture-most L d base t, at-least-coded (largest d t) (suc d') (omega arith), lt-leb (suc d') (largest d t) h)

  -- a token node's own size
  acquire-here : (d base : ℕ) (t : Tree d) → Sound L d t → token d t ≡ true
      → acquire_page_token L (suc d) base (suc d) (picture L d base t) ≡ gives (ok (init base (suc d)), picture L d base (mark d false t))
  unfolding acquire_page_token
  acquire-here d base t s e =
      rw (picture-acquire L d base t s e, picture-most L d base t, token-largest d t e, le-leb (suc d) (suc d) (omega arith), eq-eqb (suc d) (suc d) refl, picture-token L d base t, e, eq-eqb base base refl)

  acquire-whole : (d d' base address : ℕ) (t : Tree d) → d' ≡ d → address ≡ base → Sound L d t → token d t ≡ true
      → acquire_page_token L (suc d) base (suc d') (picture L d base t) ≡ gives (ok (init address (suc d')), picture L d base (mark d false t))
  acquire-whole d d' base address t x e s k = rw (x, e) (acquire-here d base t s k)

module _ (L : Ladder) (m : MultipliesUp L) where
  -- to take a block of a size that the node offers
  abbrev AcquireIs : (d d' : ℕ) → Type 0
  AcquireIs d d' = (base address : ℕ) (t : Tree d) → NodeAt L d base → address ≡ base + pick L d d' t * bytes L smallest → Sound L d t → suc d' ≤ largest d t
      → acquire_page_token L (suc d) base (suc d') (picture L d base t) ≡ gives (ok (init address (suc d')), picture L d base (remove L d d' t (pick L d d' t)))

  pub acquire-is : (d d' : ℕ) → AcquireIs d d'
  unfolding acquire_page_token remove pick picture largest
  acquire-is zero d' base address t c e s h =
      let x : d' ≡ 0 = omega (arith, largest-le 0 t) in
      acquire-whole L 0 d' base address t x (omega arith) s (largest-token 0 t (omega arith))
  acquire-is (suc d) d' base address (node v ks) c e s h = go (ltb d' (suc d)) refl (acquire-is d d')
    where
      go : (x : Bool) → ltb d' (suc d) ≡ x → AcquireIs d d'
          → acquire_page_token L (suc (suc d)) base (suc d') (picture L (suc d) base (node v ks))
          ≡ gives (ok (init address (suc d')), picture L (suc d) base (remove L (suc d) d' (node v ks) (pick L (suc d) d' (node v ks))))
      go false x ih =
          let y : d' ≡ suc d = omega (arith, largest-le (suc d) (node v ks), ltb-false d' (suc d) x) in
          let k = largest-token (suc d) (node v ks) (omega arith) in
          let z : address ≡ base = omega (arith, ap (λ (b : ℕ). b * bytes L smallest) (token-pick L (suc d) d' (node v ks) k)) in
          acquire-whole L (suc d) d' base address (node v ks) y z s k ∙ rw (x, remove)
      go true x ih =
          rw (
            initialize-is L m d base c v ks,
            picture-most L (suc d) base (node v ks),
            at-least-coded (largest (suc d) (node v ks)) (suc d') (omega arith),
            le-leb (suc d') (largest (suc d) (node v ks)) h,
            ne_eqb (suc (suc d)) (suc d') (λ q. absurd (omega (arith, l))),
            smaller-suc L m d c.code,
            divide_is L m d base c v ks (opened-length L d ks s.shape),
            spread-position (picture L d) (λ k. at_least (max_of (suc d) k) (suc d')) (λ k. leb (suc d') (largest d k)) offers base (bytes L (suc d)) P w.in_range,
            child-at-index L m d base i c i<fan,
            spread-element (picture L d) base (bytes L (suc d)) P i (empty d) w.in_range,
            t,
            spread-set (picture L d) base (bytes L (suc d)) P i R,
            spread-max (picture L d) (max_of (suc d)) (largest d) (picture-most L d) base (bytes L (suc d)) (set P i R),
            x,
            remove,
            number,
            rest,
          )
        where
          l : d' < suc d
          l = ltb-true d' (suc d) x

          P : List (Tree d)
          P = handed_on L d v ks

          i : ℕ
          i = looks_to L d d' v ks

          w : Down L d d' v ks (looks_to L d d' v ks)
          w = down L d d' v ks s l h

          offers : (a : ℕ) (k : Tree d) → at_least (max_of (suc d) (picture L d a k)) (suc d') ≡ leb (suc d') (largest d k)
          offers a k = rw (picture-most L d a k) (at-least-coded (largest d k) (suc d') (omega arith))

          i<fan : i < fan L (suc d)
          i<fan = omega (arith, w.in_range, handed_on-length L d v ks s.shape)

          n : ℕ
          n = frames L d

          b : ℕ
          b = pick L (suc d) d' (node v ks)

          r : ℕ
          r = pick L d d' (child d P i)

          sound : Sound L d (child d P i)
          sound = handed_on-sound L d v ks s i

          small : r < n
          small = omega (arith, (pick-lowest L d d' (child d P i) sound w.reaches).fits, frames-pos L d')

          number : b / n ≡ i
          number = child-no n b i r w.picks small

          rest : b % n ≡ r
          rest = child-at n b i r w.picks small

          R : Tree d
          R = remove L d d' (child d P i) r

          t : acquire_page_token L (suc d) (base + i * bytes L (suc d)) (suc d') (picture L d (base + i * bytes L (suc d)) (child d P i))
              ≡ gives (ok (init address (suc d')), picture L d (base + i * bytes L (suc d)) R)
          t = ih (base + i * bytes L (suc d)) address (child d P i) (node-down L m d base i c i<fan) (rw (number, rest) at (address-in-child L m d base b address c.code e)) sound w.reaches
