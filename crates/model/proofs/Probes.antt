-- How many children an acquire looks at: at most the fan-outs of the levels that it descends, and those that base and code say. Assumes nothing.
use mathlib.Core.Path.{◌≡◌, refl}
use mathlib.Core.Bool.{Bool, true, false, cond}
use Prim.Native.Nat.{ℕ, zero, suc, ◌+◌, ◌*◌, ◌/◌, ◌%◌, ◌≤◌, ◌<◌, zero-le}
use native.Mathlib.Omega.{arith}
use native.Mathlib.Nat.{mod-lt}
use lib.Dec.{ltb}
use borrow.Author.Tests.{ltb-true, ltb-false, le-ltb}
use Rattle.sizes.specs.Ladder.{Ladder}
use Rattle.model.specs.Ladder.{fan, frames, probes, fans}
use Rattle.model.specs.Tree.{node, Tree, child, largest, Sound, handed_on, pick, looked}
use Rattle.model.proofs.Ladder.{frames-pos}
use Rattle.model.proofs.Range.{child-no, child-at}
use Rattle.model.proofs.Free.{pick-lowest}
use Rattle.model.proofs.Change.{child-lt, handed_on-sound}
use Rattle.model.proofs.Descent.{looks_to, down}

module _ (L : Ladder) where
  -- a block of the node's own code is reached without a look at any child
  pub probes-own : (d b : ℕ) → probes L d d b ≡ 0
  unfolding probes
  probes-own zero b = refl
  probes-own (suc d) b = rw (le-ltb (suc d) (suc d) (omega arith))

  -- at each level descended at most its fan-out is looked at
  pub probes-fans : (d d' b : ℕ) → b < frames L d → probes L d d' b ≤ fans L d d'
  unfolding probes fans
  probes-fans zero d' b h = omega arith
  probes-fans (suc d) d' b h = go (ltb d' (suc d)) (probes-fans d d' (b % frames L d) (mod-lt b (frames-pos L d)))
    where
      go : (v : Bool) → probes L d d' (b % frames L d) ≤ fans L d d' → cond v (suc (b / frames L d) + probes L d d' (b % frames L d)) 0 ≤ cond v (fan L (suc d) + fans L d d') 0
      go true ih = omega (arith, child-lt L d b h)
      go false ih = omega arith

  -- the way to a larger block is no longer
  pub fans-antitone : (d a b : ℕ) → a ≤ b → fans L d b ≤ fans L d a
  unfolding fans
  fans-antitone zero a b h = omega arith
  fans-antitone (suc d) a b h = go (ltb a (suc d)) (ltb b (suc d)) refl refl (fans-antitone d a b h)
    where
      go : (v w : Bool) → ltb a (suc d) ≡ v → ltb b (suc d) ≡ w → fans L d b ≤ fans L d a → cond w (fan L (suc d) + fans L d b) 0 ≤ cond v (fan L (suc d) + fans L d a) 0
      go true true p q ih = omega arith
      go v false p q ih = zero-le
      go false true p q ih = absurd (omega (arith, ltb-false a (suc d) p, ltb-true b (suc d) q))

module _ (L : Ladder) where
  -- the children looked at are counted by base and code
  pub looked-probes : (d d' : ℕ) (t : Tree d) → Sound L d t → suc d' ≤ largest d t → looked L d d' t ≡ probes L d d' (pick L d d' t)
  unfolding looked probes
  looked-probes zero d' t s h = refl
  looked-probes (suc d) d' (node v ks) s h = go (ltb d' (suc d)) refl (looked-probes d d' x (handed_on-sound L d v ks s i))
    where
      i : ℕ
      i = looks_to L d d' v ks

      x : Tree d
      x = child d (handed_on L d v ks) i

      go : (y : Bool) → ltb d' (suc d) ≡ y → (suc d' ≤ largest d x → looked L d d' x ≡ probes L d d' (pick L d d' x)) → looked L (suc d) d' (node v ks) ≡ probes L (suc d) d' (pick L (suc d) d' (node v ks))
      go false e ih = rw (e, looked, probes)
      go true e ih =
          let w = down L d d' v ks s (ltb-true d' (suc d) e) h in
          let p = pick L d d' x in
          let q = pick-lowest L d d' x (handed_on-sound L d v ks s i) w.reaches in
          let l : p < frames L d = omega (arith, q.fits, frames-pos L d') in
          rw (e, looked, probes, w.picks, child-no (frames L d) (i * frames L d + p) i p refl l, child-at (frames L d) (i * frames L d + p) i p refl l) (omega (arith, ih w.reaches))
