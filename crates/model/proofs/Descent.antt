-- The way down of an acquire: behind opening and handing on, the first child that offers the code. Assumes nothing.
use mathlib.Core.Path.{◌≡◌, refl}
use mathlib.Core.Bool.{Bool, true, false, false≢true}
use mathlib.Core.List.{List, [], ◌∷◌, map}
use Prim.Native.Nat.{ℕ, zero, suc, ◌+◌, ◌*◌, ◌≤◌, ◌<◌}
use native.Mathlib.Omega.{arith}
use lib.Dec.{leb}
use lib.ListN.{length, length-map}
use borrow.Author.Tests.{le-leb}
use Rattle.sizes.specs.Ladder.{Ladder}
use Rattle.model.specs.Ladder.{frames}
use Rattle.model.specs.Lists.{maximum, first}
use Rattle.model.specs.Tree.{node, Tree, token, empty, mark, child, largest, SoundNode, Sound, opened, handed_on, pick}
use Rattle.model.proofs.Ladder.{fan-pos}
use Rattle.model.proofs.Lists.{maximum-le, first-first, get_or-map-lt, first-zero}
use Rattle.model.proofs.Free.{largest-le}
use Rattle.model.proofs.Change.{opened-length}

-- a token node offers itself, and what is picked in it starts where it does
pub token-largest : (d : ℕ) (t : Tree d) → token d t ≡ true → largest d t ≡ suc d
unfolding largest
token-largest zero true e = refl
token-largest zero false e = absurd (false≢true e)
token-largest (suc d) (node true ks) e = refl
token-largest (suc d) (node false ks) e = absurd (false≢true e)

pub largest-token : (d : ℕ) (t : Tree d) → suc d ≤ largest d t → token d t ≡ true
unfolding largest
largest-token zero true h = refl
largest-token zero false h = absurd (omega arith)
largest-token (suc d) (node true ks) h = refl
largest-token (suc d) (node false ks) h = absurd (omega (arith, maximum-le (largest d) (suc d) ks (largest-le d)))

mark-largest : (d : ℕ) (t : Tree d) → largest d (mark d true t) ≡ suc d
unfolding largest
mark-largest zero t = refl
mark-largest (suc d) (node v ks) = refl

module _ (L : Ladder) where
  mark-pick : (d d' : ℕ) (t : Tree d) → pick L d d' (mark d true t) ≡ 0
  unfolding pick
  mark-pick zero d' t = refl
  mark-pick (suc d) d' (node v ks) = refl

  pub token-pick : (d d' : ℕ) (t : Tree d) → token d t ≡ true → pick L d d' t ≡ 0
  unfolding pick
  token-pick zero d' t e = refl
  token-pick (suc d) d' (node true ks) e = refl
  token-pick (suc d) d' (node false ks) e = absurd (false≢true e)

  -- the child in which a take goes on, when the token is handed on
  pub record Down (d d' : ℕ) (v : Bool) (ks : List (Tree d)) (i : ℕ) : Type 0 where
    pub in_range : i < length (handed_on L d v ks)
    pub reaches : suc d' ≤ largest d (child d (handed_on L d v ks) i)
    pub picks : pick L (suc d) d' (node v ks) ≡ i * frames L d + pick L d d' (child d (handed_on L d v ks) i)

  abbrev pub looks_to : (d d' : ℕ) → Bool → List (Tree d) → ℕ
  looks_to d d' v ks = first (λ k. leb (suc d') (largest d k)) (handed_on L d v ks)

  pub down : (d d' : ℕ) (v : Bool) (ks : List (Tree d)) → SoundNode L d (Sound L d) v ks → d' < suc d → suc d' ≤ largest (suc d) (node v ks) → Down d d' v ks (looks_to d d' v ks)
  unfolding handed_on opened largest pick maximum
  down d d' false [] s l h = absurd (omega arith)
  down d d' false (k ∷ ks) s l h =
      let f = first-first (largest d) (suc d') (k ∷ ks) (empty d) (omega arith) h in
      record { in_range = f.in_range; reaches = f.reaches; picks = refl }
  down d d' true ks s l h =
      let O = opened L d ks in
      let some : 0 < length O = omega (arith, opened-length L d ks s.shape, fan-pos L d) in
      let at : child d (map (mark d true) O) 0 ≡ mark d true (child d O 0) = get_or-map-lt (mark d true) O 0 (empty d) some in
      let top : largest d (child d (map (mark d true) O) 0) ≡ suc d = rw at (mark-largest d (child d O 0)) in
      let i : looks_to d d' true ks ≡ 0 = first-zero (λ k. leb (suc d') (largest d k)) (map (mark d true) O) (empty d) (omega (arith, length-map O (mark d true))) (le-leb (suc d') (largest d (child d (map (mark d true) O) 0)) (omega arith)) in
      rw i (record { in_range = omega (arith, length-map O (mark d true)); reaches = omega arith; picks = rw (at, mark-pick d d' (child d O 0)) (omega arith) })
