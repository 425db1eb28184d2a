-- A ladder that multiplies up, as the original counts it: bytes are frames times the smallest page's bytes. Assumes nothing.
use mathlib.Core.Path.{◌≡◌, ap}
use Prim.Native.Nat.{ℕ, suc, ◌+◌, ◌*◌, ◌-◌, ◌/◌, ◌%◌, ◌≤◌, ◌<◌}
use native.Mathlib.Omega.{arith}
use native.Mathlib.Nat.{mul_assoc, add-mul, mul-le-mul_right, mul-div-mul_right, div-add-mod', dvd_of_mod-eq-zero, mod-eq-zero_of_dvd, dvd-add, dvd-mul_left, dvd_trans}
use Rattle.sizes.specs.Ladder.{Ladder, smallest, largest as largest_code, bytes}
use Rattle.sizes.specs.Laws.{MultipliesUp}
use Rattle.model.specs.Ladder.{fan, frames}
use Rattle.model.proofs.Ladder.{bytes-is, bytes-fan}
use Rattle.model.proofs.Picture.{NodeAt}

-- a block b of a node is block b % n of the child b / n, in bytes
scale-parts : (b n p : ℕ) → b * p ≡ b / n * (n * p) + b % n * p
scale-parts b n p = omega (arith, mul_assoc (b / n) n p, ap (λ (x : ℕ). x * p) (div-add-mod' b n), add-mul (b / n * n) (b % n) p)

module _ (L : Ladder) (m : MultipliesUp L) where
  -- the child's number, and the rest of the way in it
  module _ (d base b address : ℕ) (h : suc (suc d) ≤ largest_code L) (e : address ≡ base + b * bytes L smallest) where
    pub index_is : (address - base) / bytes L (suc d) ≡ b / frames L d
    index_is =
        let z : address - base ≡ b * bytes L smallest = omega arith in
        rw (z, bytes-is L m d (omega arith)) (mul-div-mul_right b (frames L d) m.page)

    pub address-in-child : address ≡ base + b / frames L d * bytes L (suc d) + b % frames L d * bytes L smallest
    address-in-child = rw (bytes-is L m d (omega arith)) (omega (arith, scale-parts b (frames L d) (bytes L smallest)))

  -- a child of an aligned node is aligned
  child-aligned : (d base i : ℕ) → suc (suc d) ≤ largest_code L → base % bytes L (suc (suc d)) ≡ 0 → (base + i * bytes L (suc d)) % bytes L (suc d) ≡ 0
  child-aligned d base i h e =
      let z = dvd_of_mod-eq-zero (bytes L (suc (suc d))) e in
      mod-eq-zero_of_dvd (bytes L (suc d))
      (dvd-add (bytes L (suc d)) (dvd_trans (bytes L (suc d)) (rw (bytes-fan L m d h) (dvd-mul_left (bytes L (suc d)) (fan L (suc d)))) z) (dvd-mul_left (bytes L (suc d)) i))

  -- where a node may stand, each of its children may
  pub node-down : (d base i : ℕ) → NodeAt L (suc d) base → i < fan L (suc d) → NodeAt L d (base + i * bytes L (suc d))
  node-down d base i x l = record {
    code = omega (arith, x.code);
    aligned = child-aligned d base i x.code x.aligned;
    ends = omega (arith, x.ends, bytes-fan L m d x.code, mul-le-mul_right (bytes L (suc d)) l);
  }
