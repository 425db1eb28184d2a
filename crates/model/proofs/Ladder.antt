-- Facts of any ladder, by the number of sizes below a node's own. Assumes nothing.
use mathlib.Core.Path.{◌≡◌, refl, sym, ap, ◌∙◌}
use Prim.Native.Nat.{ℕ, zero, suc, pred, ◌*◌, ◌≤◌, ◌<◌, ◌∣◌}
use native.Mathlib.Omega.{arith}
use native.Mathlib.Nat.{mul-pos, mul_assoc, dvd_refl, dvd-mul_left_of_dvd}
use native.Mathlib.Decide.{le_ind}
use Rattle.sizes.specs.Ladder.{Ladder, smallest, largest as largest_code, bytes, fan_out, smaller, frames as frames_of}
use Rattle.sizes.specs.Laws.{MultipliesUp}
use Rattle.sizes.proofs.Ladder.{smaller-is}
use Rattle.model.specs.Ladder.{fan, frames, top}

module _ (L : Ladder) where
  fan-two : (d : ℕ) → 2 ≤ fan L d
  unfolding fan
  fan-two d = omega arith

  pub fan-pos : (d : ℕ) → 0 < fan L (suc d)
  fan-pos d = omega (arith, fan-two (suc d))

  pub frames-pos : (d : ℕ) → 0 < frames L d
  unfolding frames
  frames-pos zero = omega arith
  frames-pos (suc d) = mul-pos (fan-pos d) (frames-pos d)

  -- a smaller size divides a larger one
  pub frames-dvd : (d' d : ℕ) → d' ≤ d → frames L d' ∣ frames L d
  unfolding frames
  frames-dvd d' d h = le_ind (λ (m : ℕ). frames L d' ∣ frames L m) (dvd_refl (frames L d')) step d h
    where
      step : (m : ℕ) → d' ≤ m → frames L d' ∣ frames L m → frames L d' ∣ frames L (suc m)
      step m k e = dvd-mul_left_of_dvd (frames L d') e (fan L (suc m))

-- where sizes multiply up, fan-outs, frames and bytes are those of the tables
module _ (L : Ladder) (m : MultipliesUp L) where
  pub fan-is : (d : ℕ) → suc (suc d) ≤ largest_code L → fan L (suc d) ≡ fan_out L (suc (suc d))
  unfolding fan
  fan-is d h = omega (arith, m.wide (suc d) (omega arith) h)

  -- the frames of a block are those of `sizes`
  pub frames-is : (d : ℕ) → suc d ≤ largest_code L → frames L d ≡ frames_of L (suc d)
  unfolding frames frames_of
  frames-is zero h = refl
  frames-is (suc d) h = rw (fan-is d h, frames-is d (omega arith))

  -- ... and its bytes are as many smallest pages
  pub bytes-is : (d : ℕ) → suc d ≤ largest_code L → bytes L (suc d) ≡ frames L d * bytes L smallest
  unfolding frames
  bytes-is zero h = omega arith
  bytes-is (suc d) h =
      m.multiply (suc d) (omega arith) h
      ∙ ap (λ x. fan_out L (suc (suc d)) * x) (bytes-is d (omega arith))
      ∙ sym (mul_assoc (fan_out L (suc (suc d))) (frames L d) (bytes L smallest))
      ∙ ap (λ (x : ℕ). x * frames L d * bytes L smallest) (sym (fan-is d h))

  pub bytes-fan : (d : ℕ) → suc (suc d) ≤ largest_code L → bytes L (suc (suc d)) ≡ fan L (suc d) * bytes L (suc d)
  bytes-fan d h = m.multiply (suc d) (omega arith) h ∙ ap (λ (x : ℕ). x * bytes L (suc d)) (sym (fan-is d h))

  pub bytes-some : (d : ℕ) → suc d ≤ largest_code L → 0 < bytes L (suc d)
  bytes-some d h = rw (bytes-is d h) (mul-pos (frames-pos L d) m.page)

  pub smaller-suc : (d : ℕ) → suc (suc d) ≤ largest_code L → smaller L (suc (suc d)) ≡ suc d
  smaller-suc d h = smaller-is L (suc (suc d)) (record { low = omega arith; high = h }) (omega arith) ∙ omega arith

  pub largest-top : largest_code L ≡ suc (top L)
  unfolding top
  largest-top = let z : largest_code L ≡ suc (pred (largest_code L)) = omega (arith, m.some) in z
