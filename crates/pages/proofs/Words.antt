-- The round trip of a node word and its fields. Assumes nothing.
use mathlib.Core.Path.{◌≡◌, ap, ◌∙◌}
use Prim.Native.Nat.{ℕ, ◌+◌, ◌*◌, ◌/◌, ◌%◌, ◌<◌}
use native.Mathlib.Omega.{arith}
use Rattle.pages.proofs.Statements.{Fields}
use Rattle.pool.specs.Words.{pack}

-- each field is what is left behind the ones before it
module _ (m t l k : ℕ) (m8 : m < 8) (t2 : t < 2) (l8 : l < 8) where
  behind-max : pack m t l k / 8 ≡ t + 2 * (l + 8 * k)
  unfolding pack
  behind-max = omega arith

  behind-token : pack m t l k / 16 ≡ l + 8 * k
  unfolding pack
  behind-token = omega arith

  max-back : pack m t l k % 8 ≡ m
  unfolding pack
  max-back = omega arith

  token_back : pack m t l k / 8 % 2 ≡ t
  token_back = ap (λ (x : ℕ). x % 2) behind-max ∙ omega arith

  level-back : pack m t l k / 16 % 8 ≡ l
  level-back = ap (λ (x : ℕ). x % 8) behind-token ∙ omega arith

  link-back : pack m t l k / 128 ≡ k
  unfolding pack
  link-back = omega arith

pub fields : Fields
unfolding pack
fields = record {
  unpacked = λ m t l k m8 t2 l8. (max-back m t l k m8 t2 l8, token_back m t l k m8 t2 l8, level-back m t l k m8 t2 l8, link-back m t l k m8 t2 l8);
  packed = λ v.
      let x : v / 16 ≡ v / 8 / 2 = omega arith in
      let y : v / 128 ≡ v / 16 / 8 = omega arith in
      omega arith;
}
