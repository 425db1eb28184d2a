-- The pages that a seed names: what its start and end must say, whatever the store holds.
use Rattle.std.specs.Prelude.{◌≡◌, [], ◌∷◌, ℕ, ◌%◌, ◌≤◌, ◌<◌, not, leb, ltb, eqb}
use Rattle.sizes.specs.Ladder.{Ladder, smallest, largest, bytes}
use Rattle.model.specs.Calls.{refuse, verdict}

module _ (L : Ladder) where
  -- a seed names whole pages of memory, one at least
  pub record Spans (a e : ℕ) : Type 0 where
    pub start : a % bytes L smallest ≡ 0
    pub end : e % bytes L smallest ≡ 0
    pub some : a < e
    pub within : e ≤ bytes L (largest L)

  -- the refusal number of a start and an end that do not, the first in order winning; 0 for none
  unfoldable pub span_refusal : (a e : ℕ) → ℕ
  span_refusal a e = verdict (refuse 2 (not (eqb (a % bytes L smallest) 0)) ∷ refuse 2 (not (eqb (e % bytes L smallest) 0)) ∷ refuse 2 (leb e a) ∷ refuse 3 (ltb (bytes L (largest L)) e) ∷ [])
