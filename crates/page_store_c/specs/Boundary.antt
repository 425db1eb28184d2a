-- What the C check answers.
use Rattle.std.specs.Prelude.{◌≡◌, ℕ, ◌≤◌}

-- 1 exactly if a statement holds, else 0
pub record Tells (holds : Type 0) (answer : ℕ) : Type 0 where
  pub yes : holds → answer ≡ 1
  pub only : answer ≡ 1 → holds
  pub bit : answer ≤ 1
