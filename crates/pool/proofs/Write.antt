-- The words that an opening writes: a header at the used count, new children behind it, and the node's link. Assumes nothing.
use mathlib.Core.List.{List}
use mathlib.Core.Logic.{◌≢◌}
use mathlib.Core.Path.{◌≡◌, ◌∙◌}
use Prim.Native.Nat.{ℕ, suc, ◌+◌, ◌*◌, ◌≤◌, ◌<◌}
use native.Mathlib.Omega.{arith}
use lib.ListN.{length, set, length-set}
use lib.Seq.{get_or-set_same, get_or-set_other}
use Rattle.sizes.specs.Ladder.{Ladder}
use Rattle.model.specs.Ladder.{fan}
use Rattle.pool.specs.Nodes.{map_run, open_with}
use Rattle.pool.specs.Words.{link_of, word}
use Rattle.pool.specs.Blocks.{In}
use Rattle.pool.proofs.Lists.{length-map_run, map_run-in, map_run-out}
use Rattle.pool.proofs.Opening.{Opened}

module _ (L : Ladder) (p : List ℕ) (u d q : ℕ) where
  run_length : length (map_run (λ _. 16 * suc d) (set p u q) (suc u) (fan L (suc d))) ≡ length p
  run_length = length-map_run (λ _. 16 * suc d) (set p u q) (suc u) (fan L (suc d)) ∙ length-set p u q

  pub open-length : length (open_with L p u d q) ≡ length p
  unfolding open_with
  open-length = length-set (map_run (λ _. 16 * suc d) (set p u q) (suc u) (fan L (suc d))) q (word p q + 128 * u) ∙ run_length

  -- a word that is neither the node's, nor the header, nor a new child
  others : (x : ℕ) → x ≢ q → x ≢ u → (In (suc u) (fan L (suc d)) x → ⊥) → word (open_with L p u d q) x ≡ word p x
  unfolding open_with
  others x nq nu out =
      get_or-set_other (map_run (λ _. 16 * suc d) (set p u q) (suc u) (fan L (suc d))) q x (word p q + 128 * u) 0 nq
      ∙ map_run-out (λ _. 16 * suc d) (set p u q) (suc u) (fan L (suc d)) x out ∙ get_or-set_other p u x q 0 nu

  module _ (at : q < u) where
    pub open-behind : (x : ℕ) → u + fan L (suc d) < x → word (open_with L p u d q) x ≡ word p x
    open-behind x h = others x (λ e. omega arith) (λ e. omega arith) (λ i. omega (arith, i))

    pub open_block : suc u + fan L (suc d) ≤ length p → link_of (word p q) ≡ 0 → Opened p (open_with L p u d q) u (suc d) q (fan L (suc d))
    unfolding open_with
    open_block room shut = record {
      was = shut;
      node = get_or-set_same (map_run (λ _. 16 * suc d) (set p u q) (suc u) (fan L (suc d))) q (word p q + 128 * u) 0 (omega (arith, run_length));
      head = get_or-set_other (map_run (λ _. 16 * suc d) (set p u q) (suc u) (fan L (suc d))) q u (word p q + 128 * u) 0 (λ e. omega arith)
          ∙ map_run-out (λ _. 16 * suc d) (set p u q) (suc u) (fan L (suc d)) u (λ i. omega (arith, i)) ∙ get_or-set_same p u q 0 (omega arith);
      children = λ y i. get_or-set_other (map_run (λ _. 16 * suc d) (set p u q) (suc u) (fan L (suc d))) q y (word p q + 128 * u) 0 (λ e. omega (arith, i))
          ∙ map_run-in (λ _. 16 * suc d) (set p u q) (suc u) (fan L (suc d)) y (omega (arith, i, length-set p u q)) i.0 i.1;
      rest = λ x xu ne. others x ne (λ e. omega arith) (λ i. omega (arith, i));
    }
