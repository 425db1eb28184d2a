-- What the check has found decides soundness, also where a test fails. Assumes nothing.
use mathlib.Core.Bool.{true≢false}
use mathlib.Core.Path.{sym, ◌∙◌}
use native.Mathlib.Omega.{arith}
use Rattle.pages.proofs.Decided.{check-sound, count-same, sound-regions, sound-swept}
use Rattle.pages.proofs.sound.sound.Goals as goal

pub returns-then-not-regions_pass : goal.returns-then-not-regions_pass
returns-then-not-regions_pass c = (
  λ e. absurd (true≢false (sym e)),
  λ s. sym c.if-not-regions_pass.true ∙ c.regions_pass.ensures ∙ sound-regions _ _ _ _ (omega arith) (omega arith) s,
)

pub returns-then-eq : goal.returns-then-eq
returns-then-eq c = (
  λ e. check-sound _ _ _ _ (omega arith) (omega arith) (omega arith) (omega arith) (omega arith)
      (sym c.regions_pass.ensures ∙ c.if-not-regions_pass.false)
      (sym c.node_check.ensures.exact ∙ count-same _ _ _ (sym c.eq.ensures ∙ c.if-eq.true))
      (sym c.sweep.ensures ∙ e),
  λ s. c.sweep.ensures ∙ sound-swept _ _ _ _ (omega arith) (omega arith) s,
)
