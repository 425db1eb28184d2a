-- What is told is the reply. Assumes nothing.
use mathlib.Core.List.{List}
use mathlib.Core.Path.{ap₂, sym, ◌∙◌}
use Prim.Native.Nat.{ℕ}
use Rattle.sizes.specs.Six.{six}
use Rattle.model.specs.Calls.{report}
use Rattle.pool.specs.Limits.{places, pool_limit}
use Rattle.pages.specs.Answers.{told_of}
use Rattle.pages.specs.Calls.{store, served}
use Rattle.pages.specs.declared.state.State.{State}
use Rattle.pages.proofs.Found.{here, replies}
use Rattle.pages.proofs.report.Goals as goal

pub returns : goal.returns
returns c =
    let k = c.in_ok-checked in
    replies (here k.checked k.ensures.state k.ensures.pool) report _
    (sym (ap₂ (λ (t : State) (p : List ℕ). told_of t p c.report.result) k.ensures.state k.ensures.pool)
    ∙ c.report.ensures
    ∙ ap₂ (λ (t : State) (p : List ℕ). served six places pool_limit (store t p) report) k.ensures.state k.ensures.pool)
