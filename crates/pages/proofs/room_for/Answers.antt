-- 10 where the regions do not pass, else the refusal of a seed before the pool is looked at, else the room by intervals. Assumes nothing.
use mathlib.Core.Bool.{true}
use mathlib.Core.Path.{◌≡◌, sym, ◌∙◌}
use lib.ListN.{length}
use Rattle.sizes.specs.Six.{six}
use Rattle.sizes.proofs.Six.{six-multiplies}
use Rattle.pool.specs.Limits.{places, pool_limit}
use Rattle.pool.specs.RegionTest.{regions_pass}
use Rattle.pages.specs.Answers.{number_of}
use Rattle.pages.proofs.Plans.{plans-unsound, plans-refused, plans-room}
use Rattle.pages.proofs.Refused.{handed-plans, number_of-some}
use Rattle.pages.proofs.room_for.Goals as goal
use Rattle.pages.proofs.room_for.Goals.{Else-not-regions_pass, Start}

placed : (s : Start) → (length s.args.state.starts ≡ places) × (length s.args.state.ends ≡ places)
placed s = (s.well_formed.0.1.1.1.0.1.0.1, s.well_formed.0.1.1.1.1.0.1.0.1)

passed : (c : Else-not-regions_pass) → regions_pass six c.args.state.starts c.args.state.ends ≡ true
passed c = sym c.regions_pass.ensures ∙ c.if-not-regions_pass.false

pub returns-then-not-regions_pass : goal.returns-then-not-regions_pass
returns-then-not-regions_pass c =
    let a = placed (goal.at.returns-then-not-regions_pass c).Start in
    plans-unsound six places pool_limit six-multiplies c.args.state a.0 a.1 c.args.start.0 c.args.end.0 (sym c.regions_pass.ensures ∙ c.if-not-regions_pass.true)

pub returns-in_err-span : goal.returns-in_err-span
returns-in_err-span c =
    let a = placed (goal.at.returns-in_err-span c).Start in
    let e = c.in_err-span.field-0.0 in
    handed-plans six places pool_limit c.args.state c.args.start.0 c.args.end.0 c.from_residual.result e c.from_residual.ensures.1
    (plans-refused six places pool_limit six-multiplies c.args.state a.0 a.1 c.args.start.0 c.args.end.0 (passed (goal.at.returns-in_err-span c).Else-not-regions_pass) (number_of e) c.in_err-span.ensures.refusal (number_of-some e))

pub returns : goal.returns
returns c =
    let a = placed (goal.at.returns c).Start in
    let k = c.in_ok-span in
    plans-room six places pool_limit six-multiplies c.args.state a.0 a.1 c.args.start.0 c.args.end.0 (passed (goal.at.returns c).Else-not-regions_pass) k.span.start.0 k.span.end.0 c.room_of.result
    k.ensures.refusal k.ensures.first k.ensures.last c.room_of.ensures
