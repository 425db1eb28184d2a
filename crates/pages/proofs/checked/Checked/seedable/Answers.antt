-- A refusal by the regions is the seed's; behind it only 9 is left. Assumes nothing.
use mathlib.Core.Path.{sym, ◌∙◌, ap}
use native.Mathlib.Omega.{arith}
use Rattle.sizes.specs.Six.{six}
use Rattle.sizes.proofs.Six.{six-multiplies}
use Rattle.pool.specs.Limits.{places, pool_limit}
use Rattle.pool.proofs.Sizes.{small-six}
use Rattle.pages.specs.Answers.{number_of}
use Rattle.pages.proofs.AskSeed.{room-read, seed-ask}
use Rattle.pages.proofs.Found.{seen, found}
use Rattle.pages.proofs.Refused.{handed-number, number_of-some}
use Rattle.pages.proofs.Refusals.{seed-9, seed-0}
use Rattle.pages.proofs.SeedTests.{seed-refused, Joins, joins}
use Rattle.pages.proofs.checked.Checked.seedable.Goals as goal
use Rattle.pages.proofs.checked.Checked.seedable.Goals.{In_ok-span}

joined : (c : In_ok-span) → Joins six places pool_limit six-multiplies c.args.self.now.state.now c.args.self.now.passed.regions c.args.start.0 c.args.end.0
joined c = joins six places pool_limit six-multiplies c.args.self.now.state.now c.args.self.now.passed.regions c.args.start.0 c.args.end.0 (sym c.in_ok-span.ensures.refusal)

pub returns-in_err-span-clause-refusal : goal.returns-in_err-span-clause-refusal
returns-in_err-span-clause-refusal c =
    let e = c.in_err-span.field-0.0 in
    handed-number c.from_residual.result e c.from_residual.ensures.1
    ∙ seed-refused six places pool_limit (seen c.args.self.now) c.args.start.0 c.args.end.0 (number_of e) c.in_err-span.ensures.refusal (number_of-some e)

pub seed_room-requires : goal.seed_room-requires
seed_room-requires c =
    let k = c.in_ok-span in
    seed-ask c.args.start.0 c.args.end.0 (joined (goal.at.seed_room-requires c).In_ok-span).spans k.span.start.0 k.span.end.0 k.ensures.first k.ensures.last (seen c.args.self.now) c.args.self.now.placed (found c.args.self.now)

pub returns-in_err-has_room-clause-refusal : goal.returns-in_err-has_room-clause-refusal
returns-in_err-has_room-clause-refusal c =
    let e = c.in_err-has_room.field-0.0 in
    let r = c.from_residual-in_err-has_room in
    let j = joined (goal.at.returns-in_err-has_room-clause-refusal c).In_ok-span in
    let k = c.in_ok-span in
    let n = room-read c.args.start.0 c.args.end.0 k.span.start.0 k.span.end.0 c.seed_room.result c.args.self.now.pool.now k.ensures.first k.ensures.last c.seed_room.ensures in
    handed-number r.result e r.ensures.1 ∙ ap number_of c.in_err-has_room.ensures.refusal
    ∙ sym (seed-9 six places pool_limit six-multiplies small-six (seen c.args.self.now) c.args.self.now.placed (found c.args.self.now) c.args.start.0 c.args.end.0 j.spans j.few j.alone (omega (arith, n, c.in_err-has_room.ensures.lacks, c.args.self.now.passed.high)))

pub returns-clause-refusal : goal.returns-clause-refusal
returns-clause-refusal c =
    let j = joined (goal.at.returns-clause-refusal c).In_ok-span in
    let k = c.in_ok-span in
    let n = room-read c.args.start.0 c.args.end.0 k.span.start.0 k.span.end.0 c.seed_room.result c.args.self.now.pool.now k.ensures.first k.ensures.last c.seed_room.ensures in
    sym (seed-0 six places pool_limit six-multiplies small-six (seen c.args.self.now) c.args.self.now.placed (found c.args.self.now) c.args.start.0 c.args.end.0 j.spans j.few j.alone (omega (arith, n, c.in_ok-has_room.ensures.fits, c.args.self.now.passed.high)))
