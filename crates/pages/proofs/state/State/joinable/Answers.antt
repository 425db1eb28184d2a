-- Each early return is the law of its number. Assumes nothing.
use borrow.Author.Tests.{eq-eqb, ne_eqb}
use mathlib.Core.Path.{◌≡◌, sym, ◌∙◌}
use Prim.Native.Nat.{◌<◌}
use native.Mathlib.Omega.{arith}
use lib.Dec.{eqb}
use lib.ListN.{length}
use Rattle.sizes.specs.Ladder.{address_frame}
use Rattle.sizes.specs.Six.{six}
use Rattle.sizes.proofs.Six.{six-multiplies}
use Rattle.model.specs.TreeStore.{apart}
use Rattle.pool.specs.Limits.{places, pool_limit}
use Rattle.pool.specs.Regions.{regions_of}
use Rattle.pages.specs.Answers.{number_of}
use Rattle.pages.proofs.AskSeed.{apart-read}
use Rattle.pages.proofs.Refused.{handed-number, number_of-some}
use Rattle.pages.proofs.SeedTests.{span-refused, region-5, region-4, region-0}
use Rattle.pages.proofs.state.State.joinable.Goals as goal
use Rattle.pages.proofs.state.State.joinable.Goals.{After-overlaps}

-- what the sum of the overlaps tells
alone : (c : After-overlaps) → apart (address_frame six c.args.start.0) (address_frame six c.args.end.0) (regions_of six c.args.self.now.starts c.args.self.now.ends) ≡ eqb c.overlaps.result 0
alone c =
    let k = c.in_ok-span in
    apart-read c.args.start.0 c.args.end.0 k.span.start.0 k.span.end.0 c.overlaps.result (regions_of six c.args.self.now.starts c.args.self.now.ends) k.ensures.first k.ensures.last (omega (arith, k.span.some)) c.overlaps.ensures

pub returns-in_err-span-clause-refusal : goal.returns-in_err-span-clause-refusal
returns-in_err-span-clause-refusal c =
    let e = c.in_err-span.field-0.0 in
    handed-number c.from_residual.result e c.from_residual.ensures.1
    ∙ span-refused six places pool_limit c.args.self.now c.args.start.0 c.args.end.0 (number_of e) c.in_err-span.ensures.refusal (number_of-some e)

pub returns-then-region_count-eq-PLACES-clause-refusal : goal.returns-then-region_count-eq-PLACES-clause-refusal
returns-then-region_count-eq-PLACES-clause-refusal c =
    sym (region-5 six places pool_limit six-multiplies c.args.self.now c.requires c.args.start.0 c.args.end.0 c.in_ok-span.ensures.spans (omega (arith, c.region_count.ensures.exact, c.if-region_count-eq-PLACES.true)))

pub returns-then-overlaps-ne0-clause-refusal : goal.returns-then-overlaps-ne0-clause-refusal
returns-then-overlaps-ne0-clause-refusal c =
    let few : length (regions_of six c.args.self.now.starts c.args.self.now.ends) < places = omega (arith, c.region_count.ensures.exact, c.region_count.ensures.most, c.if-region_count-eq-PLACES.false) in
    sym (region-4 six places pool_limit six-multiplies c.args.self.now c.requires c.args.start.0 c.args.end.0 c.in_ok-span.ensures.spans few (alone (goal.at.returns-then-overlaps-ne0-clause-refusal c).After-overlaps ∙ ne_eqb c.overlaps.result 0 c.if-overlaps-ne0.true))

pub returns-clause-refusal : goal.returns-clause-refusal
returns-clause-refusal c =
    let few : length (regions_of six c.args.self.now.starts c.args.self.now.ends) < places = omega (arith, c.region_count.ensures.exact, c.region_count.ensures.most, c.if-region_count-eq-PLACES.false) in
    sym (region-0 six places pool_limit six-multiplies c.args.self.now c.requires c.args.start.0 c.args.end.0 (record { spans = c.in_ok-span.ensures.spans; few = few; alone = alone (goal.at.returns-clause-refusal c).After-overlaps ∙ eq-eqb c.overlaps.result 0 c.if-overlaps-ne0.false }))
