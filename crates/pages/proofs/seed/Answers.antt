-- A refusal is the reply, and otherwise the region's blocks are stored. Assumes nothing.
use mathlib.Core.Path.{sym, ◌∙◌}
use Rattle.sizes.specs.Six.{six}
use Rattle.sizes.proofs.Six.{six-multiplies}
use Rattle.model.specs.Calls.{seed}
use Rattle.pool.specs.Limits.{places, pool_limit}
use Rattle.pool.proofs.Sizes.{small-six}
use Rattle.pages.specs.Calls.{store, plain}
use Rattle.pages.proofs.AskSeed.{Accepted, accepted, seeded-is, span-ask}
use Rattle.pages.proofs.Found.{Here, here, placed-here, sound-here, number-here, refuses, replies}
use Rattle.pages.proofs.seed.Goals as goal
use Rattle.pages.proofs.seed.Goals.{In_ok-span}

-- the store that was checked is the caller's
abbrev given : (c : In_ok-span) → Here c.args.state c.args.pool.now
given c = here c.in_ok-of.field-0 c.in_ok-of.ensures.state c.in_ok-of.ensures.pool

-- what a seed without refusal has passed
passed : (c : In_ok-span) → Accepted six places pool_limit six-multiplies small-six (store c.args.state c.args.pool.now) (placed-here (given c)) (sound-here (given c)) c.args.start.0 c.args.end.0
passed c =
    accepted six places pool_limit six-multiplies small-six (store c.args.state c.args.pool.now) (placed-here (given c)) (sound-here (given c)) c.args.start.0 c.args.end.0
    (sym (number-here (given c) (seed c.args.start.0 c.args.end.0) 0 c.in_ok-span.ensures.refusal))

pub returns-in_err-span : goal.returns-in_err-span
returns-in_err-span c =
    let h = here c.in_ok-of.field-0 c.in_ok-of.ensures.state c.in_ok-of.ensures.pool in
    refuses h (λ t. plain 0 (store t c.args.pool.now)) (seed c.args.start.0 c.args.end.0)
    c.from_residual-in_err-span.result c.in_err-span.field-0.0 c.from_residual-in_err-span.ensures.1 c.in_err-span.ensures.refusal

pub store_span-used-requires : goal.store_span-used-requires
store_span-used-requires c =
    let h = here c.in_ok-of.field-0 c.in_ok-of.ensures.state c.in_ok-of.ensures.pool in
    let k = passed (goal.at.store_span-used-requires c).In_ok-span in
    let f = c.in_ok-span in
    span-ask c.args.start.0 c.args.end.0 k.spans f.span.start.0 f.span.end.0 f.ensures.first f.ensures.last (store c.args.state c.args.pool.now) (placed-here h) (sound-here h) k.alone k.room

pub with_region-requires : goal.with_region-requires
with_region-requires c = (passed (goal.at.with_region-requires c).In_ok-span).few

pub returns : goal.returns
returns c =
    let h = here c.in_ok-of.field-0 c.in_ok-of.ensures.state c.in_ok-of.ensures.pool in
    let r = c.with_region in
    let w = c.store_span-used in
    let f = c.in_ok-span in
    replies h (seed c.args.start.0 c.args.end.0) _
    (seeded-is six places pool_limit (store c.args.state c.args.pool.now) c.args.start.0 c.args.end.0 f.span.start.0 f.span.end.0 r.result.used w.new.pool r.result.starts r.result.ends
    (number-here h (seed c.args.start.0 c.args.end.0) 0 f.ensures.refusal) f.ensures.first f.ensures.last (r.ensures.used ∙ w.ensures.used) w.ensures.pool r.ensures.starts r.ensures.ends)
