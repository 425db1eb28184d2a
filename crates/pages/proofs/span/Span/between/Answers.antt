-- A start and an end that pass are whole pages, and their frames are some of memory's. Assumes nothing.
use mathlib.Core.Path.{sym}
use Rattle.sizes.specs.Six.{six}
use Rattle.pages.specs.Span.{Spans}
use Rattle.pages.proofs.AskSeed.{span-frames}
use Rattle.pages.proofs.SeedTests.{spans-pass}
use Rattle.pages.proofs.SpanTests.{spans-read, past-read}
use Rattle.pages.proofs.span.Span.between.Goals as goal
use Rattle.pages.proofs.span.Span.between.Goals.{Else-end-in_bytes}

spans : (c : Else-end-in_bytes) → Spans six c.args.start.0 c.args.end.0
spans c =
    spans-read c.args.start.0 c.args.end.0 c.in_bytes-page.result c.in_bytes.result c.in_bytes-page.ensures.exact c.in_bytes.ensures.exact
    c.if-start-page-ne0.false c.if-end-page-ne0.false c.if-end-start.false c.if-end-in_bytes.false

pub returns-then-end-in_bytes-clause-refusal : goal.returns-then-end-in_bytes-clause-refusal
returns-then-end-in_bytes-clause-refusal c =
    past-read c.args.start.0 c.args.end.0 c.in_bytes-page.result c.in_bytes.result c.in_bytes-page.ensures.exact c.in_bytes.ensures.exact
    c.if-start-page-ne0.false c.if-end-page-ne0.false c.if-end-start.false c.if-end-in_bytes.true

pub invariant_of-result : goal.invariant_of-result
invariant_of-result c =
    let w = span-frames c.args.start.0 c.args.end.0 (spans (goal.at.invariant_of-result c).Else-end-in_bytes) c.from.result.0 c.from-2.result.0 c.from.ensures c.from-2.ensures in
    record { some = w.0; within = w.1 }

pub returns-clause-refusal : goal.returns-clause-refusal
returns-clause-refusal c = sym (spans-pass six c.args.start.0 c.args.end.0 (spans (goal.at.returns-clause-refusal c).Else-end-in_bytes))

pub returns-clause-spans : goal.returns-clause-spans
returns-clause-spans c = spans (goal.at.returns-clause-spans c).Else-end-in_bytes
