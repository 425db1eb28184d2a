-- Each turn stores the next block. Assumes nothing.
use mathlib.Core.Path.{sym, ap, ◌∙◌}
use Prim.Native.Nat.{ℕ, ◌-◌}
use Rattle.sizes.specs.Six.{six, most_code}
use Rattle.sizes.specs.Size.{code_of}
use Rattle.sizes.proofs.Six.{largest-most}
use Rattle.sizes.proofs.Size.{code-most}
use Rattle.pool.specs.Nodes.{Words, words}
use Rattle.pool.proofs.SeedSteps.{seed_w-end}
use Rattle.pages.proofs.AskSeed.{store-ask, span-turn}
use Rattle.pages.proofs.seeding.store_span.Goals as goal

pub store_page_token-last-requires : goal.store_page_token-last-requires
store_page_token-last-requires c =
    let i = c.loop-at in
    let k = c.largest_fit-size in
    store-ask i.pool i.last i.at c.args.span.end.0 most_code (code_of k.result) i.invariant.0 c.loop-at-test.true (sym largest-most) k.ensures.exact (code-most k.result)

pub loop-at-preserved : goal.loop-at-preserved
loop-at-preserved c =
    let w = c.store_page_token-last in
    let k = c.largest_fit-size in
    let i = c.loop-at in
    let n = span-turn i.pool i.last i.at c.args.span.end.0 most_code (code_of k.result) i.invariant.0 c.loop-at-test.true (sym largest-most) k.ensures.exact c.frames_in-at.result w.new.pool w.result c.frames_in-at.ensures.exact w.ensures.pool w.ensures.used in
    (n.0, n.1 ∙ i.invariant.1, n.2 ∙ i.invariant.2)

pub returns : goal.returns
returns c =
    let i = c.loop-at in
    let e : ℕ = c.args.span.end.0 in
    let z = sym (seed_w-end six (e - i.at) (words i.pool i.last) i.at e c.loop-at-test.false) ∙ i.invariant.2 in
    record { pool = ap (λ (w : Words). w.pool) z; used = ap (λ (w : Words). w.used) z }
