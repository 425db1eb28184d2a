use mathlib.Core.Path.{◌≡◌, sym, ap, ◌∙◌}
use Prim.Native.Nat.{ℕ, ◌+◌, ◌*◌}
use lib.ListN.{length}
use native.Mathlib.Nat.{zero-mul, one-mul}
use native.Mathlib.Omega.{arith}
use borrow.Author.Tests.{eqb-true, eqb-false}
use Rattle.sizes.specs.Six.{six}
use Rattle.sizes.specs.Size.{code_of}
use Rattle.model.specs.Ladder.{frames, top}
use Rattle.pool.specs.Words.{has_token, level_of, token_of, word, frames_of}
use Rattle.pool.proofs.FreeFrames.{Swept, swept-end, swept-start}
use Rattle.pool.proofs.Sizes.{top-frames, root-level}
use Rattle.pages.proofs.Counts.{fan-most}
use Rattle.pages.proofs.Sweeps.{sweep-node, sweep-least, sweep-most, sweep-fits, sweep-long, sweep-next}
use Rattle.pages.proofs.read.free_frames.Goals as goal
use Rattle.pages.proofs.read.free_frames.Goals.{After-level, After-frames_in, then-has_token, else-has_token}

-- the level that is read is the node's that the header names
abbrev level_is : (c : After-level) → c.level.result ≡ level_of (word c.args.pool.now (word c.args.pool.now c.loop-header.header))
level_is c = c.level.ensures.exact ∙ ap level_of c.at-node.ensures

-- the next turn
next : (c : After-frames_in) → Swept six (top six) c.args.pool.now c.args.used (c.loop-header.total + c.tokens_in.result * c.frames_in.result) (c.loop-header.header + (1 + length c.children-block.result.now))
next c =
    let l = c.loop-header in
    sweep-next c.args.pool.now c.args.used l.total l.header c.requires l.invariant (omega arith) (code_of c.in-Ok.size) (c.in-Ok.ensures ∙ c.level.ensures.exact ∙ ap level_of c.at-node.ensures)
    c.children-block.result.now c.children-block.ensures c.tokens_in.result c.frames_in.result c.tokens_in.ensures (c.frames_in.ensures.exact ∙ ap (frames_of six) c.in-Some.ensures.below)

-- before the first turn the root's own frames are counted
pub loop-header-init : goal.loop-header-init
loop-header-init c = swept-start six (top six) c.args.pool.now c.args.used c.requires c.if-has_token.total (elim c.if-has_token.branch [
  | then-has_token w ↦
      let t : token_of (word c.args.pool.now 0) ≡ 1 = eqb-true (token_of (word c.args.pool.now 0)) 1 (ap has_token (sym c.at.ensures) ∙ sym c.has_token.ensures ∙ w.if-has_token.true) in
      w.total-is ∙ w.frames_in-total.ensures.exact ∙ ap (frames_of six) root-level ∙ sym (one-mul (frames six (top six))) ∙ ap (λ (n : ℕ). n * frames six (top six)) (sym t)
  | else-has_token w ↦
      let ne = eqb-false (token_of (word c.args.pool.now 0)) 1 (ap has_token (sym c.at.ensures) ∙ sym c.has_token.ensures ∙ w.if-has_token.false) in
      let t : token_of (word c.args.pool.now 0) ≡ 0 = omega (arith, ne) in
      w.total-is ∙ sym (zero-mul (frames six (top six))) ∙ ap (λ (n : ℕ). n * frames six (top six)) (sym t)
])

pub at-node-requires : goal.at-node-requires
at-node-requires c = sweep-node c.args.pool.now c.args.used c.loop-header.total c.loop-header.header c.requires c.loop-header.invariant (omega arith)

-- the level is a size's, and not the smallest
pub returns-in_default-clause-exact : goal.returns-in_default-clause-exact
returns-in_default-clause-exact c =
    let l = c.loop-header in
    absurd (c.in_default.ensures.1 (
      omega (arith, sweep-least c.args.pool.now c.args.used l.total l.header c.requires l.invariant (omega arith) c.level.result (level_is (goal.at.returns-in_default-clause-exact c).After-level)),
      sweep-most c.args.pool.now c.args.used l.total l.header c.requires l.invariant (omega arith) c.level.result (level_is (goal.at.returns-in_default-clause-exact c).After-level),
    ))

pub returns-in_default-smaller-clause-exact : goal.returns-in_default-smaller-clause-exact
returns-in_default-smaller-clause-exact c =
    let l = c.loop-header in
    absurd (omega (arith, c.in_default-smaller.ensures.below, c.in-Ok.ensures, sweep-least c.args.pool.now c.args.used l.total l.header c.requires l.invariant (omega arith) c.level.result (level_is (goal.at.returns-in_default-smaller-clause-exact c).After-level)))

pub children-block-requires-clause-within : goal.children-block-requires-clause-within
children-block-requires-clause-within c =
    let l = c.loop-header in
    sweep-fits c.args.pool.now c.args.used l.total l.header c.requires l.invariant (omega arith) (code_of c.in-Ok.size) (c.in-Ok.ensures ∙ level_is (goal.at.children-block-requires-clause-within c).After-level)

pub tokens_in-requires : goal.tokens_in-requires
tokens_in-requires c =
    let l = c.loop-header in
    omega (arith, fan-most c.in-Ok.size, sweep-long c.args.pool.now c.args.used l.total l.header c.requires l.invariant (omega arith) (code_of c.in-Ok.size) (c.in-Ok.ensures ∙ level_is (goal.at.tokens_in-requires c).After-level) c.children-block.result.now c.children-block.ensures)

pub overflow_mul-total : goal.overflow_mul-total
overflow_mul-total c = omega (arith, top-frames, (next (goal.at.overflow_mul-total c).After-frames_in).most)

pub overflow_add-total : goal.overflow_add-total
overflow_add-total c = omega (arith, top-frames, (next (goal.at.overflow_add-total c).After-frames_in).most)

pub loop-header-preserved : goal.loop-header-preserved
loop-header-preserved c = next (goal.at.loop-header-preserved c).After-frames_in

pub returns-clause-exact : goal.returns-clause-exact
returns-clause-exact c = swept-end six (top six) c.args.pool.now c.args.used c.requires c.loop-header.total c.loop-header.header c.loop-header.invariant (omega arith)
