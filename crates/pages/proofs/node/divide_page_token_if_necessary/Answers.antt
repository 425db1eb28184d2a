-- The node has a token, or it has none. Assumes nothing.
use Rattle.std.proofs.Common.{List, ℕ, ◌≡◌, pred, ◌+◌, set, refl, sym, ap, ap₂, ◌∙◌, arith}
use borrow.Author.Tests.{true-eqb, false-eqb}
use Rattle.sizes.specs.Six.{six}
use Rattle.sizes.specs.Size.{code_of}
use Rattle.pool.specs.Nodes.{map_run, with_marks}
use Rattle.pool.specs.Words.{fan_out_of, has_token, token_of, word}
use Rattle.pool.proofs.Ask.{hand-no, hand-yes}
use Rattle.pages.proofs.Runs.{run-mapped}
use Rattle.pages.proofs.node.divide_page_token_if_necessary.Goals as goal

pub returns-then-not-has_token : goal.returns-then-not-has_token
returns-then-not-has_token c =
    let node : ℕ = c.args.node.0 in
    sym (hand-no (pred (pred (code_of c.args.size))) c.args.pool.now node (false-eqb (token_of (word c.args.pool.now node)) 1 (sym c.if-not-has_token.true ∙ c.has_token.ensures ∙ ap has_token c.at-word.ensures)))

pub returns : goal.returns
returns c =
    let pool : List ℕ = c.args.pool.now in
    let node : ℕ = c.args.node.0 in
    let first : ℕ = c.first_child-first.result.0 in
    let n : ℕ = fan_out_of six (code_of c.args.size) in
    let marks : c.token_marks.result ≡ 7 + code_of c.args.size = omega (arith, c.token_marks.ensures.exact, c.requires.below, c.requires.node.lo) in
    ap₂ (λ (x : List ℕ) (y : ℕ). set x node y)
    (run-mapped (with_marks c.token_marks.result) pool first c.children_in.result n c.mark_all.new.children c.children_in.ensures.exact c.mark_all.ensures ∙ ap (λ (x : ℕ). map_run (with_marks x) pool first n) marks)
    (c.with_marks.ensures ∙ ap (with_marks 0) c.at-word.ensures)
    ∙ sym (hand-yes (code_of c.args.size) pool node first n c.requires.node (omega (arith, c.first_child-first.ensures, c.at-word.ensures)) refl (true-eqb (token_of (word pool node)) 1 (sym c.if-not-has_token.false ∙ c.has_token.ensures ∙ ap has_token c.at-word.ensures)))
