-- All children have tokens, or they have not. Assumes nothing.
use Rattle.std.proofs.Common.{List, ℕ, set, refl, sym, ap, ap₂, ◌∙◌, arith}
use Rattle.sizes.specs.Six.{six}
use Rattle.sizes.specs.Size.{code_of}
use Rattle.model.specs.Lists.{all}
use Rattle.pool.specs.Nodes.{children_all, with_marks}
use Rattle.pool.specs.Words.{fan_out_of, has_token}
use Rattle.pool.proofs.Ask.{merge-no, merge-yes}
use Rattle.pages.proofs.Runs.{run-mapped}
use Rattle.pages.proofs.node.try_to_merge_page_tokens.Goals as goal

pub returns-then-not-all_have_tokens : goal.returns-then-not-all_have_tokens
unfolding children_all
returns-then-not-all_have_tokens c =
    c.refresh_max.ensures
    ∙ sym (merge-no (code_of c.args.size) c.args.pool.now c.args.node.0 c.first_child-first.result.0 (fan_out_of six (code_of c.args.size)) c.requires (omega (arith, c.first_child-first.ensures, c.at-word.ensures)) refl (sym (c.all_have_tokens.ensures ∙ ap (all has_token) c.children.ensures) ∙ c.if-not-all_have_tokens.true))

pub returns : goal.returns
unfolding children_all
returns c =
    let pool : List ℕ = c.args.pool.now in
    let node : ℕ = c.args.node.0 in
    let n : ℕ = fan_out_of six (code_of c.args.size) in
    ap₂ (λ (x : List ℕ) (y : ℕ). set x node y)
    (run-mapped (with_marks 0) pool c.first_child-first.result.0 c.children_in.result n c.mark_all.new.children c.children_in.ensures.exact c.mark_all.ensures)
    (c.with_marks.ensures ∙ ap₂ with_marks c.token_marks.ensures.exact c.at-word.ensures)
    ∙ sym (merge-yes (code_of c.args.size) pool node c.first_child-first.result.0 n c.requires (omega (arith, c.first_child-first.ensures, c.at-word.ensures)) refl (sym (c.all_have_tokens.ensures ∙ ap (all has_token) c.children.ensures) ∙ c.if-not-all_have_tokens.false))
