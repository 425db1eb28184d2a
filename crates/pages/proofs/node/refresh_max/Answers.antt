-- `refresh_max` writes the max of the children. Assumes nothing.
use Rattle.std.proofs.Common.{List, ℕ, set, refl, sym, ap, ◌∙◌, arith}
use Rattle.sizes.specs.Six.{six}
use Rattle.sizes.specs.Size.{code_of}
use Rattle.model.specs.Lists.{maximum}
use Rattle.pool.specs.Nodes.{children_max, with_marks}
use Rattle.pool.specs.Words.{fan_out_of, max_of, word}
use Rattle.pool.proofs.Ask.{refresh-law}
use Rattle.pages.proofs.node.refresh_max.Goals as goal

pub returns : goal.returns
unfolding children_max
returns c =
    let pool : List ℕ = c.args.pool.now in
    let node : ℕ = c.args.node.0 in
    c.set_marks.ensures ∙ ap (λ (x : ℕ). set pool node (with_marks x (word pool node))) (c.largest_max-largest.ensures.exact ∙ ap (maximum max_of) c.children.ensures)
    ∙ sym (refresh-law (code_of c.args.size) pool node c.first_child-first.result.0 (fan_out_of six (code_of c.args.size)) c.requires (omega (arith, c.first_child-first.ensures, c.at.ensures)) refl)
