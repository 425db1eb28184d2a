-- `open_node` writes a header, the children and the node. Assumes nothing.
use Rattle.std.proofs.Common.{List, ℕ, ◌+◌, set, refl, ap, ◌∙◌, arith}
use Rattle.sizes.specs.Six.{six}
use Rattle.sizes.specs.Size.{code_of}
use Rattle.pool.specs.Words.{fan_out_of, pack}
use Rattle.pool.proofs.Ask.{open-with}
use Rattle.pages.proofs.Runs.{run-filled}
use Rattle.pages.proofs.node.open_node.Goals as goal

pub returns : goal.returns
unfolding pack
returns c =
    let pool : List ℕ = c.args.pool.now in
    let used : ℕ = c.args.used in
    let node : ℕ = c.args.node.0 in
    let n : ℕ = fan_out_of six (code_of c.args.size) in
    ap (λ (x : List ℕ). set x node c.opened-opened.result.0)
    (run-filled c.new.result.0 (set pool used node) (used + 1) c.children_in.result n c.fill.new.self c.children_in.ensures.exact (c.fill.ensures.after (λ y h. h)))
    ∙ open-with (code_of c.args.size) pool used node node c.new.result.0 (used + 1) n c.opened-opened.result.0 c.requires.node.lo refl (omega (arith, c.new.ensures, c.requires.below)) refl refl (omega (arith, c.opened-opened.ensures, c.at.ensures))
