-- `children_in` reads the table of fan-outs. Assumes nothing.
use mathlib.Core.Path.{◌∙◌}
use Rattle.sizes.specs.Size.{code_of}
use Rattle.sizes.proofs.Size.{code-most}
use Rattle.pool.proofs.Sizes.{fan_out-at}
use Rattle.pages.proofs.ladder.children_in.Goals as goal

pub returns : goal.returns
returns c =
    let n = c.number_of_smaller_pages.ensures in
    record { exact = n.exact ∙ fan_out-at (code_of c.args.size) c.requires (code-most c.args.size); most = n.most }
