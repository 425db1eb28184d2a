-- `all_have_tokens` tests each word. Assumes nothing.
use Rattle.std.proofs.Common.{rules, tests, ◌∙◌}
use Rattle.std.proofs.lemmas.Iterator.{YieldsList-from_slice}
use Rattle.std.proofs.lemmas.Iterator.Search.{all_from_yields_List}
use Rattle.pool.specs.Words.{has_token}
use Rattle.pages.proofs.Runs.{all-list}
use Rattle.pages.proofs.children.all_have_tokens.Goals as goal

pub returns : goal.returns
returns c =
    all_from_yields_List has_token _ _ c.all.result c.all.ensures.ran (YieldsList-from_slice c.args.children.now cc) (λ x b q k. search (rules, tests))
    ∙ all-list has_token c.args.children.now
