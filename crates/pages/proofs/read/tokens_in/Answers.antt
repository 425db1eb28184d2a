-- `tokens_in` adds up the words' tokens. Assumes nothing.
use Rattle.std.proofs.Common.{rules, tests, ◌∙◌}
use Rattle.std.proofs.lemmas.Iterator.{YieldsList-from_slice, YieldsList-from_map}
use Rattle.std.proofs.lemmas.Iterator.Consumers.{sum_by_from_yields_List}
use Rattle.std.specs.Int.{from_bool}
use Rattle.pool.specs.Words.{has_token}
use Rattle.pages.proofs.Counts.{sum-tokens}
use Rattle.pages.proofs.read.tokens_in.Goals as goal

pub returns : goal.returns
returns c =
    sum_by_from_yields_List (λ v. from_bool (has_token v)) c.args.children.now _ c.sum.result c.sum.ensures.ran
    (YieldsList-from_map _ (λ v. from_bool (has_token v)) (YieldsList-from_slice c.args.children.now cc) c.map.ensures.closure (λ x r q k. search (rules, tests)))
    ∙ sum-tokens c.args.children.now
