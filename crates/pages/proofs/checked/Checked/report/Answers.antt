-- Each number is the definition's. Assumes nothing.
use mathlib.Core.Path.{refl}
use Rattle.sizes.specs.Size.{code_or_none}
use Rattle.pages.proofs.AskCall.{asked-words, root-ask, report-reply}
use Rattle.pages.proofs.Found.{seen, found}
use Rattle.pages.proofs.checked.Checked.report.Goals as goal

pub free_bytes-requires : goal.free_bytes-requires
free_bytes-requires c = asked-words (seen c.args.self.now) c.args.self.now.placed (found c.args.self.now)

pub largest-requires : goal.largest-requires
largest-requires c = root-ask (seen c.args.self.now) c.args.self.now.placed (found c.args.self.now)

pub returns : goal.returns
returns c =
    report-reply (seen c.args.self.now) c.args.self.now.placed (found c.args.self.now) c.seeded_bytes.result c.free_bytes.result (code_or_none c.largest.result) c.args.self.now.state.now.used
    c.seeded_bytes.ensures c.free_bytes.ensures.exact c.largest.ensures refl
