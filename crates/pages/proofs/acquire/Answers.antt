-- A refusal is the reply, and otherwise the first block is taken. Assumes nothing.
use mathlib.Core.Path.{sym}
use Rattle.sizes.specs.Six.{most_code}
use Rattle.sizes.specs.Size.{code_of}
use Rattle.sizes.proofs.Six.{largest-most}
use Rattle.model.specs.Calls.{acquire}
use Rattle.pages.specs.Calls.{store, deal}
use Rattle.pages.proofs.AskCall.{acquire-take, acquire-reply}
use Rattle.pages.proofs.Found.{here, placed-here, sound-here, number-here, refuses, replies}
use Rattle.pages.proofs.acquire.Goals as goal

pub returns-in_err-size : goal.returns-in_err-size
returns-in_err-size c =
    let h = here c.in_ok-of.field-0 c.in_ok-of.ensures.state c.in_ok-of.ensures.pool in
    refuses h (λ d. deal 0 (store d.0 c.args.pool.now) d.1.base.0 d.1.probes) (acquire c.args.code)
    c.from_residual-in_err-size.result c.in_err-size.field-0.0 c.from_residual-in_err-size.ensures.1 c.in_err-size.ensures.refusal

pub acquire_page_token-taken-requires : goal.acquire_page_token-taken-requires
acquire_page_token-taken-requires c =
    let h = here c.in_ok-of.field-0 c.in_ok-of.ensures.state c.in_ok-of.ensures.pool in
    acquire-take (store c.args.state c.args.pool.now) (placed-here h) (sound-here h) c.args.code
    (sym (number-here h (acquire c.args.code) 0 c.in_ok-size.ensures.refusal))
    most_code (code_of c.in_ok-size.size) (sym largest-most) c.in_ok-size.ensures.size

pub returns : goal.returns
returns c =
    let h = here c.in_ok-of.field-0 c.in_ok-of.ensures.state c.in_ok-of.ensures.pool in
    let t = c.acquire_page_token-taken in
    replies h (acquire c.args.code) _
    (acquire-reply (store c.args.state c.args.pool.now) (placed-here h) (sound-here h) c.args.code
    (sym (number-here h (acquire c.args.code) 0 c.in_ok-size.ensures.refusal))
    most_code (code_of c.in_ok-size.size) t.new.pool t.result.used t.result.base.0 t.result.probes c.from.result.0 (sym largest-most) c.in_ok-size.ensures.size
    t.ensures.pool t.ensures.used t.ensures.base t.ensures.probes c.from.ensures)
