-- A refusal is the reply, and otherwise the block is stored. Assumes nothing.
use mathlib.Core.Path.{sym}
use Rattle.sizes.specs.Six.{most_code}
use Rattle.sizes.specs.Size.{code_of}
use Rattle.sizes.proofs.Six.{largest-most}
use Rattle.model.specs.Calls.{release}
use Rattle.pages.specs.Calls.{store, plain}
use Rattle.pages.proofs.AskCall.{release-store, release-reply}
use Rattle.pages.proofs.Found.{here, placed-here, sound-here, number-here, refuses, replies}
use Rattle.pages.proofs.release.Goals as goal

pub returns-in_err-size : goal.returns-in_err-size
returns-in_err-size c =
    let h = here c.in_ok-of.field-0 c.in_ok-of.ensures.state c.in_ok-of.ensures.pool in
    refuses h (λ t. plain 0 (store t c.args.pool.now)) (release c.args.base.0 c.args.code)
    c.from_residual-in_err-size.result c.in_err-size.field-0.0 c.from_residual-in_err-size.ensures.1 c.in_err-size.ensures.refusal

pub store_page_token-used-requires : goal.store_page_token-used-requires
store_page_token-used-requires c =
    let h = here c.in_ok-of.field-0 c.in_ok-of.ensures.state c.in_ok-of.ensures.pool in
    release-store (store c.args.state c.args.pool.now) (placed-here h) (sound-here h) c.args.base.0 c.args.code
    (sym (number-here h (release c.args.base.0 c.args.code) 0 c.in_ok-size.ensures.refusal))
    most_code (code_of c.in_ok-size.size) c.from-frame.result.0 (sym largest-most) c.in_ok-size.ensures.size c.from-frame.ensures

pub returns : goal.returns
returns c =
    let h = here c.in_ok-of.field-0 c.in_ok-of.ensures.state c.in_ok-of.ensures.pool in
    let u = c.store_page_token-used in
    replies h (release c.args.base.0 c.args.code) _
    (release-reply (store c.args.state c.args.pool.now) (placed-here h) (sound-here h) c.args.base.0 c.args.code
    (sym (number-here h (release c.args.base.0 c.args.code) 0 c.in_ok-size.ensures.refusal))
    most_code (code_of c.in_ok-size.size) c.from-frame.result.0 (sym largest-most) c.in_ok-size.ensures.size c.from-frame.ensures u.new.pool u.result u.ensures.pool u.ensures.used)
