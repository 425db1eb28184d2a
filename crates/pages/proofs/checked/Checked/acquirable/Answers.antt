-- Each early return is a law of `Refusals`. Assumes nothing.
use mathlib.Core.Path.{refl, sym, ap, ◌∙◌}
use native.Mathlib.Omega.{arith}
use Rattle.sizes.specs.Six.{most_code}
use Rattle.sizes.specs.Size.{code_of}
use Rattle.sizes.proofs.Six.{largest-most}
use Rattle.sizes.proofs.Size.{code-some, code-not-none, decoded, undecoded}
use Rattle.pages.specs.Answers.{number_of}
use Rattle.pages.specs.declared.refusal.Refusal.TheVariants.{BadCode}
use Rattle.pages.proofs.Found.{seen, found}
use Rattle.pages.proofs.Refused.{handed-number}
use Rattle.pages.proofs.AskCall.{Wanted, wants, root-ask, acquire-none, acquire-out, acquire-pick, acquire-need, acquire-full, acquire-done}
use Rattle.pages.proofs.checked.Checked.acquirable.Goals as goal
use Rattle.pages.proofs.checked.Checked.acquirable.Goals.{In_ok-size}

-- the number is the code of the size
wanted : (c : In_ok-size) → Wanted (seen c.args.self.now) c.args.self.now.placed (found c.args.self.now) c.args.number most_code (code_of c.in_ok-size.size)
wanted c =
    wants (seen c.args.self.now) c.args.self.now.placed (found c.args.self.now) c.args.number most_code (code_of c.in_ok-size.size) (sym largest-most) (sym (decoded c.in_ok-size.size c.args.number c.in_ok-size.ensures)) (code-not-none c.in_ok-size.size)

pub returns-in_err-size-clause-refusal : goal.returns-in_err-size-clause-refusal
returns-in_err-size-clause-refusal c =
    handed-number c.from_residual.result BadCode c.from_residual.ensures.1
    ∙ acquire-none (seen c.args.self.now) c.args.self.now.placed (found c.args.self.now) c.args.number 0 (sym (undecoded c.args.number c.in_err-size.ensures.1)) refl

pub largest-requires : goal.largest-requires
largest-requires c = root-ask (seen c.args.self.now) c.args.self.now.placed (found c.args.self.now)

pub returns-in_default-clause-refusal : goal.returns-in_default-clause-refusal
returns-in_default-clause-refusal c =
    acquire-out (seen c.args.self.now) c.args.self.now.placed (found c.args.self.now) c.args.number most_code (code_of c.in_ok-size.size) 0 (wanted (goal.at.returns-in_default-clause-refusal c).In_ok-size) c.in_default.ensures (code-some c.in_ok-size.size)

pub returns-then-code-clause-refusal : goal.returns-then-code-clause-refusal
returns-then-code-clause-refusal c =
    acquire-out (seen c.args.self.now) c.args.self.now.placed (found c.args.self.now) c.args.number most_code (code_of c.in_ok-size.size) (code_of c.in-Some.most) (wanted (goal.at.returns-then-code-clause-refusal c).In_ok-size) c.in-Some.ensures (omega (arith, c.code.ensures, c.code-2.ensures, c.if-code.true))

pub first_base-base-requires : goal.first_base-base-requires
first_base-base-requires c =
    acquire-pick (seen c.args.self.now) c.args.self.now.placed (found c.args.self.now) c.args.number most_code (code_of c.in_ok-size.size) (code_of c.in-Some.most) (wanted (goal.at.first_base-base-requires c).In_ok-size) c.in-Some.ensures (omega (arith, c.code.ensures, c.code-2.ensures, c.if-code.false))

pub words_needed-needed-requires : goal.words_needed-needed-requires
words_needed-needed-requires c =
    acquire-need (seen c.args.self.now) c.args.self.now.placed (found c.args.self.now) c.args.number most_code (code_of c.in_ok-size.size) (code_of c.in-Some.most) (wanted (goal.at.words_needed-needed-requires c).In_ok-size) c.in-Some.ensures c.first_base-base.result.0 c.first_base-base.ensures.within

pub returns-in_err-has_room-clause-refusal : goal.returns-in_err-has_room-clause-refusal
returns-in_err-has_room-clause-refusal c =
    let e = c.in_err-has_room.field-0.0 in
    let r = c.from_residual-in_err-has_room in
    handed-number r.result e r.ensures.1 ∙ ap number_of c.in_err-has_room.ensures.refusal
    ∙ acquire-full (seen c.args.self.now) c.args.self.now.placed (found c.args.self.now) c.args.number most_code (code_of c.in_ok-size.size) (code_of c.in-Some.most) (wanted (goal.at.returns-in_err-has_room-clause-refusal c).In_ok-size) c.in-Some.ensures
    c.first_base-base.result.0 c.words_needed-needed.result (omega (arith, c.code.ensures, c.code-2.ensures, c.if-code.false)) c.first_base-base.ensures.exact c.words_needed-needed.ensures.exact c.in_err-has_room.ensures.lacks

pub returns-clause-refusal : goal.returns-clause-refusal
returns-clause-refusal c =
    acquire-done (seen c.args.self.now) c.args.self.now.placed (found c.args.self.now) c.args.number most_code (code_of c.in_ok-size.size) (code_of c.in-Some.most) (wanted (goal.at.returns-clause-refusal c).In_ok-size) c.in-Some.ensures
    c.first_base-base.result.0 c.words_needed-needed.result (omega (arith, c.code.ensures, c.code-2.ensures, c.if-code.false)) c.first_base-base.ensures.exact c.words_needed-needed.ensures.exact c.in_ok-has_room.ensures.fits

pub returns-clause-size : goal.returns-clause-size
returns-clause-size c = sym (decoded c.in_ok-size.size c.args.number c.in_ok-size.ensures)
