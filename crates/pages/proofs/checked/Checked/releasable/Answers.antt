-- Each early return is a law of `Refusals`. Assumes nothing.
use mathlib.Core.Path.{◌≡◌, refl, sym, ap, ap₂, ◌∙◌}
use Prim.Native.Nat.{ℕ, ◌-◌}
use native.Mathlib.Omega.{arith}
use Rattle.sizes.specs.Six.{six, most_code}
use Rattle.sizes.specs.Size.{code_of}
use Rattle.sizes.proofs.Six.{largest-most}
use Rattle.sizes.proofs.Size.{code-not-none, decoded, undecoded}
use Rattle.pages.specs.Answers.{number_of}
use Rattle.pages.specs.declared.refusal.Refusal.TheVariants.{BadCode}
use Rattle.pages.proofs.Found.{seen, found}
use Rattle.pages.proofs.Refused.{handed-number}
use Rattle.sizes.specs.Ladder.{bytes}
use Rattle.sizes.proofs.Six.{bytes-largest}
use Rattle.model.specs.TreeStore.{covered as covered_by}
use Rattle.pool.specs.Regions.{regions_of}
use Rattle.pages.proofs.AskCall.{Given, gives, release-none, release-odd, release-past, release-need, release-fits, release-bare, release-free, release-full, release-done}
use Rattle.pages.proofs.checked.Checked.releasable.Goals as goal
use Rattle.pages.proofs.checked.Checked.releasable.Goals.{After-from-frame, After-covers}

-- the block that is named
given : (c : After-from-frame) → Given (seen c.args.self.now) c.args.self.now.placed (found c.args.self.now) c.args.base.0 c.args.number most_code (code_of c.in_ok-size.size) c.from-frame.result.0
given c =
    gives (seen c.args.self.now) c.args.self.now.placed (found c.args.self.now) c.args.base.0 c.args.number (code_of c.in_ok-size.size) c.in_bytes-bytes.result (sym (decoded c.in_ok-size.size c.args.number c.in_ok-size.ensures)) (code-not-none c.in_ok-size.size) c.in_bytes-bytes.ensures.exact
    most_code c.in_bytes.result (sym largest-most) c.in_bytes.ensures.exact c.if-base-bytes-ne0.false c.from-frame.result.0 c.from-frame.ensures c.if-base-in_bytes.false

-- whether it lies in regions
covers-is : (c : After-covers) → c.covers.result ≡ covered_by (regions_of six c.args.self.now.state.now.starts c.args.self.now.state.now.ends) c.from-frame.result.0 c.frames_in.result
covers-is c =
    let b = c.block.result in
    let size : b.end.0 - b.start.0 ≡ c.frames_in.result = omega (arith, c.block.ensures.start, c.block.ensures.end) in
    c.covers.ensures ∙ ap₂ (λ (f n : ℕ). covered_by (regions_of six c.args.self.now.state.now.starts c.args.self.now.state.now.ends) f n) c.block.ensures.start size

pub returns-in_err-size-clause-refusal : goal.returns-in_err-size-clause-refusal
returns-in_err-size-clause-refusal c =
    handed-number c.from_residual.result BadCode c.from_residual.ensures.1
    ∙ release-none (seen c.args.self.now) c.args.self.now.placed (found c.args.self.now) c.args.base.0 c.args.number 0 (sym (undecoded c.args.number c.in_err-size.ensures.1)) refl

pub returns-then-base-bytes-ne0-clause-refusal : goal.returns-then-base-bytes-ne0-clause-refusal
returns-then-base-bytes-ne0-clause-refusal c =
    release-odd (seen c.args.self.now) c.args.self.now.placed (found c.args.self.now) c.args.base.0 c.args.number (code_of c.in_ok-size.size) c.in_bytes-bytes.result (sym (decoded c.in_ok-size.size c.args.number c.in_ok-size.ensures)) (code-not-none c.in_ok-size.size) c.in_bytes-bytes.ensures.exact c.if-base-bytes-ne0.true

pub overflow_sub-in_bytes : goal.overflow_sub-in_bytes
overflow_sub-in_bytes c = omega (arith, c.in_bytes-bytes.ensures.most, c.in_bytes.ensures.exact, ap (bytes six) largest-most, bytes-largest)

pub returns-then-base-in_bytes-clause-refusal : goal.returns-then-base-in_bytes-clause-refusal
returns-then-base-in_bytes-clause-refusal c =
    release-past (seen c.args.self.now) c.args.self.now.placed (found c.args.self.now) c.args.base.0 c.args.number (code_of c.in_ok-size.size) c.in_bytes-bytes.result (sym (decoded c.in_ok-size.size c.args.number c.in_ok-size.ensures)) (code-not-none c.in_ok-size.size) c.in_bytes-bytes.ensures.exact
    most_code c.in_bytes.result (sym largest-most) c.in_bytes.ensures.exact c.if-base-bytes-ne0.false c.if-base-in_bytes.true

pub block-requires-clause-within : goal.block-requires-clause-within
block-requires-clause-within c =
    release-fits (seen c.args.self.now) c.args.self.now.placed (found c.args.self.now) c.args.base.0 c.args.number most_code (code_of c.in_ok-size.size) c.from-frame.result.0 (given (goal.at.block-requires-clause-within c).After-from-frame) c.frames_in.result c.frames_in.ensures.exact

pub returns-then-not-covers-clause-refusal : goal.returns-then-not-covers-clause-refusal
returns-then-not-covers-clause-refusal c =
    release-bare (seen c.args.self.now) c.args.self.now.placed (found c.args.self.now) c.args.base.0 c.args.number most_code (code_of c.in_ok-size.size) c.from-frame.result.0 (given (goal.at.returns-then-not-covers-clause-refusal c).After-from-frame) c.frames_in.result c.frames_in.ensures.exact
    (sym (covers-is (goal.at.returns-then-not-covers-clause-refusal c).After-covers) ∙ c.if-not-covers.true)

pub any_frame_free-requires : goal.any_frame_free-requires
any_frame_free-requires c =
    release-need (seen c.args.self.now) c.args.self.now.placed (found c.args.self.now) c.args.base.0 c.args.number most_code (code_of c.in_ok-size.size) c.from-frame.result.0 (given (goal.at.any_frame_free-requires c).After-from-frame)

pub returns-then-any_frame_free-clause-refusal : goal.returns-then-any_frame_free-clause-refusal
returns-then-any_frame_free-clause-refusal c =
    release-free (seen c.args.self.now) c.args.self.now.placed (found c.args.self.now) c.args.base.0 c.args.number most_code (code_of c.in_ok-size.size) c.from-frame.result.0 (given (goal.at.returns-then-any_frame_free-clause-refusal c).After-from-frame) c.frames_in.result c.frames_in.ensures.exact
    (sym (covers-is (goal.at.returns-then-any_frame_free-clause-refusal c).After-covers) ∙ c.if-not-covers.false) c.any_frame_free.result c.any_frame_free.ensures c.if-any_frame_free.true

pub words_needed-needed-requires : goal.words_needed-needed-requires
words_needed-needed-requires c =
    release-need (seen c.args.self.now) c.args.self.now.placed (found c.args.self.now) c.args.base.0 c.args.number most_code (code_of c.in_ok-size.size) c.from-frame.result.0 (given (goal.at.words_needed-needed-requires c).After-from-frame)

pub returns-in_err-has_room-clause-refusal : goal.returns-in_err-has_room-clause-refusal
returns-in_err-has_room-clause-refusal c =
    let e = c.in_err-has_room.field-0.0 in
    let r = c.from_residual-in_err-has_room in
    handed-number r.result e r.ensures.1 ∙ ap number_of c.in_err-has_room.ensures.refusal
    ∙ release-full (seen c.args.self.now) c.args.self.now.placed (found c.args.self.now) c.args.base.0 c.args.number most_code (code_of c.in_ok-size.size) c.from-frame.result.0 (given (goal.at.returns-in_err-has_room-clause-refusal c).After-from-frame) c.frames_in.result c.frames_in.ensures.exact
    (sym (covers-is (goal.at.returns-in_err-has_room-clause-refusal c).After-covers) ∙ c.if-not-covers.false) c.any_frame_free.result c.any_frame_free.ensures c.if-any_frame_free.false
    c.words_needed-needed.result c.words_needed-needed.ensures.exact c.in_err-has_room.ensures.lacks

pub returns-clause-refusal : goal.returns-clause-refusal
returns-clause-refusal c =
    release-done (seen c.args.self.now) c.args.self.now.placed (found c.args.self.now) c.args.base.0 c.args.number most_code (code_of c.in_ok-size.size) c.from-frame.result.0 (given (goal.at.returns-clause-refusal c).After-from-frame) c.frames_in.result c.frames_in.ensures.exact
    (sym (covers-is (goal.at.returns-clause-refusal c).After-covers) ∙ c.if-not-covers.false) c.any_frame_free.result c.any_frame_free.ensures c.if-any_frame_free.false
    c.words_needed-needed.result c.words_needed-needed.ensures.exact c.in_ok-has_room.ensures.fits

pub returns-clause-size : goal.returns-clause-size
returns-clause-size c = sym (decoded c.in_ok-size.size c.args.number c.in_ok-size.ensures)
