-- `frames_in` divides bytes by bytes. Assumes nothing.
use mathlib.Core.Path.{◌≡◌, ap₂, ◌∙◌}
use Prim.Native.Nat.{ℕ, ◌/◌}
use native.Mathlib.Omega.{arith}
use Rattle.sizes.specs.Six.{six}
use Rattle.sizes.specs.Size.{code_of}
use Rattle.sizes.proofs.Size.{code-some, code-most}
use Rattle.pool.specs.Words.{frames_of}
use Rattle.pool.proofs.Sizes.{page, frames-at}
use Rattle.pages.proofs.ladder.frames_in.Goals as goal

pub returns-clause-exact : goal.returns-clause-exact
returns-clause-exact c =
    ap₂ (λ (x y : ℕ). x / y) c.in_bytes.ensures.exact (c.in_bytes-2.ensures.exact ∙ page)
    ∙ (frames-at (code_of c.args.size) (code-some c.args.size) (code-most c.args.size)).0

pub returns-clause-some : goal.returns-clause-some
returns-clause-some c =
    let f = frames-at (code_of c.args.size) (code-some c.args.size) (code-most c.args.size) in
    let e : c.in_bytes.result / c.in_bytes-2.result ≡ frames_of six (code_of c.args.size) = ap₂ (λ (x y : ℕ). x / y) c.in_bytes.ensures.exact (c.in_bytes-2.ensures.exact ∙ page) ∙ f.0 in
    omega (arith, e, f.1)

pub returns-clause-most : goal.returns-clause-most
returns-clause-most c =
    let f = frames-at (code_of c.args.size) (code-some c.args.size) (code-most c.args.size) in
    let e : c.in_bytes.result / c.in_bytes-2.result ≡ frames_of six (code_of c.args.size) = ap₂ (λ (x y : ℕ). x / y) c.in_bytes.ensures.exact (c.in_bytes-2.ensures.exact ∙ page) ∙ f.0 in
    omega (arith, e, f.2)
