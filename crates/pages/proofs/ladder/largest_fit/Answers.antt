-- The size that fits at an address, of a frame. Assumes nothing.
use mathlib.Core.Path.{◌≡◌, ap, ap₂, ◌∙◌}
use Prim.Native.Nat.{ℕ, suc}
use native.Mathlib.Omega.{arith}
use Rattle.std.specs.Prelude.{Option, Some, None, unwrap_or}
use Rattle.sizes.specs.Ladder.{largest_at}
use Rattle.sizes.specs.Six.{six}
use Rattle.sizes.specs.Size.{code_of, code_or_none}
use Rattle.sizes.specs.declared.page_size.PageSize.{PageSize}
use Rattle.model.specs.Ladder.{top}
use Rattle.model.specs.TreeStore.{largest_fit}
use Rattle.pool.specs.Words.{frames_of}
use Rattle.pool.proofs.Sizes.{largest_fit-at}
use Rattle.pages.proofs.ladder.largest_fit.Goals as goal

-- a size that there is
found : (r : Option PageSize) (d : PageSize) (n : ℕ) → code_or_none r ≡ suc n → code_of (unwrap_or r d) ≡ suc n
found None d n e = absurd (omega (arith, e))
found (Some s) d n e = e

pub returns : goal.returns
returns c =
    let a : ℕ = c.args.start.0 in
    let e : ℕ = c.args.end.0 in
    let f = c.find_largest_page_size-size in
    let l = largest_fit-at a e c.requires.some c.requires.within in
    let code : code_or_none f.result ≡ suc (largest_fit six (top six) a e) = f.ensures ∙ ap₂ (largest_at six) c.from.ensures c.from-2.ensures ∙ l.0 in
    let r : code_of c.unwrap_or.result ≡ suc (largest_fit six (top six) a e) = ap code_of c.unwrap_or.ensures ∙ found f.result _ _ code in
    record { exact = r; fits = omega (arith, l.1, ap (frames_of six) r) }
