-- What is counted in a sound pool: the tokens of a block, the bytes of the free frames, the size of the largest free block. Assumes nothing.
use mathlib.Core.Bool.{Bool, true, false}
use mathlib.Core.List.{List, [], ◌∷◌}
use mathlib.Core.Path.{◌≡◌, refl, ap, ◌∙◌}
use Prim.Native.Nat.{ℕ, ◌+◌, ◌*◌, ◌≤◌}
use native.Mathlib.Decide.{dec_lt}
use native.Mathlib.Omega.{arith}
use borrow.Author.Tests.{eqb-true, eqb-false}
use Rattle.std.proofs.lemmas.List.Sums.{sum_by-cons}
use Rattle.std.specs.Int.{from_bool}
use Rattle.std.specs.List.{sum_by}
use Rattle.std.specs.Prelude.{Result, Ok, Err}
use Rattle.std.specs.Result.{result_ok}
use Rattle.sizes.specs.Ladder.{bytes, smallest, fan_out}
use Rattle.sizes.specs.Six.{six, most_bytes, most_children}
use Rattle.sizes.specs.Size.{Decodes, code_of, code_or_none}
use Rattle.sizes.specs.declared.page_size.PageSize.{PageSize}
use Rattle.sizes.specs.declared.page_size.PageSize.TheVariants.{Size4KiB, Size16KiB, Size2MiB, Size1GiB, Size512GiB, Size128TiB}
use Rattle.sizes.specs.declared.page_size.UnknownSize.{UnknownSize}
use Rattle.model.specs.Ladder.{fan, top}
use Rattle.model.specs.Lists.{sum}
use Rattle.model.specs.Tree.{largest}
use Rattle.model.proofs.Free.{largest-le}
use Rattle.pool.specs.Asks.{SoundAsk}
use Rattle.pool.specs.Limits.{most_frames}
use Rattle.pool.specs.View.{view}
use Rattle.pool.specs.Words.{word, max_of, token_of, has_token, fan_out_of}
use Rattle.pool.proofs.Kept.{sound_w-largest}
use Rattle.pool.proofs.Sizes.{page, root-level}

-- the tokens added up
pub sum-tokens : (xs : List ℕ) → sum_by (λ v. from_bool (has_token v)) xs ≡ sum token_of xs
unfolding sum
sum-tokens [] = refl
sum-tokens (x ∷ xs) = sum_by-cons (λ v. from_bool (has_token v)) x xs ∙ go (has_token x) refl (sum-tokens xs)
  where
    go : (b : Bool) → has_token x ≡ b → sum_by (λ v. from_bool (has_token v)) xs ≡ sum token_of xs → from_bool (has_token x) + sum_by (λ v. from_bool (has_token v)) xs ≡ token_of x + sum token_of xs
    go true e ih = rw e (omega (arith, ih, eqb-true (token_of x) 1 e))
    go false e ih = let ne = eqb-false (token_of x) 1 e in rw e (omega (arith, ih, ne))

-- a node has the most children at most
pub fan-most : (size : PageSize) → fan_out_of six (code_of size) ≤ most_children
unfolding fan fan_out
fan-most Size4KiB = omega arith
fan-most Size16KiB = omega arith
fan-most Size2MiB = omega arith
fan-most Size1GiB = omega arith
fan-most Size512GiB = omega arith
fan-most Size128TiB = omega arith

-- the bytes of the free frames
pub frames-bytes : (n b : ℕ) → b ≡ bytes six smallest → n ≤ most_frames → n * b ≤ most_bytes
frames-bytes n b e h = let e' : n * b ≡ n * 4096 = ap (λ (x : ℕ). n * x) (e ∙ page) in omega (arith, e', h)

-- the root's max is the code of the largest free block, 0 for none
pub root-code : (p : List ℕ) (n : ℕ) (r : Result PageSize UnknownSize) → SoundAsk p → n ≡ max_of (word p 0) → Decodes n r → code_or_none (result_ok r) ≡ largest (top six) (view six (top six) (word p) 0)
root-code p n r a e d = go r d
  where
    is : n ≡ largest (top six) (view six (top six) (word p) 0)
    is = e ∙ sound_w-largest six (top six) p a.used a.sound

    most : n ≤ 6
    most = omega (arith, is, root-level, largest-le (top six) (view six (top six) (word p) 0))

    go : (r : Result PageSize UnknownSize) → Decodes n r → code_or_none (result_ok r) ≡ largest (top six) (view six (top six) (word p) 0)
    go (Ok s) d = d ∙ is
    go (Err x) d = elim (dec_lt 0 n) [ yes l ↦ absurd (d.1 (omega arith, most)) | no l ↦ omega (arith, is, l) ]

pub ruleset roots = (root-code, frames-bytes)
