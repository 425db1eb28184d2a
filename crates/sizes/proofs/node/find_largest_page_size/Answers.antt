-- The first size from the largest down that fits is the largest one. Assumes nothing.
use Rattle.std.proofs.Common.{rules, tests, ◌≡◌, ℕ, List, [], ◌∷◌, Bool, true, false, cond, refl, sym, ap, ◌∙◌}
use Rattle.std.specs.Option.{option_map}
use Rattle.std.specs.List.{find}
use Rattle.std.specs.Prelude.{Option, Some, None}
use Rattle.std.proofs.lemmas.Iterator.Search.{find_from_yields_List}
use Rattle.std.proofs.lemmas.Iterator.Adapters.{YieldsList-from_rev_slice}
use Rattle.std.proofs.lemmas.Iterator.Consumers.{YieldsList-from_copied}
use Rattle.sizes.specs.Ladder.{fits, largest, largest_up_to, largest_at}
use Rattle.sizes.specs.Six.{six}
use Rattle.sizes.specs.Size.{code_of, code_or_none}
use Rattle.sizes.specs.declared.page_size.PageSize.{PageSize}
use Rattle.sizes.specs.declared.page_size.PageSize.TheVariants.{Size4KiB, Size16KiB, Size2MiB, Size1GiB, Size512GiB, Size128TiB}
use Rattle.sizes.proofs.node.find_largest_page_size.Goals as goal

-- the test of the first size decides
first : (test : PageSize → Bool) (s : PageSize) (rest : List PageSize) → code_or_none (find test (s ∷ rest)) ≡ cond (test s) (code_of s) (code_or_none (find test rest))
first test s rest = elim (test s) as (λ b. code_or_none (cond b (Some s) (find test rest)) ≡ cond b (code_of s) (code_or_none (find test rest))) [ true ↦ refl | false ↦ refl ]

downward : (a e : ℕ) → code_or_none (find (λ s. fits six a e (code_of s)) (Size128TiB ∷ Size512GiB ∷ Size1GiB ∷ Size2MiB ∷ Size16KiB ∷ Size4KiB ∷ [])) ≡ largest_at six a e
unfolding largest_at largest largest_up_to
downward a e = simp first

-- what `find` answers is the size itself
itself : (r : Option PageSize) → code_or_none (option_map (λ s. s) r) ≡ code_or_none r
itself None = refl
itself (Some s) = refl

pub returns : goal.returns
returns c =
    let a = c.args.address.0 in
    let e = c.args.end.0 in
    let all = Size4KiB ∷ Size16KiB ∷ Size2MiB ∷ Size1GiB ∷ Size512GiB ∷ Size128TiB ∷ [] in
    let found = find_from_yields_List (λ s. fits six a e (code_of s)) _ _ c.find.result c.find.ensures.ran (YieldsList-from_copied (YieldsList-from_rev_slice all (cc))) (λ x b q k. search (rules, tests)) in
    sym (itself c.find.result) ∙ ap code_or_none found ∙ downward a e
