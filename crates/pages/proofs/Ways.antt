-- The way down to a block, by what the code reads of a node: its token, its link, its first child's place. Assumes nothing.
use mathlib.Core.Bool.{true, false}
use mathlib.Core.List.{List}
use mathlib.Core.Path.{◌≡◌, refl, sym, ap, ap₂, ◌∙◌, subst}
use Prim.Native.Nat.{ℕ, zero, suc, pred, ◌+◌, ◌-◌, ◌/◌, ◌%◌, ◌≤◌, ◌<◌}
use native.Mathlib.Numerals.{sub-one}
use native.Mathlib.Omega.{arith}
use lib.Dec.{ltb}
use borrow.Author.Tests.{eqb-true, eqb-false}
use denote.Enum.Bare.{sameb}
use Rattle.sizes.specs.Six.{six}
use Rattle.sizes.specs.Size.{code_of}
use Rattle.sizes.specs.contracts.page_size.PageSize.{the_type}
use Rattle.sizes.specs.declared.page_size.PageSize.{PageSize}
use Rattle.sizes.proofs.Size.{code-some, code-most, same-size, under-size}
use Rattle.model.specs.Ladder.{frames}
use Rattle.pool.specs.Asks.{NeedAsk}
use Rattle.pool.specs.Limits.{most_frames}
use Rattle.pool.specs.Room.{any_free_w, openings_w, openings_after_w, path, path_after}
use Rattle.pool.specs.Words.{word, max_of, has_token, link_of, fan_out_of, frames_of}
use Rattle.pool.proofs.AnyFree.{free-token, free-here, free-shut}
use Rattle.pool.proofs.Need.{NeedDown, below-here, below-down, need-here, need-shut-law}
use Rattle.pool.proofs.SeedNeed.{need-below, free-below, needed-down, needed-first, needed_here, needed-shut, after_first, after-here, after-down}
use Rattle.pool.proofs.Sizes.{frames-at, frames-own}
use Rattle.pages.specs.Before.{openings_by}
use Rattle.pages.specs.declared.room.Before.{Before}
use Rattle.pages.specs.declared.room.Before.TheVariants.{AsItIs, Stored}

-- a node's frames are among all frames
pub frames-most : (size : PageSize) → frames six (pred (code_of size)) ≤ most_frames
frames-most size = omega (arith, frames-own (code_of size) (code-some size), (frames-at (code_of size) (code-some size) (code-most size)).2)

pub free-yes : (level code : ℕ) (p : List ℕ) (q b : ℕ) → has_token (word p q) ≡ true → any_free_w six (pred level) (pred code) p q b ≡ true
free-yes level code p q b t = free-token level code p q b (eqb-true (word p q / 8 % 2) 1 t)

pub free-same : (size wanted : PageSize) (p : List ℕ) (q b : ℕ) → sameb the_type size wanted ≡ true → has_token (word p q) ≡ false
    → any_free_w six (pred (code_of size)) (pred (code_of wanted)) p q b ≡ ltb 0 (max_of (word p q))
free-same size wanted p q b s t =
    ap (λ (x : ℕ). any_free_w six (pred (code_of size)) (pred x) p q b) (sym (same-size size wanted s)) ∙ free-here (code_of size) p q b (eqb-false (word p q / 8 % 2) 1 t)

pub free-closed : (size wanted : PageSize) (p : List ℕ) (q b : ℕ) → code_of wanted ≤ code_of size → sameb the_type size wanted ≡ false → has_token (word p q) ≡ false → link_of (word p q) ≡ 0
    → any_free_w six (pred (code_of size)) (pred (code_of wanted)) p q b ≡ false
free-closed size wanted p q b d o t z = free-shut (code_of size) (code_of wanted) p q b (eqb-false (word p q / 8 % 2) 1 t) (code-some wanted) (under-size size wanted d o) z

-- one size down, by the first child's place: what the code has read of the node at q
module _ (size wanted below : PageSize) (p : List ℕ) (q b first y b' : ℕ) (ask : NeedAsk (code_of size) (code_of wanted) p q b) (other : sameb the_type size wanted ≡ false) (below_is : code_of below ≡ code_of size - 1)
    (some : 1 ≤ link_of (word p q)) (first_is : first ≡ link_of (word p q) + 1) (child_is : y ≡ first + b / frames_of six (code_of below)) (within_is : b' ≡ b % frames_of six (code_of below)) where
  deep : code_of wanted < code_of size
  deep = under-size size wanted ask.deep other

  open_is : link_of (word p q) ≡ 0 → ⊥
  open_is z = omega (arith, some, z)

  at : y ≡ link_of (word p q) + 1 + b / frames_of six (code_of size - 1)
  at = child_is ∙ ap (λ (x : ℕ). x + b / frames_of six (code_of below)) first_is ∙ ap (λ (n : ℕ). link_of (word p q) + 1 + b / frames_of six n) below_is

  within : b' ≡ b % frames_of six (code_of size - 1)
  within = within_is ∙ ap (λ (n : ℕ). b % frames_of six n) below_is

  down : NeedDown (code_of size) (code_of wanted) p q b (code_of size - 1) y b'
  down = need-below (code_of size) (code_of wanted) p q b (link_of (word p q)) y b' (code-some wanted) deep refl open_is at within ask

  -- the call below may be made, and is given a smaller size
  pub need-step : NeedAsk (code_of below) (code_of wanted) p y b'
  need-step = subst (λ (n : ℕ). NeedAsk n (code_of wanted) p y b') (sym below_is) down.ask

  pub opened-step : (before : Before) → openings_by before (pred (code_of size)) (pred (code_of wanted)) p q b ≡ openings_by before (pred (code_of below)) (pred (code_of wanted)) p y b'
  opened-step AsItIs = down.same ∙ ap (λ (n : ℕ). openings_w six (pred n) (pred (code_of wanted)) p y b') (sym below_is)
  opened-step Stored = later b refl
    where
      later : (x : ℕ) → b ≡ x → openings_by Stored (pred (code_of size)) (pred (code_of wanted)) p q b ≡ openings_by Stored (pred (code_of below)) (pred (code_of wanted)) p y b'
      later zero z =
          let z' : b' ≡ 0 = within_is ∙ ap (λ (x : ℕ). x % frames_of six (code_of below)) z ∙ omega arith in
          ap (openings_after_w six (pred (code_of size)) (pred (code_of wanted)) p q) z ∙ needed-first (code_of size) (code_of wanted) p q ∙ ap (openings_w six (pred (code_of size)) (pred (code_of wanted)) p q) (sym z)
          ∙ down.same ∙ ap (λ (n : ℕ). openings_w six (pred n) (pred (code_of wanted)) p y b') (sym below_is)
          ∙ ap (openings_w six (pred (code_of below)) (pred (code_of wanted)) p y) z' ∙ sym (needed-first (code_of below) (code_of wanted) p y) ∙ ap (openings_after_w six (pred (code_of below)) (pred (code_of wanted)) p y) (sym z')
      later (suc x) z =
          needed-down (code_of size) (code_of wanted) p q b (link_of (word p q)) y b' (code-some wanted) deep refl open_is at within (λ (e : b ≡ 0). omega (arith, e, z))
          ∙ ap (λ (n : ℕ). openings_after_w six (pred n) (pred (code_of wanted)) p y b') (sym below_is)

  pub free-step : has_token (word p q) ≡ false → any_free_w six (pred (code_of size)) (pred (code_of wanted)) p q b ≡ any_free_w six (pred (code_of below)) (pred (code_of wanted)) p y b'
  free-step t =
      free-below (code_of size) (code_of wanted) p q b (link_of (word p q)) y b' (code-some wanted) deep refl open_is at within (eqb-false (word p q / 8 % 2) 1 t)
      ∙ ap (λ (n : ℕ). any_free_w six (pred n) (pred (code_of wanted)) p y b') (sym below_is)

-- ---- the words that are opened below an unopened node
pub path-same : (size wanted : PageSize) (b : ℕ) → sameb the_type size wanted ≡ true → path_after six (pred (code_of size)) (pred (code_of wanted)) b ≡ 0
path-same size wanted b s = go b
  where
    e : code_of size ≡ code_of wanted
    e = same-size size wanted s

    go : (b : ℕ) → path_after six (pred (code_of size)) (pred (code_of wanted)) b ≡ 0
    go zero = after_first (code_of size) (code_of wanted) ∙ below-here (code_of size) (code_of wanted) (code-some wanted) (omega (arith, e))
    go (suc b) = after-here (code_of size) (code_of wanted) (suc b) (code-some wanted) (omega (arith, e)) (λ (z : suc b ≡ 0). omega (arith, z))

module _ (size wanted below : PageSize) (b : ℕ) (least : code_of wanted ≤ code_of size) (other : sameb the_type size wanted ≡ false) (below_is : code_of below ≡ code_of size - 1) where
  pub path-later : (b' : ℕ) → b' ≡ b % frames_of six (code_of below) → (b ≡ 0 → ⊥) → path_after six (pred (code_of size)) (pred (code_of wanted)) b ≡ path_after six (pred (code_of below)) (pred (code_of wanted)) b'
  path-later b' within_is nz =
      after-down (code_of size) (code_of wanted) b (frames_of six (code_of below)) (code-some wanted) (under-size size wanted least other) nz (ap (frames_of six) below_is)
      ∙ ap₂ (λ (n x : ℕ). path_after six (pred n) (pred (code_of wanted)) x) (sym below_is) (sym within_is)

  pub path-first : b ≡ 0 → path_after six (pred (code_of size)) (pred (code_of wanted)) b ≡ fan_out_of six (code_of size) + 1 + path_after six (pred (code_of below)) (pred (code_of wanted)) 0
  path-first z =
      ap (path_after six (pred (code_of size)) (pred (code_of wanted))) z ∙ after_first (code_of size) (code_of wanted)
      ∙ below-down (code_of size) (code_of wanted) (code-some wanted) (under-size size wanted least other)
      ∙ ap (λ (n : ℕ). fan_out_of six (code_of size) + 1 + path six n (pred (code_of wanted))) (sym (ap pred (below_is ∙ sub-one (code_of size))))
      ∙ ap (λ (n : ℕ). fan_out_of six (code_of size) + 1 + n) (sym (after_first (code_of below) (code_of wanted)))

pub ruleset paths = (path-same, path-later)

pub opened-same : (before : Before) (size wanted : PageSize) (p : List ℕ) (q b : ℕ) → sameb the_type size wanted ≡ true → openings_by before (pred (code_of size)) (pred (code_of wanted)) p q b ≡ 0
opened-same before size wanted p q b s = subst (λ (x : ℕ). openings_by before (pred (code_of size)) (pred x) p q b ≡ 0) (same-size size wanted s) (go before b)
  where
    go : (before : Before) (b : ℕ) → openings_by before (pred (code_of size)) (pred (code_of size)) p q b ≡ 0
    go AsItIs b = need-here (code_of size) p q b
    go Stored zero = needed-first (code_of size) (code_of size) p q ∙ need-here (code_of size) p q 0
    go Stored (suc b) = needed_here (code_of size) p q (suc b) (λ (z : suc b ≡ 0). omega (arith, z))

pub opened-first : (before : Before) (level code : ℕ) (p : List ℕ) (q b : ℕ) → before ≡ AsItIs → link_of (word p q) ≡ 0 → openings_by before (pred level) (pred code) p q b ≡ path_after six (pred level) (pred code) 0
opened-first before level code p q b e z =
    ap (λ (x : Before). openings_by x (pred level) (pred code) p q b) e ∙ need-shut-law level code p q b z ∙ sym (after_first level code)

pub opened-later : (before : Before) (size wanted : PageSize) (p : List ℕ) (q b : ℕ) → before ≡ Stored → code_of wanted ≤ code_of size → sameb the_type size wanted ≡ false → link_of (word p q) ≡ 0
    → openings_by before (pred (code_of size)) (pred (code_of wanted)) p q b ≡ path_after six (pred (code_of size)) (pred (code_of wanted)) b
opened-later before size wanted p q b e least other z = ap (λ (x : Before). openings_by x (pred (code_of size)) (pred (code_of wanted)) p q b) e ∙ go b
  where
    go : (b : ℕ) → openings_after_w six (pred (code_of size)) (pred (code_of wanted)) p q b ≡ path_after six (pred (code_of size)) (pred (code_of wanted)) b
    go zero = needed-first (code_of size) (code_of wanted) p q ∙ need-shut-law (code_of size) (code_of wanted) p q 0 z ∙ sym (after_first (code_of size) (code_of wanted))
    go (suc b) = needed-shut (code_of size) (code_of wanted) p q (suc b) (code-some wanted) (under-size size wanted least other) (λ (z : suc b ≡ 0). omega (arith, z)) z

pub ruleset opened = (frames-most, need-step, opened-same, opened-first, opened-later, opened-step)

pub ruleset free = (frames-most, free-yes, free-same, free-closed, need-step, free-step)
