-- What is read comes behind what there was.
use Rattle.std.proofs.Common.{◌≡◌, ◌≤◌, ◌+◌, ℕ, List, ◌++◌, length, take, rules, ap, ◌∙◌, sym, subst, drop_at, length-take-le, le_refl}
use mathlib.Core.Path.{ap₂}
use Rattle.std.proofs.lemmas.Slice.{take-put_mid_below, overwrites}
use Rattle.std.specs.Io.KnownBytes.{Consumes}
use Rattle.std.proofs.KnownBytes.{Consumes-trans}
use borrow.Rule.Slice.PartMut.{put_mid, post_of}
use lib.Seq.{take-add, take-append-le}
use Rattle.replay.proofs.input.Source.fill.Goals as goal

-- the first of some bytes that are put at an index, behind those before it
front-put : (a k n : ℕ) (xs ys : List ℕ) → a ≤ length xs → n ≤ length ys → take (a + n) (put_mid a k xs ys) ≡ take a xs ++ take n ys
front-put a k n xs ys h l =
    take-add a n (put_mid a k xs ys)
    ∙ ap₂ (λ (u v : List ℕ). u ++ take n v) (take-put_mid_below _ _ _ _ _ (le_refl _) h) (drop_at (take a xs) (ys ++ post_of a k xs) a (length-take-le a xs h))
    ∙ ap (λ (v : List ℕ). take a xs ++ v) (take-append-le n ys (post_of a k xs) l)

pub loop-at-preserved : goal.loop-at-preserved
loop-at-preserved g c =
    let at = c.loop-at.at in
    let got = c.in_ok-count.count in
    let h : at ≤ length c.loop-at.bytes = search rules in
    let b = c.in_ok-count.ensures.bound in
    record {
      same_length = search (rules, overwrites);
      from = search rules;
      to = search rules;
      keeps = take-put_mid_below _ _ _ _ _ c.loop-at.invariant.from h ∙ c.loop-at.invariant.keeps;
      reads = λ first k. subst (Consumes first _) (sym (front-put at _ got c.loop-at.bytes c.read_some.new.bytes h b)) (Consumes-trans _ _ _ _ _ (c.loop-at.invariant.reads first k) c.in_ok-count.ensures.reads);
    }
