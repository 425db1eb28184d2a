-- The first line, before those of the entries. Assumes nothing.
use Rattle.std.proofs.Common.{◌≡◌, ℕ, List, ◌++◌, None, Some, IfSome, Result, OnOk, OnErr, sym, ap, ◌∙◌, subst, append_assoc}
use Rattle.std.specs.declared.option.Option.{Option}
use Rattle.std.specs.Io.KnownBytes.{Appends}
use Rattle.std.proofs.KnownBytes.{Appends-trans}
use Rattle.replay.specs.Printed.{after_first, first_line, printed, AppendsPart}
use Rattle.replay.proofs.Written.{ok-more, err-more}

-- the first line before the others
module _ (r0 w0 w w' : Option (List ℕ)) (p : Appends w0 w first_line) where
  pub run-all : IfSome r0 (λ j. Appends w w' (after_first j)) → IfSome r0 (λ j. Appends w0 w' (printed j))
  unfolding printed
  run-all q = go r0 q
    where
      go : (r : Option (List ℕ)) → IfSome r (λ j. Appends w w' (after_first j)) → IfSome r (λ j. Appends w0 w' (first_line ++ after_first j))
      go None q = tt
      go (Some j) q = Appends-trans _ _ _ _ _ p q

  pub run-part : IfSome r0 (λ j. AppendsPart w w' (after_first j)) → IfSome r0 (λ j. AppendsPart w0 w' (printed j))
  unfolding printed
  run-part q = go r0 q
    where
      go : (r : Option (List ℕ)) → IfSome r (λ j. AppendsPart w w' (after_first j)) → IfSome r (λ j. AppendsPart w0 w' (first_line ++ after_first j))
      go None q = tt
      go (Some j) q = record {
        part = first_line ++ q.part;
        rest = q.rest;
        split = ap (λ (l : List ℕ). first_line ++ l) q.split ∙ sym (append_assoc first_line q.part q.rest);
        appends = Appends-trans _ _ _ _ _ p q.appends;
      }

-- only a part of the first line
pub run-first : (r0 w0 w' : Option (List ℕ)) → AppendsPart w0 w' first_line → IfSome r0 (λ j. AppendsPart w0 w' (printed j))
unfolding printed
run-first None w0 w' q = tt
run-first (Some j) w0 w' q = record {
  part = q.part;
  rest = q.rest ++ after_first j;
  split = ap (λ (l : List ℕ). l ++ after_first j) q.split ∙ append_assoc q.part q.rest (after_first j);
  appends = q.appends;
}

-- ... of what a reader behind a buffer has left, which is the reader's
module _ {A E : Type 0} (r : Result A E) (left0 r0 w0 w w' : Option (List ℕ)) (e : left0 ≡ r0) (p : Appends w0 w first_line) where
  pub run-ok : OnOk r (IfSome left0 (λ j. Appends w w' (after_first j))) → OnOk r (IfSome r0 (λ j. Appends w0 w' (printed j)))
  run-ok h = ok-more r _ _ (λ q. run-all r0 w0 w w' p (subst (λ (o : Option (List ℕ)). IfSome o (λ j. Appends w w' (after_first j))) e q)) h

  pub run-err : OnErr r (IfSome left0 (λ j. AppendsPart w w' (after_first j))) → OnErr r (IfSome r0 (λ j. AppendsPart w0 w' (printed j)))
  run-err h = err-more r _ _ (λ q. run-part r0 w0 w w' p (subst (λ (o : Option (List ℕ)). IfSome o (λ j. AppendsPart w w' (after_first j))) e q)) h
