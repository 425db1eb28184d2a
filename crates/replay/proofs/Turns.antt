-- A turn of the replay: what is printed for the next entry, and what is left. Assumes nothing.
use Rattle.std.proofs.Common.{◌≡◌, ◌≤◌, ◌<◌, ◌+◌, ℕ, zero, suc, List, [], ◌∷◌, ◌++◌, None, Some, IfSome, length, drop, arith, refl, sym, ap, ◌∙◌, subst, append-nil, append_assoc, length-append, drop_at}
use mathlib.Core.Path.{ap₂, subst⁻¹}
use mathlib.Core.Bool.{true, false, true≢false}
use mathlib.Core.Logic.{◌⊎◌}
use Rattle.std.specs.declared.option.Option.{Option}
use Rattle.std.specs.Io.KnownBytes.{Appends, Consumes, IsAtEnd}
use Rattle.std.proofs.KnownBytes.{Appends-nil, Appends-trans}
use Rattle.sizes.specs.Six.{six}
use Rattle.sizes.proofs.Six.{six-multiplies}
use Rattle.model.specs.Calls.{Call, seed, acquire, release, report}
use Rattle.pool.specs.Limits.{places, pool_limit}
use Rattle.pool.proofs.Sizes.{small-six}
use Rattle.pages.specs.Calls.{Store, Reply, Places, SoundStore, served}
use Rattle.demands.proofs.Serves.{served-leaves}
use Rattle.journal.specs.declared.Entry.{Entry}
use Rattle.journal.specs.declared.Entry.TheVariants.{Seed, Acquire, Release, Report, Bad, End}
use Rattle.journal.specs.declared.Line.{Line}
use Rattle.journal.specs.declared.Line.TheVariants.{Bad as BadLine, End as NoLine}
use Rattle.journal.specs.Entries.{entry_of, behind, read_at}
use Rattle.journal.specs.Lines.{line_text}
use Rattle.journal.specs.Steps.{line_of, Asked, call, none, asked, Does, Steps}
use Rattle.replay.specs.Printed.{last_lines, lines_from, numbered, new_store, after_first, AppendsPart, Sends, is_last, size_of, ReadsEntry}
use Rattle.replay.proofs.NextEntry.{next-same, next-behind}
use Rattle.replay.proofs.NewStore.{new-sound}

-- ---- a replay under way

-- what is printed for a journal is what is done, and what there is to print for the bytes that are left
pub record Going (j done rest : List ℕ) (number : ℕ) (s : Store) : Type 0 where
  pub most : ℕ
  pub enough : length rest < most
  pub is : after_first j ≡ done ++ numbered number (lines_from most rest s)

-- of a reader and a writer, and of what waits to be written
pub record So (r0 r w0 w : Option (List ℕ)) (waiting : List ℕ) (number : ℕ) (s : Store) : Type 0 where
  pub sound : SoundStore six places pool_limit s
  pub places : Places six places pool_limit s
  pub going : IfSome r0 (λ j. (out rest : List ℕ) × (r ≡ Some rest) × Appends w0 w out × Going j (out ++ waiting) rest number s)

-- all is written or waits
abbrev pub Done : (r0 w0 w : Option (List ℕ)) (waiting : List ℕ) → Type 0
Done r0 w0 w waiting = IfSome r0 (λ j. (out : List ℕ) × Appends w0 w out × (after_first j ≡ out ++ waiting))

-- at the beginning
pub so-begins : (r w : Option (List ℕ)) (s : Store) → s ≡ new_store → SoundStore six places pool_limit s → Places six places pool_limit s → So r r w w [] 1 s
unfolding after_first
so-begins None w s e h a = record { sound = h; places = a; going = tt }
so-begins (Some j) w s e h a = record {
  sound = h;
  places = a;
  going = ([], j, refl, Appends-nil w, record { most = suc (length j); enough = omega arith; is = ap (λ (t : Store). numbered 1 (lines_from (suc (length j)) j t)) (sym e) });
}

-- a call's line is not the last
call-goes : (c : Call) (r : Reply) → is_last (line_of c r) ≡ false
call-goes (seed a e) r = refl
call-goes (acquire c) r = refl
call-goes (release b c) r = refl
call-goes report r = refl

-- where no call is asked for, the line is the last, and its text all there is
none-last : (x : Entry) (l : Line) (n : ℕ) → asked x ≡ none l → (is_last l ≡ true) × (numbered n (last_lines l) ≡ line_text n l)
unfolding numbered line_text
none-last (Seed a e) l n q = absurd cc
none-last (Acquire c) l n q = absurd cc
none-last (Release b c) l n q = absurd cc
none-last Report l n q = absurd cc
none-last (Bad k) l n q = let e : BadLine k ≡ l = cc in subst (λ (y : Line). (is_last y ≡ true) × (numbered n (last_lines y) ≡ line_text n y)) e (refl, append-nil _)
none-last End l n q = let e : NoLine ≡ l = cc in subst (λ (y : Line). (is_last y ≡ true) × (numbered n (last_lines y) ≡ line_text n y)) e (refl, refl)

-- what is printed from an entry on, which asks for a call
pub lines-call : (k : ℕ) (x : List ℕ) (s : Store) (c : Call) → asked (entry_of x) ≡ call c
    → lines_from (suc k) x s ≡ line_of c (served six places pool_limit s c) ∷ lines_from k (drop (read_at x 0).next x) (served six places pool_limit s c).store
unfolding lines_from
lines-call k x s c q = rw (q, lines_from) refl

-- ... or for none
pub lines-none : (k : ℕ) (x : List ℕ) (s : Store) (l : Line) → asked (entry_of x) ≡ none l → lines_from (suc k) x s ≡ last_lines l
unfolding lines_from
lines-none k x s l q = rw (q, lines_from) refl

numbered-more : (n : ℕ) (l : Line) (ls : List Line) → numbered n (l ∷ ls) ≡ line_text n l ++ numbered (n + 1) ls
unfolding numbered
numbered-more n l ls = refl

-- an entry that asks for a call has bytes
pub call-some : (e : List ℕ) (c : Call) → asked (entry_of e) ≡ call c → 0 < length e
unfolding entry_of
call-some [] c q = cc
call-some (x ∷ e) c q = omega arith

-- the turn of the entry whose bytes are e, with what is behind it
module _ (j done e rest : List ℕ) (n : ℕ) (s t : Store) (line : Line) (h : SoundStore six places pool_limit s) (a : Places six places pool_limit s) (fits : entry_of (e ++ rest) ≡ entry_of e)
    (ends : (k : Call) → asked (entry_of e) ≡ call k → behind (entry_of e) 1 (length (e ++ rest)) ≡ length e) where
  -- the text up to this line, and what follows
  pub record Turned : Type 0 where
    pub more : is_last line ≡ false → Going j (done ++ line_text n line) rest (n + 1) t
    pub all : is_last line ≡ true → after_first j ≡ done ++ line_text n line

  module _ (c : Call) (q : asked (entry_of e) ≡ call c) (el : line ≡ line_of c (served six places pool_limit s c)) (et : t ≡ (served six places pool_limit s c).store) where
    left-is : drop (read_at (e ++ rest) 0).next (e ++ rest) ≡ rest
    left-is = drop_at e rest _ (sym (ap (λ (y : Entry). behind y 1 (length (e ++ rest))) fits ∙ ends c q))

    call-split : (k : ℕ) → after_first j ≡ done ++ numbered n (lines_from (suc k) (e ++ rest) s) → after_first j ≡ (done ++ line_text n line) ++ numbered (n + 1) (lines_from k rest t)
    call-split k g =
        let p = lines-call k (e ++ rest) s c (ap asked fits ∙ q) in
        let u = ap (λ (x : List ℕ). line_of c (served six places pool_limit s c) ∷ lines_from k x (served six places pool_limit s c).store) left-is in
        let w = ap₂ (λ (x : Line) (y : Store). x ∷ lines_from k rest y) (sym el) (sym et) in
        g ∙ ap (λ (ls : List Line). done ++ numbered n ls) (p ∙ u ∙ w) ∙ ap (λ (x : List ℕ). done ++ x) (numbered-more n line (lines_from k rest t)) ∙ sym (append_assoc done (line_text n line) (numbered (n + 1) (lines_from k rest t)))

    by-call : (most : ℕ) → length (e ++ rest) < most → after_first j ≡ done ++ numbered n (lines_from most (e ++ rest) s) → Turned
    by-call zero l g = absurd (omega arith)
    by-call (suc k) l g = record {
      more = λ z. record { most = k; enough = omega (arith, l, length-append e rest, call-some e c q); is = call-split k g };
      all = λ z. absurd (true≢false (sym z ∙ ap is_last el ∙ call-goes c _));
    }

  by-none : (l : Line) → asked (entry_of e) ≡ none l → line ≡ l → (most : ℕ) → length (e ++ rest) < most → after_first j ≡ done ++ numbered n (lines_from most (e ++ rest) s) → Turned
  by-none l q el zero z g = absurd (omega arith)
  by-none l q el (suc k) z g =
      let o = none-last (entry_of e) l n q in
      let w : after_first j ≡ done ++ line_text n line = g ∙ ap (λ (ls : List Line). done ++ numbered n ls) (lines-none k (e ++ rest) s l (ap asked fits ∙ q)) ∙ ap (λ (x : List ℕ). done ++ x) (o.1 ∙ ap (line_text n) (sym el)) in
      record {
        more = λ y. absurd (true≢false (sym o.0 ∙ ap is_last (sym el) ∙ y));
        all = λ y. w;
      }

  turned : (x : Asked) → asked (entry_of e) ≡ x → Does s x line t → Going j done (e ++ rest) n s → Turned
  turned (call c) q m g =
      let r = m.replies.sound h in
      by-call c q (m.prints ∙ ap (line_of c) r) (m.leaves ∙ ap (λ (y : Reply). y.store) r) g.most g.enough g.is
  turned (none l) q m g = by-none l q m.0 g.most g.enough g.is

-- what a turn leaves is sound
module _ (s t : Store) (line : Line) (h : SoundStore six places pool_limit s) (a : Places six places pool_limit s) where
  turn-leaves : (x : Asked) → Does s x line t → SoundStore six places pool_limit t × Places six places pool_limit t
  turn-leaves (call c) m =
      let v = served-leaves six places pool_limit six-multiplies small-six s c a h in
      let x = m.leaves ∙ ap (λ (r : Reply). r.store) (m.replies.sound h) in
      (subst⁻¹ (SoundStore six places pool_limit) x v.sound, subst⁻¹ (Places six places pool_limit) x v.places)
  turn-leaves (none l) m = (subst⁻¹ (SoundStore six places pool_limit) m.1 h, subst⁻¹ (Places six places pool_limit) m.1 a)

regroup : (a b c d : List ℕ) → (a ++ (b ++ c)) ++ d ≡ (a ++ b) ++ (c ++ d)
regroup a b c d = simp append_assoc

-- ---- a turn of a reader and a writer

-- what waits is written, or a part of it
pub so-sent : (r0 r w0 w w' : Option (List ℕ)) (x y : List ℕ) (n : ℕ) (s : Store) → So r0 r w0 w x n s → Sends w w' x y → So r0 r w0 w' y n s
so-sent None r w0 w w' x y n s k q = record { sound = k.sound; places = k.places; going = tt }
so-sent (Some j) r w0 w w' x y n s k q =
    let (out, rest, e, p, g) = k.going in
    let m : out ++ x ≡ (out ++ q.sent) ++ y = ap (λ (l : List ℕ). out ++ l) q.split ∙ sym (append_assoc out q.sent y) in
    record { sound = k.sound; places = k.places; going = (out ++ q.sent, rest, e, Appends-trans _ _ _ _ _ p q.appends, subst (λ (l : List ℕ). Going j l rest n s) m g) }

pub so-part : (r0 r w0 w w' : Option (List ℕ)) (x : List ℕ) (n : ℕ) (s : Store) → So r0 r w0 w x n s → AppendsPart w w' x → IfSome r0 (λ j. AppendsPart w0 w' (after_first j))
so-part None r w0 w w' x n s k q = tt
so-part (Some j) r w0 w w' x n s k q =
    let (out, rest, e, p, g) = k.going in
    let tail = numbered n (lines_from g.most rest s) in
    record {
      part = out ++ q.part;
      rest = q.rest ++ tail;
      split = g.is ∙ ap (λ (l : List ℕ). (out ++ l) ++ tail) q.split ∙ regroup out q.part q.rest tail;
      appends = Appends-trans _ _ _ _ _ p q.appends;
    }

pub done-sent : (r0 w0 w w' : Option (List ℕ)) (x y : List ℕ) → Done r0 w0 w x → Sends w w' x y → Done r0 w0 w' y
done-sent None w0 w w' x y k q = tt
done-sent (Some j) w0 w w' x y k q =
    let (out, p, g) = k in
    (out ++ q.sent, Appends-trans _ _ _ _ _ p q.appends, g ∙ ap (λ (l : List ℕ). out ++ l) q.split ∙ sym (append_assoc out q.sent y))

pub done-all : (r0 w0 w w' : Option (List ℕ)) (x : List ℕ) → Done r0 w0 w x → Sends w w' x [] → IfSome r0 (λ j. Appends w0 w' (after_first j))
done-all None w0 w w' x k q = tt
done-all (Some j) w0 w w' x k q =
    let (out, p, g) = done-sent (Some j) w0 w w' x [] k q in
    subst (Appends w0 w') (sym (g ∙ append-nil out)) p

pub done-part : (r0 w0 w w' : Option (List ℕ)) (x : List ℕ) → Done r0 w0 w x → AppendsPart w w' x → IfSome r0 (λ j. AppendsPart w0 w' (after_first j))
done-part None w0 w w' x k q = tt
done-part (Some j) w0 w w' x k q =
    let (out, p, g) = k in
    record {
      part = out ++ q.part;
      rest = q.rest;
      split = g ∙ ap (λ (l : List ℕ). out ++ l) q.split ∙ sym (append_assoc out q.part q.rest);
      appends = Appends-trans _ _ _ _ _ p q.appends;
    }

-- the entry whose bytes are e is served, and its line waits
module _ (r0 r' w0 w : Option (List ℕ)) (waiting : List ℕ) (n : ℕ) (t : Store) (line : Line) where
  pub record Turns : Type 0 where
    pub more : is_last line ≡ false → So r0 r' w0 w (waiting ++ line_text n line) (n + 1) t
    pub all : is_last line ≡ true → Done r0 w0 w (waiting ++ line_text n line)

module _ (w0 w : Option (List ℕ)) (waiting : List ℕ) (n : ℕ) (s t : Store) (line : Line) (e : List ℕ) (h : SoundStore six places pool_limit s) (a : Places six places pool_limit s) (m : Does s (asked (entry_of e)) line t) (fits : length e ≤ size_of e) where
  known-turns : (j out rest : List ℕ) (r' : Option (List ℕ)) → Appends w0 w out → Going j (out ++ waiting) rest n s → Consumes (Some rest) r' e → (length e ≡ size_of e) ⊎ IsAtEnd r' → Turns (Some j) r' w0 w waiting n t line
  known-turns j out rest None p g c o = absurd c
  known-turns j out rest (Some left) p g c o =
      let v = turn-leaves s t line h a (asked (entry_of e)) m in
      let x = turned j (out ++ waiting) e left n s t line h a (next-same e left o) (λ k z. next-behind e _ k fits z) (asked (entry_of e)) refl m (subst (λ (y : List ℕ). Going j (out ++ waiting) y n s) c g) in
      let q = append_assoc out waiting (line_text n line) in
      record {
        more = λ z. record { sound = v.0; places = v.1; going = (out, left, refl, p, subst (λ (l : List ℕ). Going j l left (n + 1) t) q (x.more z)) };
        all = λ z. (out, p, x.all z ∙ q);
      }

-- A TURN
pub so-turns : (r0 r r' w0 w : Option (List ℕ)) (waiting : List ℕ) (n : ℕ) (s t : Store) (line : Line) (e : List ℕ) (next : ℕ) → So r0 r w0 w waiting n s → ReadsEntry r r' e → Steps s e 0 line t next
    → Turns r0 r' w0 w waiting n t line
so-turns None r r' w0 w waiting n s t line e next k x m =
    let v = turn-leaves s t line k.sound k.places (asked (entry_of e)) m.serves in
    record { more = λ z. record { sound = v.0; places = v.1; going = tt }; all = λ z. tt }
so-turns (Some j) r r' w0 w waiting n s t line e next k x m =
    known-turns w0 w waiting n s t line e k.sound k.places m.serves x.fits j k.going.0 k.going.1 r' k.going.3 k.going.4 (subst (λ (y : Option (List ℕ)). Consumes y r' e) k.going.2 x.consumes) x.whole

-- a new store, before any entry
pub so-new : (r w : Option (List ℕ)) (x : List ℕ) (s : Store) → x ≡ [] → s ≡ new_store → So r r w w x 1 s
so-new r w x s n e = subst⁻¹ (λ (y : List ℕ). So r r w w y 1 s) n (subst⁻¹ (So r r w w [] 1) e (so-begins r w new_store refl new-sound.0 new-sound.1))
