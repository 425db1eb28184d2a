-- What is printed is the lines of the journal's one replay, with their numbers. Assumes nothing.
use Rattle.std.proofs.Common.{◌≡◌, ◌<◌, ◌≤◌, ◌+◌, ◌-◌, ℕ, zero, suc, List, [], ◌∷◌, ◌++◌, length, drop, arith, sym, ap, ◌∙◌}
use mathlib.Core.Path.{ap₂, subst⁻¹}
use lib.ListN.{length-drop}
use lib.Seq.{drop-drop}
use Rattle.sizes.specs.Six.{six}
use Rattle.sizes.proofs.Six.{six-multiplies}
use Rattle.model.specs.Calls.{Call}
use Rattle.pool.specs.Limits.{places, pool_limit}
use Rattle.pool.proofs.Sizes.{small-six}
use Rattle.pages.specs.Calls.{Store, Reply, Places, SoundStore, served}
use Rattle.demands.proofs.Serves.{served-leaves}
use Rattle.journal.specs.declared.Entry.{Entry}
use Rattle.journal.specs.declared.Entry.TheVariants.{Seed, Acquire, Release, Report, Bad, End}
use Rattle.journal.specs.declared.Line.{Line}
use Rattle.journal.specs.declared.Line.TheVariants.{Bad as BadLine, End as NoLine}
use Rattle.journal.specs.Entries.{entry_of, behind, read_at}
use Rattle.journal.specs.Steps.{line_of, Makes, call, asked}
use Rattle.journal.specs.Journals.{Replays, ends, stops, makes}
use Rattle.journal.proofs.Journals.{replayed}
use Rattle.replay.specs.Printed.{lines_from, numbered, new_store, after_first, first_line, printed, IsOutput}
use Rattle.replay.proofs.Turns.{lines-call, lines-none, call-some}
use Rattle.replay.proofs.NewStore.{new-sound}

-- the index behind an entry that asks for a call, from where it starts
behind-from : (e : Entry) (c : Call) (at m n : ℕ) → asked e ≡ call c → behind e (at + 1) m ≡ at + behind e 1 n
behind-from (Seed a e) c at m n q = omega arith
behind-from (Acquire k) c at m n q = omega arith
behind-from (Release b k) c at m n q = omega arith
behind-from Report c at m n q = omega arith
behind-from (Bad k) c at m n q = cc
behind-from End c at m n q = cc

behind-more : (e : Entry) (c : Call) (n : ℕ) → asked e ≡ call c → 0 < behind e 1 n
behind-more (Seed a e) c n q = omega arith
behind-more (Acquire k) c n q = omega arith
behind-more (Release b k) c n q = omega arith
behind-more Report c n q = omega arith
behind-more (Bad k) c n q = cc
behind-more End c n q = cc

-- a call, and what is printed behind it
module _ (j : List ℕ) (at most : ℕ) (s t : Store) (c : Call) (line : Line) (ls : List Line) (l : length j - at < suc most) (h : SoundStore six places pool_limit s) (a : Places six places pool_limit s) (e : asked (read_at j at).entry ≡ call c) (m : Makes s c line t) where
  next-is : (read_at j at).next ≡ at + behind (entry_of (drop at j)) 1 (length (drop at j))
  next-is = behind-from (entry_of (drop at j)) c at (length j) (length (drop at j)) e

  -- what is left is shorter
  shorter : length j - (read_at j at).next < most
  shorter =
      let b = behind-more (entry_of (drop at j)) c (length (drop at j)) e in
      omega (arith, l, next-is, b, call-some (drop at j) c e, length-drop at j)

  sound-behind : SoundStore six places pool_limit t × Places six places pool_limit t
  sound-behind =
      let v = served-leaves six places pool_limit six-multiplies small-six s c a h in
      let x = m.leaves ∙ ap (λ (r : Reply). r.store) (m.replies.sound h) in
      (subst⁻¹ (SoundStore six places pool_limit) x v.sound, subst⁻¹ (Places six places pool_limit) x v.places)

  then-lines : lines_from most (drop (read_at j at).next j) t ≡ ls → lines_from (suc most) (drop at j) s ≡ line ∷ ls
  then-lines k =
      let r = m.replies.sound h in
      let el = m.prints ∙ ap (line_of c) r in
      let et = m.leaves ∙ ap (λ (y : Reply). y.store) r in
      let d = drop-drop (behind (entry_of (drop at j)) 1 (length (drop at j))) at j ∙ ap (λ (i : ℕ). drop i j) (sym next-is) in
      lines-call most (drop at j) s c e ∙ ap₂ (λ (x : List ℕ) (y : Store). line_of c (served six places pool_limit s c) ∷ lines_from most x y) d (sym et) ∙ ap₂ (λ (x : Line) (xs : List Line). x ∷ xs) (sym el) k

-- THE LINES ARE THOSE OF A REPLAY
pub lines-replayed : (j : List ℕ) (at most : ℕ) (s t : Store) (ls : List Line) → length j - at < most → SoundStore six places pool_limit s → Places six places pool_limit s → Replays j at s ls t → lines_from most (drop at j) s ≡ ls
lines-replayed j at zero s t ls l h a r = absurd (omega (arith, l))
lines-replayed j at (suc most) s t ls l h a (ends e) = lines-none most (drop at j) s NoLine e
lines-replayed j at (suc most) s t ls l h a (stops n e) = lines-none most (drop at j) s (BadLine n) e
lines-replayed j at (suc most) s t ls l h a (makes c line e m k) =
    let v = sound-behind j at most s _ c line [] l h a e m in
    then-lines j at most s _ c line _ l h a e m (lines-replayed j (read_at j at).next most _ t _ (shorter j at most s _ c line [] l h a e m) v.0 v.1 k)

-- WHAT IS PRINTED IS THE OUTPUT OF THE JOURNAL'S REPLAY
pub printed_replayed : (j : List ℕ) → IsOutput j (printed j)
unfolding printed after_first
printed_replayed j =
    let whole : length j - 0 ≤ length j = omega arith in
    let r = replayed j (length j) 0 new_store whole new-sound.0 new-sound.1 in
    let l = lines-replayed j 0 (suc (length j)) new_store r.store r.lines (omega arith) new-sound.0 new-sound.1 r.replays in
    record { replayed = r; text = ap (λ (x : List Line). first_line ++ numbered 1 x) l }
