-- An entry has one line and leaves one store; a step goes on at one index; a printed line is one. Assumes nothing.
use mathlib.Core.Path.{◌≡◌, sym, ap, ap₂, ◌∙◌}
use mathlib.Core.List.{List, ◌++◌}
use Prim.Native.Nat.{ℕ, ◌+◌, ◌≤◌}
use native.Mathlib.Decide.{dec_le}
use lib.ListN.{length, take, drop, take-append-drop}
use Rattle.sizes.specs.Six.{six}
use Rattle.sizes.proofs.Six.{six-multiplies}
use Rattle.model.specs.Calls.{Call, seed, acquire, release, report}
use Rattle.pool.specs.Limits.{places, pool_limit}
use Rattle.pages.specs.Calls.{Store, Reply, Places}
use Rattle.demands.proofs.Unique.{unique}
use Rattle.journal.specs.declared.Entry.{Entry}
use Rattle.journal.specs.declared.Entry.TheVariants.{Seed, Acquire, Release, Report, Bad, End}
use Rattle.journal.specs.declared.Line.{Line}
use Rattle.journal.specs.Entries.{read_at}
use Rattle.journal.specs.Lines.{longest_line, Appends}
use Rattle.journal.specs.Steps.{line_of, Makes, Serves, Steps}

module _ (s : Store) (h : Places six places pool_limit s) (l l' : Line) (t t' : Store) where
  -- a call that is made
  pub makes-unique : (c : Call) → Makes s c l t → Makes s c l' t' → (l ≡ l') × (t ≡ t')
  makes-unique c m m' =
      let e = unique six places pool_limit six-multiplies s c m.reply m'.reply m.replies m'.replies h in
      (m.prints ∙ ap (line_of c) e ∙ sym m'.prints, m.leaves ∙ ap (λ (r : Reply). r.store) e ∙ sym m'.leaves)

  -- NO SECOND LINE OR STORE SATISFIES AN ENTRY'S PROMISE
  pub serves-unique : (e : Entry) → Serves s e l t → Serves s e l' t' → (l ≡ l') × (t ≡ t')
  serves-unique (Seed a e) m m' = makes-unique (seed a.0 e.0) m m'
  serves-unique (Acquire c) m m' = makes-unique (acquire c) m m'
  serves-unique (Release b c) m m' = makes-unique (release b.0 c) m m'
  serves-unique Report m m' = makes-unique report m m'
  serves-unique (Bad n) m m' = (m.0 ∙ sym m'.0, m.1 ∙ sym m'.1)
  serves-unique End m m' = (m.0 ∙ sym m'.0, m.1 ∙ sym m'.1)

  -- ... OR A STEP'S
  pub steps-unique : (j : List ℕ) (at n n' : ℕ) → Steps s j at l t n → Steps s j at l' t' n' → ((l ≡ l') × (t ≡ t')) × (n ≡ n')
  steps-unique j at n n' m m' = (serves-unique (read_at j at).entry m.serves m'.serves, m.goes ∙ sym m'.goes)

-- ... OR THAT OF A LINE: every byte is told
pub appends-unique : (b : List ℕ) (at : ℕ) (t : List ℕ) (r r' : ℕ) (a a' : List ℕ) → Appends b at t r a → Appends b at t r' a' → (r ≡ r') × (a ≡ a')
appends-unique b at t r r' a a' x x' = go (dec_le (at + longest_line) (length b))
  where
    go : Dec (at + longest_line ≤ length b) → (r ≡ r') × (a ≡ a')
    go (no h) = ((x.none h).0 ∙ sym (x'.none h).0, (x.none h).1 ∙ sym (x'.none h).1)
    go (yes h) =
        let p = (x.room h).1 in
        let p' = (x'.room h).1 in
        let e : r ≡ r' = p.index ∙ sym p'.index in
        let f : take r a ≡ take r a' = p.bytes ∙ sym p'.bytes ∙ ap (λ (i : ℕ). take i a') (sym e) in
        let d : drop r a ≡ drop r a' = p.rest ∙ ap (λ (i : ℕ). drop i b) e ∙ sym p'.rest ∙ ap (λ (i : ℕ). drop i a') (sym e) in
        (e, sym (take-append-drop r a) ∙ ap₂ (λ (y z : List ℕ). y ++ z) f d ∙ take-append-drop r a')
