-- What a journal does is a run of calls; from a sound store every journal is replayed to its end. Assumes nothing.
use mathlib.Core.Path.{◌≡◌, refl, sym, ap, ap₂, subst}
use mathlib.Core.Logic.{inl, inr}
use mathlib.Core.Bool.{false}
use mathlib.Core.List.{List, [], ◌∷◌}
use Prim.Native.Nat.{ℕ, zero, suc, ◌+◌, ◌-◌, ◌≤◌, ◌<◌}
use native.Mathlib.Omega.{arith}
use lib.ListN.{length}
use Rattle.sizes.specs.Six.{six}
use Rattle.sizes.proofs.Six.{six-multiplies}
use Rattle.model.specs.Calls.{Call, seed, acquire, release, report}
use Rattle.pool.specs.Limits.{places, pool_limit}
use Rattle.pool.proofs.Sizes.{small-six}
use Rattle.pages.specs.Calls.{Store, Places, SoundStore, Replies, served, fresh_reply}
use Rattle.demands.specs.Demands.{Runs, none, more, Kept, sown, held}
use Rattle.demands.proofs.Serves.{served-leaves}
use Rattle.demands.proofs.Demands.{demand3}
use Rattle.journal.specs.declared.Entry.{Entry}
use Rattle.journal.specs.declared.Entry.TheVariants.{Seed, Acquire, Release, Report, Bad as BadEntry, End as EndEntry}
use Rattle.journal.specs.declared.Reading.{Reading}
use Rattle.journal.specs.declared.Line.{Line}
use Rattle.journal.specs.declared.Line.TheVariants.{Bad}
use Rattle.journal.specs.Entries.{behind, read_at}
use Rattle.journal.specs.Steps.{line_of, Makes, Asked, call, asked, Does, Steps}
use Rattle.journal.proofs.Entries.{none_read}
use Rattle.journal.specs.Journals.{Replays, ends, stops, makes, AsRun, Replayed}

-- a call before a run
more-run : (s t u : Store) (c : Call) (line : Line) (lines : List Line) → Makes s c line t → AsRun t lines u → AsRun s (line ∷ lines) u
more-run s t u c line lines m a = record {
  calls = c ∷ a.calls;
  replies = m.reply ∷ a.replies;
  runs = more c m.reply m.replies (subst (λ (y : Store). Runs six places pool_limit y a.calls a.replies u) m.leaves a.runs);
  last = a.last;
  bad = a.bad;
  prints = ap₂ (λ (x : Line) (xs : List Line). x ∷ xs) m.prints a.prints;
}

-- A JOURNAL IS A RUN OF CALLS
pub as-run : (j : List ℕ) (at : ℕ) (s : Store) (lines : List Line) (t : Store) → Replays j at s lines t → AsRun s lines t
as-run j at s lines t (ends e) = record { calls = []; replies = []; runs = none; last = []; bad = inl refl; prints = refl }
as-run j at s lines t (stops n e) = record { calls = []; replies = []; runs = none; last = Bad n ∷ []; bad = inr (n, refl); prints = refl }
as-run j at s lines t (makes c line e m k) = more-run _ _ _ c line _ m (as-run j _ _ _ _ k)

-- ... so what the demands say of runs holds behind every journal
pub journal-kept : (j p : List ℕ) (lines : List Line) (t : Store) → (fresh_reply six places pool_limit p).refusal ≡ 0 → (k : Replays j 0 (fresh_reply six places pool_limit p).store lines t)
    → let a = as-run j 0 (fresh_reply six places pool_limit p).store lines t k in Kept six places pool_limit t (sown six places pool_limit a.calls a.replies []) (held six places pool_limit a.calls a.replies (λ f. false))
journal-kept j p lines t f k = let a = as-run j 0 (fresh_reply six places pool_limit p).store lines t k in demand3 p f a.calls a.replies t a.runs

-- EVERY JOURNAL IS REPLAYED TO ITS END, from a sound store; each entry takes a byte at least
module _ (j : List ℕ) where
  -- what is left behind an entry is replayed
  abbrev Later : (n at : ℕ) → Type 0
  Later n at = (i : ℕ) (t : Store) → length j - i ≤ n → SoundStore six places pool_limit t → Places six places pool_limit t → Replayed j i t

  module _ (n at : ℕ) (s : Store) (l : length j - at ≤ suc n) (h : SoundStore six places pool_limit s) (a : Places six places pool_limit s) (later : Later n at) where
    made : (c : Call) → asked (read_at j at).entry ≡ call c → at < (read_at j at).next → Replayed j at s
    made c e b =
        let v = served-leaves six places pool_limit six-multiplies small-six s c a h in
        let r = served six places pool_limit s c in
        let q : Replies six places pool_limit s c r = record { unsound = λ k. absurd (k h); sound = λ k. refl } in
        let m : Makes s c (line_of c r) r.store = record { reply = r; replies = q; prints = refl; leaves = refl } in
        let d : length j - (read_at j at).next ≤ n = omega (arith, l, b) in
        let k = later (read_at j at).next r.store d v.sound v.places in
        record { lines = line_of c r ∷ k.lines; store = k.store; replays = makes c (line_of c r) e m k.replays }

    behind-is : (e : Entry) → (read_at j at).entry ≡ e → (read_at j at).next ≡ behind e (at + 1) (length j)
    behind-is e q = ap (λ (y : Entry). behind y (at + 1) (length j)) q

    by-entry : (e : Entry) → (read_at j at).entry ≡ e → Replayed j at s
    by-entry (Seed b e) q = let i = behind-is (Seed b e) q in made (seed b.0 e.0) (ap asked q) (omega (arith, i))
    by-entry (Acquire c) q = let i = behind-is (Acquire c) q in made (acquire c) (ap asked q) (omega (arith, i))
    by-entry (Release b c) q = let i = behind-is (Release b c) q in made (release b.0 c) (ap asked q) (omega (arith, i))
    by-entry Report q = let i = behind-is Report q in made report (ap asked q) (omega (arith, i))
    by-entry (BadEntry k) q = record { lines = Bad k ∷ []; store = s; replays = stops k (ap asked q) }
    by-entry EndEntry q = record { lines = []; store = s; replays = ends (ap asked q) }

  pub replayed : (n at : ℕ) (s : Store) → length j - at ≤ n → SoundStore six places pool_limit s → Places six places pool_limit s → Replayed j at s
  replayed zero at s l h a = record { lines = []; store = s; replays = ends (ap (λ (y : Reading). asked y.entry) (sym (none_read j at (omega (arith, l))))) }
  replayed (suc n) at s l h a = by-entry n at s l h a (replayed n) (read_at j at).entry refl

-- A STEP IS PART OF A REPLAY: of an entry that asks for a call
pub step-replays : (j : List ℕ) (at n : ℕ) (s t u : Store) (line : Line) (lines : List Line) (c : Call) → asked (read_at j at).entry ≡ call c → Steps s j at line t n → Replays j n t lines u → Replays j at s (line ∷ lines) u
step-replays j at n s t u line lines c e m k =
    makes c line e
    (subst (λ (x : Asked). Does s x line t) e m.serves)
    (subst (λ (i : ℕ). Replays j i t lines u) m.goes k)
