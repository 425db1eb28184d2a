-- A journal has one replay from a sound store. Assumes nothing.
use mathlib.Core.Path.{◌≡◌, refl, sym, ap, ap₂, ◌∙◌, subst, subst⁻¹}
use mathlib.Core.List.{List, [], ◌∷◌}
use Prim.Native.Nat.{ℕ, suc}
use native.Mathlib.Omega.{arith}
use Rattle.sizes.specs.Six.{six}
use Rattle.sizes.proofs.Six.{six-multiplies}
use Rattle.model.specs.Calls.{Call}
use Rattle.pool.specs.Limits.{places, pool_limit}
use Rattle.pool.proofs.Sizes.{small-six}
use Rattle.pages.specs.Calls.{Store, Reply, Places, SoundStore}
use Rattle.demands.proofs.Serves.{served-leaves}
use Rattle.journal.specs.declared.Line.{Line}
use Rattle.journal.specs.declared.Line.TheVariants.{Seed, Acquire, Release, Report, Bad, End}
use Rattle.journal.specs.Entries.{read_at}
use Rattle.journal.specs.Steps.{Makes, Asked, call, none, asked}
use Rattle.journal.specs.Journals.{Replays, ends, stops, makes}
use Rattle.journal.proofs.Unique.{makes-unique}

-- what tells the ways on apart: the end, a bad entry and its number, a call
abbrev way : Asked → ℕ
way (call c) = 0
way (none l) = elim l [ Seed n ↦ 0 | Acquire n b k ↦ 0 | Release n ↦ 0 | Report n a f m u ↦ 0 | Bad n ↦ suc (suc n) | End ↦ 1 ]

abbrev called : Call → Asked → Call
called d (call c) = c
called d (none l) = d

module _ (j : List ℕ) (at : ℕ) (s : Store) (h : SoundStore six places pool_limit s) (a : Places six places pool_limit s) where
  -- a call and what follows it
  after : (t t' u u' : Store) (c c' : Call) (l l' : Line) (ls ls' : List Line) → asked (read_at j at).entry ≡ call c → asked (read_at j at).entry ≡ call c' → Makes s c l t → Makes s c' l' t'
      → (SoundStore six places pool_limit t → Places six places pool_limit t → Replays j (read_at j at).next t ls' u' → (ls ≡ ls') × (u ≡ u'))
      → Replays j (read_at j at).next t' ls' u' → (l ∷ ls ≡ l' ∷ ls') × (u ≡ u')
  after t t' u u' c c' l l' ls ls' e e' m m' next k =
      let d : c' ≡ c = ap (called c) (sym e' ∙ e) in
      let o = makes-unique s a l l' t t' c m (subst (λ (x : Call). Makes s x l' t') d m') in
      let v = served-leaves six places pool_limit six-multiplies small-six s c a h in
      let x = m.leaves ∙ ap (λ (r : Reply). r.store) (m.replies.sound h) in
      let n = next (subst⁻¹ (SoundStore six places pool_limit) x v.sound) (subst⁻¹ (Places six places pool_limit) x v.places) (subst⁻¹ (λ (y : Store). Replays j (read_at j at).next y ls' u') o.1 k) in
      (ap₂ (λ (y : Line) (ys : List Line). y ∷ ys) o.0 n.0, n.1)

-- NO SECOND REPLAY
pub replays-unique : (j : List ℕ) (at : ℕ) (s : Store) (lines lines' : List Line) (t t' : Store) → SoundStore six places pool_limit s → Places six places pool_limit s → Replays j at s lines t → Replays j at s lines' t' → (lines ≡ lines') × (t ≡ t')
replays-unique j at s lines lines' t t' h a (ends e) (ends e') = (refl, refl)
replays-unique j at s lines lines' t t' h a (ends e) (stops n e') = let x = ap way (sym e ∙ e') in absurd (omega (arith, x))
replays-unique j at s lines lines' t t' h a (ends e) (makes c l e' m k) = let x = ap way (sym e ∙ e') in absurd (omega (arith, x))
replays-unique j at s lines lines' t t' h a (stops n e) (ends e') = let x = ap way (sym e ∙ e') in absurd (omega (arith, x))
replays-unique j at s lines lines' t t' h a (stops n e) (stops n' e') =
    let x = ap way (sym e ∙ e') in
    let y : n ≡ n' = omega (arith, x) in
    (ap (λ (i : ℕ). Bad i ∷ []) y, refl)
replays-unique j at s lines lines' t t' h a (stops n e) (makes c l e' m k) = let x = ap way (sym e ∙ e') in absurd (omega (arith, x))
replays-unique j at s lines lines' t t' h a (makes c l e m k) (ends e') = let x = ap way (sym e ∙ e') in absurd (omega (arith, x))
replays-unique j at s lines lines' t t' h a (makes c l e m k) (stops n e') = let x = ap way (sym e ∙ e') in absurd (omega (arith, x))
replays-unique j at s lines lines' t t' h a (makes c l e m k) (makes c' l' e' m' k') =
    after j at s h a _ _ _ _ c c' l l' _ _ e e' m m' (λ h' a' q. replays-unique j _ _ _ _ _ _ h' a' k q) k'
