-- Demand 3 on trees: the tree store is a store that answers as the frame store does. Assumes nothing.
use mathlib.Core.Path.{◌≡◌, refl, sym, ap, ◌∙◌}
use mathlib.Core.Logic.{◌≢◌}
use mathlib.Core.Bool.{false, false≢true}
use mathlib.Core.List.{List}
use Prim.Native.Nat.{ℕ, ◌≤◌}
use native.Mathlib.Omega.{arith}
use Rattle.sizes.specs.Ladder.{Ladder}
use Rattle.model.specs.Ladder.{frames, top}
use Rattle.model.specs.Frames.{bit}
use Rattle.model.specs.Calls.{Region, seeded, acquire, refused}
use Rattle.model.specs.FrameStore.{frame_step}
use Rattle.model.specs.Tree.{empty, free}
use Rattle.model.specs.TreeStore.{used, State, fresh, step}
use Rattle.model.specs.Runs.{Run, start, run, reseed, Roomy}
use Rattle.model.specs.Demands.{shown, SoundState, Demand3}
use Rattle.model.proofs.Frames.{count_add}
use Rattle.model.proofs.Free.{largest-empty, quiet-free}
use Rattle.model.proofs.Change.{sound_empty}
use Rattle.model.proofs.Count.{free_frames-count}
use Rattle.model.proofs.Words.{words-empty}
use Rattle.model.proofs.Regions.{seeded-past, seeded-count}
use Rattle.model.proofs.FrameStore.{same_self}
use Rattle.model.proofs.Demand2.{demand2}
use Rattle.model.proofs.AnyStore.{Answers, Inv, inv-run, deals-unheld, settled-answer, reseed-inv, reseed-held, reseed-regions}

module _ (L : Ladder) (most n : ℕ) where
  pub answers : Answers L most (step L most n) (shown L) (SoundState L most n)
  answers = record {
    keeps = λ s i c. (demand2 L most n s (shown L s) i (same_self L (shown L s)) c).keeps;
    answer = λ s g i w c. (demand2 L most n s g i w c).answer;
    leaves = λ s g i w c. (demand2 L most n s g i w c).leaves;
    stays = λ s i c. (demand2 L most n s (shown L s) i (same_self L (shown L s)) c).refusal 9;
  }

  -- a fresh store is sound and offers nothing
  empty-free : (f : ℕ) → free L (top L) (empty (top L)) f ≡ false
  empty-free f = quiet-free L (top L) (empty (top L)) f (largest-empty (top L))

  pub fresh-sound : 1 ≤ n → SoundState L most n (fresh L)
  unfolding used
  fresh-sound l = record {
    sound = sound_empty L (top L);
    room = omega (arith, words-empty (top L));
    fit = tt;
    few = omega arith;
    inside = λ f k e. absurd (false≢true (sym (empty-free f) ∙ e));
  }

  fresh-inv : 1 ≤ n → Inv L most (fresh L) (step L most n) (shown L) (SoundState L most n) answers (start (fresh L))
  unfolding seeded
  fresh-inv l = record { good = fresh-sound l; split = record { adds = λ f k. omega (arith, ap bit (empty-free f)); out = λ f k. refl } }

pub demand3 : (L : Ladder) (most n : ℕ) → Demand3 L most n
demand3 L most n l cs = record {
  sound = i.good;
  split = i.split.adds;
  beyond = λ f k. (seeded-past (frames L (top L)) s.regions i.good.fit f k, i.split.out f k);
  totals = omega (
    arith,
    free_frames-count L (top L) s.tree i.good.sound,
    seeded-count (frames L (top L)) s.regions i.good.fit,
    count_add (seeded s.regions) (free L (top L) s.tree) r.held (frames L (top L)) i.split.adds,
  );
  unheld = deals-unheld L most (fresh L) (step L most n) (shown L) (SoundState L most n) (answers L most n) r i;
  settled = settled;
}
  where
    r : Run (State L)
    r = run L (step L most n) (start (fresh L)) cs

    s : State L
    s = r.state

    i : Inv L most (fresh L) (step L most n) (shown L) (SoundState L most n) (answers L most n) r
    i = inv-run L most (fresh L) (step L most n) (shown L) (SoundState L most n) (answers L most n) cs (start (fresh L)) (fresh-inv L most n l)

    settled : ((f : ℕ) → r.held f ≡ false) → (n' : ℕ) → 1 ≤ n' → Roomy L (step L most n') (fresh L) s.regions → (c : ℕ)
        → (step L most n s (acquire c)).answer ≢ refused 9 → (step L most n' (reseed L (step L most n') (fresh L) s.regions).state (acquire c)).answer ≢ refused 9
        → (step L most n s (acquire c)).answer ≡ (step L most n' (reseed L (step L most n') (fresh L) s.regions).state (acquire c)).answer
    settled e n' l' room c x y =
        let a' = answers L most n' in
        let q = reseed L (step L most n') (fresh L) s.regions in
        let j = reseed-inv L most (fresh L) (step L most n') (shown L) (SoundState L most n') a' (fresh-inv L most n' l') s.regions in
        let same : q.state.regions ≡ s.regions = reseed-regions L most (fresh L) (step L most n') (shown L) (SoundState L most n') a' (fresh-inv L most n' l') refl s.regions i.good.fit i.good.few room in
        settled-answer L most (fresh L) (step L most n) (shown L) (SoundState L most n) (answers L most n) r i e (acquire c) x
        ∙ ap (λ (rs : List Region). (frame_step L most (record { free = seeded rs; regions = rs }) (acquire c)).answer) (sym same)
        ∙ sym (settled-answer L most (fresh L) (step L most n') (shown L) (SoundState L most n') a' q j (reseed-held L most (fresh L) (step L most n') (shown L) (SoundState L most n') a' s.regions) (acquire c) y)
