-- A sound store of words is a sound state of the model's tree store, and shows the same frames. Assumes a ladder of at most 7 codes whose sizes multiply up.
use mathlib.Core.Path.{◌≡◌, refl, sym, ap, ◌∙◌}
use mathlib.Core.Bool.{Bool, true, false}
use mathlib.Core.List.{List}
use Prim.Native.Nat.{ℕ, zero, suc, ◌+◌, ◌/◌, ◌%◌, ◌<◌}
use native.Mathlib.Omega.{arith}
use native.Mathlib.Nat.{mod-lt}
use lib.ListN.{length}
use Rattle.sizes.specs.Ladder.{Ladder}
use Rattle.sizes.specs.Laws.{MultipliesUp}
use Rattle.model.specs.Ladder.{fan, frames, top}
use Rattle.model.specs.FrameStore.{Same}
use Rattle.model.specs.Tree.{Tree, node, empty, free}
use Rattle.model.specs.TreeStore.{used}
use Rattle.model.specs.Demands.{SoundState, shown as tree_shown}
use Rattle.model.proofs.Change.{child-lt}
use Rattle.model.proofs.Free.{largest-empty, quiet-free}
use Rattle.model.proofs.Ladder.{frames-pos}
use Rattle.pool.specs.Regions.{regions_of}
use Rattle.pool.specs.Words.{word, link_of, has_token}
use Rattle.pool.specs.View.{block, view}
use Rattle.pool.proofs.Regions.{regions-if}
use Rattle.pool.proofs.Tree.{tab-at}
use Rattle.pool.proofs.With.{count-is, newest-fit, newest-length, newest-seeded}
use Rattle.pages.specs.Frames.{free_below}
use Rattle.pages.specs.Calls.{Store, Places, SoundStore, shown, tree_of}
use Rattle.pages.proofs.Laws.{pool-laws}
use Rattle.pages.proofs.SoundView.{sound-laws}

module _ (L : Ladder) where
  -- free frames of the words are the view's
  pub free-view : (d : ℕ) (p : List ℕ) (q f : ℕ) → f < frames L d → free_below L d p q f ≡ free L d (view L d (word p) q) f
  unfolding free_below view free
  free-view zero p q f h = refl
  free-view (suc d) p q f h = go (has_token (word p q)) (link_of (word p q)) (λ r. free-view d p r (f % frames L d) (mod-lt f (frames-pos L d)))
    where
      go : (v : Bool) (l : ℕ) → ((r : ℕ) → free_below L d p r (f % frames L d) ≡ free L d (view L d (word p) r) (f % frames L d))
          → elim v [ true ↦ true | false ↦ elim l [ zero ↦ false | suc k ↦ free_below L d p (suc (suc k) + f / frames L d) (f % frames L d) ] ] ≡ free L (suc d) (node v (block (fan L (suc d)) (view L d (word p)) l)) f
      go true l ih = refl
      go false zero ih = sym (quiet-free L d (empty d) (f % frames L d) (largest-empty d))
      go false (suc k) ih = ih (suc (suc k) + f / frames L d) ∙ ap (λ (t : Tree d). free L d t (f % frames L d)) (sym (tab-at (view L d (word p)) (suc (suc k)) (fan L (suc d)) (f / frames L d) (empty d) (child-lt L d f h)))

module _ (L : Ladder) (most limit : ℕ) (m : MultipliesUp L) (small : suc (top L) < 8) where
  -- a sound store holds a sound state of the tree store
  pub sound-state : (s : Store) → Places L most limit s → SoundStore L most limit s → SoundState L most (length s.pool) (tree_of L most limit s)
  unfolding used
  sound-state s a h =
      let ss = s.state.starts in
      let es = s.state.ends in
      let w = (sound-laws L m small most limit ss es a.starts a.ends).to_words s.pool s.state.used h in
      let l = pool-laws L s.pool s.state.used small w.0 in
      record {
        sound = l.root.sound;
        room = omega (arith, l.used, h.high);
        fit = newest-fit L m ss es (regions-if L m most ss es a.starts a.ends w.1);
        few = omega (arith, newest-length (regions_of L ss es), count-is L most ss es w.1 a.starts a.ends, w.1.few);
        inside = λ f lt t. newest-seeded (regions_of L ss es) f ∙ w.3 f lt t;
      }

  -- and shows its frames
  pub shown-same : (s : Store) → Same L (tree_shown L (tree_of L most limit s)) (shown L most limit s)
  shown-same s = record { regions = refl; frames = λ f h. sym (free-view L (top L) s.pool 0 f h) }
