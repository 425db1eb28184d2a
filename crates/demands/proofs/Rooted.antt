-- A fresh store is sound, and its tree is the model's fresh one. Assumes a ladder of at most 7 codes whose sizes multiply up.
use mathlib.Core.Path.{◌≡◌, refl, sym, ap, ◌∙◌}
use mathlib.Core.Bool.{Bool, true, false, ◌&&◌, cond, true≢false}
use mathlib.Core.List.{List, []}
use Prim.Native.Nat.{ℕ, zero, suc, ◌≤◌, ◌<◌}
use native.Mathlib.Omega.{arith}
use lib.Dec.{leb, ltb}
use lib.ListN.{length, set, replicate, length-replicate, length-set}
use lib.Seq.{get_or-set_same}
use borrow.Author.Tests.{le-leb, leb-true}
use Rattle.sizes.specs.Ladder.{Ladder, largest}
use Rattle.sizes.specs.Laws.{MultipliesUp}
use Rattle.model.specs.Ladder.{top}
use Rattle.model.specs.Tree.{Tree, empty, free}
use Rattle.model.specs.TreeStore.{fresh}
use Rattle.model.proofs.Ladder.{largest-top}
use Rattle.model.proofs.Lists.{get_or-rep}
use Rattle.model.proofs.Free.{largest-empty, quiet-free}
use Rattle.pool.specs.Words.{word, pack, max_of, token_of, level_of, link_of, fan_out_of}
use Rattle.pool.specs.View.{view}
use Rattle.pool.specs.Regions.{Regions, regions_of}
use Rattle.pool.specs.Blocks.{Ok}
use Rattle.pool.specs.Check.{SoundW, Marked, Rule, marks_pass, max_below, all_below}
use Rattle.pool.proofs.Marks.{off-rule}
use Rattle.pages.specs.Calls.{Store, store, plain, no_regions, SoundStore, fresh_reply, Places, tree_of}
use Rattle.pages.proofs.Words.{fields}
use Rattle.pages.proofs.SoundView.{sound-laws}

-- an unopened node without token, whose max is 0, keeps the rules
bare-rule : (l : ℕ) (p : List ℕ) (n v k : ℕ) → token_of v ≡ 0 → max_of v ≡ 0 → k ≡ 0 → marks_pass l v (max_below p n k) (all_below p n k) ≡ true
unfolding max_below all_below
bare-rule l p n v zero t x k = off-rule l v 0 false t x refl
bare-rule l p n v (suc k) t x e = absurd (omega arith)

module _ (L : Ladder) (most limit : ℕ) where
  -- fresh accepts a pool of 1 to `limit` words, and no other
  pub fresh-fits : (p : List ℕ) → (fresh_reply L most limit p).refusal ≡ 0 → (1 ≤ length p) × (length p ≤ limit)
  unfolding fresh_reply
  fresh-fits p e = go (leb 1 (length p)) (leb (length p) limit) refl refl e
    where
      go : (x y : Bool) → leb 1 (length p) ≡ x → leb (length p) limit ≡ y → (cond (x && y) (plain 0 (store (no_regions most 1) (set p 0 (pack 0 0 (largest L) 0)))) (plain 11 (store (no_regions most 0) p))).refusal ≡ 0
          → (1 ≤ length p) × (length p ≤ limit)
      go true true a b r = (leb-true 1 (length p) a, leb-true (length p) limit b)
      go true false a b r = absurd (omega arith)
      go false y a b r = absurd (omega arith)

  -- a new root in word 0
  abbrev pub rooted : List ℕ → Store
  rooted p = store (no_regions most 1) (set p 0 (pack 0 0 (largest L) 0))

  pub fresh-is : (p : List ℕ) → 1 ≤ length p → length p ≤ limit → fresh_reply L most limit p ≡ plain 0 (rooted p)
  unfolding fresh_reply
  fresh-is p lo hi = rw (le-leb 1 (length p) lo, le-leb (length p) limit hi) refl

  no-regions : (k : ℕ) → regions_of L (replicate k 0) (replicate k 0) ≡ []
  unfolding regions_of
  no-regions zero = refl
  no-regions (suc k) = refl

  pub rooted-places : (p : List ℕ) → Places L most limit (rooted p)
  rooted-places p = record { starts = length-replicate most 0; ends = length-replicate most 0 }

  module _ (m : MultipliesUp L) (small : suc (top L) < 8) (p : List ℕ) (lo : 1 ≤ length p) where
    abbrev q : List ℕ
    q = set p 0 (pack 0 0 (largest L) 0)

    top-is : suc (top L) ≡ largest L
    top-is = sym (largest-top L m)

    root : word q 0 ≡ pack 0 0 (largest L) 0
    root = get_or-set_same p 0 (pack 0 0 (largest L) 0) 0 (omega arith)

    parts : (max_of (word q 0) ≡ 0) × (token_of (word q 0) ≡ 0) × (level_of (word q 0) ≡ largest L) × (link_of (word q 0) ≡ 0)
    parts = rw root (fields.unpacked 0 0 (largest L) 0 (omega arith) (omega arith) (omega (arith, top-is)))

    rule : (d : ℕ) → Rule L d q 0
    rule d = bare-rule (suc d) q (fan_out_of L (suc d)) (word q 0) (link_of (word q 0)) parts.1 parts.0 parts.3

    marked : (d : ℕ) → Marked L d q 0
    marked zero = rule 0
    marked (suc d) = (rule (suc d), λ y c. absurd (omega (arith, c.link, parts.3)))

    rules : Ok (fan_out_of L) (λ q' l. ltb q' l ≡ true) q 1 (suc (top L)) 0
    unfolding Ok
    rules = rw parts.3 (parts.2 ∙ sym top-is, tt)

    rooted-words : SoundW L (top L) q 1
    rooted-words = record { shape = record { low = omega arith; high = omega (arith, length-set p 0 (pack 0 0 (largest L) 0)); rules = rules; once = λ x lo' hi'. absurd (omega arith) }; marks = marked (top L) }

    view-empty : (d : ℕ) → view L d (word q) 0 ≡ empty d
    unfolding view
    view-empty zero = rw parts.1 refl
    view-empty (suc d) = rw (parts.1, parts.3) refl

    pub rooted-tree : tree_of L most limit (rooted p) ≡ fresh L
    rooted-tree = rw (no-regions most) (ap (λ (t : Tree (top L)). record { tree = t; regions = [] }) (view-empty (top L)))

    regions : Regions L most (replicate most 0) (replicate most 0)
    regions = record {
      count = 0;
      few = omega arith;
      rest = λ i h. (get_or-rep most i 0, get_or-rep most i 0);
      aligned = λ i h. absurd (omega arith);
      some = λ i h. absurd (omega arith);
      within = λ i h. absurd (omega arith);
      alone = λ i j f h k. absurd (omega arith);
    }

    pub rooted-sound : length p ≤ limit → SoundStore L most limit (rooted p)
    rooted-sound hi =
        (sound-laws L m small most limit (replicate most 0) (replicate most 0) (length-replicate most 0) (length-replicate most 0)).of_words q 1 rooted-words regions (omega (arith, length-set p 0 (pack 0 0 (largest L) 0)))
        (λ f l e. absurd (true≢false (sym e ∙ ap (λ (t : Tree (top L)). free L (top L) t f) (view-empty (top L)) ∙ quiet-free L (top L) (empty (top L)) f (largest-empty (top L)))))
