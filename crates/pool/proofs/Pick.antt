-- Before a write: the block that an acquire will take, read off the pool. Assumes nothing.
use mathlib.Core.Bool.{Bool, true, false}
use mathlib.Core.List.{List}
use mathlib.Core.Logic.{◌⊎◌, inl, inr}
use mathlib.Core.Path.{◌≡◌, refl, sym, ap, ap₂, ◌∙◌, subst}
use Prim.Native.Nat.{ℕ, zero, suc, ◌+◌, ◌*◌, ◌≤◌, ◌<◌}
use native.Mathlib.Omega.{arith}
use lib.Dec.{leb}
use Rattle.sizes.specs.Ladder.{Ladder}
use Rattle.model.proofs.Lists.{First, first-first}
use Rattle.model.specs.Ladder.{fan, frames}
use Rattle.model.specs.Lists.{first, maximum}
use Rattle.model.specs.Tree.{Sound as SoundTree}
use Rattle.model.specs.Tree.{SoundNode, Tree, child, empty, largest, node, pick}
use Rattle.pool.specs.Nodes.{children_first}
use Rattle.pool.specs.Room.{pick_w}
use Rattle.pool.specs.View.{block, tab, view}
use Rattle.pool.specs.Words.{fan_out_of, first_child, has_token, link_of, word}
use Rattle.pool.specs.Asks.{Maxed}
use Rattle.pool.specs.Blocks.{Child, Readable}
use Rattle.pool.proofs.Blocks.{zero_or}
use Rattle.pool.proofs.Max.{children-first}
use Rattle.pool.proofs.Step.{readable-child}
use Rattle.pool.proofs.Store.{view-node}
use Rattle.pool.proofs.Take.{whole-pick}
use Rattle.pool.proofs.Tree.{block-pos, tab-at, tab-length, token-view}

module _ (L : Ladder) where
  -- ---- the pick
  -- the child that the pick goes to, where the node has no token
  pub record Looks (d d' : ℕ) (p : List ℕ) (q : ℕ) : Type 0 where
    pub k : ℕ
    pub link : link_of (word p q) ≡ suc k
    pub lt : children_first (suc d') p (first_child p q) (fan L (suc d)) < fan L (suc d)
    pub sound : SoundTree L d (view L d (word p) (first_child p q + children_first (suc d') p (first_child p q) (fan L (suc d))))
    pub reach : suc d' ≤ largest d (view L d (word p) (first_child p q + children_first (suc d') p (first_child p q) (fan L (suc d))))
    pub base : pick L (suc d) d' (view L (suc d) (word p) q) ≡ children_first (suc d') p (first_child p q) (fan L (suc d)) * frames L d + pick L d d' (view L d (word p) (first_child p q + children_first (suc d') p (first_child p q) (fan L (suc d))))

  pub looks-child : {d d' : ℕ} {p : List ℕ} {q : ℕ} → (s : Looks d d' p q) → Child (fan_out_of L) p (suc d) q (first_child p q + children_first (suc d') p (first_child p q) (fan L (suc d)))
  looks-child s = record { k = s.k; link = s.link; at = omega (arith, s.link, s.lt) }

  pub looks : (d d' : ℕ) (p : List ℕ) (u q : ℕ) → Readable L (suc d) p u q → SoundTree L (suc d) (view L (suc d) (word p) q) → Maxed L (suc d) p q → suc d' ≤ largest (suc d) (view L (suc d) (word p) q) → has_token (word p q) ≡ false → Looks d d' p q
  unfolding largest pick maximum
  looks d d' p u q g s m h t = go (zero_or (link_of (word p q)))
    where
      same : view L (suc d) (word p) q ≡ node false (block (fan L (suc d)) (view L d (word p)) (link_of (word p q)))
      same = view-node L d p q ∙ ap (λ (b : Bool). node b (block (fan L (suc d)) (view L d (word p)) (link_of (word p q)))) t

      go : (link_of (word p q) ≡ 0) ⊎ ((k : ℕ) × (link_of (word p q) ≡ suc k)) → Looks d d' p q
      go (inl z) = absurd (omega (arith, ap (largest (suc d)) (same ∙ ap (λ (l : ℕ). node false (block (fan L (suc d)) (view L d (word p)) l)) z)))
      go (inr ke) = record {
        k = ke.0;
        link = ke.1;
        lt = lt;
        sound = subst (SoundTree L d) (sym at) (sn.children i);
        reach = subst (λ (x : Tree d). suc d' ≤ largest d x) (sym at) f.reaches;
        base = ap (pick L (suc d) d') same' ∙ ap₂ (λ (a : ℕ) (b : ℕ). a * frames L d + b) ij (ap (λ (a : ℕ). pick L d d' (child d ks a)) ij ∙ ap (pick L d d') (sym at));
      }
        where
          ks : List (Tree d)
          ks = tab (view L d (word p)) (first_child p q) (fan L (suc d))

          same' : view L (suc d) (word p) q ≡ node false ks
          same' = same ∙ ap (node false) (block-pos (fan L (suc d)) (view L d (word p)) (link_of (word p q)) (omega (arith, ke.1)))

          sn : SoundNode L d (SoundTree L d) false ks
          sn = subst (SoundTree L (suc d)) same' s

          i : ℕ
          i = children_first (suc d') p (first_child p q) (fan L (suc d))

          ij : first (λ x. leb (suc d') (largest d x)) ks ≡ i
          ij = children-first L d p u q ke.0 g ke.1 (suc d') m.1

          f : First (largest d) (suc d') ks (empty d) i
          f = subst (First (largest d) (suc d') ks (empty d)) ij (first-first (largest d) (suc d') ks (empty d) (omega arith) (subst (λ (x : Tree (suc d)). suc d' ≤ largest (suc d) x) same' h))

          lt : i < fan L (suc d)
          lt = omega (arith, f.in_range, tab-length (view L d (word p)) (first_child p q) (fan L (suc d)))

          at : view L d (word p) (first_child p q + i) ≡ child d ks i
          at = sym (tab-at (view L d (word p)) (first_child p q) (fan L (suc d)) i (empty d) lt)

  -- THE DESCENT BY MAX IS THE TREE'S PICK
  pub pick_w-is : (d d' : ℕ) (p : List ℕ) (u q : ℕ) → Readable L d p u q → SoundTree L d (view L d (word p) q) → Maxed L d p q → suc d' ≤ largest d (view L d (word p) q) → pick_w L d d' p q ≡ pick L d d' (view L d (word p) q)
  unfolding pick_w pick
  pick_w-is zero d' p u q g s m h = refl
  pick_w-is (suc d) d' p u q g s m h = go (has_token (word p q)) refl (pick_w-is d d' p u)
    where
      go : (v : Bool) → has_token (word p q) ≡ v → ((q : ℕ) → Readable L d p u q → SoundTree L d (view L d (word p) q) → Maxed L d p q → suc d' ≤ largest d (view L d (word p) q) → pick_w L d d' p q ≡ pick L d d' (view L d (word p) q))
          → pick_w L (suc d) d' p q ≡ pick L (suc d) d' (view L (suc d) (word p) q)
      go true t ih = rw (t, pick_w) (sym (whole-pick L (suc d) d' (view L (suc d) (word p) q) (token-view L (suc d) (word p) q ∙ t)))
      go false t ih =
          let k = looks d d' p u q g s m h t in
          let y = first_child p q + children_first (suc d') p (first_child p q) (fan L (suc d)) in
          rw (t, pick_w) (ap (λ (x : ℕ). children_first (suc d') p (first_child p q) (fan L (suc d)) * frames L d + x) (ih y (readable-child L d p u q y g (looks-child k)) k.sound (m.1 y (looks-child k)) k.reach) ∙ sym k.base)
