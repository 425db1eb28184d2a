-- A store or an acquire at a node writes the words of nodes on the way to the block and of their children, and new ones: what lies below a node whose frames are apart from the block's stays. Assumes nothing.
use mathlib.Core.Bool.{Bool, true, false}
use mathlib.Core.List.{List}
use mathlib.Core.Logic.{inl, inr, ◌≢◌}
use mathlib.Core.Path.{◌≡◌, refl, sym, ap, ◌∙◌, subst}
use Prim.Native.Nat.{ℕ, zero, suc, ◌+◌, ◌*◌, ◌/◌, ◌%◌, ◌≤◌, ◌<◌}
use native.Mathlib.Decide.{ℕ_discrete}
use native.Mathlib.Nat.{mod-lt, div-add-mod'}
use native.Mathlib.Omega.{arith}
use lib.Dec.{ltb}
use lib.ListN.{length, set}
use lib.Seq.{get_or-set_other}
use borrow.Author.Tests.{ltb-true}
use Rattle.sizes.specs.Ladder.{Ladder}
use Rattle.model.proofs.Change.{child-lt}
use Rattle.model.proofs.Free.{pick-lowest}
use Rattle.model.proofs.Ladder.{frames-pos}
use Rattle.model.specs.Ladder.{fan, frames}
use Rattle.model.specs.Laws.{BlockIn}
use Rattle.model.specs.Tree.{Sound as SoundTree}
use Rattle.model.specs.Tree.{largest, pick}
use Rattle.pages.proofs.Statements.{Apart}
use Rattle.pool.specs.Nodes.{Taken, Words, children_all, hand_if, hand_w, map_run, merge_if, merge_w, open_if, open_w, refresh_w, store_w, take_w, words}
use Rattle.pool.specs.Room.{openings_w}
use Rattle.pages.specs.Sound.{Below, deeper, itself, times}
use Rattle.pool.specs.View.{view}
use Rattle.pool.specs.Words.{fan_out_of, first_child, frames_of, has_token, link_of, word}
use Rattle.pool.specs.Asks.{Maxed}
use Rattle.pool.specs.Blocks.{By, Child, In, Readable, child_in, delta, met, places_of, total}
use Rattle.pool.proofs.Blocks.{delta-same, ok-open, total-open}
use Rattle.pool.proofs.Change.{total-links}
use Rattle.pool.proofs.Lists.{map_run-out}
use Rattle.pool.proofs.Max.{hand-done}
use Rattle.pool.proofs.Places.{apart-child, apart-own, places-self, sep-child}
use Rattle.pool.proofs.Step.{child-agree, child-own, readable-child}
use Rattle.pool.proofs.Store.{Stored, store_w-done}
use Rattle.pool.proofs.Sums.{sum-ge}
use Rattle.pool.proofs.Take.{EnterW, Took, child_at, child_place, child_tree, enter_w, enter_w-child, handed, take_w-done}
use Rattle.pages.proofs.Times.{times-met}
use Rattle.pool.proofs.View.{open-words}

-- ---- a node below q is q, or is a child of q or lies below one
module _ (L : Ladder) (p : List ℕ) where
  record Under (l q b m r c : ℕ) : Type 0 where
    k : ℕ
    i : ℕ
    link : link_of (word p q) ≡ suc k
    lt : i < fan_out_of L (suc l)
    below : Below L p l (suc (suc k) + i) (b + i * frames_of L l) m r c

  data Reach (l q b : ℕ) : (m r c : ℕ) → Type 0 where
    self : Reach l q b (suc l) q b
    under : {m r c : ℕ} → Under l q b m r c → Reach l q b m r c

  reach-deeper : {l q b m r c : ℕ} (k i : ℕ) → Reach l q b (suc m) r c → link_of (word p r) ≡ suc k → i < fan_out_of L (suc m) → Under l q b m (suc (suc k) + i) (c + i * frames_of L m)
  reach-deeper k i self e h = record { k = k; i = i; link = e; lt = h; below = itself }
  reach-deeper k i (under u) e h = record { k = u.k; i = u.i; link = u.link; lt = u.lt; below = deeper k i u.below e h }

  reach : {l q b m r c : ℕ} → Below L p (suc l) q b m r c → Reach l q b m r c
  reach itself = self
  reach (deeper k i s e h) = under (reach-deeper k i (reach s) e h)

  -- the places below a node are among those below any node above it
  met-up : {l q b m r c : ℕ} (x : ℕ) → Below L p l q b m r c → met (fan_out_of L) p x m r ≤ met (fan_out_of L) p x l q
  unfolding met
  met-up x itself = omega arith
  met-up x (deeper {m = m} {r = r} k i s e h) = omega (
    arith,
    total-open (fan_out_of L) p (λ a n. delta a x + child_in x a n) m r k e,
    sum-ge (suc (suc k)) (fan_out_of L (suc m)) (total (fan_out_of L) p (λ a n. delta a x + child_in x a n) m) (suc (suc k) + i) (omega arith),
    met-up x s,
  )

-- what lies below a node, and its places, go by the links alone
module _ (L : Ladder) (p p' : List ℕ) (links : (x : ℕ) → link_of (word p' x) ≡ link_of (word p x)) where
  below-links : {l q b m r c : ℕ} → Below L p l q b m r c → Below L p' l q b m r c
  below-links itself = itself
  below-links (deeper {r = r} k i s e h) = deeper k i (below-links s) (links r ∙ e) h

  met-links : (x l q : ℕ) → met (fan_out_of L) p' x l q ≡ met (fan_out_of L) p x l q
  unfolding met
  met-links x l q = total-links (fan_out_of L) p p' (λ a n. delta a x + child_in x a n) links l q

module _ (L : Ladder) where
  -- ---- the words that a level writes
  spread-out : (f : ℕ → ℕ) (p : List ℕ) (a n q v x : ℕ) → x ≢ q → (In a n x → ⊥) → word (set (map_run f p a n) q v) x ≡ word p x
  spread-out f p a n q v x ne out = get_or-set_other (map_run f p a n) q x v 0 ne ∙ map_run-out f p a n x out

  refresh-other : (d : ℕ) (p : List ℕ) (q x : ℕ) → x ≢ q → word (refresh_w L d p q) x ≡ word p x
  unfolding refresh_w
  refresh-other d p q x ne = get_or-set_other p q x _ 0 ne

  merge-other : (d : ℕ) (p : List ℕ) (q x : ℕ) → x ≢ q → (In (first_child p q) (fan L (suc d)) x → ⊥) → word (merge_w L d p q) x ≡ word p x
  unfolding merge_w
  merge-other d p q x ne out = go (children_all p (first_child p q) (fan L (suc d)))
    where
      go : (t : Bool) → word (merge_if L t d p q) x ≡ word p x
      go false = refresh-other d p q x ne
      go true = spread-out _ p (first_child p q) (fan L (suc d)) q _ x ne out

  hand-other : (d : ℕ) (p : List ℕ) (q x : ℕ) → x ≢ q → (In (first_child p q) (fan L (suc d)) x → ⊥) → word (hand_w L d p q) x ≡ word p x
  unfolding hand_w
  hand-other d p q x ne out = go (has_token (word p q))
    where
      go : (t : Bool) → word (hand_if L t d p q) x ≡ word p x
      go false = refl
      go true = spread-out _ p (first_child p q) (fan L (suc d)) q _ x ne out

  -- an open node is not opened again
  open-same : (d : ℕ) (s : Words) (q k : ℕ) → link_of (word s.pool q) ≡ suc k → open_w L d s q ≡ s
  unfolding open_w
  open-same d s q k e = ap (open_if L d s q) e

  -- a place of the blocks below a child of q is neither q nor a child of q
  module _ (d : ℕ) (p : List ℕ) (u q z x : ℕ) (g : Readable L (suc d) p u q) (c : Child (fan_out_of L) p (suc d) q z) (h : 1 ≤ met (fan_out_of L) p x (suc d) z) where
    in-child : 1 ≤ places_of (fan_out_of L) p x (suc d) z
    unfolding places_of
    in-child = omega arith

    not_own : x ≢ q
    not_own = apart-own (fan_out_of L) c g.sep x in-child

    not-child : In (first_child p q) (fan L (suc d)) x → ⊥
    unfolding places_of
    not-child i = elim (ℕ_discrete x z) [
      | yes e ↦ let s : delta z x + met (fan_out_of L) p x (suc d) z ≤ 1 = sep-child (fan_out_of L) c g.sep x in omega (arith, s, delta-same z x (sym e))
      | no e ↦ apart-child (fan_out_of L) (record { k = c.k; link = c.link; at = omega (arith, i, c.link) }) c g.sep e x (places-self (fan_out_of L) p (suc d) x) in-child
    ]

  -- a node holds its blocks: none is apart from it
  not-apart : (b s c n : ℕ) → c ≤ b → b < c + n → 0 < s → Apart b s c n → ⊥
  not-apart b s c n lo hi pos (inl h) = omega arith
  not-apart b s c n lo hi pos (inr h) = omega arith

  from_zero : (b s c n : ℕ) → Apart b s c n → Apart (0 + b) s c n
  from_zero b s c n a = let z : b ≡ 0 + b = omega arith in subst (λ (f : ℕ). Apart f s c n) z a

  -- the node's own word is marked: below its children nothing changes
  mark-apart : (d : ℕ) (p : List ℕ) (u q v : ℕ) → Readable L d p u q → {B m r c : ℕ} (x : ℕ) → Under L p d q B m r c → 1 ≤ met (fan_out_of L) p x m r → word (set p q v) x ≡ word p x
  mark-apart zero p u q v g x n h = absurd (omega (arith, (ok-open (fan_out_of L) (By ltb) p u 0 q n.k g.ok n.link).deep))
  mark-apart (suc d) p u q v g x n h =
      let c : Child (fan_out_of L) p (suc d) q (suc (suc n.k) + n.i) = record { k = n.k; link = n.link; at = omega (arith, n.lt) } in
      get_or-set_other p q x v 0 (not_own d p u q (suc (suc n.k) + n.i) x g c (omega (arith, met-up L p x n.below)))

  -- ---- a store
  -- one level of it, where the node is open
  store_w-open : (d d' : ℕ) (s : Words) (q b k : ℕ) → ltb d' (suc d) ≡ true → link_of (word s.pool q) ≡ suc k
      → (store_w L (suc d) d' s q b).pool ≡ merge_w L d (store_w L d d' s (first_child s.pool q + b / frames L d) (b % frames L d)).pool q
  unfolding store_w
  store_w-open d d' s q b k e link = rw (e, store_w, open-same d s q k link)

  need-child : (d d' : ℕ) (p : List ℕ) (q b k : ℕ) → ltb d' (suc d) ≡ true → link_of (word p q) ≡ suc k → openings_w L (suc d) d' p q b ≡ openings_w L d d' p (first_child p q + b / frames L d) (b % frames L d)
  unfolding openings_w
  need-child d d' p q b k e link = rw (e, openings_w, link)

  -- what a store leaves as it was; B is the node's first frame
  abbrev StoreKeeps : (d d' : ℕ) → List ℕ → (u q b B : ℕ) → Type 0
  StoreKeeps d d' p u q b B = (m r c x : ℕ) → Below L p (suc d) q B m r c → Apart (B + b) (frames L d') c (frames_of L m) → 1 ≤ met (fan_out_of L) p x m r → word (store_w L d d' (words p u) q b).pool x ≡ word p x

  store_keeps : (d d' : ℕ) (p : List ℕ) (u q b B : ℕ) → suc d < 8 → Readable L d p u q → b < frames L d → u + openings_w L d d' p q b ≤ length p → StoreKeeps d d' p u q b B
  unfolding store_w
  store_keeps zero d' p u q b B small g h room m r c x n a t = at (reach L p n) a t
    where
      at : {m r c : ℕ} → Reach L p 0 q B m r c → Apart (B + b) (frames L d') c (frames_of L m) → 1 ≤ met (fan_out_of L) p x m r → word (store_w L 0 d' (words p u) q b).pool x ≡ word p x
      at self a t = absurd (not-apart (B + b) (frames L d') B (frames L 0) (omega arith) (omega arith) (frames-pos L d') a)
      at (under n) a t = mark-apart 0 p u q _ g x n t
  store_keeps (suc d) d' p u q b B small g h room m r c x n a t = at (reach L p n) a t (store_keeps d d')
    where
      Goal : Type 0
      Goal = word (store_w L (suc d) d' (words p u) q b).pool x ≡ word p x

      go : {m r c : ℕ} (v : Bool) → ltb d' (suc d) ≡ v → Under L p (suc d) q B m r c → Apart (B + b) (frames L d') c (frames_of L m) → 1 ≤ met (fan_out_of L) p x m r
          → ((p : List ℕ) (u q b B : ℕ) → suc d < 8 → Readable L d p u q → b < frames L d → u + openings_w L d d' p q b ≤ length p → StoreKeeps d d' p u q b B) → Goal
      go false e n a t ih = rw (e, store_w) (mark-apart (suc d) p u q _ g x n t)
      go {m} {r} {c} true e n a t ih = ap (λ (o : List ℕ). word o x) (store_w-open d d' (words p u) q b n.k e n.link)
          ∙ merge-other d R.pool q x (not_own d p u q z x g cz low) (subst (λ (f : ℕ). In f (fan L (suc d)) x → ⊥) (ap (λ (v : ℕ). suc (link_of v)) (sym own)) (not-child d p u q z x g cz low)) ∙ child (ℕ_discrete n.i i)
        where
          i : ℕ
          i = b / frames L d

          y : ℕ
          y = first_child p q + i

          z : ℕ
          z = suc (suc n.k) + n.i

          cz : Child (fan_out_of L) p (suc d) q z
          cz = record { k = n.k; link = n.link; at = omega (arith, n.lt) }

          cy : Child (fan_out_of L) p (suc d) q y
          cy = record { k = n.k; link = n.link; at = omega (arith, n.link, child-lt L d b h) }

          low : 1 ≤ met (fan_out_of L) p x (suc d) z
          low = omega (arith, met-up L p x n.below)

          R : Words
          R = store_w L d d' (words p u) y (b % frames L d)

          gy : Readable L d p u y
          gy = readable-child L d p u q y g cy

          room_y : u + openings_w L d d' p y (b % frames L d) ≤ length p
          room_y = omega (arith, need-child d d' p q b n.k e n.link)

          done : Stored L d d' (words p u) y (b % frames L d) R
          done = store_w-done L d d' (words p u) y (b % frames L d) (omega arith) gy (mod-lt b (frames-pos L d)) room_y

          own : word R.pool q ≡ word p q
          own = child-own L d p R.pool u R.used q y g cy done.step

          child : Dec (n.i ≡ i) → word R.pool x ≡ word p x
          child (yes j) =
              let zy : z ≡ y = omega (arith, n.link) in
              let fr : B + n.i * frames L d ≡ B + i * frames L d = ap (λ (f : ℕ). B + f * frames L d) j in
              let bl : Below L p (suc d) y (B + i * frames L d) m r c = subst (λ (f : ℕ). Below L p (suc d) y f m r c) fr (subst (λ (w : ℕ). Below L p (suc d) w (B + n.i * frames L d) m r c) zy n.below) in
              let base : B + b ≡ B + i * frames L d + b % frames L d = omega (arith, div-add-mod' b (frames L d)) in
              ih p u y (b % frames L d) (B + i * frames L d) (omega arith) gy (mod-lt b (frames-pos L d)) room_y m r c x bl (subst (λ (f : ℕ). Apart f (frames L d') c (frames_of L m)) base a) t
          child (no j) = sym (child-agree L d p R.pool u R.used q y g cy done.step z cz (λ w. j (omega (arith, n.link))) x (in-child d p u q z x g cz low))

      at : {m r c : ℕ} → Reach L p (suc d) q B m r c → Apart (B + b) (frames L d') c (frames_of L m) → 1 ≤ met (fan_out_of L) p x m r
          → ((p : List ℕ) (u q b B : ℕ) → suc d < 8 → Readable L d p u q → b < frames L d → u + openings_w L d d' p q b ≤ length p → StoreKeeps d d' p u q b B) → Goal
      at self a t ih = absurd (not-apart (B + b) (frames L d') B (frames L (suc d)) (omega arith) (omega arith) (frames-pos L d') a)
      at (under n) a t ih = go (ltb d' (suc d)) refl n a t ih

  pub stored_apart : (d d' : ℕ) (p : List ℕ) (u q b : ℕ) → suc d < 8 → Readable L d p u q → BlockIn L d d' b → u + openings_w L d d' p q b ≤ length p
      → (m r c x : ℕ) → Below L p (suc d) q 0 m r c → Apart b (frames L d') c (frames_of L m) → 1 ≤ times L p x m r → word (store_w L d d' (words p u) q b).pool x ≡ word p x
  stored_apart d d' p u q b small g block room m r c x n a t =
      store_keeps d d' p u q b 0 small g (omega (arith, block.fits, frames-pos L d')) room m r c x n (from_zero b (frames L d') c (frames_of L m) a) (omega (arith, times-met L p x m r))

  -- ---- an acquire
  -- one level of it
  take_w-open : (d d' : ℕ) (s : Words) (q : ℕ) → ltb d' (suc d) ≡ true
      → (take_w L (suc d) d' s q).words.pool ≡ refresh_w L d (take_w L d d' (words (handed L d s q) (open_w L d s q).used) (child_at L d d' s q)).words.pool q
  unfolding take_w
  take_w-open d d' s q e = rw (e, take_w)

  -- what an acquire asks for
  record Asked (d d' : ℕ) (p : List ℕ) (u q : ℕ) : Type 0 where
    readable : Readable L d p u q
    sound : SoundTree L d (view L d (word p) q)
    maxed : Maxed L d p q
    offers : suc d' ≤ largest d (view L d (word p) q)
    room : u + openings_w L d d' p q (pick L d d' (view L d (word p) q)) ≤ length p

  -- what it leaves as it was; B is the node's first frame
  abbrev TakeKeeps : (d d' : ℕ) → List ℕ → (u q B : ℕ) → Type 0
  TakeKeeps d d' p u q B = (m r c x : ℕ) → Below L p (suc d) q B m r c → Apart (B + pick L d d' (view L d (word p) q)) (frames L d') c (frames_of L m) → 1 ≤ met (fan_out_of L) p x m r
      → word (take_w L d d' (words p u) q).words.pool x ≡ word p x

  pick_low : (d d' : ℕ) (p : List ℕ) (u q : ℕ) → Asked d d' p u q → pick L d d' (view L d (word p) q) < frames L d
  pick_low d d' p u q k = omega (arith, (pick-lowest L d d' (view L d (word p) q) k.sound k.offers).fits, frames-pos L d')

  take-keeps : (d d' : ℕ) (p : List ℕ) (u q B : ℕ) → suc d < 8 → Asked d d' p u q → TakeKeeps d d' p u q B
  unfolding take_w
  take-keeps zero d' p u q B small k m r c x n a t = at (reach L p n) a t
    where
      b : ℕ
      b = pick L 0 d' (view L 0 (word p) q)

      at : {m r c : ℕ} → Reach L p 0 q B m r c → Apart (B + b) (frames L d') c (frames_of L m) → 1 ≤ met (fan_out_of L) p x m r → word (take_w L 0 d' (words p u) q).words.pool x ≡ word p x
      at self a t = absurd (not-apart (B + b) (frames L d') B (frames L 0) (omega arith) (omega (arith, pick_low 0 d' p u q k)) (frames-pos L d') a)
      at (under n) a t = mark-apart 0 p u q _ k.readable x n t
  take-keeps (suc d) d' p u q B small k m r c x n a t = at (reach L p n) a t (take-keeps d d')
    where
      g : Readable L (suc d) p u q
      g = k.readable

      b : ℕ
      b = pick L (suc d) d' (view L (suc d) (word p) q)

      Goal : Type 0
      Goal = word (take_w L (suc d) d' (words p u) q).words.pool x ≡ word p x

      go : {m r c : ℕ} (v : Bool) → ltb d' (suc d) ≡ v → Under L p (suc d) q B m r c → Apart (B + b) (frames L d') c (frames_of L m) → 1 ≤ met (fan_out_of L) p x m r
          → ((p : List ℕ) (u q B : ℕ) → suc d < 8 → Asked d d' p u q → TakeKeeps d d' p u q B) → Goal
      go false e n a t ih = rw (e, take_w) (mark-apart (suc d) p u q _ g x n t)
      go {m} {r} {c} true e n a t ih = ap (λ (o : List ℕ). word o x) (take_w-open d d' s q e)
          ∙ refresh-other d R.words.pool q x (not_own d p u q z x g cz low) ∙ child (ℕ_discrete n.i i)
          ∙ hand-other d O q x (not_own d p u q z x g cz low) (subst (λ (o : List ℕ). In (first_child o q) (fan L (suc d)) x → ⊥) (sym same) (not-child d p u q z x g cz low)) ∙ ap (λ (o : List ℕ). word o x) same
        where
          s : Words
          s = words p u

          E : EnterW L d d' s q
          E = enter_w L d d' s q small g e k.sound k.maxed k.offers k.room

          O : List ℕ
          O = (open_w L d s q).pool

          v : ℕ
          v = (open_w L d s q).used

          P : List ℕ
          P = handed L d s q

          i : ℕ
          i = child_place L d d' s q

          y : ℕ
          y = child_at L d d' s q

          z : ℕ
          z = suc (suc n.k) + n.i

          same : O ≡ p
          same = ap (λ (o : Words). o.pool) (open-same d s q n.k n.link)

          links : (w : ℕ) → link_of (word P w) ≡ link_of (word p w)
          links w = (hand-done L d O v q E.k E.readable_o E.link_o small).links w ∙ ap (λ (o : List ℕ). link_of (word o w)) same

          cz : Child (fan_out_of L) p (suc d) q z
          cz = record { k = n.k; link = n.link; at = omega (arith, n.lt) }

          cz_p : Child (fan_out_of L) P (suc d) q z
          cz_p = record { k = n.k; link = links q ∙ n.link; at = omega (arith, n.lt) }

          cy : Child (fan_out_of L) P (suc d) q y
          cy = enter_w-child L E

          low : 1 ≤ met (fan_out_of L) p x (suc d) z
          low = omega (arith, met-up L p x n.below)

          low_p : 1 ≤ met (fan_out_of L) P x (suc d) z
          low_p = omega (arith, low, met-links L p P links x (suc d) z)

          asked : Asked d d' P v y
          asked = record {
            readable = readable-child L d P v q y E.readable cy;
            sound = E.sound;
            maxed = E.children y cy;
            offers = E.reach;
            room = omega (arith, k.room, E.need, open-words L d s q, E.open_step.len, E.hand_step.len);
          }

          R : Taken
          R = take_w L d d' (words P v) y

          done : Took L d d' (words P v) y (child_tree L d d' s q) R
          done = take_w-done L d d' (words P v) y (omega arith) asked.readable (omega (arith, ltb-true d' (suc d) e)) asked.sound asked.maxed asked.offers asked.room

          child : Dec (n.i ≡ i) → word R.words.pool x ≡ word P x
          child (yes j) =
              let zy : z ≡ y = omega (arith, n.link, links q) in
              let fr : B + n.i * frames L d ≡ B + i * frames L d = ap (λ (f : ℕ). B + f * frames L d) j in
              let bl : Below L P (suc d) y (B + i * frames L d) m r c = subst (λ (f : ℕ). Below L P (suc d) y f m r c) fr (subst (λ (w : ℕ). Below L P (suc d) w (B + n.i * frames L d) m r c) zy (below-links L p P links n.below)) in
              let base : B + b ≡ B + i * frames L d + pick L d d' (child_tree L d d' s q) = omega (arith, E.base) in
              ih P v y (B + i * frames L d) (omega arith) asked m r c x bl (subst (λ (f : ℕ). Apart f (frames L d') c (frames_of L m)) base a) (omega (arith, t, met-links L p P links x m r))
          child (no j) = sym (child-agree L d P R.words.pool v R.words.used q y E.readable cy done.step z cz_p (λ w. j (omega (arith, n.link, links q))) x (in-child d P v q z x E.readable cz_p low_p))

      at : {m r c : ℕ} → Reach L p (suc d) q B m r c → Apart (B + b) (frames L d') c (frames_of L m) → 1 ≤ met (fan_out_of L) p x m r
          → ((p : List ℕ) (u q B : ℕ) → suc d < 8 → Asked d d' p u q → TakeKeeps d d' p u q B) → Goal
      at self a t ih = absurd (not-apart (B + b) (frames L d') B (frames L (suc d)) (omega arith) (omega (arith, pick_low (suc d) d' p u q k)) (frames-pos L d') a)
      at (under n) a t ih = go (ltb d' (suc d)) refl n a t ih

  pub taken_apart : (d d' : ℕ) (p : List ℕ) (u q : ℕ) → suc d < 8 → Readable L d p u q → d' ≤ d → SoundTree L d (view L d (word p) q) → Maxed L d p q
      → suc d' ≤ largest d (view L d (word p) q) → u + openings_w L d d' p q (pick L d d' (view L d (word p) q)) ≤ length p
      → (m r c x : ℕ) → Below L p (suc d) q 0 m r c → Apart (pick L d d' (view L d (word p) q)) (frames L d') c (frames_of L m) → 1 ≤ times L p x m r → word (take_w L d d' (words p u) q).words.pool x ≡ word p x
  taken_apart d d' p u q small g l sound mx h room m r c x n a t =
      take-keeps d d' p u q 0 small (record { readable = g; sound = sound; maxed = mx; offers = h; room = room }) m r c x n
      (from_zero (pick L d d' (view L d (word p) q)) (frames L d') c (frames_of L m) a) (omega (arith, times-met L p x m r))
