-- A change of the pool at and below one node: what it leaves, that changes follow each other, and that a change at a child is one at its node. Assumes nothing.
use mathlib.Core.Bool.{◌&&◌}
use mathlib.Core.List.{List}
use mathlib.Core.Logic.{inl, inr, ◌≢◌}
use mathlib.Core.Path.{◌≡◌, refl, sym, ap, ◌∙◌}
use Prim.Native.Nat.{ℕ, zero, suc, ◌+◌, ◌/◌, ◌≤◌, ◌<◌}
use native.Mathlib.Decide.{dec_le, dec_lt, ℕ_discrete}
use native.Mathlib.Omega.{arith}
use lib.Dec.{leb, ltb}
use lib.ListN.{length}
use borrow.Author.Tests.{lt-ltb, le-ltb, le-leb, lt-leb}
use Rattle.sizes.specs.Ladder.{Ladder}
use Rattle.model.specs.Frames.{bit}
use Rattle.model.specs.Ladder.{fan}
use Rattle.pool.specs.Words.{fan_out_of, level_of, link_of, word, sum_over}
use Rattle.pool.specs.Blocks.{By, Child, In, Ok, OkBlock, Readable, child_in, delta, head_met, met, places_of}
use Rattle.pool.proofs.Blocks.{child_in-in, delta-other, delta-same, met-split, ok-level, ok-make, ok-open, ok-shut, total-open, zero_or}
use Rattle.pool.proofs.Change.{ok-relabel, total-links}
use Rattle.pool.proofs.Opening.{Grown, Opened, child_in-one, child_in-out, opened-grown}
use Rattle.pool.proofs.Places.{Agree, Only, frame-ok, frame-places, only_child, only-head, only-own, only-up, places-child, places-open, places-self, places-shut, places-used, sep-child}
use Rattle.pool.proofs.Sums.{sum-cong}

-- 1 where x is a place from u up to u'
unfoldable pub new : ℕ → ℕ → ℕ → ℕ
new u u' x = bit (leb u x && ltb x u')

pub new_in : (u u' x : ℕ) → u ≤ x → x < u' → new u u' x ≡ 1
unfolding new
new_in u u' x a b = rw (le-leb u x a, lt-ltb x u' b)

pub new-low : (u u' x : ℕ) → x < u → new u u' x ≡ 0
unfolding new
new-low u u' x a = rw (lt-leb u x a)

new-high : (u u' x : ℕ) → u' ≤ x → new u u' x ≡ 0
unfolding new
new-high u u' x a = elim (dec_le u x) [ yes b ↦ rw (le-leb u x b, le-ltb x u' a) | no b ↦ new-low u u' x (omega arith) ]

new_none : (u x : ℕ) → new u u x ≡ 0
new_none u x = elim (dec_le u x) [ yes b ↦ new-high u u x b | no b ↦ new-low u u x (omega arith) ]

new-trans : (u v t x : ℕ) → u ≤ v → v ≤ t → new u v x + new v t x ≡ new u t x
new-trans u v t x a b = go (dec_lt x u) (dec_lt x v) (dec_lt x t)
  where
    go : Dec (x < u) → Dec (x < v) → Dec (x < t) → new u v x + new v t x ≡ new u t x
    go (yes i) j k = omega (arith, new-low u v x i, new-low u t x i, new-low v t x (omega arith))
    go (no i) (yes j) k = omega (arith, new_in u v x (omega arith) j, new_in u t x (omega arith) (omega arith), new-low v t x j)
    go (no i) (no j) (yes k) = omega (arith, new-high u v x (omega arith), new_in u t x (omega arith) k, new_in v t x (omega arith) k)
    go (no i) (no j) (no k) = omega (arith, new-high u v x (omega arith), new-high u t x (omega arith), new-high v t x (omega arith))

-- two sums that differ in one summand
sum_bump : (a n : ℕ) (f g : ℕ → ℕ) (y c : ℕ) → In a n y → g y ≡ f y + c → ((x : ℕ) → In a n x → x ≢ y → g x ≡ f x) → sum_over a n g ≡ sum_over a n f + c
unfolding sum_over
sum_bump a zero f g y c i e h = absurd (omega arith)
sum_bump a (suc n) f g y c i e h = elim (ℕ_discrete a y) [
  | yes d ↦ omega (arith, ap f d, ap g d, sum-cong (suc a) n g f (λ x j. h x (omega arith) (λ z. omega arith)))
  | no d ↦ omega (arith, h a (omega arith) d, sum_bump (suc a) n f g y c (omega arith) e (λ x j. h x (omega arith)))
]

module _ (L : Ladder) where
  -- the rules stay as more words are used
  ok-more : (p : List ℕ) (u u' l q : ℕ) → u ≤ u' → Ok (fan_out_of L) (By ltb) p u l q → Ok (fan_out_of L) (By ltb) p u' l q
  unfolding Ok
  ok-more p u u' zero q h o = o
  ok-more p u u' (suc l) q h o = elim (zero_or (link_of (word p q))) [
    | inl z ↦ ok-shut (fan_out_of L) (By ltb) p u' l q o.0 z
    | inr ke ↦
        let b = ok-open (fan_out_of L) (By ltb) p u l q ke.0 o ke.1 in
        ok-make (fan_out_of L) (By ltb) p u' l q ke.0 o.0 ke.1 (record { deep = b.deep; past = b.past; fits = omega (arith, b.fits); head = b.head; children = λ y i. ok-more p u u' l y h (b.children y i) })
  ]

  -- p' with u' words used comes from p with u by a change at and below the node of level d + 1 at q: the places that it has more are the new ones
  pub record Step (d : ℕ) (p p' : List ℕ) (u u' q : ℕ) : Type 0 where
    pub len : length p' ≡ length p
    pub grows : u ≤ u'
    pub ok : Ok (fan_out_of L) (By ltb) p' u' (suc d) q
    pub count : (x : ℕ) → places_of (fan_out_of L) p' x (suc d) q ≡ places_of (fan_out_of L) p x (suc d) q + new u u' x
    pub only : Only (fan_out_of L) p p' u (suc d) q
    pub behind : (x : ℕ) → u' ≤ x → word p' x ≡ word p x

  pub readable-pos : (d : ℕ) (p : List ℕ) (u q x : ℕ) → Readable L d p u q → u ≤ x → places_of (fan_out_of L) p x (suc d) q ≡ 0
  readable-pos d p u q x g h = elim (dec_le 1 (places_of (fan_out_of L) p x (suc d) q)) [ yes a ↦ absurd (omega (arith, places-used (fan_out_of L) (By ltb) p u (suc d) q x g.at g.ok a)) | no a ↦ omega arith ]

  pub step-readable : (d : ℕ) (p p' : List ℕ) (u u' q : ℕ) → Readable L d p u q → Step d p p' u u' q → u' ≤ length p → Readable L d p' u' q
  step-readable d p p' u u' q g s h = record {
    at = omega (arith, g.at, s.grows);
    fit = omega (arith, s.len);
    ok = s.ok;
    sep = λ x. elim (dec_lt x u) [
      | yes a ↦ omega (arith, s.count x, g.sep x, new-low u u' x a)
      | no a ↦ elim (dec_lt x u') [
        | yes b ↦ omega (arith, s.count x, readable-pos d p u q x g (omega arith), new_in u u' x (omega arith) b)
        | no b ↦ omega (arith, s.count x, readable-pos d p u q x g (omega arith), new-high u u' x (omega arith))
      ]
    ];
  }

  pub step-trans : (d : ℕ) (p p' p'' : List ℕ) (u u' u'' q : ℕ) → Step d p p' u u' q → Step d p' p'' u' u'' q → Step d p p'' u u'' q
  step-trans d p p' p'' u u' u'' q s t = record {
    len = t.len ∙ s.len;
    grows = omega (arith, s.grows, t.grows);
    ok = t.ok;
    count = λ x. omega (arith, s.count x, t.count x, new-trans u u' u'' x s.grows t.grows);
    only = λ x l h. s.only x l h ∙ t.only x (omega (arith, s.grows)) (omega (arith, s.count x, new-low u u' x l));
    behind = λ x h. t.behind x h ∙ s.behind x (omega (arith, t.grows));
  }

  pub step-none : (d : ℕ) (p : List ℕ) (u q : ℕ) → Readable L d p u q → Step d p p u u q
  step-none d p u q g = record { len = refl; grows = omega arith; ok = g.ok; count = λ x. omega (arith, new_none u x); only = λ x l h. refl; behind = λ x h. refl }

  -- a child of an open node may be read too
  pub readable-child : (d : ℕ) (p : List ℕ) (u q y : ℕ) → Readable L (suc d) p u q → Child (fan_out_of L) p (suc d) q y → Readable L d p u y
  readable-child d p u q y g c =
      let b = ok-open (fan_out_of L) (By ltb) p u (suc d) q c.k g.ok c.link in
      record { at = omega (arith, c.at, b.fits); fit = g.fit; ok = b.children y c.at; sep = sep-child (fan_out_of L) c g.sep }

  -- a change at a child
  module _ (d : ℕ) (p p' : List ℕ) (u u' q y : ℕ) (g : Readable L (suc d) p u q) (c : Child (fan_out_of L) p (suc d) q y) (r : Step d p p' u u' y) where
    pub child-own : word p' q ≡ word p q
    child-own = sym (only-own (fan_out_of L) p' u c g.sep g.at r.only)

    child-head : word p' (suc c.k) ≡ word p (suc c.k)
    child-head = let e = only-head (fan_out_of L) (By ltb) p' u c g.sep g.ok r.only in sym (rw c.link at e)

    pub child-agree : (z : ℕ) → Child (fan_out_of L) p (suc d) q z → z ≢ y → Agree (fan_out_of L) p p' (suc d) z
    child-agree z e ne = only_child (fan_out_of L) (By ltb) p' u c e (λ i. ne (sym i)) g.sep g.at g.ok r.only

    pub child-step : Step (suc d) p p' u u' q
    child-step = record {
      len = r.len;
      grows = r.grows;
      ok = ok-make (fan_out_of L) (By ltb) p' u' (suc d) q k (ap level_of child-own ∙ ok-level (fan_out_of L) (By ltb) p u (suc (suc d)) q g.ok) link'
          (record { deep = b.deep; past = b.past; fits = omega (arith, b.fits, r.grows); head = child-head ∙ b.head; children = λ z i. children z i (ℕ_discrete z y) });
      count = λ x. omega (
        arith,
        places-open (fan_out_of L) p x (suc d) q k c.link,
        places-open (fan_out_of L) p' x (suc d) q k link',
        sum_bump (suc (suc k)) (fan L (suc d)) (λ z. places_of (fan_out_of L) p x (suc d) z) (λ z. places_of (fan_out_of L) p' x (suc d) z) y (new u u' x) c.at (r.count x)
            (λ z i ne. sym (frame-places (fan_out_of L) x p p' (suc d) z (child-agree z (record { k = k; link = c.link; at = i }) ne))),
      );
      only = only-up (fan_out_of L) p' u c r.only;
      behind = r.behind;
    }
      where
        k : ℕ
        k = c.k

        b : OkBlock (fan_out_of L) (By ltb) p u (suc d) q (suc k) (Ok (fan_out_of L) (By ltb) p u (suc d))
        b = ok-open (fan_out_of L) (By ltb) p u (suc d) q k g.ok c.link

        link' : link_of (word p' q) ≡ suc k
        link' = ap link_of child-own ∙ c.link

        children : (z : ℕ) → In (suc (suc k)) (fan L (suc d)) z → Dec (z ≡ y) → Ok (fan_out_of L) (By ltb) p' u' (suc d) z
        children z i (yes e) = rw e r.ok
        children z i (no e) = ok-more p' u u' (suc d) z r.grows (frame-ok (fan_out_of L) (By ltb) p p' u (suc d) z (child-agree z (record { k = k; link = c.link; at = i }) e) (b.children z i))

  -- marks of the node and of its children change: levels and links stay
  module _ (d : ℕ) (p p' : List ℕ) (u q : ℕ) (g : Readable L d p u q) (len : length p' ≡ length p)
      (same : (x : ℕ) → word p' x / 16 ≡ word p x / 16) (keep : (x : ℕ) → x ≢ q → (Child (fan_out_of L) p d q x → ⊥) → word p' x ≡ word p x) where
    relabel-head : (x : ℕ) → 1 ≤ head_met (fan_out_of L) p x (suc d) q → word p' x ≡ word p x
    unfolding places_of
    relabel-head x h =
        let s : delta q x + met (fan_out_of L) p x (suc d) q ≤ 1 = g.sep x in
        keep x (λ e. omega (arith, s, met-split (fan_out_of L) p x (suc d) q, delta-same q x (sym e)))
        (λ c. omega (arith, s, met-split (fan_out_of L) p x (suc d) q, total-open (fan_out_of L) p (λ L n. child_in x L n) d q c.k c.link, child_in-in x (suc c.k) (fan L d) c.at))

    pub relabel-step : Step d p p' u u q
    unfolding places_of met
    relabel-step = record {
      len = len;
      grows = omega arith;
      ok = ok-relabel (fan_out_of L) (By ltb) p p' u same (suc d) q relabel-head g.ok;
      count = λ x. omega (arith, new_none u x, total-links (fan_out_of L) p p' (λ L n. delta L x + child_in x L n) (λ y. omega (arith, same y)) (suc d) q);
      only = λ x l h. sym (keep x (λ e. omega (arith, delta-same q x (sym e))) (λ c. child-met x c h));
      behind = λ x h. keep x (λ e. omega (arith, g.at)) (λ c. omega (arith, c.at, (ok-open (fan_out_of L) (By ltb) p u d q c.k g.ok c.link).fits));
    }
      where
        child-met : (x : ℕ) → Child (fan_out_of L) p d q x → places_of (fan_out_of L) p x (suc d) q < 1 → ⊥
        child-met x c h = omega (arith, places-child (fan_out_of L) x c, places-self (fan_out_of L) p d x)

  -- a node that was unopened is opened at the end of the used words
  pub open_step : (d : ℕ) (p p' : List ℕ) (u q : ℕ) → suc (suc d) < 8 → Readable L (suc d) p u q → Opened p p' u (suc d) q (fan L (suc d)) → length p' ≡ length p
      → ((x : ℕ) → u + fan L (suc d) < x → word p' x ≡ word p x) → Step (suc d) p p' u (u + suc (fan L (suc d))) q
  unfolding child_in
  open_step d p p' u q small g op len beh = elim (zero_or u) [
    | inl z ↦ absurd (omega (arith, g.at))
    | inr ke ↦ record {
      len = len;
      grows = omega arith;
      ok = ok-make (fan_out_of L) (By ltb) p' (u + suc n) (suc d) q ke.0 (gr.level ∙ ok-level (fan_out_of L) (By ltb) p u (suc (suc d)) q g.ok) (gr.link ∙ ke.1)
          (record {
            deep = omega arith;
            past = lt-ltb q (suc ke.0) (omega (arith, g.at, ke.1));
            fits = omega (arith, ke.1);
            head = ap (word p') (sym ke.1) ∙ gr.head;
            children = λ y i. ok-shut (fan_out_of L) (By ltb) p' (u + suc n) d y (gr.levels y (omega (arith, i, ke.1))) (gr.shut y (omega (arith, i, ke.1)));
          });
      count = λ x. count x ke.0 ke.1;
      only = λ x l h. sym (op.rest x l (λ e. omega (arith, h, places-self (fan_out_of L) p (suc (suc d)) q, ap (λ (y : ℕ). places_of (fan_out_of L) p y (suc (suc d)) q) e)));
      behind = λ x h. beh x (omega arith);
    }
  ]
    where
      n : ℕ
      n = fan L (suc d)

      gr : Grown p p' u u (suc d) q n
      gr = opened-grown (omega arith) op

      count : (x k : ℕ) → u ≡ suc k → places_of (fan_out_of L) p' x (suc (suc d)) q ≡ places_of (fan_out_of L) p x (suc (suc d)) q + new u (u + suc n) x
      count x k e =
          let a = places-open (fan_out_of L) p' x (suc d) q k (gr.link ∙ e) in
          let b = places-shut (fan_out_of L) p x (suc (suc d)) q gr.was in
          let s : sum_over (suc (suc k)) n (λ y. places_of (fan_out_of L) p' x (suc d) y) ≡ child_in x (suc k) n =
          sum-cong (suc (suc k)) n (λ y. places_of (fan_out_of L) p' x (suc d) y) (λ y. delta y x) (λ y i. places-shut (fan_out_of L) p' x (suc d) y (gr.shut y (omega (arith, i, e)))) in
          go (ℕ_discrete (suc k) x) (dec_lt x u) (dec_lt x (u + suc n)) a b s
        where
          go : Dec (suc k ≡ x) → Dec (x < u) → Dec (x < u + suc n)
              → places_of (fan_out_of L) p' x (suc (suc d)) q ≡ delta q x + delta (suc k) x + sum_over (suc (suc k)) n (λ y. places_of (fan_out_of L) p' x (suc d) y)
              → places_of (fan_out_of L) p x (suc (suc d)) q ≡ delta q x → sum_over (suc (suc k)) n (λ y. places_of (fan_out_of L) p' x (suc d) y) ≡ child_in x (suc k) n
              → places_of (fan_out_of L) p' x (suc (suc d)) q ≡ places_of (fan_out_of L) p x (suc (suc d)) q + new u (u + suc n) x
          go (yes i) j m a b s = omega (arith, delta-same (suc k) x i, new_in u (u + suc n) x (omega arith) (omega arith), child_in-out x (suc k) n (λ t. omega (arith, t)))
          go (no i) (yes j) m a b s = omega (arith, delta-other (suc k) x i, new-low u (u + suc n) x j, child_in-out x (suc k) n (λ t. omega (arith, t)))
          go (no i) (no j) (yes m) a b s = omega (arith, delta-other (suc k) x i, new_in u (u + suc n) x (omega arith) m, child_in-one x (suc k) n (omega arith))
          go (no i) (no j) (no m) a b s = omega (arith, delta-other (suc k) x i, new-high u (u + suc n) x (omega arith), child_in-out x (suc k) n (λ t. omega (arith, t)))
