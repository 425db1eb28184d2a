-- Sound read off the view: a frame is free there exactly if it lies in the block of a node with a token, so Sound is sound words, sound regions and every free frame in a region, and the calls keep it. Assumes nothing.
use mathlib.Core.Bool.{Bool, true, false, true≢false}
use mathlib.Core.List.{List}
use mathlib.Core.Logic.{inl, inr}
use mathlib.Core.Path.{◌≡◌, refl, sym, ap, ◌∙◌, subst}
use Prim.Native.Nat.{ℕ, zero, suc, ◌+◌, ◌-◌, ◌*◌, ◌/◌, ◌%◌, ◌≤◌, ◌<◌}
use native.Mathlib.Nat.{div-add-mod', mod-lt, mul-le-mul_right}
use native.Mathlib.Omega.{arith}
use lib.Dec.{ltb}
use lib.ListN.{length}
use borrow.Author.Tests.{eq-eqb, eqb-true}
use Rattle.sizes.specs.Ladder.{Ladder}
use Rattle.sizes.specs.Laws.{MultipliesUp}
use Rattle.model.proofs.Change.{child-lt, remove-done, store-done}
use Rattle.model.proofs.Frames.{inside-changed}
use Rattle.model.proofs.Free.{largest-empty, pick-lowest, quiet-free, token-free}
use Rattle.model.proofs.Ladder.{frames-pos}
use Rattle.model.proofs.Range.{child-at, child-no}
use Rattle.model.proofs.Regions.{covered-iff}
use Rattle.model.proofs.Seed.{seed-done}
use Rattle.model.specs.Calls.{seeded}
use Rattle.model.specs.Frames.{Changed, Wholly}
use Rattle.model.specs.Ladder.{fan, frames, top}
use Rattle.model.specs.Tree.{Tree, child, empty, free, largest, node, pick, remove, store}
use Rattle.model.specs.TreeStore.{seed_from}
use Rattle.pages.proofs.Statements.{Covered, Held, Offered, SoundLaws}
use Rattle.pool.specs.Nodes.{store_w, take_w, words, seed_w}
use Rattle.pool.specs.Regions.{Regions, regions_of}
use Rattle.pool.specs.Room.{openings_w, seed_openings_w}
use Rattle.pages.specs.Sound.{Below, Node, Sound, deeper, itself}
use Rattle.pool.specs.View.{block, view}
use Rattle.pool.specs.Words.{fan_out_of, frames_of, has_token, link_of, token_of, word}
use Rattle.pool.specs.Check.{SoundW}
use Rattle.pool.proofs.Blocks.{zero_or}
use Rattle.pages.proofs.Decide.{sound-words, words-sound}
use Rattle.pool.proofs.Kept.{shape-readable, sound_w-largest, sound_w-tree, store_w-sound, take_w-sound}
use Rattle.pages.proofs.Nodes.{below-trans}
use Rattle.pool.proofs.Pick.{pick_w-is}
use Rattle.pool.proofs.Regions.{regions-fit, regions-if}
use Rattle.pool.proofs.Seeding.{seed_w-done, used-seed}
use Rattle.pool.proofs.Tree.{tab-at, token-view}

module _ (L : Ladder) (p : List ℕ) where
  -- is frame f free at the node of level l at q, counted from the node's first
  abbrev pub free_at : (l q f : ℕ) → Bool
  free_at zero q f = false
  free_at (suc d) q f = free L d (view L d (word p) q) f

  -- ---- what is free at a node is free at the nodes above

  -- the child that holds frame f of an opened node
  child_view : (d q k f : ℕ) → link_of (word p q) ≡ suc k → f < frames L (suc d) → child d (block (fan L (suc d)) (view L d (word p)) (link_of (word p q))) (f / frames L d) ≡ view L d (word p) (suc (suc k) + f / frames L d)
  child_view d q k f e h = ap (λ (l : ℕ). child d (block (fan L (suc d)) (view L d (word p)) l) (f / frames L d)) e ∙ tab-at (view L d (word p)) (suc (suc k)) (fan L (suc d)) (f / frames L d) (empty d) (child-lt L d f h)

  free_up : (d q k f : ℕ) → link_of (word p q) ≡ suc k → f < frames L (suc d) → free L d (view L d (word p) (suc (suc k) + f / frames L d)) (f % frames L d) ≡ true → free L (suc d) (view L (suc d) (word p) q) f ≡ true
  unfolding view free
  free_up d q k f e h t = go (has_token (word p q))
    where
      go : (v : Bool) → free L (suc d) (node v (block (fan L (suc d)) (view L d (word p)) (link_of (word p q)))) f ≡ true
      go true = refl
      go false = ap (λ (x : Tree d). free L d x (f % frames L d)) (child_view d q k f e h) ∙ t

  -- frame f of a node whose first frame is c is a frame of the node of level l at q, whose first is b, and free there
  pub record Up (l q b c f : ℕ) : Type 0 where
    pub frame : ℕ
    pub same : c + f ≡ b + frame
    pub inside : frame < frames_of L l
    pub free : free_at l q frame ≡ true

  up-child : (m r k i f : ℕ) → link_of (word p r) ≡ suc k → i < fan_out_of L (suc m) → f < frames_of L m → free_at m (suc (suc k) + i) f ≡ true → (i * frames_of L m + f < frames_of L (suc m)) × (free_at (suc m) r (i * frames_of L m + f) ≡ true)
  unfolding frames
  up-child zero r k i f e h l t = absurd (omega arith)
  up-child (suc m) r k i f e h l t =
      let n = frames L m in
      let g = i * n + f in
      let lt : g < frames L (suc m) = omega (arith, mul-le-mul_right n h) in
      let a = child-no n g i f refl l in
      let b = child-at n g i f refl l in
      (lt, free_up m r k g e lt (rw (a, b) t))

  -- no rule of soundness is asked: a token on the way up makes the frame free as well
  pub below_free : {l q b m r c : ℕ} → Below L p l q b m r c → (f : ℕ) → f < frames_of L m → free_at m r f ≡ true → Up l q b c f
  below_free itself f h t = record { frame = f; same = refl; inside = h; free = t }
  below_free (deeper {m = m} {r = r} {c = c} k i s e lt) f h t =
      let x = up-child m r k i f e lt h t in
      let u = below_free s (i * frames_of L m + f) x.0 x.1 in
      record { frame = u.frame; same = omega (arith, u.same); inside = u.inside; free = u.free }

  -- ---- a free frame lies in the block of a node with a token
  pub record Over (l q b f : ℕ) : Type 0 where
    pub level : ℕ
    pub place : ℕ
    pub first : ℕ
    pub below : Below L p l q b level place first
    pub token : token_of (word p place) ≡ 1
    pub low : first ≤ b + f
    pub high : b + f < first + frames_of L level

  over-itself : (d q b f : ℕ) → f < frames L d → has_token (word p q) ≡ true → Over (suc d) q b f
  over-itself d q b f h t = record { level = suc d; place = q; first = b; below = itself; token = eqb-true (token_of (word p q)) 1 t; low = omega arith; high = omega arith }

  -- the way down to the frame ends at the first token
  pub free-over : (d q b f : ℕ) → f < frames L d → free L d (view L d (word p) q) f ≡ true → Over (suc d) q b f
  unfolding view free
  free-over zero q b f h t = over-itself zero q b f h t
  free-over (suc d) q b f h t = go (has_token (word p q)) refl t (λ y. free-over d y (b + f / frames L d * frames L d) (f % frames L d) (mod-lt f (frames-pos L d)))
    where
      go : (v : Bool) → has_token (word p q) ≡ v → free L (suc d) (node v (block (fan L (suc d)) (view L d (word p)) (link_of (word p q)))) f ≡ true
          → ((y : ℕ) → free L d (view L d (word p) y) (f % frames L d) ≡ true → Over (suc d) y (b + f / frames L d * frames L d) (f % frames L d)) → Over (suc (suc d)) q b f
      go true v t ih = over-itself (suc d) q b f h v
      go false v t ih = elim (zero_or (link_of (word p q))) [
        | inl z ↦
            let x : free L d (empty d) (f % frames L d) ≡ true = ap (λ (l : ℕ). free L d (child d (block (fan L (suc d)) (view L d (word p)) l) (f / frames L d)) (f % frames L d)) (sym z) ∙ t in
            absurd (true≢false (sym x ∙ quiet-free L d (empty d) (f % frames L d) (largest-empty d)))
        | inr ke ↦
            let o = ih (suc (suc ke.0) + f / frames L d) (ap (λ (x : Tree d). free L d x (f % frames L d)) (sym (child_view d q ke.0 f ke.1 h)) ∙ t) in
            record {
              level = o.level;
              place = o.place;
              first = o.first;
              below = below-trans L p (deeper ke.0 (f / frames L d) itself ke.1 (child-lt L d f h)) o.below;
              token = o.token;
              low = omega (arith, o.low, div-add-mod' f (frames L d));
              high = omega (arith, o.high, div-add-mod' f (frames L d));
            }
      ]

-- ---- Sound, and Covered
module _ (L : Ladder) (mu : MultipliesUp L) (most limit : ℕ) where
  to-words : (starts ends : List ℕ) → length starts ≡ most → length ends ≡ most → (p : List ℕ) (u : ℕ) → Sound L ltb most limit u starts ends p → SoundW L (top L) p u × Regions L most starts ends × (length p ≤ limit) × Covered L starts ends p
  to-words starts ends ls le p u s = (
    sound-words L mu most limit u starts ends p ls le s,
    s.regions,
    s.limited,
    λ f h t. let o = free-over L p (top L) 0 0 f h t in s.inside o.level o.place o.first o.below o.token f (omega (arith, o.low)) (omega (arith, o.high)),
  )

  -- every frame of a token node's block is free, so it lies in a region where all free ones do
  token-inside : (starts ends p : List ℕ) → Covered L starts ends p → (l q b : ℕ) → Node L p l q b → token_of (word p q) ≡ 1 → Wholly (seeded (regions_of L starts ends)) b (frames_of L l) true
  token-inside starts ends p c zero q b n t f lo hi = absurd (omega arith)
  token-inside starts ends p c (suc d) q b n t f lo hi =
      let u = below_free L p n (f - b) (omega arith) (token-free L d (view L d (word p) q) (f - b) (token-view L d (word p) q ∙ eq-eqb (token_of (word p q)) 1 t)) in
      let e : u.frame ≡ f = omega (arith, u.same) in
      subst (λ (g : ℕ). seeded (regions_of L starts ends) g ≡ true) e (c u.frame u.inside u.free)

  of_words : (starts ends : List ℕ) → length starts ≡ most → length ends ≡ most → (p : List ℕ) (u : ℕ) → SoundW L (top L) p u → Regions L most starts ends → length p ≤ limit → Covered L starts ends p → Sound L ltb most limit u starts ends p
  of_words starts ends ls le p u s r lim c =
      let pass = regions-if L mu most starts ends ls le r in
      words-sound L mu most limit u starts ends p ls le s.shape.low lim pass s
      (λ l q b n t. (covered-iff (frames L (top L)) b (frames_of L l) (regions_of L starts ends) (regions-fit L mu starts ends pass)).1 (token-inside starts ends p c l q b n t))

  -- free frames stay in regions where a block changes: if it becomes free it lies in them, and no region is lost
  covered-after : (starts ends starts' ends' p p' : List ℕ) (t : Tree (top L)) (b s : ℕ) (v : Bool) → view L (top L) (word p') 0 ≡ t → Changed (free L (top L) (view L (top L) (word p) 0)) (free L (top L) t) (frames L (top L)) b s v
      → (v ≡ true → Wholly (seeded (regions_of L starts' ends')) b s true) → ((f : ℕ) → seeded (regions_of L starts ends) f ≡ true → seeded (regions_of L starts' ends') f ≡ true)
      → Covered L starts ends p → Covered L starts' ends' p'
  covered-after starts ends starts' ends' p p' t b s v e c w g h =
      subst (λ (x : Tree (top L)). (f : ℕ) → f < frames L (top L) → free L (top L) x f ≡ true → seeded (regions_of L starts' ends') f ≡ true) (sym e)
      (inside-changed (seeded (regions_of L starts ends)) (free L (top L) (view L (top L) (word p) 0)) (seeded (regions_of L starts' ends')) (free L (top L) t) (frames L (top L)) b s v w g c h)

  -- ---- storing, taking and seeding
  module _ (small : suc (top L) < 8) (starts ends : List ℕ) (ls : length starts ≡ most) (le : length ends ≡ most) (p : List ℕ) (u : ℕ) (s : Sound L ltb most limit u starts ends p) where
    w : SoundW L (top L) p u
    w = (to-words starts ends ls le p u s).0

    abbrev T : Tree (top L)
    T = view L (top L) (word p) 0

    cov : Covered L starts ends p
    cov = (to-words starts ends ls le p u s).3

    stored : (d' b : ℕ) → Held L (top L) d' p u 0 b → Wholly (seeded (regions_of L starts ends)) b (frames L d') true
        → Sound L ltb most limit (store_w L (top L) d' (words p u) 0 b).used starts ends (store_w L (top L) d' (words p u) 0 b).pool
    stored d' b h i =
        let o = store_w L (top L) d' (words p u) 0 b in
        let l = store_w-sound L (top L) d' p u b small w h.block h.held h.room in
        let c = (store-done L (top L) d' T b (sound_w-tree L (top L) p u w).1 h.block h.held).0 in
        of_words starts ends ls le o.pool o.used l.sound s.regions (omega (arith, l.length, s.limited))
        (covered-after starts ends starts ends p o.pool (store L (top L) d' T b) b (frames L d') true l.tree c (λ x. i) (λ f x. x) cov)

    taken : (d' : ℕ) → Offered L (top L) d' p u 0 → Sound L ltb most limit (take_w L (top L) d' (words p u) 0).words.used starts ends (take_w L (top L) d' (words p u) 0).words.pool
    taken d' h =
        let o = (take_w L (top L) d' (words p u) 0).words in
        let b = pick L (top L) d' T in
        let t = sound_w-tree L (top L) p u w in
        let big : suc d' ≤ largest (top L) T = omega (arith, h.offers, sound_w-largest L (top L) p u w) in
        let q = pick-lowest L (top L) d' T t.1 big in
        let e = pick_w-is L (top L) d' p u 0 (shape-readable L (top L) p u w.shape) t.1 t.0 big in
        let l = (take_w-sound L (top L) d' p u small w h.deep h.offers (omega (arith, h.room, ap (openings_w L (top L) d' p 0) e))).2 in
        let c = (remove-done L (top L) d' T b t.1 (record { deep = h.deep; aligned = q.aligned; fits = q.fits }) q.whole).0 in
        of_words starts ends ls le o.pool o.used l.sound s.regions (omega (arith, l.length, s.limited))
        (covered-after starts ends starts ends p o.pool (remove L (top L) d' T b) b (frames L d') false l.tree c (λ x. absurd (true≢false (sym x))) (λ f x. x) cov)

    seeds : (a e : ℕ) (starts' ends' : List ℕ) → a ≤ e → e ≤ frames L (top L) → Wholly (free L (top L) (view L (top L) (word p) 0)) a (e - a) false
        → u + seed_openings_w L (e - a) p a e ≤ length p → length starts' ≡ most → length ends' ≡ most → Regions L most starts' ends'
        → ((f : ℕ) → seeded (regions_of L starts ends) f ≡ true → seeded (regions_of L starts' ends') f ≡ true) → Wholly (seeded (regions_of L starts' ends')) a (e - a) true
        → Sound L ltb most limit (seed_w L (e - a) (words p u) a e).used starts' ends' (seed_w L (e - a) (words p u) a e).pool
    seeds a e starts' ends' ae top-ok held room ls' le' r g i =
        let o = seed_w L (e - a) (words p u) a e in
        let z : a + (e - a) ≡ e = omega arith in
        let l = seed_w-done L (e - a) p u a e (e - a) small w z top-ok held (omega (arith, used-seed L (e - a) p u a e (e - a) w z top-ok held)) in
        let c = (seed-done L (e - a) T a e (e - a) (sound_w-tree L (top L) p u w).1 z top-ok (omega arith) held).0 in
        of_words starts' ends' ls' le' o.pool o.used l.sound r (omega (arith, l.length, s.limited))
        (covered-after starts ends starts' ends' p o.pool (seed_from L (e - a) T a e) a (e - a) true l.tree c (λ x. i) g cov)

-- THE LAWS OF SOUND
pub sound-laws : (L : Ladder) → MultipliesUp L → suc (top L) < 8 → (most limit : ℕ) (starts ends : List ℕ) → length starts ≡ most → length ends ≡ most → SoundLaws L most limit starts ends
sound-laws L mu small most limit starts ends ls le = record {
  to_words = to-words L mu most limit starts ends ls le;
  of_words = of_words L mu most limit starts ends ls le;
  stored = λ p u d' b s. stored L mu most limit small starts ends ls le p u s d' b;
  taken = λ p u d' s. taken L mu most limit small starts ends ls le p u s d';
  seeded = λ p u a e starts' ends' s. seeds L mu most limit small starts ends ls le p u s a e starts' ends';
}
