-- The pool words that regions can take: a tree that opens only nodes with a frame of the regions takes no more than `room_for` says, and calls within the regions keep it so. Assumes nothing.
use mathlib.Core.Path.{◌≡◌, refl, sym, ap, ◌∙◌}
use mathlib.Core.Logic.{◌≢◌, ⊎_elim}
use mathlib.Core.Bool.{Bool, true, false, not}
use mathlib.Core.List.{List, [], ◌∷◌, map}
use Prim.Native.Nat.{ℕ, zero, suc, pred, ◌+◌, ◌*◌, ◌-◌, ◌/◌, ◌%◌, ◌≤◌, ◌<◌}
use native.Mathlib.Omega.{arith}
use native.Mathlib.Decide.{dec_lt, ℕ_discrete}
use native.Mathlib.Nat.{add-mul, mul-add, mul_assoc, mul-one, one-mul, zero-mul, suc-mul, zero-add, div_self, div-mul_cancel, div-eq_of_eq-mul_left, div-add-mod'}
use lib.Dec.{ltb}
use lib.ListN.{length, set, length-set, length-map, get_or-eq_default}
use lib.Seq.{get_or-set_same, get_or-set_other}
use borrow.Author.Tests.{ltb-true}
use Rattle.sizes.specs.Ladder.{Ladder}
use Rattle.model.specs.Ladder.{fan, frames, top}
use Rattle.model.specs.Frames.{Wholly, bit, count}
use Rattle.model.specs.Lists.{sum, all}
use Rattle.model.specs.Calls.{Region, seeded, Call, seed, acquire, release, report}
use Rattle.model.specs.FrameStore.{bare, memory, blocks}
use Rattle.model.specs.Tree.{node, Tree, token, empty, mark, child, words, merge, Sound, opened, handed_on, store, remove}
use Rattle.model.specs.TreeStore.{State, largest_fit, seed_from, used, picked, act}
use Rattle.model.specs.Room.{touched, blocks_of, room_for}
use Rattle.model.specs.Laws.{BlockIn}
use Rattle.model.proofs.Ladder.{frames-pos, frames-dvd}
use Rattle.model.proofs.Frames.{count_same, count-append}
use Rattle.model.proofs.Lists.{get_or-map-lt}
use Rattle.model.proofs.Change.{place_down, opened-child}
use Rattle.model.proofs.FrameStore.{not-bare}
use Rattle.model.proofs.Seed.{largest_fit-ok}

module _ (L : Ladder) where
  -- every opened node at or below the node of code suc d whose first frame is b has a frame in g
  abbrev pub Reaches : (d : ℕ) → Tree d → (g : ℕ → Bool) → (b : ℕ) → Type 0
  Reaches zero v g b = Unit {0}
  Reaches (suc d) (node v ks) g b =
      (ks ≢ [] → (f : ℕ) × (b ≤ f) × (f < b + frames L (suc d)) × (g f ≡ true))
      × ((i : ℕ) → i < fan L (suc d) → Reaches d (child d ks i) g (b + i * frames L d))

  -- an empty node has opened nothing
  pub reaches-empty : (d : ℕ) (g : ℕ → Bool) (b : ℕ) → Reaches d (empty d) g b
  reaches-empty zero g b = tt
  reaches-empty (suc d) g b = (λ n. absurd (n refl), λ i l. reaches-empty d g (b + i * frames L d))

  -- a token opens nothing
  reaches-mark : (d : ℕ) (v : Bool) (t : Tree d) (g : ℕ → Bool) (b : ℕ) → Reaches d t g b → Reaches d (mark d v t) g b
  reaches-mark zero v t g b r = tt
  reaches-mark (suc d) v (node u ks) g b r = r

  -- nor do tokens on the children
  reaches-marked : (d : ℕ) (v : Bool) (ks : List (Tree d)) (i : ℕ) (g : ℕ → Bool) (b : ℕ) → Reaches d (child d ks i) g b → Reaches d (child d (map (mark d v) ks) i) g b
  reaches-marked d v ks i g b r = go (dec_lt i (length ks))
    where
      go : Dec (i < length ks) → Reaches d (child d (map (mark d v) ks) i) g b
      go (yes l) = rw (get_or-map-lt (mark d v) ks i (empty d) l) (reaches-mark d v (child d ks i) g b r)
      go (no l) = rw (get_or-eq_default (map (mark d v) ks) (empty d) {n = i} (omega (arith, length-map ks (mark d v)))) (reaches-empty d g b)

  -- a child replaced by one that has opened only nodes with a frame in g
  reaches-set : (d : ℕ) (ks : List (Tree d)) (i j : ℕ) (x : Tree d) (g : ℕ → Bool) (b : ℕ) → (i ≡ j → Reaches d x g b) → Reaches d (child d ks j) g b → Reaches d (child d (set ks i x) j) g b
  reaches-set d ks i j x g b r s = go (ℕ_discrete j i) (dec_lt j (length ks))
    where
      go : Dec (j ≡ i) → Dec (j < length ks) → Reaches d (child d (set ks i x) j) g b
      go (yes e) (yes l) = rw (e, get_or-set_same ks i x (empty d) (omega arith)) (r (sym e))
      go (yes e) (no l) = rw (get_or-eq_default (set ks i x) (empty d) {n = j} (omega (arith, length-set ks i x))) (reaches-empty d g b)
      go (no e) l = rw (get_or-set_other ks i j x (empty d) e) s

  -- opening and handing on change no child but for its token
  reaches-opened : (d : ℕ) (ks : List (Tree d)) (i : ℕ) (g : ℕ → Bool) (b : ℕ) → Reaches d (child d ks i) g b → Reaches d (child d (opened L d ks) i) g b
  reaches-opened d ks i g b r = rw (opened-child L d ks i) r

  reaches-handed : (d : ℕ) (v : Bool) (ks : List (Tree d)) (i : ℕ) (g : ℕ → Bool) (b : ℕ) → Reaches d (child d ks i) g b → Reaches d (child d (handed_on L d v ks) i) g b
  unfolding handed_on
  reaches-handed d true ks i g b r = reaches-marked d true (opened L d ks) i g b (reaches-opened d ks i g b r)
  reaches-handed d false ks i g b r = reaches-opened d ks i g b r

  -- merging keeps the children but for their tokens
  reaches-merge : (d : ℕ) (ks : List (Tree d)) (g : ℕ → Bool) (b : ℕ) → (f : ℕ) × (b ≤ f) × (f < b + frames L (suc d)) × (g f ≡ true)
      → ((i : ℕ) → i < fan L (suc d) → Reaches d (child d ks i) g (b + i * frames L d)) → Reaches (suc d) (merge d ks) g b
  unfolding merge
  reaches-merge d ks g b f r = go (all (token d) ks) refl
    where
      go : (x : Bool) → all (token d) ks ≡ x → Reaches (suc d) (merge d ks) g b
      go true e = rw (e, merge) (λ n. f, λ i l. reaches-marked d false ks i g (b + i * frames L d) (r i l))
      go false e = rw (e, merge) (λ n. f, r)

  -- where the block's first frame is in g: the node has a frame in g, and the block's frame is that of the block in its child
  frame-in : (d d' : ℕ) (g : ℕ → Bool) (b x : ℕ) → BlockIn L d d' x → g (b + x) ≡ true → (f : ℕ) × (b ≤ f) × (f < b + frames L d) × (g f ≡ true)
  frame-in d d' g b x p e = (b + x, omega arith, omega (arith, p.fits, frames-pos L d'), e)

  frame-down : (d : ℕ) (g : ℕ → Bool) (b x : ℕ) → g (b + x) ≡ true → g (b + x / frames L d * frames L d + x % frames L d) ≡ true
  frame-down d g b x e =
      let z : b + x / frames L d * frames L d + x % frames L d ≡ b + x = omega (arith, div-add-mod' x (frames L d)) in
      rw z e

  -- a store opens nodes around its block only
  pub reaches-store : (d d' : ℕ) (t : Tree d) (g : ℕ → Bool) (b x : ℕ) → BlockIn L d d' x → Reaches d t g b → g (b + x) ≡ true → Reaches d (store L d d' t x) g b
  unfolding store
  reaches-store zero d' t g b x p r e = tt
  reaches-store (suc d) d' (node v ks) g b x p r e = go (ltb d' (suc d)) refl (reaches-store d d')
    where
      go : (y : Bool) → ltb d' (suc d) ≡ y
          → ((t : Tree d) (g : ℕ → Bool) (b x : ℕ) → BlockIn L d d' x → Reaches d t g b → g (b + x) ≡ true → Reaches d (store L d d' t x) g b)
          → Reaches (suc d) (store L (suc d) d' (node v ks) x) g b
      go false y ih = rw (y, store) r
      go true y ih =
          let n = frames L d in
          let i = x / n in
          let O = opened L d ks in
          let R = store L d d' (child d O i) (x % n) in
          rw (y, store) (reaches-merge d (set O i R) g b (frame-in (suc d) d' g b x p e) (λ j l.
          reaches-set d O i j R g (b + j * n)
          (λ q. rw (sym q) (ih (child d O i) g (b + i * n) (x % n) (place_down L d d' x p (ltb-true d' (suc d) y)) (reaches-opened d ks i g (b + i * n) (r.1 i (rw q l))) (frame-down d g b x e)))
          (reaches-opened d ks j g (b + j * n) (r.1 j l))))

  -- a take too
  pub reaches-remove : (d d' : ℕ) (t : Tree d) (g : ℕ → Bool) (b x : ℕ) → BlockIn L d d' x → Reaches d t g b → g (b + x) ≡ true → Reaches d (remove L d d' t x) g b
  unfolding remove
  reaches-remove zero d' t g b x p r e = tt
  reaches-remove (suc d) d' (node v ks) g b x p r e = go (ltb d' (suc d)) refl (reaches-remove d d')
    where
      go : (y : Bool) → ltb d' (suc d) ≡ y
          → ((t : Tree d) (g : ℕ → Bool) (b x : ℕ) → BlockIn L d d' x → Reaches d t g b → g (b + x) ≡ true → Reaches d (remove L d d' t x) g b)
          → Reaches (suc d) (remove L (suc d) d' (node v ks) x) g b
      go false y ih = rw (y, remove) r
      go true y ih =
          let n = frames L d in
          let i = x / n in
          let H = handed_on L d v ks in
          let R = remove L d d' (child d H i) (x % n) in
          rw (y, remove) (
            λ z. frame-in (suc d) d' g b x p e,
            λ j l.
                reaches-set d H i j R g (b + j * n)
                (λ q. rw (sym q) (ih (child d H i) g (b + i * n) (x % n) (place_down L d d' x p (ltb-true d' (suc d) y)) (reaches-handed d v ks i g (b + i * n) (r.1 i (rw q l))) (frame-down d g b x e)))
                (reaches-handed d v ks j g (b + j * n) (r.1 j l)),
          )

  -- a seed opens nodes around its frames only
  pub reaches-seed : (k : ℕ) (t : Tree (top L)) (g : ℕ → Bool) (a e : ℕ) → e ≤ memory L → Wholly g a (e - a) true → Reaches (top L) t g 0 → Reaches (top L) (seed_from L k t a e) g 0
  unfolding seed_from
  reaches-seed zero t g a e h w r = r
  reaches-seed (suc k) t g a e h w r = go (ltb a e) refl (reaches-seed k)
    where
      go : (y : Bool) → ltb a e ≡ y
          → ((t : Tree (top L)) (g : ℕ → Bool) (a e : ℕ) → e ≤ memory L → Wholly g a (e - a) true → Reaches (top L) t g 0 → Reaches (top L) (seed_from L k t a e) g 0)
          → Reaches (top L) (seed_from L (suc k) t a e) g 0
      go false y ih = rw (y, seed_from) r
      go true y ih =
          let d = largest_fit L (top L) a e in
          let ok = largest_fit-ok L (top L) a e (ltb-true a e y) in
          let here : g (0 + a) ≡ true = rw (zero-add a) (w a (omega arith) (omega (arith, ltb-true a e y))) in
          rw (y, seed_from) (ih (store L (top L) d t a) g (a + frames L d) e h (λ f u v. w f (omega arith) (omega (arith, ok)))
          (reaches-store (top L) d t g 0 a (record { deep = ok.0; aligned = ok.1; fits = omega (arith, ok) }) r here))

  -- what an accepted call may ask, so that every node it opens has a frame in g
  abbrev pub AskedIn : (g : ℕ → Bool) → State L → Call → Type 0
  AskedIn g s (seed a e) = (e ≤ memory L) × Wholly g a (e - a) true
  AskedIn g s (acquire c) = BlockIn L (top L) (pred c) (picked L s c) × (g (picked L s c) ≡ true)
  AskedIn g s (release b c) = BlockIn L (top L) (pred c) b × (g b ≡ true)
  AskedIn g s report = Unit {0}

  -- such a call opens only nodes with a frame in g
  pub act-reaches : (s : State L) (c : Call) (g : ℕ → Bool) → Reaches (top L) s.tree g 0 → AskedIn g s c → Reaches (top L) (act L s c).state.tree g 0
  unfolding act
  act-reaches s (seed a e) g r q = reaches-seed (e - a) s.tree g a e q.0 q.1 r
  act-reaches s (acquire c) g r q =
      let here : g (0 + picked L s c) ≡ true = rw (zero-add (picked L s c)) q.1 in
      reaches-remove (top L) (pred c) s.tree g 0 (picked L s c) q.0 r here
  act-reaches s (release b c) g r q =
      let here : g (0 + b) ≡ true = rw (zero-add b) q.1 in
      reaches-store (top L) (pred c) s.tree g 0 b q.0 r here
  act-reaches s report g r q = r

  module _ (g : ℕ → Bool) where
    -- how many of the n nodes of code suc d from frame b on have a frame in g
    unfoldable pub met : (d b n : ℕ) → ℕ
    met d b n = count (λ i. not (bare g (b + i * frames L d) (frames L d))) n

    -- the words that these nodes and those below them can take
    unfoldable pub rooms : (d b n : ℕ) → ℕ
    rooms zero b n = 0
    rooms (suc d) b n = suc (fan L (suc d)) * met (suc d) b n + rooms d b (n * fan L (suc d))

    -- a node with a frame in g counts
    met-one : (d b f : ℕ) → b ≤ f → f < b + frames L d → g f ≡ true → met d b 1 ≡ 1
    unfolding met count
    met-one d b f p q e =
        let n = frames L d in
        let here : b + 0 * n ≡ b = omega (arith, zero-mul n) in
        let z : not (bare g (b + 0 * n) n) ≡ true = rw (here, not-bare g b n f p q e) refl in
        omega (arith, ap bit z)

    -- nodes side by side
    met-append : (d b n m : ℕ) → met d b (n + m) ≡ met d b n + met d (b + n * frames L d) m
    unfolding met
    met-append d b n m =
        let s = frames L d in
        let z : (i : ℕ) → b + (n + i) * s ≡ b + n * s + i * s = λ i. omega (arith, add-mul n i s) in
        count-append (λ i. not (bare g (b + i * s) s)) n m
        ∙ ap (λ (x : ℕ). count (λ i. not (bare g (b + i * s) s)) n + x)
        (count_same (λ i. not (bare g (b + (n + i) * s) s)) (λ i. not (bare g (b + n * s + i * s) s)) m (λ i l. rw (z i)))

    pub rooms-append : (d b n m : ℕ) → rooms d b (n + m) ≡ rooms d b n + rooms d (b + n * frames L d) m
    unfolding rooms frames
    rooms-append zero b n m = omega arith
    rooms-append (suc d) b n m =
        let k = fan L (suc d) in
        let x = suc k in
        let z : n * k * frames L d ≡ n * (k * frames L d) = mul_assoc n k (frames L d) in
        omega (
          arith,
          ap (λ (y : ℕ). x * y) (met-append (suc d) b n m),
          mul-add x (met (suc d) b n) (met (suc d) (b + n * frames L (suc d)) m),
          ap (λ (y : ℕ). rooms d b y) (add-mul n m k),
          rooms-append d b (n * k) (m * k),
          ap (λ (y : ℕ). rooms d (b + y) (m * k)) z,
        )

    -- trees side by side take what each takes
    sum-rooms : (d : ℕ) (ks : List (Tree d)) (b : ℕ) → ((i : ℕ) → i < length ks → words d (child d ks i) ≤ rooms d (b + i * frames L d) 1) → sum (words d) ks ≤ rooms d b (length ks)
    unfolding sum
    sum-rooms d [] b h = omega arith
    sum-rooms d (k ∷ ks) b h =
        let n = frames L d in
        let m = length ks in
        let here : b + 0 * n ≡ b = omega (arith, zero-mul n) in
        let next : b + 1 * n ≡ b + n = omega (arith, one-mul n) in
        let len : 1 + m ≡ suc m = omega arith in
        let up : (i : ℕ) → b + suc i * n ≡ b + n + i * n = λ i. omega (arith, suc-mul i n) in
        let rest = sum-rooms d ks (b + n) (λ i l. rw (sym (up i)) (h (suc i) (omega arith))) in
        omega (
          arith,
          h 0 (omega arith),
          ap (λ (x : ℕ). rooms d x 1) here,
          rest,
          rooms-append d b 1 m,
          ap (λ (x : ℕ). rooms d x m) next,
          ap (λ (x : ℕ). rooms d b x) len,
        )

    -- a tree takes no more than its nodes with a frame in g can
    words-rooms : (d : ℕ) (t : Tree d) (b : ℕ) → Sound L d t → Reaches d t g b → words d t ≤ rooms d b 1
    unfolding words rooms
    words-rooms zero t b s r = omega arith
    words-rooms (suc d) (node v []) b s r = omega arith
    words-rooms (suc d) (node v (k ∷ ks)) b s r =
        let xs = k ∷ ks in
        let n = fan L (suc d) in
        let len : length xs ≡ n = ⊎_elim (λ e. absurd (omega arith)) (λ e. e) s.shape in
        let one : 1 * n ≡ n = one-mul n in
        let f = r.0 (λ e. absurd (omega (arith, ap length e))) in
        omega (
          arith,
          len,
          sum-rooms d xs b (λ i l. words-rooms d (child d xs i) (b + i * frames L d) (s.children i) (r.1 i (omega arith))),
          ap (λ (x : ℕ). rooms d b x) (len ∙ sym one),
          ap (λ (x : ℕ). suc n * x) (met-one (suc d) b f.0 f.1 f.2 f.3),
          mul-one (suc n),
        )

  -- the nodes of memory with a frame of the regions are those that the regions touch
  met-touched : (gs : List Region) (d : ℕ) → met (seeded gs) d 0 (blocks L (suc d)) ≡ touched L gs (suc d)
  unfolding met touched
  met-touched gs d =
      let n = frames L d in
      count_same (λ i. not (bare (seeded gs) (0 + i * n) n)) (λ i. not (bare (seeded gs) (i * n) n)) (blocks L (suc d)) (λ i l. rw (zero-add (i * n)))

  -- each node of memory has its fan-out of children
  blocks-down : (d : ℕ) → suc d ≤ top L → blocks L (suc (suc d)) * fan L (suc d) ≡ blocks L (suc d)
  unfolding frames
  blocks-down d h =
      let k = fan L (suc d) in
      let n = frames L d in
      let m = memory L / (k * n) in
      let whole : m * (k * n) ≡ memory L = div-mul_cancel (k * n) (frames-dvd L (suc d) (top L) h) in
      sym (div-eq_of_eq-mul_left (frames-pos L d) (sym whole ∙ sym (mul_assoc m k n)))

  -- the words of all nodes of memory
  pub blocks-rooms : (gs : List Region) (d : ℕ) → d ≤ top L → rooms (seeded gs) d 0 (blocks L (suc d)) ≡ blocks_of L gs d
  unfolding rooms blocks_of
  blocks-rooms gs zero h = refl
  blocks-rooms gs (suc d) h =
      let k = fan L (suc d) in
      let down : blocks L (suc (suc d)) * k ≡ blocks L (suc d) = blocks-down d h in
      omega (
        arith,
        ap (λ (x : ℕ). suc k * x) (met-touched gs (suc d)),
        ap (λ (x : ℕ). rooms (seeded gs) d 0 x) down,
        blocks-rooms gs d (omega arith),
      )

  -- a tree that opens only nodes with frames of the regions takes no more words than room_for says
  pub reaches-room : (gs : List Region) (t : Tree (top L)) → Sound L (top L) t → Reaches (top L) t (seeded gs) 0 → used L t ≤ room_for L gs
  unfolding used room_for
  reaches-room gs t s r =
      let one : blocks L (suc (top L)) ≡ 1 = div_self (frames-pos L (top L)) in
      omega (arith, words-rooms (seeded gs) (top L) t 0 s r, blocks-rooms gs (top L) (omega arith), ap (λ (x : ℕ). rooms (seeded gs) (top L) 0 x) one)
