-- `room_for` is exact: a tree in which every node with a frame of the regions is opened takes that many words, and taking frames one by one opens these nodes. Assumes nothing.
use mathlib.Core.Path.{◌≡◌, refl, sym, ap, ◌∙◌}
use mathlib.Core.Logic.{◌⊎◌, inl, inr, ◌≢◌, ⊎_elim}
use mathlib.Core.Bool.{Bool, true, false, not, false≢true}
use mathlib.Core.List.{List, [], ◌∷◌, map}
use Prim.Native.Nat.{ℕ, zero, suc, ◌+◌, ◌*◌, ◌/◌, ◌%◌, ◌≤◌, ◌<◌}
use native.Mathlib.Omega.{arith}
use native.Mathlib.Decide.{dec_lt, ℕ_discrete}
use native.Mathlib.Nat.{mul_assoc, mul-le-mul_left, mul-le-mul_right, mul-one, mul-zero, one-mul, zero-mul, suc-mul, zero-add, div_self, div-add-mod', mod-lt}
use lib.ListN.{length, set, length-set, length-map, get_or-eq_default}
use lib.Seq.{get_or-set_same, get_or-set_other}
use borrow.Author.Tests.{lt-ltb, le-ltb, lt-leb}
use Rattle.sizes.specs.Ladder.{Ladder}
use Rattle.model.specs.Ladder.{fan, frames, top}
use Rattle.model.specs.Frames.{Wholly, Changed, paint}
use Rattle.model.specs.Lists.{sum}
use Rattle.model.specs.Calls.{Region, seeded, acquire, verdict}
use Rattle.model.specs.FrameStore.{bare, Frames, memory, blocks, lowest_free, Same, refusals}
use Rattle.model.specs.Tree.{node, Tree, empty, mark, child, largest, words, free, free_frames, Sound, opened, handed_on, remove, pick}
use Rattle.model.specs.TreeStore.{used}
use Rattle.model.specs.Room.{room_for}
use Rattle.model.specs.Laws.{BlockIn}
use Rattle.model.specs.Demands.{shown}
use Rattle.model.proofs.Ladder.{fan-pos, frames-pos}
use Rattle.model.proofs.Frames.{within_in, within-below, within-above, painted-more, count_same, count-all, count-le}
use Rattle.model.proofs.Lists.{get_or-map-lt}
use Rattle.model.proofs.Change.{child-lt, opened-child, handed_on-length, handed_on-sound}
use Rattle.model.proofs.Free.{quiet-free}
use Rattle.model.proofs.FrameStore.{bare-iff, lowest_free-le}
use Rattle.model.proofs.Laws.{tree_laws}
use Rattle.model.proofs.Room.{met, rooms, rooms-append, blocks-rooms}

module _ (L : Ladder) where
  -- every node at or below the node of code suc d whose first frame is b is opened, if it has a frame in g; a frame needs no opening
  abbrev pub Opens : (d : ℕ) → Tree d → (g : ℕ → Bool) → (b : ℕ) → Type 0
  Opens zero v g b = Unit {0}
  Opens (suc d) (node v ks) g b =
      ((f : ℕ) → b ≤ f → f < b + frames L (suc d) → g f ≡ true → ks ≢ [])
      × ((i : ℕ) → i < fan L (suc d) → Opens d (child d ks i) g (b + i * frames L d))

  -- a child's frames are its node's
  below : (d b i f : ℕ) → i < fan L (suc d) → b + i * frames L d ≤ f → f < b + i * frames L d + frames L d → (b ≤ f) × (f < b + frames L (suc d))
  unfolding frames
  below d b i f l p q = (omega arith, omega (arith, mul-le-mul_right (frames L d) l, suc-mul i (frames L d)))

  -- fewer frames ask for fewer openings
  pub opens-fewer : (d : ℕ) (t : Tree d) (g g' : ℕ → Bool) (b : ℕ) → ((f : ℕ) → b ≤ f → f < b + frames L d → g' f ≡ true → g f ≡ true) → Opens d t g b → Opens d t g' b
  opens-fewer zero t g g' b h o = tt
  opens-fewer (suc d) (node v ks) g g' b h o = (
    λ f p q e. o.0 f p q (h f p q e),
    λ i l. opens-fewer d (child d ks i) g g' (b + i * frames L d) (λ f p q e. let y = below d b i f l p q in h f y.0 y.1 e) (o.1 i l),
  )

  -- no frames ask for none
  pub opens-none : (d : ℕ) (t : Tree d) (g : ℕ → Bool) (b : ℕ) → ((f : ℕ) → g f ≡ false) → Opens d t g b
  opens-none zero t g b h = tt
  opens-none (suc d) (node v ks) g b h = (λ f p q e. absurd (false≢true (sym (h f) ∙ e)), λ i l. opens-none d (child d ks i) g (b + i * frames L d) h)

  -- a token shuts nothing
  opens-mark : (d : ℕ) (v : Bool) (t : Tree d) (g : ℕ → Bool) (b : ℕ) → Opens d t g b → Opens d (mark d v t) g b
  opens-mark zero v t g b o = tt
  opens-mark (suc d) v (node u ks) g b o = o

  -- nor do tokens on the children
  opens-marked : (d : ℕ) (v : Bool) (ks : List (Tree d)) (i : ℕ) (g : ℕ → Bool) (b : ℕ) → Opens d (child d ks i) g b → Opens d (child d (map (mark d v) ks) i) g b
  opens-marked d v ks i g b o = go (dec_lt i (length ks))
    where
      go : Dec (i < length ks) → Opens d (child d (map (mark d v) ks) i) g b
      go (yes l) = rw (get_or-map-lt (mark d v) ks i (empty d) l) (opens-mark d v (child d ks i) g b o)
      go (no l) = rw (get_or-eq_default (map (mark d v) ks) (empty d) {n = i} (omega (arith, length-map ks (mark d v)))) (rw (get_or-eq_default ks (empty d) {n = i} (omega arith)) at o)

  -- nor does handing on
  opens-handed : (d : ℕ) (v : Bool) (ks : List (Tree d)) (i : ℕ) (g : ℕ → Bool) (b : ℕ) → Opens d (child d ks i) g b → Opens d (child d (handed_on L d v ks) i) g b
  unfolding handed_on
  opens-handed d true ks i g b o = opens-marked d true (opened L d ks) i g b (rw (opened-child L d ks i) o)
  opens-handed d false ks i g b o = rw (opened-child L d ks i) o

  -- of a frame added at y, the nodes that do not have it know nothing
  unpainted-by : (g : ℕ → Bool) (y f : ℕ) → f ≢ y → paint y 1 true g f ≡ true → g f ≡ true
  unpainted-by g y f n e = go (dec_lt f y)
    where
      go : Dec (f < y) → g f ≡ true
      go (yes l) = rw (within-below y 1 f l) at e
      go (no l) = let k : y + 1 ≤ f = omega (arith, n) in rw (within-above y 1 f k) at e

  -- taking a frame opens every node that has it
  pub opens-remove : (d : ℕ) (t : Tree d) (g : ℕ → Bool) (b x : ℕ) → Sound L d t → x < frames L d → Opens d t g b → Opens d (remove L d 0 t x) (paint (b + x) 1 true g) b
  unfolding remove
  opens-remove zero t g b x s l o = tt
  opens-remove (suc d) (node v ks) g b x s l o = go (opens-remove d)
    where
      n : ℕ
      n = frames L d

      i : ℕ
      i = x / n

      H : List (Tree d)
      H = handed_on L d v ks

      R : Tree d
      R = remove L d 0 (child d H i) (x % n)

      len : length H ≡ fan L (suc d)
      len = handed_on-length L d v ks s.shape

      here : i < fan L (suc d)
      here = child-lt L d x l

      at : b + i * n + x % n ≡ b + x
      at = omega (arith, div-add-mod' x n)

      -- the frame lies in the child on the way, in no other
      apart : (j f : ℕ) → j ≢ i → b + j * n ≤ f → f < b + j * n + n → f ≢ b + x
      apart j f e p q z = go (dec_lt j i)
        where
          go : Dec (j < i) → ⊥
          go (yes k) = omega (arith, mul-le-mul_right n k, suc-mul j n, div-add-mod' x n)
          go (no k) = let y : i < j = omega (arith, e) in omega (arith, mul-le-mul_right n y, suc-mul i n, div-add-mod' x n, mod-lt x (frames-pos L d))

      other : (j : ℕ) → j < fan L (suc d) → j ≢ i → Opens d (child d (set H i R) j) (paint (b + x) 1 true g) (b + j * n)
      other j k e = rw (get_or-set_other H i j R (empty d) e)
          (opens-fewer d (child d H j) g (paint (b + x) 1 true g) (b + j * n) (λ f p q. unpainted-by g (b + x) f (apart j f e p q)) (opens-handed d v ks j g (b + j * n) (o.1 j k)))

      go : ((t : Tree d) (g : ℕ → Bool) (b x : ℕ) → Sound L d t → x < n → Opens d t g b → Opens d (remove L d 0 t x) (paint (b + x) 1 true g) b) → Opens (suc d) (remove L (suc d) 0 (node v ks) x) (paint (b + x) 1 true g) b
      go ih = rw (lt-ltb 0 (suc d) (omega arith), remove) (
        λ f p q e z. omega (arith, ap length z, length-set H i R, len, fan-pos L d),
        λ j k. child-opens j k (ℕ_discrete j i),
      )
        where
          same : Opens d R (paint (b + x) 1 true g) (b + i * n)
          same = rw at at (ih (child d H i) g (b + i * n) (x % n) (handed_on-sound L d v ks s i) (mod-lt x (frames-pos L d)) (opens-handed d v ks i g (b + i * n) (o.1 i here)))

          child-opens : (j : ℕ) → j < fan L (suc d) → Dec (j ≡ i) → Opens d (child d (set H i R) j) (paint (b + x) 1 true g) (b + j * n)
          child-opens j k (yes e) = rw (e, get_or-set_same H i R (empty d) (omega (arith, len, here))) same
          child-opens j k (no e) = other j k e

  module _ (g : ℕ → Bool) where
    -- nodes without a frame in g do not count
    met-none : (d b n : ℕ) → ((f : ℕ) → b ≤ f → f < b + n * frames L d → g f ≡ false) → met L g d b n ≡ 0
    unfolding met
    met-none d b n h =
        let s = frames L d in
        count_same (λ i. not (bare g (b + i * s) s)) (λ i. false) n
        (λ i l. ap not ((bare-iff g (b + i * s) s).1 (λ f p q. h f (omega arith) (omega (arith, mul-le-mul_right s l, suc-mul i s)))))
        ∙ count-all (λ i. false) false n (λ i. refl) ∙ zero-mul n

    rooms-none : (d b n : ℕ) → ((f : ℕ) → b ≤ f → f < b + n * frames L d → g f ≡ false) → rooms L g d b n ≡ 0
    unfolding rooms frames
    rooms-none zero b n h = refl
    rooms-none (suc d) b n h =
        let k = fan L (suc d) in
        omega (
          arith,
          ap (λ (x : ℕ). suc k * x) (met-none (suc d) b n h),
          mul-zero (suc k),
          rooms-none d b (n * k) (λ f p q. h f p (omega (arith, mul_assoc n k (frames L d)))),
        )

    -- trees side by side take what each takes
    sum-fills : (d : ℕ) (ks : List (Tree d)) (b : ℕ) → ((i : ℕ) → i < length ks → rooms L g d (b + i * frames L d) 1 ≤ words d (child d ks i)) → rooms L g d b (length ks) ≤ sum (words d) ks
    unfolding sum
    sum-fills d [] b h = omega (arith, rooms-none d b 0 (λ f p q. absurd (omega (arith, zero-mul (frames L d)))))
    sum-fills d (k ∷ ks) b h =
        let n = frames L d in
        let m = length ks in
        let here : b + 0 * n ≡ b = omega (arith, zero-mul n) in
        let next : b + 1 * n ≡ b + n = omega (arith, one-mul n) in
        let len : 1 + m ≡ suc m = omega arith in
        let up : (i : ℕ) → b + suc i * n ≡ b + n + i * n = λ i. omega (arith, suc-mul i n) in
        let rest = sum-fills d ks (b + n) (λ i l. rw (sym (up i)) (h (suc i) (omega arith))) in
        omega (
          arith,
          h 0 (omega arith),
          ap (λ (x : ℕ). rooms L g d x 1) here,
          rest,
          rooms-append L g d b 1 m,
          ap (λ (x : ℕ). rooms L g d x m) next,
          ap (λ (x : ℕ). rooms L g d b x) len,
        )

    -- a tree takes at least what its nodes with a frame in g take
    words-fill : (d : ℕ) (t : Tree d) (b : ℕ) → Sound L d t → Opens d t g b → rooms L g d b 1 ≤ words d t
    unfolding words rooms met
    words-fill zero t b s o = omega arith
    words-fill (suc d) (node v []) b s o = omega (arith, rooms-none (suc d) b 1 (λ f p q. without f (λ e. o.0 f p (omega (arith, one-mul (frames L (suc d)))) e refl)))
      where
        without : (f : ℕ) → g f ≢ true → g f ≡ false
        without f n = go (g f) refl
          where
            go : (x : Bool) → g f ≡ x → g f ≡ false
            go true e = absurd (n e)
            go false e = e
    words-fill (suc d) (node v (k ∷ ks)) b s o =
        let xs = k ∷ ks in
        let n = fan L (suc d) in
        let len : length xs ≡ n = ⊎_elim (λ e. absurd (omega arith)) (λ e. e) s.shape in
        let one : 1 * n ≡ n = one-mul n in
        let most : met L g (suc d) b 1 ≤ 1 = count-le (λ i. not (bare g (b + i * frames L (suc d)) (frames L (suc d)))) 1 in
        omega (
          arith,
          len,
          sum-fills d xs b (λ i l. words-fill d (child d xs i) (b + i * frames L d) (s.children i) (o.1 i (omega arith))),
          ap (λ (x : ℕ). rooms L g d b x) (len ∙ sym one),
          mul-le-mul_left (suc n) most,
          mul-one (suc n),
        )

  -- a tree that opens every node with a frame of the regions takes as many words as room_for says
  pub opens-room : (gs : List Region) (t : Tree (top L)) → Sound L (top L) t → Opens (top L) t (seeded gs) 0 → room_for L gs ≤ used L t
  unfolding used room_for
  opens-room gs t s o =
      let one : blocks L (suc (top L)) ≡ 1 = div_self (frames-pos L (top L)) in
      omega (arith, words-fill (seeded gs) (top L) t 0 s o, blocks-rooms L gs (top L) (omega arith), ap (λ (x : ℕ). rooms L (seeded gs) (top L) 0 x) one)

  -- the frames taken so far are opened, and those of the regions that are not taken are free
  pub record Taking (gs : List Region) (t : Tree (top L)) : Type 0 where
    pub taken : ℕ → Bool
    pub opens : Opens (top L) t taken 0
    pub rest : (f : ℕ) → f < memory L → seeded gs f ≡ true → (free L (top L) t f ≡ true) ⊎ (taken f ≡ true)

  -- where all of them are free none need be taken
  pub all-free : (gs : List Region) (t : Tree (top L)) → ((f : ℕ) → f < memory L → seeded gs f ≡ true → free L (top L) t f ≡ true) → Taking gs t
  all-free gs t h = record { taken = λ f. false; opens = opens-none (top L) t (λ f. false) 0 (λ f. refl); rest = λ f l e. inl (h f l e) }

  module _ (t : Tree (top L)) (s : Sound L (top L) t) where
    -- a tree with a free frame offers one
    pub some-offered : 0 < free_frames L (top L) t → 1 ≤ largest (top L) t
    some-offered h = go (dec_lt 0 (largest (top L) t))
      where
        go : Dec (0 < largest (top L) t) → 1 ≤ largest (top L) t
        go (yes l) = l
        go (no l) =
            let e : largest (top L) t ≡ 0 = omega arith in
            absurd (omega (arith, h, (tree_laws L (top L) t s).counted, count-all (free L (top L) t) false (memory L) (λ f. quiet-free L (top L) t f e), zero-mul (memory L)))

    module _ (h : 1 ≤ largest (top L) t) where
      abbrev lowest_frame : ℕ
      lowest_frame = pick L (top L) 0 t

      frame-in : BlockIn L (top L) 0 lowest_frame
      frame-in = let q = (tree_laws L (top L) t s).lowest 0 h in record { deep = omega arith; aligned = q.aligned; fits = q.fits }

      frame-free : Wholly (free L (top L) t) lowest_frame (frames L 0) true
      frame-free = ((tree_laws L (top L) t s).lowest 0 h).whole

      -- an acquire of it leaves one fewer
      pub one_fewer : free_frames L (top L) t ≡ suc (free_frames L (top L) (remove L (top L) 0 t lowest_frame))
      unfolding frames
      one_fewer = omega (arith, (tree_laws L (top L) t s).fewer 0 lowest_frame frame-in frame-free)

      -- ... and takes it
      pub take_next : (gs : List Region) → Taking gs t → Taking gs (remove L (top L) 0 t lowest_frame)
      unfolding frames
      take_next gs k = record {
        taken = paint lowest_frame 1 true k.taken;
        opens = rw (zero-add lowest_frame) at (opens-remove (top L) t k.taken 0 lowest_frame s (omega (arith, frame-in.fits)) k.opens);
        rest = λ f l e. next f l (k.rest f l e) (ℕ_discrete f lowest_frame);
      }
        where
          change : Changed (free L (top L) t) (free L (top L) (remove L (top L) 0 t lowest_frame)) (memory L) lowest_frame (frames L 0) false
          change = ((tree_laws L (top L) t s).taken 0 lowest_frame frame-in frame-free).0

          kept : (f : ℕ) → f < memory L → f ≢ lowest_frame → Dec (f < lowest_frame) → free L (top L) (remove L (top L) 0 t lowest_frame) f ≡ free L (top L) t f
          kept f l n (yes p) = change.below f p
          kept f l n (no p) = change.above f (omega (arith, n)) l

          next : (f : ℕ) → f < memory L → (free L (top L) t f ≡ true) ⊎ (k.taken f ≡ true) → Dec (f ≡ lowest_frame)
              → (free L (top L) (remove L (top L) 0 t lowest_frame) f ≡ true) ⊎ (paint lowest_frame 1 true k.taken f ≡ true)
          next f l x (yes e) = inr (rw (within_in lowest_frame 1 f (omega arith) (omega arith)))
          next f l (inl x) (no e) = inl (kept f l e (dec_lt f lowest_frame) ∙ x)
          next f l (inr x) (no e) = inr (painted-more lowest_frame 1 k.taken f x)

    -- the frame store deals a frame while one is free
    pub frame-dealt : (most : ℕ) (g : Frames) → Same L (shown L (record { tree = t; regions = g.regions })) g → 1 ≤ largest (top L) t → verdict (refusals L most g (acquire 1)) ≡ 0
    unfolding refusals
    frame-dealt most g e h =
        let b = lowest_frame h in
        let fit = (frame-in h).fits in
        let x = lowest_free-le L g.free 0 (omega arith) b (frame-in h).aligned fit (λ f p q. sym (e.frames f (omega (arith, fit))) ∙ frame-free h f p q) in
        rw (le-ltb (suc (top L)) 1 (omega arith), lt-leb (blocks L 1) (lowest_free L g.free 1) x.1)

    -- with all frames of the regions taken the tree takes as many words as room_for says
    pub taken-room : (gs : List Region) → Taking gs t → free_frames L (top L) t ≡ 0 → room_for L gs ≤ used L t
    taken-room gs k z = opens-room gs t s (opens-fewer (top L) t k.taken (seeded gs) 0 (λ f p q e. go f e (k.rest f (omega arith) e)) k.opens)
      where
        none : largest (top L) t ≡ 0
        none = elim (dec_lt 0 (largest (top L) t)) [ yes l ↦ absurd (omega (arith, z, one_fewer l)) | no l ↦ omega arith ]

        go : (f : ℕ) → seeded gs f ≡ true → (free L (top L) t f ≡ true) ⊎ (k.taken f ≡ true) → k.taken f ≡ true
        go f e (inl x) = absurd (false≢true (sym (quiet-free L (top L) t f none) ∙ x))
        go f e (inr x) = x
