-- The way to a block: where every node above it is opened, storing it opens nothing. A take opens the way, and no call shuts one. Assumes nothing.
use mathlib.Core.Path.{◌≡◌, refl, sym, ap, subst}
use mathlib.Core.Logic.{◌≢◌}
use mathlib.Core.Bool.{Bool, true, false}
use mathlib.Core.List.{List, [], ◌∷◌, map}
use Prim.Native.Nat.{ℕ, zero, suc, pred, ◌+◌, ◌-◌, ◌/◌, ◌%◌, ◌≤◌, ◌<◌}
use native.Mathlib.Omega.{arith}
use native.Mathlib.Decide.{dec_lt, ℕ_discrete}
use native.Mathlib.Nat.{mod-lt}
use lib.Dec.{ltb}
use lib.ListN.{length, set, length-set, length-map, length-replicate, get_or-eq_default}
use lib.Seq.{get_or-set_same, get_or-set_other}
use borrow.Author.Tests.{ltb-true, ltb-false, eqb-false}
use Rattle.sizes.specs.Ladder.{Ladder}
use Rattle.model.specs.Ladder.{fan, frames, top, probes}
use Rattle.model.specs.Lists.{all}
use Rattle.model.specs.Calls.{Call, seed, acquire, release, report, refused, dealt, verdict}
use Rattle.model.specs.Tree.{node, Tree, token, empty, mark, child, largest, merge, Sound, opened, handed_on, openings, store, remove}
use Rattle.model.specs.TreeStore.{State, largest_fit, seed_from, used, picked, act, tests, step}
use Rattle.model.proofs.Ladder.{fan-pos, frames-pos, frames-dvd}
use Rattle.model.proofs.Range.{low-aligned, same-child, shift}
use Rattle.model.proofs.Lists.{get_or-map-lt}
use Rattle.model.proofs.Free.{pick-lowest}
use Rattle.model.proofs.Change.{child-lt, opened-child, handed_on-length, handed_on-sound}
use Rattle.model.proofs.Words.{words-store}
use Rattle.model.proofs.Verdict.{clear, never}

module _ (L : Ladder) where
  -- every node above the block of code suc d' at frame x, from the node of code suc d down, is opened
  abbrev pub Way : (d d' : ℕ) → Tree d → (x : ℕ) → Type 0
  Way zero d' v x = Unit {0}
  Way (suc d) d' (node v ks) x = d' < suc d → (ks ≢ []) × Way d d' (child d ks (x / frames L d)) (x % frames L d)

  -- so is every node above a larger block that has the frame
  pub way_up : (d d' e : ℕ) (t : Tree d) (x y : ℕ) → d' ≤ e → y % frames L e ≡ 0 → y ≤ x → x < y + frames L e → Way d d' t x → Way d e t y
  way_up zero d' e t x y l a p q w = tt
  way_up (suc d) d' e (node v ks) x y l a p q w = λ k.
      let n = frames L d in
      let s = frames L e in
      let z = w (omega arith) in
      let dvd = frames-dvd L e d (omega arith) in
      let i : x / n ≡ y / n = same-child n s y (frames-pos L d) dvd a x p q in
      let h : x + y % n ≡ y + x % n = shift n s y (frames-pos L d) dvd a x i in
      (z.0, way_up d d' e (child d ks (y / n)) (x % n) (y % n) l (low-aligned n s y (frames-pos L d) dvd a) (omega arith) (omega arith) (subst (λ (j : ℕ). Way d d' (child d ks j) (x % n)) i z.1))

  -- where the way is open there is nothing to open
  pub way-openings : (d d' : ℕ) (t : Tree d) (x : ℕ) → Way d d' t x → openings L d d' t x ≡ 0
  unfolding openings
  way-openings zero d' t x w = refl
  way-openings (suc d) d' (node v []) x w = go (ltb d' (suc d)) refl
    where
      go : (y : Bool) → ltb d' (suc d) ≡ y → openings L (suc d) d' (node v []) x ≡ 0
      go false e = rw (e, openings)
      go true e = absurd ((w (ltb-true d' (suc d) e)).0 refl)
  way-openings (suc d) d' (node v (k ∷ ks)) x w = go (ltb d' (suc d)) refl (way-openings d d')
    where
      go : (y : Bool) → ltb d' (suc d) ≡ y → ((t : Tree d) (x : ℕ) → Way d d' t x → openings L d d' t x ≡ 0) → openings L (suc d) d' (node v (k ∷ ks)) x ≡ 0
      go false e ih = rw (e, openings)
      go true e ih = rw (e, openings) (omega (arith, ih (child d (k ∷ ks) (x / frames L d)) (x % frames L d) (w (ltb-true d' (suc d) e)).1))

  -- a token shuts nothing
  way-mark : (d d' : ℕ) (v : Bool) (t : Tree d) (x : ℕ) → Way d d' t x → Way d d' (mark d v t) x
  way-mark zero d' v t x w = tt
  way-mark (suc d) d' v (node u ks) x w = w

  -- nor do tokens on the children
  way-marked : (d d' : ℕ) (v : Bool) (ks : List (Tree d)) (i x : ℕ) → Way d d' (child d ks i) x → Way d d' (child d (map (mark d v) ks) i) x
  way-marked d d' v ks i x w = go (dec_lt i (length ks))
    where
      go : Dec (i < length ks) → Way d d' (child d (map (mark d v) ks) i) x
      go (yes l) = rw (get_or-map-lt (mark d v) ks i (empty d) l) (way-mark d d' v (child d ks i) x w)
      go (no l) = rw (get_or-eq_default (map (mark d v) ks) (empty d) {n = i} (omega (arith, length-map ks (mark d v)))) (rw (get_or-eq_default ks (empty d) {n = i} (omega arith)) at w)

  -- opening and handing on leave children, with the ways below them
  opened_some : (d : ℕ) (ks : List (Tree d)) → 0 < length (opened L d ks)
  unfolding opened
  opened_some d [] = omega (arith, length-replicate (fan L (suc d)) (empty d), fan-pos L d)
  opened_some d (k ∷ ks) = omega arith

  handed-some : (d : ℕ) (v : Bool) (ks : List (Tree d)) → 0 < length (handed_on L d v ks)
  unfolding handed_on
  handed-some d true ks = omega (arith, opened_some d ks, length-map (opened L d ks) (mark d true))
  handed-some d false ks = opened_some d ks

  way-opened : (d d' : ℕ) (ks : List (Tree d)) (i x : ℕ) → Way d d' (child d ks i) x → Way d d' (child d (opened L d ks) i) x
  way-opened d d' ks i x w = rw (opened-child L d ks i) w

  way-handed : (d d' : ℕ) (v : Bool) (ks : List (Tree d)) (i x : ℕ) → Way d d' (child d ks i) x → Way d d' (child d (handed_on L d v ks) i) x
  unfolding handed_on
  way-handed d d' true ks i x w = way-marked d d' true (opened L d ks) i x (way-opened d d' ks i x w)
  way-handed d d' false ks i x w = way-opened d d' ks i x w

  -- a child replaced by one below which the way is open
  way_set : (d d' : ℕ) (ks : List (Tree d)) (i j : ℕ) (t : Tree d) (x : ℕ) → (i ≡ j → Way d d' t x) → Way d d' (child d ks j) x → Way d d' (child d (set ks i t) j) x
  way_set d d' ks i j t x r w = go (ℕ_discrete j i) (dec_lt j (length ks))
    where
      go : Dec (j ≡ i) → Dec (j < length ks) → Way d d' (child d (set ks i t) j) x
      go (yes e) (yes l) = rw (e, get_or-set_same ks i t (empty d) (omega arith)) (r (sym e))
      go (yes e) (no l) = rw (get_or-eq_default (set ks i t) (empty d) {n = j} (omega (arith, length-set ks i t))) (rw (get_or-eq_default ks (empty d) {n = j} (omega arith)) at w)
      go (no e) l = rw (get_or-set_other ks i j t (empty d) e) w

  -- merging keeps the children but for their tokens
  way-merge : (d d' : ℕ) (ks : List (Tree d)) (x : ℕ) → 0 < length ks → (d' < suc d → Way d d' (child d ks (x / frames L d)) (x % frames L d)) → Way (suc d) d' (merge d ks) x
  unfolding merge
  way-merge d d' ks x p w = go (all (token d) ks) refl
    where
      go : (y : Bool) → all (token d) ks ≡ y → Way (suc d) d' (merge d ks) x
      go true e = rw (e, merge) (λ l. (λ z. omega (arith, ap length z, length-map ks (mark d false)), way-marked d d' false ks (x / frames L d) (x % frames L d) (w l)))
      go false e = rw (e, merge) (λ l. (λ z. omega (arith, ap length z), w l))

  -- no store shuts a way
  way-store : (d d' e : ℕ) (t : Tree d) (x y : ℕ) → Way d d' t x → Way d d' (store L d e t y) x
  unfolding store
  way-store zero d' e t x y w = tt
  way-store (suc d) d' e (node v ks) x y w = go (ltb e (suc d)) refl (way-store d d' e)
    where
      go : (z : Bool) → ltb e (suc d) ≡ z → ((t : Tree d) (x y : ℕ) → Way d d' t x → Way d d' (store L d e t y) x) → Way (suc d) d' (store L (suc d) e (node v ks) y) x
      go false z ih = rw (z, store) w
      go true z ih =
          let n = frames L d in
          let i = y / n in
          let j = x / n in
          let O = opened L d ks in
          let R = store L d e (child d O i) (y % n) in
          rw (z, store) (way-merge d d' (set O i R) x (omega (arith, length-set O i R, opened_some d ks)) (λ l.
          let h = way-opened d d' ks j (x % n) (w l).1 in
          way_set d d' O i j R (x % n) (λ q. ih (child d O i) (x % n) (y % n) (rw q h)) h))

  -- nor does a take
  way-remove : (d d' e : ℕ) (t : Tree d) (x y : ℕ) → Way d d' t x → Way d d' (remove L d e t y) x
  unfolding remove
  way-remove zero d' e t x y w = tt
  way-remove (suc d) d' e (node v ks) x y w = go (ltb e (suc d)) refl (way-remove d d' e)
    where
      go : (z : Bool) → ltb e (suc d) ≡ z → ((t : Tree d) (x y : ℕ) → Way d d' t x → Way d d' (remove L d e t y) x) → Way (suc d) d' (remove L (suc d) e (node v ks) y) x
      go false z ih = rw (z, remove) w
      go true z ih =
          let n = frames L d in
          let i = y / n in
          let j = x / n in
          let H = handed_on L d v ks in
          let R = remove L d e (child d H i) (y % n) in
          rw (z, remove) (λ l.
          let h = way-handed d d' v ks j (x % n) (w l).1 in
          (λ q. omega (arith, ap length q, length-set H i R, handed-some d v ks), way_set d d' H i j R (x % n) (λ q. ih (child d H i) (x % n) (y % n) (rw q h)) h))

  -- a take opens the way to its block
  way-made : (d d' : ℕ) (t : Tree d) (x : ℕ) → Sound L d t → x < frames L d → Way d d' (remove L d d' t x) x
  unfolding remove
  way-made zero d' t x s h = tt
  way-made (suc d) d' (node v ks) x s h = go (ltb d' (suc d)) refl (way-made d d')
    where
      go : (z : Bool) → ltb d' (suc d) ≡ z → ((t : Tree d) (x : ℕ) → Sound L d t → x < frames L d → Way d d' (remove L d d' t x) x) → Way (suc d) d' (remove L (suc d) d' (node v ks) x) x
      go false z ih = rw (z, remove) (λ l. absurd (omega (arith, ltb-false d' (suc d) z)))
      go true z ih =
          let n = frames L d in
          let i = x / n in
          let H = handed_on L d v ks in
          let R = remove L d d' (child d H i) (x % n) in
          let lt : i < length H = omega (arith, handed_on-length L d v ks s.shape, child-lt L d x h) in
          rw (z, remove) (λ l. (
            λ q. omega (arith, ap length q, length-set H i R, handed-some d v ks),
            rw (get_or-set_same H i R (empty d) lt) (ih (child d H i) (x % n) (handed_on-sound L d v ks s i) (mod-lt x (frames-pos L d))),
          ))

  -- no seed shuts a way
  way-seed : (k d' : ℕ) (t : Tree (top L)) (x a e : ℕ) → Way (top L) d' t x → Way (top L) d' (seed_from L k t a e) x
  unfolding seed_from
  way-seed zero d' t x a e w = w
  way-seed (suc k) d' t x a e w = go (ltb a e) refl (way-seed k d')
    where
      go : (y : Bool) → ltb a e ≡ y → ((t : Tree (top L)) (x a e : ℕ) → Way (top L) d' t x → Way (top L) d' (seed_from L k t a e) x) → Way (top L) d' (seed_from L (suc k) t a e) x
      go false y ih = rw (y, seed_from) w
      go true y ih = let d = largest_fit L (top L) a e in rw (y, seed_from) (ih (store L (top L) d t a) x (a + frames L d) e (way-store (top L) d' d t x a w))

  -- no call shuts a way
  way-act : (s : State L) (c : Call) (d' x : ℕ) → Way (top L) d' s.tree x → Way (top L) d' (act L s c).state.tree x
  unfolding act
  way-act s (seed a e) d' x w = way-seed (e - a) d' s.tree x a e w
  way-act s (acquire c) d' x w = way-remove (top L) d' (pred c) s.tree x (picked L s c) w
  way-act s (release b c) d' x w = way-store (top L) d' (pred c) s.tree x b w
  way-act s report d' x w = w

  pub way_step : (most n : ℕ) (s : State L) (c : Call) (d' x : ℕ) → Way (top L) d' s.tree x → Way (top L) d' (step L most n s c).state.tree x
  unfolding step
  way_step most n s c d' x w = go (verdict (tests L most n s c)) refl
    where
      go : (v : ℕ) → verdict (tests L most n s c) ≡ v → Way (top L) d' (step L most n s c).state.tree x
      go zero e = rw e (way-act s c d' x w)
      go (suc v) e = rw e w

  -- the block that an acquire deals stands in memory
  picked-in : (most n : ℕ) (s : State L) (c : ℕ) → Sound L (top L) s.tree → verdict (tests L most n s (acquire c)) ≡ 0 → picked L s c < frames L (top L)
  unfolding tests
  picked-in most n s c k v =
      let t = clear (tests L most n s (acquire c)) (omega arith) v in
      let some : c ≢ 0 = eqb-false c 0 t.0 in
      let l : suc (pred c) ≤ largest (top L) s.tree = omega (arith, some, ltb-false (largest (top L) s.tree) c t.1.1.0) in
      omega (arith, (pick-lowest L (top L) (pred c) s.tree k l).fits, frames-pos L (pred c))

  -- an acquire that is not refused opens the way to the block that it deals
  pub way-dealt : (most n : ℕ) (s : State L) (c b p : ℕ) → Sound L (top L) s.tree → (step L most n s (acquire c)).answer ≡ dealt b p → Way (top L) (pred c) (step L most n s (acquire c)).state.tree b
  unfolding step act
  way-dealt most n s c b p k q = go (verdict (tests L most n s (acquire c))) refl
    where
      go : (v : ℕ) → verdict (tests L most n s (acquire c)) ≡ v → Way (top L) (pred c) (step L most n s (acquire c)).state.tree b
      go zero e =
          let z : dealt (picked L s c) (probes L (top L) (pred c) (picked L s c)) ≡ dealt b p = rw e at q in
          let i : b ≡ picked L s c = cc in
          rw (e, i) (way-made (top L) (pred c) s.tree (picked L s c) k (picked-in most n s c k e))
      go (suc v) e = let z : refused (suc v) ≡ dealt b p = rw e at q in absurd (never cc)

  -- a release of a block to which the way is open takes no words
  pub way-used : (s : State L) (b c : ℕ) → Sound L (top L) s.tree → b < frames L (top L) → Way (top L) (pred c) s.tree b → used L (act L s (release b c)).state.tree ≡ used L s.tree
  unfolding act used
  way-used s b c k l w = omega (arith, words-store L (top L) (pred c) s.tree b k l, way-openings (top L) (pred c) s.tree b w)
