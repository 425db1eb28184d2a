-- The room counted by intervals is the room counted over all nodes, and a GiB takes 395,012 words. Assumes nothing.
use mathlib.Core.Path.{◌≡◌, refl, sym, ap, ap₂, ◌∙◌}
use mathlib.Core.Bool.{Bool, true, false, ◌&&◌, not, cond}
use mathlib.Core.List.{List, [], ◌∷◌}
use Prim.Native.Nat.{ℕ, zero, suc, pred, ◌+◌, ◌*◌, ◌-◌, ◌/◌, ◌%◌, ◌≤◌, ◌<◌}
use native.Mathlib.Omega.{arith}
use native.Mathlib.Decide.{ℕ_discrete}
use native.Mathlib.Nat.{div-add-mod', mod-lt, mul-le-mul_right, mul-mod_left, div-mul-le_self, div-lt_iff_lt-mul, le-div_iff_mul-le}
use lib.Dec.{eqb}
use borrow.Author.Tests.{eq-eqb, ne_eqb}
use Rattle.sizes.specs.Ladder.{Ladder, largest, fan_out}
use Rattle.sizes.specs.Six.{six}
use Rattle.model.specs.Ladder.{fan, frames, top}
use Rattle.model.specs.Frames.{Wholly, bit, count}
use Rattle.model.specs.Calls.{Region, seeded, Regions}
use Rattle.model.specs.Lists.{sum}
use Rattle.model.specs.TreeStore.{overlap}
use Rattle.model.specs.FrameStore.{memory, blocks, bare}
use Rattle.model.specs.Room.{touched, blocks_of, room_for, Gibibyte}
use Rattle.model.proofs.Ladder.{frames-pos}
use Rattle.model.proofs.Range.{fits}
use Rattle.model.proofs.Frames.{count_same, count_add, count-all}
use Rattle.model.proofs.FrameStore.{bare-iff, blocks-memory}
use Rattle.model.proofs.Touched.{bare-is, count-single, count-run}
use Rattle.pool.specs.Planned.{meets, new_nodes, touched_by, blocks_by, room_by}

-- a node meets the regions exactly if one of its frames lies in one
pub meets-is : (N : ℕ) (rs : List Region) → Regions N rs → (n i : ℕ) → meets rs n i ≡ not (bare (seeded rs) (i * n) n)
unfolding meets
meets-is N rs k n i = ap not (bare-is N (i * n) n rs k)

-- a node meets o + s frames: it meets the s, or it meets the o alone
meets-bit : (o s : ℕ) → bit (not (eqb (o + s) 0)) ≡ bit (not (eqb o 0) && not (not (eqb s 0))) + bit (not (eqb s 0))
meets-bit o s = go (ℕ_discrete o 0) (ℕ_discrete s 0)
  where
    go : Dec (o ≡ 0) → Dec (s ≡ 0) → bit (not (eqb (o + s) 0)) ≡ bit (not (eqb o 0) && not (not (eqb s 0))) + bit (not (eqb s 0))
    go (yes x) (yes y) = rw (eq-eqb (o + s) 0 (omega arith), eq-eqb o 0 x, eq-eqb s 0 y)
    go (yes x) (no y) = rw (ne_eqb (o + s) 0 (λ e. omega arith), eq-eqb o 0 x, ne_eqb s 0 y)
    go (no x) (yes y) = rw (ne_eqb (o + s) 0 (λ e. omega arith), ne_eqb o 0 x, eq-eqb s 0 y)
    go (no x) (no y) = rw (ne_eqb (o + s) 0 (λ e. omega arith), ne_eqb o 0 x, ne_eqb s 0 y)

not-bit : (v : Bool) → bit (not v) + bit v ≡ 1
not-bit true = refl
not-bit false = refl

-- the first node is no later than the last
pub first-last : (a e n : ℕ) → a < e → 1 ≤ n → a / n ≤ pred e / n
first-last a e n l pos = (le-div_iff_mul-le pos).1 (omega (arith, div-mul-le_self a n))

-- the nodes of n frames that the region r touches and those of rs do not
module _ (N : ℕ) (r : Region) (rs : List Region) (k : Regions N (r ∷ rs)) (n : ℕ) (pos : 0 < n) where
  abbrev new : ℕ → Bool
  new i = not (eqb (overlap (i * n) n r) 0) && not (meets rs n i)

  -- the first node that r touches, and the last
  abbrev lo : ℕ
  lo = r.start / n

  abbrev hi : ℕ
  hi = pred r.end / n

  -- where r starts in the first, and ends in the last
  record Ends : Type 0 where
    pub first_low : lo * n ≤ r.start
    pub first_high : r.start < lo * n + n
    pub last_low : hi * n < r.end
    pub last_high : r.end ≤ hi * n + n

  ends : Ends
  ends =
      let a = div-add-mod' r.start n in
      let b = mod-lt r.start pos in
      let c = div-add-mod' (pred r.end) n in
      let d = mod-lt (pred r.end) pos in
      let s = k.0.some in
      record { first_low = omega arith; first_high = omega arith; last_low = omega arith; last_high = omega arith }

  -- nodes below the first and past the last touch no frame of r
  none_below : (i : ℕ) → i < lo → new i ≡ false
  none_below i l = rw (eq-eqb (overlap (i * n) n r) 0 (omega (arith, mul-le-mul_right n l, ends.first_low)))

  none-past : (i : ℕ) → hi < i → new i ≡ false
  none-past i l = rw (eq-eqb (overlap (i * n) n r) 0 (omega (arith, mul-le-mul_right n l, ends.last_high)))

  -- those from the first to the last do
  new-at : (i : ℕ) → lo ≤ i → i ≤ hi → new i ≡ not (meets rs n i)
  new-at i p q = rw (ne_eqb (overlap (i * n) n r) 0 (λ e. omega (arith, mul-le-mul_right n p, mul-le-mul_right n q, ends.first_high, ends.last_low, k.0.some)))

  -- one strictly between lies wholly in r, which shares no frame with the others
  between : (i : ℕ) → lo < i → i < hi → new i ≡ true
  between i p q = new-at i (omega arith) (omega arith) ∙ ap not (meets-is N rs k.1 n i ∙ ap not ((bare-iff (seeded rs) (i * n) n).1 clear))
    where
      clear : Wholly (seeded rs) (i * n) n false
      clear f l h = k.0.alone f (omega (arith, mul-le-mul_right n p, ends.first_high)) (omega (arith, mul-le-mul_right n q, ends.last_low))

  lo-hi : lo ≤ hi
  lo-hi = first-last r.start r.end n k.0.some pos

  -- they are counted: all from the first to the last, less these two where rs meets them
  new-count : (B : ℕ) → hi < B → count new B ≡ new_nodes rs r.start r.end n
  unfolding new_nodes
  new-count B h = go (ℕ_discrete lo hi)
    where
      low : bit (new lo) + bit (meets rs n lo) ≡ 1
      low = ap (λ (v : Bool). bit v + bit (meets rs n lo)) (new-at lo (omega arith) lo-hi) ∙ not-bit (meets rs n lo)

      high : bit (new hi) + bit (meets rs n hi) ≡ 1
      high = ap (λ (v : Bool). bit v + bit (meets rs n hi)) (new-at hi lo-hi (omega arith)) ∙ not-bit (meets rs n hi)

      go : Dec (lo ≡ hi) → count new B ≡ suc hi - lo - bit (meets rs n lo) - cond (eqb lo hi) 0 (bit (meets rs n hi))
      go (yes e) = rw (eq-eqb lo hi e) (omega (arith, low, count-single new lo hi B h none_below (λ i p q. none-past i p) e))
      go (no e) = rw (ne_eqb lo hi e) (omega (arith, low, high, lo-hi, count-run new lo hi B h none_below (λ i p q. none-past i p) (omega (arith, lo-hi)) between))

  -- the region adds these to the count
  touched-more : (B : ℕ) → N ≤ B * n → count (meets (r ∷ rs) n) B ≡ new_nodes rs r.start r.end n + count (meets rs n) B
  unfolding meets sum
  touched-more B h =
      let l : hi < B = (div-lt_iff_lt-mul pos).1 (omega (arith, k.0.some, k.0.ends)) in
      count_add (meets (r ∷ rs) n) new (meets rs n) B (λ i l. meets-bit (overlap (i * n) n r) (sum (overlap (i * n) n) rs))
      ∙ ap (λ (x : ℕ). x + count (meets rs n) B) (new-count B l)

-- ... so the counts by intervals are counts over all B nodes
touched-by : (N n B : ℕ) → 0 < n → N ≤ B * n → (gs : List Region) → Regions N gs → touched_by gs n ≡ count (meets gs n) B
unfolding touched_by meets sum
touched-by N n B pos h [] k = omega (arith, count-all (meets [] n) false B (λ i. refl))
touched-by N n B pos h (r ∷ rs) k = ap (λ (x : ℕ). new_nodes rs r.start r.end n + x) (touched-by N n B pos h rs k.1) ∙ sym (touched-more N r rs k n pos B h)

-- the node of a frame below N ends at or below N, where nodes fill N frames
pub node-within : (N n f : ℕ) → N % n ≡ 0 → f < N → f / n * n + n ≤ N
node-within N n f h l = fits n (f / n * n) N (mul-mod_left (f / n) n) h (omega (arith, div-mul-le_self f n))

module _ (L : Ladder) (gs : List Region) (k : Regions (memory L) gs) where
  -- for each size, the nodes by intervals are those that have a frame in a region
  pub touched-is : (d : ℕ) → d ≤ top L → touched_by gs (frames L d) ≡ touched L gs (suc d)
  unfolding touched
  touched-is d h =
      touched-by (memory L) (frames L d) (blocks L (suc d)) (frames-pos L d) (omega (arith, blocks-memory L (λ f. true) d h)) gs k
      ∙ count_same (meets gs (frames L d)) (λ i. not (bare (seeded gs) (i * frames L d) (frames L d))) (blocks L (suc d)) (λ i l. meets-is (memory L) gs k (frames L d) i)

  blocks-by : (d : ℕ) → d ≤ top L → blocks_by L gs d ≡ blocks_of L gs d
  unfolding blocks_by blocks_of
  blocks-by zero h = refl
  blocks-by (suc d) h = ap₂ (λ (x y : ℕ). suc (fan L (suc d)) * x + y) (touched-is (suc d) h) (blocks-by d (omega arith))

  -- so is the room
  pub room_by-room_for : room_by L gs ≡ room_for L gs
  unfolding room_by room_for
  room_by-room_for = ap suc (blocks-by (top L) (omega arith))

-- all nodes that a region alone touches are new
new-alone : (a e n : ℕ) → new_nodes [] a e n ≡ suc (pred e / n) - a / n
unfolding new_nodes meets sum
new-alone a e n = go (eqb (a / n) (pred e / n))
  where
    go : (v : Bool) → suc (pred e / n) - a / n - 0 - cond v 0 0 ≡ suc (pred e / n) - a / n
    go true = omega arith
    go false = omega arith

touched-alone : (a e n : ℕ) → touched_by (record { start = a; end = e } ∷ []) n ≡ suc (pred e / n) - a / n
unfolding touched_by
touched-alone a e n = omega (arith, new-alone a e n)

-- the room of the six sizes, written out
six-room : (gs : List Region) → room_by six gs ≡ suc (257 * touched_by gs 34359738368 + (513 * touched_by gs 134217728 + (513 * touched_by gs 262144 + (129 * touched_by gs 512 + (5 * touched_by gs 4 + 0)))))
unfolding room_by blocks_by top largest fan frames fan_out
six-room gs = refl

six-memory : memory six ≡ 34359738368
unfolding top largest fan frames fan_out
six-memory = refl

pub gibibyte : Gibibyte
unfolding seeded
gibibyte k h = sym (room_by-room_for six gs fit) ∙ six-room gs ∙ omega (arith, by_4, by-512, by-262144, by-134217728, by-34359738368)
  where
    a : ℕ
    a = k * 262144

    e : ℕ
    e = suc k * 262144

    gs : List Region
    gs = record { start = a; end = e } ∷ []

    fit : Regions (memory six) gs
    fit = (record { some = omega arith; ends = omega (arith, six-memory); alone = λ f p q. refl }, tt)

    by_4 : touched_by gs 4 ≡ 65536
    by_4 = touched-alone a e 4 ∙ omega arith

    by-512 : touched_by gs 512 ≡ 512
    by-512 = touched-alone a e 512 ∙ omega arith

    by-262144 : touched_by gs 262144 ≡ 1
    by-262144 = touched-alone a e 262144 ∙ omega arith

    by-134217728 : touched_by gs 134217728 ≡ 1
    by-134217728 = touched-alone a e 134217728 ∙ omega arith

    by-34359738368 : touched_by gs 34359738368 ≡ 1
    by-34359738368 = touched-alone a e 34359738368 ∙ omega arith
