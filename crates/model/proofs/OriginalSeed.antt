-- The original's add_memory_region is the tree's seeding: its loops come to an end, it never panics, and it gives the picture of the tree after. Assumes nothing.
use mathlib.Core.Path.{◌≡◌, refl, sym, ap, ◌∙◌}
use mathlib.Core.Bool.{Bool, true, false, ◌&&◌, not}
use mathlib.Core.List.{List, [], ◌∷◌}
use Prim.Native.Nat.{ℕ, zero, suc, ◌+◌, ◌*◌, ◌-◌, ◌%◌, ◌≤◌, ◌<◌}
use native.Mathlib.Omega.{arith}
use native.Mathlib.Decide.{dec_lt, ℕ_discrete}
use native.Mathlib.Nat.{not-suc-le-zero, add-mul, mul-le-mul_left, mul-le-mul_right, mul-lt-mul_of_pos_right, mod-eq-zero_of_dvd, dvd_of_mod-eq-zero, dvd_trans, dvd-add, dvd_refl, mul-mod_left, zero-mod}
use lib.Dec.{leb, ltb, eqb}
use borrow.Author.Tests.{ltb-true, ltb-false, leb-true, leb-false, eqb-true, eqb-false, lt-ltb, le-ltb, le-leb, lt-leb, ne_eqb}
use Rattle.sizes.specs.Ladder.{Ladder, smallest, largest as largest_code, bytes, smaller, larger}
use Rattle.sizes.specs.Laws.{MultipliesUp}
use Rattle.model.specs.Ladder.{frames, top}
use Rattle.model.specs.Frames.{Wholly}
use Rattle.model.specs.Tree.{Tree, largest, free, Sound, store, remove, pick}
use Rattle.model.specs.TreeStore.{largest_fit, seed_from}
use Rattle.model.specs.Laws.{BlockIn, Made}
use Rattle.model.specs.Rust.{◌>>=◌, Ends, gives, minus, is_some, ok, err, for_each, while}
use Rattle.model.specs.StandIns.{TooMuchMemory, OutOfPages, coded, is_bounded, Page, init}
use Rattle.model.specs.Original.{find_largest_page_size, store_page_token, region_loop, add_memory_region, acquire_page, release_pages}
use Rattle.model.specs.AsOriginal.{Addressable}
use Rattle.model.proofs.Ladder.{frames-pos, frames-dvd, bytes-is, bytes-some, smaller-suc, largest-top}
use Rattle.model.proofs.Range.{scale-mod}
use Rattle.model.proofs.Change.{store-done}
use Rattle.model.proofs.Seed.{largest_fit-ok, seed-end}
use Rattle.model.proofs.Picture.{NodeAt, picture, allocator}
use Rattle.model.proofs.OriginalStore.{store_is}
use Rattle.model.proofs.OriginalTake.{acquire-none, acquire-is}

-- a number of bytes is 0 where the number of pages is
scale-zero : (x p : ℕ) → 0 < p → eqb (x * p) 0 ≡ eqb x 0
scale-zero zero p h = let z : 0 * p ≡ 0 = omega arith in rw z
scale-zero (suc x) p h = ne_eqb (suc x * p) 0 (λ q. absurd (omega arith)) ∙ sym (ne_eqb (suc x) 0 (λ q. absurd (omega arith)))

-- a + n ≤ e and a + n < e, in bytes
scale-fits : (a n e p : ℕ) → 0 < p → 0 < n → ltb (a * p + (n * p - 1)) (e * p) ≡ leb (a + n) e
scale-fits a n e p h k = go (leb (a + n) e) refl
  where
    some : 1 * p ≤ n * p
    some = mul-le-mul_right p k

    go : (x : Bool) → leb (a + n) e ≡ x → ltb (a * p + (n * p - 1)) (e * p) ≡ leb (a + n) e
    go true x = lt-ltb (a * p + (n * p - 1)) (e * p) (omega (arith, some, mul-le-mul_right p (leb-true (a + n) e x), add-mul a n p)) ∙ sym x
    go false x = le-ltb (a * p + (n * p - 1)) (e * p) (omega (arith, some, mul-le-mul_right p (leb-false (a + n) e x), add-mul a n p)) ∙ sym x

scale-less : (a e p : ℕ) → 0 < p → ltb (a * p) (e * p) ≡ ltb a e
scale-less a e p h = go (ltb a e) refl
  where
    go : (x : Bool) → ltb a e ≡ x → ltb (a * p) (e * p) ≡ ltb a e
    go true x = lt-ltb (a * p) (e * p) (mul-lt-mul_of_pos_right (ltb-true a e x) h) ∙ sym x
    go false x = le-ltb (a * p) (e * p) (mul-le-mul_right p (ltb-false a e x)) ∙ sym x

module _ (L : Ladder) where
  -- the second loop of find_largest_page_size, with n turns
  abbrev smaller_loop : (n size address end : ℕ) → Ends ℕ
  smaller_loop n size address end = while n (λ c. do
    last ← minus (bytes L c) 1
    gives (not (is_bounded address last end) && is_some (coded (smaller L c)))
    ) (smaller L) size

  -- both loops, the first with n turns
  abbrev loops : (n size address end : ℕ) → Ends ℕ
  loops n size address end = do
    aligned ← while n (λ c. gives (is_some (coded (larger L c)) && eqb (address % bytes L (larger L c)) 0)) (larger L) size
    smaller_loop (suc (top L)) aligned address end

  -- no block above d fits where the next larger one is not aligned
  fit-above : (c d a e : ℕ) → c ≤ d → (a % frames L (suc c) ≡ 0 → ⊥) → largest_fit L d a e ≡ largest_fit L c a e
  unfolding largest_fit
  fit-above c zero a e h k = let z : c ≡ 0 = omega arith in rw z
  fit-above c (suc d) a e h k = go (ℕ_discrete c (suc d)) (fit-above c d a e)
    where
      go : Dec (c ≡ suc d) → (c ≤ d → (a % frames L (suc c) ≡ 0 → ⊥) → largest_fit L d a e ≡ largest_fit L c a e) → largest_fit L (suc d) a e ≡ largest_fit L c a e
      go (yes x) ih = ap (λ (n : ℕ). largest_fit L n a e) (sym x)
      go (no x) ih = rw (ne_eqb (a % frames L (suc d)) 0 (λ q. k (aligned q)), largest_fit) (ih (omega arith) k)
        where
          aligned : a % frames L (suc d) ≡ 0 → a % frames L (suc c) ≡ 0
          aligned q = mod-eq-zero_of_dvd (frames L (suc c)) (dvd_trans (frames L (suc c)) (frames-dvd L (suc c) (suc d) (omega arith)) (dvd_of_mod-eq-zero (frames L (suc d)) q))

  larger-is : (d : ℕ) → suc d < largest_code L → larger L (suc d) ≡ suc (suc d)
  unfolding larger
  larger-is d h = rw (le-leb 1 (suc d) (omega arith), lt-ltb (suc d) (largest_code L) h) (omega arith)

  larger-none : (d : ℕ) → largest_code L ≤ suc d → larger L (suc d) ≡ 0
  unfolding larger
  larger-none d h = rw (le-leb 1 (suc d) (omega arith), le-ltb (suc d) (largest_code L) h)

module _ (L : Ladder) (m : MultipliesUp L) where
  -- the original's tests of a block of code suc d at page a, for a region that ends at page e
  aligned-test : (d a : ℕ) → suc d ≤ largest_code L → eqb (a * bytes L smallest % bytes L (suc d)) 0 ≡ eqb (a % frames L d) 0
  aligned-test d a h = rw (bytes-is L m d h, scale-mod a (frames L d) (bytes L smallest) m.page) (scale-zero (a % frames L d) (bytes L smallest) m.page)

  fits-test : (d a e : ℕ) → suc d ≤ largest_code L → is_bounded (a * bytes L smallest) (bytes L (suc d) - 1) (e * bytes L smallest) ≡ leb (a + frames L d) e
  fits-test d a e h = rw (bytes-is L m d h) (scale-fits a (frames L d) e (bytes L smallest) m.page (frames-pos L d))

  next_address : (d a : ℕ) → suc d ≤ largest_code L → a * bytes L smallest + bytes L (suc d) ≡ (a + frames L d) * bytes L smallest
  next_address d a h = rw (bytes-is L m d h) (sym (add-mul a (frames L d) (bytes L smallest)))

  next-test : (d a e : ℕ) → suc d ≤ largest_code L → is_bounded (a * bytes L smallest) (bytes L (suc d)) (e * bytes L smallest) ≡ ltb (a + frames L d) e
  next-test d a e h = rw (next_address d a h) (scale-less (a + frames L d) e (bytes L smallest) m.page)

  -- the second loop: down to the largest that fits
  smaller-loop-is : (n d a e : ℕ) → d < n → suc d ≤ largest_code L → a < e → a % frames L d ≡ 0
      → smaller_loop L n (suc d) (a * bytes L smallest) (e * bytes L smallest) ≡ gives (suc (largest_fit L d a e))
  unfolding while largest_fit frames
  smaller-loop-is zero d a e l c h k = absurd (not-suc-le-zero l)
  smaller-loop-is (suc n) zero a e l c h k = rw (le-leb 1 (bytes L 1) m.page, fits-test 0 a e c, le-leb (a + 1) e (omega arith))
  smaller-loop-is (suc n) (suc d) a e l c h k = go (leb (a + frames L (suc d)) e) refl (smaller-loop-is n d a e)
    where
      go : (x : Bool) → leb (a + frames L (suc d)) e ≡ x
          → (d < n → suc d ≤ largest_code L → a < e → a % frames L d ≡ 0 → smaller_loop L n (suc d) (a * bytes L smallest) (e * bytes L smallest) ≡ gives (suc (largest_fit L d a e)))
          → smaller_loop L (suc n) (suc (suc d)) (a * bytes L smallest) (e * bytes L smallest) ≡ gives (suc (largest_fit L (suc d) a e))
      go true x ih = rw (le-leb 1 (bytes L (suc (suc d))) (bytes-some L m (suc d) c), fits-test (suc d) a e c, x, k, largest_fit)
      go false x ih = rw (le-leb 1 (bytes L (suc (suc d))) (bytes-some L m (suc d) c), fits-test (suc d) a e c, smaller-suc L m d c, x, k, largest_fit) (ih (omega arith) (omega arith) h aligned)
        where
          aligned : a % frames L d ≡ 0
          aligned = mod-eq-zero_of_dvd (frames L d) (dvd_trans (frames L d) (frames-dvd L d (suc d) (omega arith)) (dvd_of_mod-eq-zero (frames L (suc d)) k))

  -- both loops, from a size that is aligned
  loops-are : (n d a e : ℕ) → top L < n + d → suc d ≤ largest_code L → a < e → a % frames L d ≡ 0
      → loops L n (suc d) (a * bytes L smallest) (e * bytes L smallest) ≡ gives (suc (largest_fit L (top L) a e))
  unfolding while
  loops-are zero d a e l c h k = absurd (omega (arith, largest-top L m))
  loops-are (suc n) d a e l c h k = go (dec_lt (suc d) (largest_code L)) (eqb (a % frames L (suc d)) 0) refl (loops-are n (suc d) a e)
    where
      down : smaller_loop L (suc (top L)) (suc d) (a * bytes L smallest) (e * bytes L smallest) ≡ gives (suc (largest_fit L d a e))
      down = smaller-loop-is (suc (top L)) d a e (omega (arith, largest-top L m)) c h k

      go : Dec (suc d < largest_code L) → (x : Bool) → eqb (a % frames L (suc d)) 0 ≡ x
          → (top L < n + suc d → suc (suc d) ≤ largest_code L → a < e → a % frames L (suc d) ≡ 0
          → loops L n (suc (suc d)) (a * bytes L smallest) (e * bytes L smallest) ≡ gives (suc (largest_fit L (top L) a e)))
          → loops L (suc n) (suc d) (a * bytes L smallest) (e * bytes L smallest) ≡ gives (suc (largest_fit L (top L) a e))
      go (no u) x y ih =
          let z : d ≡ top L = omega (arith, largest-top L m) in
          rw (larger-none L d (omega arith)) (down ∙ ap (λ (i : ℕ). gives (suc (largest_fit L i a e))) z)
      go (yes u) true y ih = rw (larger-is L d u, aligned-test (suc d) a u, y) (ih (omega arith) u h (eqb-true (a % frames L (suc d)) 0 y))
      go (yes u) false y ih =
          rw (larger-is L d u, aligned-test (suc d) a u, y)
          (down ∙ ap (λ (i : ℕ). gives (suc i)) (sym (fit-above L d (top L) a e (omega (arith, largest-top L m)) (eqb-false (a % frames L (suc d)) 0 y))))

  -- the largest page size at page a, from any size that is aligned there
  find-is : (d a e : ℕ) → suc d ≤ largest_code L → a < e → a % frames L d ≡ 0
      → find_largest_page_size L (suc d) (a * bytes L smallest) (e * bytes L smallest) ≡ gives (suc (largest_fit L (top L) a e))
  unfolding find_largest_page_size
  find-is d a e c h k = rw (largest-top L m) (loops-are (suc (top L)) d a e (omega arith) c h k)

  -- the root stands at 0
  root-at : Addressable L → NodeAt L (top L) 0
  root-at w = record {
    code = omega (arith, largest-top L m);
    aligned = zero-mod (bytes L (suc (top L)));
    ends = omega (arith, ap (bytes L) (largest-top L m));
  }

  -- the loop over the region, with n turns; the tree's seeding has k
  abbrev RegionIs : (n k : ℕ) → Type 0
  RegionIs n k = (d a e : ℕ) (t : Tree (top L)) → e ≤ a + n → e ≤ a + k → suc d ≤ largest_code L → a % frames L d ≡ 0 → a < e → e ≤ frames L (top L) → Sound L (top L) t
      → Wholly (free L (top L) t) a (e - a) false
      → region_loop L n (suc (top L)) 0 (suc d) (a * bytes L smallest) (e * bytes L smallest) (picture L (top L) 0 t) ≡ gives (picture L (top L) 0 (seed_from L k t a e))

  region-is : Addressable L → (n k : ℕ) → RegionIs n k
  unfolding region_loop seed_from
  region-is z zero k d a e t x y c al h f s w = absurd (omega arith)
  region-is z (suc n) zero d a e t x y c al h f s w = absurd (omega arith)
  region-is z (suc n) (suc k) d a e t x y c al h f s w = go (ltb (a + frames L j) e) refl (region-is z n k)
    where
      j : ℕ
      j = largest_fit L (top L) a e

      fit : (j ≤ top L) × (a % frames L j ≡ 0) × (a + frames L j ≤ e)
      fit = largest_fit-ok L (top L) a e h

      code : suc j ≤ largest_code L
      code = omega (arith, fit, largest-top L m)

      place : BlockIn L (top L) j a
      place = record { deep = fit.0; aligned = fit.1; fits = omega (arith, fit) }

      bare : Wholly (free L (top L) t) a (frames L j) false
      bare = λ g p q. w g p (omega (arith, fit))

      t' : Tree (top L)
      t' = store L (top L) j t a

      made : Made L (top L) j true t a t'
      made = store-done L (top L) j t a s place bare

      stored : store_page_token L (suc (top L)) 0 (init (a * bytes L smallest) (suc j)) (picture L (top L) 0 t) ≡ gives (picture L (top L) 0 t', largest (top L) t')
      stored = store_is L m (top L) j 0 a (a * bytes L smallest) t (root-at z) (omega arith) s place bare

      aligned : (a + frames L j) % frames L j ≡ 0
      aligned = mod-eq-zero_of_dvd (frames L j) (dvd-add (frames L j) (dvd_of_mod-eq-zero (frames L j) fit.1) (dvd_refl (frames L j)))

      go : (v : Bool) → ltb (a + frames L j) e ≡ v → RegionIs n k
          → region_loop L (suc n) (suc (top L)) 0 (suc d) (a * bytes L smallest) (e * bytes L smallest) (picture L (top L) 0 t) ≡ gives (picture L (top L) 0 (seed_from L (suc k) t a e))
      go true v ih = rw (lt-ltb a e h, seed_from, find-is d a e c h al, le-leb 1 (bytes L (suc j)) (bytes-some L m j code), fits-test j a e code, le-leb (a + frames L j) e fit.2, stored, next-test j a e code, v, next_address j a code)
          (ih j (a + frames L j) e t' (omega (arith, frames-pos L j)) (omega (arith, frames-pos L j)) code aligned (ltb-true (a + frames L j) e v) f made.1
          (λ g p q. made.0.above g p (omega (arith, ltb-true (a + frames L j) e v)) ∙ w g (omega arith) (omega (arith, ltb-true (a + frames L j) e v))))
      go false v ih = rw (lt-ltb a e h, seed_from, find-is d a e c h al, le-leb 1 (bytes L (suc j)) (bytes-some L m j code), fits-test j a e code, le-leb (a + frames L j) e fit.2, stored, next-test j a e code, v)
          (ap (λ u. gives (picture L (top L) 0 u)) (sym (seed-end L k t' (a + frames L j) e (ltb-false (a + frames L j) e v))))

  -- turns enough for every page of the region
  turns : (a e : ℕ) → a < e → e ≤ a + (e * bytes L smallest - a * bytes L smallest)
  turns a e h =
      let x : ℕ = e - a in
      let y : e ≡ a + x = omega arith in
      omega (arith, ap (λ (i : ℕ). i * bytes L smallest) y, add-mul a x (bytes L smallest), mul-le-mul_left x m.page)

  -- to add a region none of whose pages is free
  pub add_is : Addressable L → (a e : ℕ) (t : Tree (top L)) → a < e → e ≤ frames L (top L) → Sound L (top L) t → Wholly (free L (top L) t) a (e - a) false
      → add_memory_region L (suc (top L)) (a * bytes L smallest) (e * bytes L smallest) (allocator L t) ≡ gives (ok tt, allocator L (seed_from L (e - a) t a e))
  unfolding add_memory_region frames
  add_is z a e t h f s w =
      let p = bytes L smallest in
      let l : e * p ≤ bytes L (suc (top L)) = omega (arith, bytes-is L m (top L) (omega (arith, largest-top L m)), mul-le-mul_right p f) in
      let r = region-is z (e * p - a * p) (e - a) 0 a e t (turns a e h) (omega arith) m.some (omega arith) h f s w in
      rw (mul-mod_left a p, mul-mod_left e p, lt-ltb (a * p) (e * p) (mul-lt-mul_of_pos_right h m.page), le-leb (e * p) (bytes L (suc (top L))) l, r)

  -- ... refused where it ends past the largest page
  pub add_none : (a e : ℕ) (t : Tree (top L)) → a < e → frames L (top L) < e
      → add_memory_region L (suc (top L)) (a * bytes L smallest) (e * bytes L smallest) (allocator L t) ≡ gives (err TooMuchMemory, allocator L t)
  unfolding add_memory_region
  add_none a e t h f =
      let p = bytes L smallest in
      let l : bytes L (suc (top L)) < e * p = omega (arith, bytes-is L m (top L) (omega (arith, largest-top L m)), mul-lt-mul_of_pos_right f m.page) in
      rw (mul-mod_left a p, mul-mod_left e p, lt-ltb (a * p) (e * p) (mul-lt-mul_of_pos_right h m.page), lt-leb (e * p) (bytes L (suc (top L))) l)

  -- to acquire a page, from the whole store
  pub acquire-page-is : Addressable L → (d' : ℕ) (t : Tree (top L)) → Sound L (top L) t → suc d' ≤ largest (top L) t
      → acquire_page L (suc (top L)) (suc d') (allocator L t)
      ≡ gives (ok (init (pick L (top L) d' t * bytes L smallest) (suc d')), allocator L (remove L (top L) d' t (pick L (top L) d' t)))
  unfolding acquire_page
  acquire-page-is z d' t s h = rw (acquire-is L m (top L) d' 0 (pick L (top L) d' t * bytes L smallest) t (root-at z) (omega arith) s h)

  pub acquire-page-none : (d' : ℕ) (t : Tree (top L)) → largest (top L) t < suc d' → acquire_page L (suc (top L)) (suc d') (allocator L t) ≡ gives (err OutOfPages, allocator L t)
  unfolding acquire_page
  acquire-page-none d' t h = rw (acquire-none L (top L) d' 0 t h)

  -- to release one page, and then others
  release-is : Addressable L → (d' b : ℕ) (t : Tree (top L)) (pages : List Page) → Sound L (top L) t → BlockIn L (top L) d' b → Wholly (free L (top L) t) b (frames L d') false
      → release_pages L (suc (top L)) (init (b * bytes L smallest) (suc d') ∷ pages) (allocator L t)
      ≡ release_pages L (suc (top L)) pages (allocator L (store L (top L) d' t b))
  unfolding release_pages for_each
  release-is z d' b t pages s p h = rw (store_is L m (top L) d' 0 b (b * bytes L smallest) t (root-at z) (omega arith) s p h)

  pub release-one : Addressable L → (d' b : ℕ) (t : Tree (top L)) → Sound L (top L) t → BlockIn L (top L) d' b → Wholly (free L (top L) t) b (frames L d') false
      → release_pages L (suc (top L)) (init (b * bytes L smallest) (suc d') ∷ []) (allocator L t) ≡ gives (allocator L (store L (top L) d' t b))
  unfolding release_pages for_each
  release-one z d' b t s p h = release-is z d' b t [] s p h
