-- Demand 1 on words: each refusal is given exactly when document 01 says, the first in order winning, and changes nothing. Assumes a ladder of at most 7 codes whose sizes multiply up.
use mathlib.Core.Path.{◌≡◌, refl, sym, ap, ap₂, ◌∙◌}
use mathlib.Core.Logic.Dec
use mathlib.Core.Logic.{◌⊎◌, inl, inr, ◌↔◌, ◌≢◌}
use mathlib.Core.Bool.{Bool, true, false, ◌&&◌, not, true≢false, false≢true}
use mathlib.Core.List.{List, [], ◌∷◌, ◌++◌}
use Prim.Native.Nat.{ℕ, zero, suc, ◌+◌, ◌*◌, ◌-◌, ◌%◌, ◌≤◌, ◌<◌}
use native.Mathlib.Omega.{arith}
use native.Mathlib.Decide.{map_dec, ℕ_discrete}
use native.Mathlib.Nat.{add-mul, pos_of_ne-zero, mul-le-mul_right, mul-lt-mul_of_pos_right, le_of_mul-le-mul_right, lt_of_mul-lt-mul_right}
use lib.Dec.{leb, ltb, eqb}
use lib.ListN.{length}
use borrow.Author.Tests.{ltb-true, ltb-false, leb-true, leb-false, eqb-true, eqb-false, lt-ltb, le-ltb, le-leb, eq-eqb, ne_eqb, not-true, not-false}
use Rattle.sizes.specs.Ladder.{Ladder, smallest, largest, bytes, address_frame}
use Rattle.sizes.specs.Laws.{MultipliesUp}
use Rattle.sizes.proofs.Ladder.{aligned-below}
use Rattle.model.specs.Ladder.{top}
use Rattle.model.specs.Calls.{seeded, Call, seed, acquire, release, report, Test, refuse, verdict}
use Rattle.model.specs.FrameStore.{size, blocks, lowest_free, all_below, whole, bare}
use Rattle.model.specs.TreeStore.{used, act}
use Rattle.model.proofs.FrameStore.{frame_laws, whole-iff, not-bare}
use Rattle.model.proofs.Ladder.{bytes-is, largest-top}
use Rattle.model.proofs.Verdict.{never}
use Rattle.pool.specs.Regions.{Holds}
use Rattle.pool.proofs.Regions.{frame-bytes}
use Rattle.pages.specs.Frames.{is_free}
use Rattle.pages.specs.Calls.{Store, store, Reply, plain, no_regions, SoundStore, shown, refusals, acted, lacks_room, refusal_of, served, Replies, fresh_reply, Places, tree_of}
use Rattle.demands.specs.Demands.{first, in_frames, Overfull, FreeBlock, Some, Number, Demand1}
use Rattle.demands.proofs.Aligned.{Aligned, refusals-frames}
use Rattle.demands.proofs.Acts.{lacks-is}
use Rattle.demands.proofs.Unique.{sound-dec}

-- ---- tests in order
-- n is the number that the tests give
record Gives (n : ℕ) (ts : List Test) : Type 0 where
  pub is : n ≡ verdict ts

-- a test that says what a condition says: n is its number, or the tests behind it decide
decided : {n k : ℕ} {x : Bool} {ts : List Test} {P Rest : Type 0} → Gives n (refuse k x ∷ ts) → (x ≡ true) ↔ P → (x ≡ false → Gives n ts → Rest) → first n k P Rest
decided {x = true} g w rest = inl (w.0 refl, g.is)
decided {x = false} g w rest = inr (λ p. false≢true (w.1 p), rest refl (record { is = g.is }))

-- two conditions with one number
either : {n k : ℕ} {A B Rest : Type 0} → first n k A (first n k B Rest) → first n k (A ⊎ B) Rest
either (inl a) = inl (inl a.0, a.1)
either (inr (a, inl b)) = inl (inr b.0, b.1)
either (inr (a, inr b)) = inr (λ z. elim z [ inl x ↦ a x | inr y ↦ b.0 y ], b.1)

-- ---- what single tests say
is_zero : (x : ℕ) → (eqb x 0 ≡ true) ↔ (x ≡ 0)
is_zero x = (eqb-true x 0, eq-eqb x 0)

not-zero : (x : ℕ) → (not (eqb x 0) ≡ true) ↔ (x ≢ 0)
not-zero x = (λ e. eqb-false x 0 (not-true (eqb x 0) e), λ k. ap not (ne_eqb x 0 k))

at_most : (x y : ℕ) → (leb x y ≡ true) ↔ (x ≤ y)
at_most x y = (leb-true x y, le-leb x y)

less : (x y : ℕ) → (ltb x y ≡ true) ↔ (x < y)
less x y = (ltb-true x y, lt-ltb x y)

-- where not every number below n passes, one fails
one-fails : (p : ℕ → Bool) (n : ℕ) → all_below p n ≡ false → (i : ℕ) × (i < n) × (p i ≡ false)
unfolding all_below
one-fails p zero e = absurd (true≢false e)
one-fails p (suc n) e = go (all_below p n) (one-fails p n) e
  where
    go : (x : Bool) → (x ≡ false → (i : ℕ) × (i < n) × (p i ≡ false)) → (x && p n) ≡ false → (i : ℕ) × (i < suc n) × (p i ≡ false)
    go true ih q = (n, omega arith, q)
    go false ih q = let z = ih refl in (z.0, omega (arith, z.1), z.2)

-- a block with a frame outside g is not whole
not-whole : (g : ℕ → Bool) (b s f : ℕ) → b ≤ f → f < b + s → g f ≡ false → whole g b s ≡ false
not-whole g b s f p q e = go (whole g b s) refl
  where
    go : (v : Bool) → whole g b s ≡ v → v ≡ false
    go true x = absurd (true≢false (sym ((whole-iff g b s).0 x f p q) ∙ e))
    go false x = refl

-- ---- replies are the same or are not
lists-dec : (x y : List ℕ) → Dec (x ≡ y)
lists-dec [] [] = yes refl
lists-dec [] (b ∷ y) = no (λ e. never cc)
lists-dec (a ∷ x) [] = no (λ e. never cc)
lists-dec (a ∷ x) (b ∷ y) = map_dec (λ e. ap₂ (λ (c : ℕ) (z : List ℕ). c ∷ z) e.0 e.1) (λ e. let h : a ≡ b = cc in let t : x ≡ y = cc in (h, t)) (Dec.and (ℕ_discrete a b) (lists-dec x y))

stores-dec : (s t : Store) → Dec (s ≡ t)
stores-dec s t = map_dec
    (λ e i. record { state = record { used = e.0 i; starts = e.1.0 i; ends = e.1.1.0 i }; pool = e.1.1.1 i })
    (λ e. (ap (λ (x : Store). x.state.used) e, (ap (λ (x : Store). x.state.starts) e, (ap (λ (x : Store). x.state.ends) e, ap (λ (x : Store). x.pool) e))))
    (Dec.and (ℕ_discrete s.state.used t.state.used) (Dec.and (lists-dec s.state.starts t.state.starts) (Dec.and (lists-dec s.state.ends t.state.ends) (lists-dec s.pool t.pool))))

-- a reply without results
plain-dec : (r : Reply) (s : Store) → Dec (r ≡ plain r.refusal s)
plain-dec r s = map_dec
    (λ e i. record { refusal = r.refusal; store = e.0 i; base = e.1.0 i; probes = e.1.1.0 i; seeded = e.1.1.1.0 i; free = e.1.1.1.1.0 i; largest = e.1.1.1.1.1.0 i; used = e.1.1.1.1.1.1 i })
    (λ e. (ap (λ (x : Reply). x.store) e, (ap (λ (x : Reply). x.base) e, (ap (λ (x : Reply). x.probes) e, (ap (λ (x : Reply). x.seeded) e, (ap (λ (x : Reply). x.free) e, (ap (λ (x : Reply). x.largest) e, ap (λ (x : Reply). x.used) e)))))))
    (Dec.and (stores-dec r.store s) (Dec.and (ℕ_discrete r.base 0) (Dec.and (ℕ_discrete r.probes 0)
    (Dec.and (ℕ_discrete r.seeded 0) (Dec.and (ℕ_discrete r.free 0) (Dec.and (ℕ_discrete r.largest 0) (ℕ_discrete r.used 0)))))))

module _ (L : Ladder) (most limit : ℕ) where
  -- the act of a call is no refusal
  acted-number : (s : Store) (c : Call) → (acted L most limit s c).refusal ≡ 0
  unfolding acted
  acted-number s (seed a e) = refl
  acted-number s (acquire c) = refl
  acted-number s (release b c) = refl
  acted-number s report = refl

  -- the number of what is served
  served-number : (s : Store) (c : Call) → (served L most limit s c).refusal ≡ refusal_of L most limit s c
  unfolding served
  served-number s c = go (refusal_of L most limit s c) refl
    where
      go : (n : ℕ) → refusal_of L most limit s c ≡ n → (served L most limit s c).refusal ≡ n
      go zero e = rw (e, served) (acted-number s c)
      go (suc n) e = rw (e, served) refl

  -- what is refused is served as a refusal
  served-plain : (s : Store) (c : Call) → (served L most limit s c).refusal ≢ 0 → served L most limit s c ≡ plain (served L most limit s c).refusal s
  unfolding served
  served-plain s c k = go (refusal_of L most limit s c) refl
    where
      go : (n : ℕ) → refusal_of L most limit s c ≡ n → served L most limit s c ≡ plain (served L most limit s c).refusal s
      go zero e = absurd (k (served-number s c ∙ e))
      go (suc n) e = rw (e, served) refl

  -- A REFUSAL CHANGES NOTHING
  pub refused-unchanged : (s : Store) (c : Call) (r : Reply) → Replies L most limit s c r → r.refusal ≢ 0 → r ≡ plain r.refusal s
  refused-unchanged s c r q k = go (plain-dec r s)
    where
      go : Dec (r ≡ plain r.refusal s) → r ≡ plain r.refusal s
      go (yes e) = e
      go (no n) =
          let sounds : SoundStore L most limit s → ⊥ = λ h. n (rw (q.sound h) (served-plain s c (λ z. k (rw (q.sound h) z)))) in
          absurd (n (rw (q.unsound sounds) refl))

  -- fresh refuses exactly a pool without words and one with too many
  fresh-number : (p : List ℕ) → first (fresh_reply L most limit p).refusal 11 ((length p ≡ 0) ⊎ (limit < length p)) ((fresh_reply L most limit p).refusal ≡ 0)
  unfolding fresh_reply
  fresh-number p = go (leb 1 (length p)) (leb (length p) limit) refl refl
    where
      go : (x y : Bool) → leb 1 (length p) ≡ x → leb (length p) limit ≡ y → first (fresh_reply L most limit p).refusal 11 ((length p ≡ 0) ⊎ (limit < length p)) ((fresh_reply L most limit p).refusal ≡ 0)
      go true true a b = rw (a, b, fresh_reply) (inr (λ z. elim z [ inl e ↦ omega (arith, e, leb-true 1 (length p) a) | inr l ↦ omega (arith, l, leb-true (length p) limit b) ], refl))
      go true false a b = rw (a, b, fresh_reply) (inl (inr (leb-false (length p) limit b), refl))
      go false y a b = let e : length p ≡ 0 = omega (arith, leb-false 1 (length p) a) in rw (a, fresh_reply) (inl (inl e, refl))

  -- refused, it hands back zeros and the pool as it was
  fresh-refused : (p : List ℕ) → (fresh_reply L most limit p).refusal ≢ 0 → fresh_reply L most limit p ≡ plain 11 (store (no_regions most 0) p)
  unfolding fresh_reply
  fresh-refused p k = go (leb 1 (length p) && leb (length p) limit) refl
    where
      go : (x : Bool) → (leb 1 (length p) && leb (length p) limit) ≡ x → fresh_reply L most limit p ≡ plain 11 (store (no_regions most 0) p)
      go true e = absurd (k (rw (e, fresh_reply) refl))
      go false e = rw (e, fresh_reply) refl

  module _ (m : MultipliesUp L) (small : suc (top L) < 8) where
    -- the frames between the addresses of two frames
    between : (a e b s f : ℕ) → b * bytes L smallest ≡ a → (b + s) * bytes L smallest ≡ e → Holds L a e f ↔ ((b ≤ f) × (f < b + s))
    between a e b s f x y = (
      λ h. (le_of_mul-le-mul_right (omega (arith, x, h.low)) m.page, lt_of_mul-lt-mul_right (bytes L smallest) (omega (arith, y, h.high))),
      λ h. record { low = omega (arith, x, mul-le-mul_right (bytes L smallest) h.0); high = omega (arith, y, mul-lt-mul_of_pos_right h.1 m.page) },
    )

    -- the tests over a block's frames find a frame between its addresses
    module _ (g : ℕ → Bool) (a e b s : ℕ) (x : b * bytes L smallest ≡ a) (y : (b + s) * bytes L smallest ≡ e) where
      some_in : (not (bare g b s) ≡ true) ↔ Some L most limit g a e true
      unfolding bare
      some_in = (
        λ t. let z = one-fails (λ j. not (g (b + j))) s (not-true (bare g b s) t) in
            let i = z.0 in
            (b + i, (between a e b s (b + i) x y).1 (omega arith, omega (arith, z.1)), not-false (g (b + i)) z.2),
        λ z. let h = (between a e b s z.0 x y).0 z.1 in ap not (not-bare g b s z.0 h.0 h.1 z.2),
      )

      some_out : (not (whole g b s) ≡ true) ↔ Some L most limit g a e false
      unfolding whole
      some_out = (
        λ t. let z = one-fails (λ j. g (b + j)) s (not-true (whole g b s) t) in
            let i = z.0 in
            (b + i, (between a e b s (b + i) x y).1 (omega arith, omega (arith, z.1)), z.2),
        λ z. let h = (between a e b s z.0 x y).0 z.1 in ap not (not-whole g b s z.0 h.0 h.1 z.2),
      )

    -- the addresses of a block
    block-ends : (b c : ℕ) → 0 < c → c ≤ largest L → b % bytes L c ≡ 0
        → (b % bytes L smallest ≡ 0) × (address_frame L b * bytes L smallest ≡ b) × ((address_frame L b + size L c) * bytes L smallest ≡ b + bytes L c)
    block-ends b zero lo hi al = absurd (omega arith)
    block-ends b (suc d) lo hi al =
        let page = aligned-below L m b smallest (suc d) (record { low = omega arith; high = m.some }) (record { low = lo; high = hi }) lo al in
        let start = frame-bytes L m b page in
        (page, start, omega (arith, start, add-mul (address_frame L b) (size L (suc d)) (bytes L smallest), bytes-is L m d hi))

    -- the addresses of a region
    region-ends : (a e : ℕ) → a % bytes L smallest ≡ 0 → e % bytes L smallest ≡ 0 → a < e → (address_frame L a + (address_frame L e - address_frame L a)) * bytes L smallest ≡ e
    region-ends a e h k l =
        let i : address_frame L a < address_frame L e = lt_of_mul-lt-mul_right (bytes L smallest) (omega (arith, frame-bytes L m a h, frame-bytes L m e k)) in
        let j : address_frame L a + (address_frame L e - address_frame L a) ≡ address_frame L e = omega arith in
        ap (λ (n : ℕ). n * bytes L smallest) j ∙ frame-bytes L m e k

    -- no block of the code is free exactly if the search finds none
    no_block : (s : Store) (c : ℕ) → 0 < c → c ≤ largest L → (leb (blocks L c) (lowest_free L (is_free L s.pool) c) ≡ true) ↔ ((b : ℕ) → FreeBlock L most limit s c b → ⊥)
    no_block s zero lo hi = absurd (omega arith)
    no_block s (suc d) lo hi =
        let l : d ≤ top L = omega (arith, largest-top L m) in
        let k = (frame_laws L (is_free L s.pool) d l).none in (
          λ t b f. k.0 (leb-true (blocks L (suc d)) (lowest_free L (is_free L s.pool) (suc d)) t) b (record { deep = l; aligned = f.aligned; fits = f.fits }) f.whole,
          λ n. le-leb (blocks L (suc d)) (lowest_free L (is_free L s.pool) (suc d)) (k.1 (λ b q w. n b (record { aligned = q.aligned; fits = q.fits; whole = w }))),
        )

    module _ (s : Store) (p : Places L most limit s) (h : SoundStore L most limit s) where
      -- 9: a call that passes the other tests has more words behind it than the pool
      overfull : (c : Call) → Aligned L c → verdict (refusals L most limit (shown L most limit s) c) ≡ 0 → (lacks_room L most limit s c ≡ true) ↔ Overfull L most limit s c
      overfull c k v =
          let e = lacks-is L most limit m small s c p h k (sym (refusals-frames L most limit m small (shown L most limit s) c k) ∙ v) in
          let n = used L (act L (tree_of L most limit s) (in_frames L most limit c)).state.tree in
          (λ t. ltb-true (length s.pool) n (sym e ∙ t), λ l. e ∙ lt-ltb (length s.pool) n l)

      -- a report has room
      report-room : lacks_room L most limit s report ≡ false
      unfolding lacks_room acted
      report-room = le-ltb (length s.pool) s.state.used h.high

      -- the tests of a call, and 9 behind them
      abbrev tests : Call → List Test
      tests c = refusals L most limit (shown L most limit s) c ++ (refuse 9 (lacks_room L most limit s c) ∷ [])

      -- THE NUMBER OF EACH CALL ON A SOUND STORE: test by test, each false one handed on
      sound-number : (c : Call) (n : ℕ) → Gives n (tests c) → Number L most limit s c n
      unfolding refusals
      sound-number (seed a e) n q = inr (
        λ k. k h,
        either (decided q (not-zero (a % bytes L smallest)) (λ start q. either (decided q (not-zero (e % bytes L smallest)) (λ end q. decided q (at_most e a) (λ some q.
            decided q (less (bytes L (largest L)) e) (λ within q. decided q (at_most most (length (shown L most limit s).regions)) (λ few q.
            let i = eqb-true (a % bytes L smallest) 0 (not-false (eqb (a % bytes L smallest) 0) start) in
            let j = eqb-true (e % bytes L smallest) 0 (not-false (eqb (e % bytes L smallest) 0) end) in
            let x = frame-bytes L m a i in
            let y = region-ends a e i j (leb-false e a some) in
            decided q (some_in (seeded (shown L most limit s).regions) a e (address_frame L a) (address_frame L e - address_frame L a) x y) (λ alone q.
            decided q (overfull (seed a e) (i, j) (rw (start, end, some, within, few, alone, refusals) refl)) (λ room q. q.is))
            ))))))),
      )
      sound-number (acquire c) n q = inr (
        λ k. k h,
        either (decided q (is_zero c) (λ low q. decided q (less (largest L) c) (λ high q.
            decided q (no_block s c (pos_of_ne-zero (eqb-false c 0 low)) (ltb-false (largest L) c high)) (λ found q.
            decided q (overfull (acquire c) tt (rw (low, high, found, refusals) refl)) (λ room q. q.is))
            ))),
      )
      sound-number (release b c) n q = inr (
        λ k. k h,
        either (decided q (is_zero c) (λ low q. decided q (less (largest L) c) (λ high q.
            decided q (not-zero (b % bytes L c)) (λ aligned q. decided q (less (bytes L (largest L) - bytes L c) b) (λ within q.
            let i = block-ends b c (pos_of_ne-zero (eqb-false c 0 low)) (ltb-false (largest L) c high) (eqb-true (b % bytes L c) 0 (not-false (eqb (b % bytes L c) 0) aligned)) in
            decided q (some_out (seeded (shown L most limit s).regions) b (b + bytes L c) (address_frame L b) (size L c) i.1 i.2) (λ inside q.
            decided q (some_in (is_free L s.pool) b (b + bytes L c) (address_frame L b) (size L c) i.1 i.2) (λ held q.
            decided q (overfull (release b c) i.0 (rw (low, high, aligned, within, inside, held, refusals) refl)) (λ room q. q.is))
            )))))),
      )
      sound-number report n q = inr (λ k. k h, q.is ∙ ap (λ (x : Bool). verdict (refuse 9 x ∷ [])) report-room)

    -- the number of every reply
    reply-number : (s : Store) → Places L most limit s → (c : Call) (r : Reply) → Replies L most limit s c r → Number L most limit s c r.refusal
    unfolding refusal_of
    reply-number s p c r q = go (sound-dec L most limit m s p)
      where
        unsound : (c : Call) → (SoundStore L most limit s → ⊥) → r.refusal ≡ 10 → Number L most limit s c r.refusal
        unsound (seed a e) h ten = inl (h, ten)
        unsound (acquire k) h ten = inl (h, ten)
        unsound (release b k) h ten = inl (h, ten)
        unsound report h ten = inl (h, ten)

        go : Dec (SoundStore L most limit s) → Number L most limit s c r.refusal
        go (yes h) = sound-number s p h c r.refusal (record { is = ap (λ (x : Reply). x.refusal) (q.sound h) ∙ served-number s c })
        go (no h) = unsound c h (ap (λ (x : Reply). x.refusal) (q.unsound h))

-- DEMAND 1
pub demand1 : (L : Ladder) (most limit : ℕ) → MultipliesUp L → suc (top L) < 8 → Demand1 L most limit
demand1 L most limit m small = record { number = reply-number L most limit m small; fresh = fresh-number L most limit; fresh_unchanged = fresh-refused L most limit; unchanged = refused-unchanged L most limit }
