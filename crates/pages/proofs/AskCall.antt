-- What an acquire, a release and a report of a sound store ask of the functions below them, and their replies by what these answer. For the six sizes. Assumes nothing.
use mathlib.Core.Path.{◌≡◌, refl, sym, ap, ◌∙◌, subst}
use mathlib.Core.Logic.{◌⊎◌, inl, inr}
use mathlib.Core.Bool.{Bool, true, false, true≢false, not, cond, ◌&&◌}
use mathlib.Core.List.{List, [], ◌∷◌}
use Prim.Native.Nat.{ℕ, zero, suc, pred, ◌+◌, ◌-◌, ◌*◌, ◌/◌, ◌%◌, ◌≤◌, ◌<◌}
use native.Mathlib.Omega.{arith}
use lib.Dec.{leb, ltb, eqb}
use lib.ListN.{length}
use borrow.Author.Tests.{ltb-true, ltb-false, leb-true, leb-false, eqb-true, eqb-false, le-ltb, le-leb, not-true, not-false}
use Rattle.sizes.specs.Ladder.{smallest, largest as largest_code, bytes, code, frame_address, address_frame}
use Rattle.sizes.specs.Six.{six}
use Rattle.sizes.proofs.Six.{six-multiplies, largest-most, bytes-largest, bytes_most}
use Rattle.model.specs.Ladder.{frames, top}
use Rattle.model.specs.Frames.{count}
use Rattle.model.specs.Calls.{Region, seeded, Call, acquire, release, report, refuse, verdict}
use Rattle.model.specs.FrameStore.{memory, size}
use Rattle.model.specs.Tree.{Tree, free, free_frames, largest, pick, Sound as SoundTree}
use Rattle.model.specs.TreeStore.{covered, seeded_frames}
use Rattle.model.proofs.Ladder.{frames-pos, bytes-is}
use Rattle.model.proofs.Free.{largest-le, pick-lowest}
use Rattle.model.proofs.Count.{free_frames-count}
use Rattle.model.proofs.Frames.{count_same}
use Rattle.model.proofs.Regions.{seeded-count}
use Rattle.pool.specs.Limits.{places, pool_limit, most_frames}
use Rattle.pool.specs.Words.{word, max_of, frames_of}
use Rattle.pool.specs.Nodes.{words, store_w, take_w}
use Rattle.pool.specs.Room.{openings_w, pick_w, any_free_w}
use Rattle.pool.specs.View.{view}
use Rattle.pool.specs.Regions.{regions_of, newest}
use Rattle.pool.specs.RegionTest.{regions_pass}
use Rattle.pool.specs.Blocks.{Readable}
use Rattle.pool.specs.Check.{SoundW}
use Rattle.pool.specs.Asks.{Maxed, StoreAsk, TakeAsk, PickAsk, NeedAsk, SoundAsk}
use Rattle.pool.proofs.Kept.{shape-readable, sound_w-tree, sound_w-largest, take_w-sound}
use Rattle.pool.proofs.Pick.{pick_w-is}
use Rattle.pool.proofs.Sizes.{page, frames-own, root-level, small-six, top-frames, frame-address}
use Rattle.pool.proofs.With.{newest-sum, newest-fit}
use Rattle.pages.specs.Frames.{is_free}
use Rattle.pages.specs.Calls.{Store, Reply, store, deal, tell, plain, settle, SoundStore, refusals, acted, lacks_room, refusal_of, served, Replies, Places}
use Rattle.pages.proofs.Decide.{sound-check, sound-words}
use Rattle.pages.proofs.Shown.{free-view}
use Rattle.pages.proofs.Refusals.{Named, acquire-1, acquire-8, acquire-9, acquire-0, release-1, release-2, release-3, release-6, release-7, release-9, release-0}

-- ---- what holds where its opposite does not
le_of : (x y : ℕ) → (y < x → ⊥) → x ≤ y
le_of x y n = go (ltb y x) refl
  where
    go : (v : Bool) → ltb y x ≡ v → x ≤ y
    go true e = absurd (n (ltb-true y x e))
    go false e = ltb-false y x e

eq_of : (x y : ℕ) → ((x ≡ y → ⊥) → ⊥) → x ≡ y
eq_of x y n = go (eqb x y) refl
  where
    go : (v : Bool) → eqb x y ≡ v → x ≡ y
    go true e = eqb-true x y e
    go false e = absurd (n (eqb-false x y e))

true_of : (v : Bool) → (v ≡ false → ⊥) → v ≡ true
true_of true n = refl
true_of false n = absurd (n refl)

false_of : (v : Bool) → (v ≡ true → ⊥) → v ≡ false
false_of true n = absurd (n refl)
false_of false n = refl

-- ---- the six sizes
-- the root's level
six-top : largest_code six ≡ suc (top six)
six-top = largest-most ∙ root-level

-- a number is no code, or its own
code-cases : (n : ℕ) → ((code six n ≡ 0) × ((n ≡ 0) ⊎ (largest_code six < n))) ⊎ ((code six n ≡ n) × (1 ≤ n) × (n ≤ largest_code six))
unfolding code
code-cases n = go (leb 1 n) refl (leb n (largest_code six)) refl
  where
    go : (x : Bool) → leb 1 n ≡ x → (y : Bool) → leb n (largest_code six) ≡ y
        → ((cond (leb 1 n && leb n (largest_code six)) n 0 ≡ 0) × ((n ≡ 0) ⊎ (largest_code six < n))) ⊎ ((cond (leb 1 n && leb n (largest_code six)) n 0 ≡ n) × (1 ≤ n) × (n ≤ largest_code six))
    go false e y f = let z : n ≡ 0 = omega (arith, leb-false 1 n e) in inl (ap (λ (t : Bool). cond (t && leb n (largest_code six)) n 0) e, inl z)
    go true e false f = inl (λ i. cond (e i && f i) n 0, inr (leb-false n (largest_code six) f))
    go true e true f = inr (λ i. cond (e i && f i) n 0, leb-true 1 n e, leb-true n (largest_code six) f)

-- the code that is found is none
pub code-none : (n c : ℕ) → c ≡ code six n → c ≡ 0 → (n ≡ 0) ⊎ (largest_code six < n)
code-none n c e z = go (code-cases n)
  where
    go : ((code six n ≡ 0) × ((n ≡ 0) ⊎ (largest_code six < n))) ⊎ ((code six n ≡ n) × (1 ≤ n) × (n ≤ largest_code six)) → (n ≡ 0) ⊎ (largest_code six < n)
    go (inl x) = x.1
    go (inr x) = absurd (omega (arith, e, z, x.0, x.1))

-- the code that is found is the number
pub code-some : (n c : ℕ) → c ≡ code six n → (c ≡ 0 → ⊥) → (c ≡ n) × (1 ≤ n) × (n ≤ largest_code six)
code-some n c e z = go (code-cases n)
  where
    go : ((code six n ≡ 0) × ((n ≡ 0) ⊎ (largest_code six < n))) ⊎ ((code six n ≡ n) × (1 ≤ n) × (n ≤ largest_code six)) → (c ≡ n) × (1 ≤ n) × (n ≤ largest_code six)
    go (inl x) = absurd (z (e ∙ x.0))
    go (inr x) = (e ∙ x.0, x.1, x.2)

-- a number that is a code is its own
code_same : (n : ℕ) → 1 ≤ n → n ≤ largest_code six → code six n ≡ n
unfolding code
code_same n lo hi = λ i. cond (le-leb 1 n lo i && le-leb n (largest_code six) hi i) n 0

-- the frame of an address, the address of a frame, and a block's bytes by its frames
frame_is : (b : ℕ) → address_frame six b ≡ b / 4096
unfolding address_frame bytes
frame_is b = refl

bytes-in : (n : ℕ) → 1 ≤ n → n ≤ largest_code six → bytes six n ≡ frames_of six n * 4096
bytes-in zero lo hi = absurd (omega arith)
bytes-in (suc d) lo hi = bytes-is six six-multiplies d hi ∙ ap (λ (x : ℕ). frames six d * x) page

-- a block that a release names lies in memory
named-fits : (b n : ℕ) → Named six b n → address_frame six b + frames_of six n ≤ most_frames
named-fits b n k = omega (arith, frame_is b, bytes-in n k.low k.high, k.within, bytes-largest, bytes_most n)

named-within : (b n : ℕ) → Named six b n → address_frame six b < frames six (top six)
named-within b zero k = absurd (omega (arith, k.low))
named-within b (suc d) k = omega (arith, named-fits b (suc d) k, frames-pos six d, top-frames)

-- ---- replies
module _ (s : Store) where
  -- a call that is accepted
  accepted-reply : (c : Call) → refusal_of six places pool_limit s c ≡ 0 → acted six places pool_limit s c ≡ served six places pool_limit s c
  unfolding served
  accepted-reply c e = ap (λ (x : ℕ). settle x s (acted six places pool_limit s c)) (sym e)

  -- the check b has said no
  pub unsound-replies : (c : Call) (b : Bool) → not b ≡ true → (SoundStore six places pool_limit s → b ≡ true) → Replies six places pool_limit s c (plain 10 s)
  unsound-replies c b e k = record { unsound = λ n. refl; sound = λ h. absurd (true≢false (sym (k h) ∙ not-true b e)) }

  -- it has said yes, and the call is served
  pub sound-replies : (c : Call) (b : Bool) (r : Reply) → not b ≡ false → (b ≡ true → SoundStore six places pool_limit s) → r ≡ served six places pool_limit s c → Replies six places pool_limit s c r
  sound-replies c b r e k q = record { unsound = λ n. absurd (n (k (not-false b e))); sound = λ h. q }

-- ---- a sound store
module _ (s : Store) (a : Places six places pool_limit s) (h : SoundStore six places pool_limit s) where
  abbrev p : List ℕ
  p = s.pool

  abbrev u : ℕ
  u = s.state.used

  abbrev t : Tree (top six)
  t = view six (top six) (word p) 0

  abbrev refusal : Call → ℕ
  refusal c = refusal_of six places pool_limit s c

  -- its words are sound, its regions pass, and the root may be read
  pub asked-words : SoundW six (top six) p u
  asked-words = sound-words six six-multiplies places pool_limit u s.state.starts s.state.ends p a.starts a.ends h

  pub regions-of : regions_pass six s.state.starts s.state.ends ≡ true
  regions-of = (sound-check six six-multiplies places pool_limit u s.state.starts s.state.ends p a.starts a.ends h).regions

  pub root-ask : SoundAsk p
  root-ask = record { used = u; sound = asked-words }

  -- its root, tree and max, and the block that an acquire takes
  readable : Readable six (top six) p u 0
  readable = shape-readable six (top six) p u asked-words.shape

  tree : Maxed six (top six) p 0 × SoundTree six (top six) t
  tree = sound_w-tree six (top six) p u asked-words

  max-is : max_of (word p 0) ≡ largest (top six) t
  max-is = sound_w-largest six (top six) p u asked-words

  picks : (d : ℕ) → suc d ≤ max_of (word p 0) → pick_w six (top six) d p 0 ≡ pick six (top six) d t
  picks d o = pick_w-is six (top six) d p u 0 readable tree.1 tree.0 (omega (arith, max-is))

  -- ---- what is asked of the root, by its level and a code
  pick-ask : (c : ℕ) → 1 ≤ c → c ≤ max_of (word p 0) → PickAsk (suc (top six)) c p 0
  pick-ask zero lo o = absurd (omega arith)
  pick-ask (suc d) lo o = record {
    lo = lo;
    deep = omega (arith, max-is, largest-le (top six) t);
    hi = omega (arith, root-level);
    used = u;
    readable = readable;
    sound = tree.1;
    maxed = tree.0;
    offers = omega (arith, max-is);
  }

  need-ask : (c b : ℕ) → 1 ≤ c → c ≤ suc (top six) → b < frames six (top six) → NeedAsk (suc (top six)) c p 0 b
  need-ask c b lo hi l = record { lo = lo; deep = hi; hi = omega (arith, root-level); used = u; readable = readable; base = l }

  take-ask : (c : ℕ) → 1 ≤ c → c ≤ max_of (word p 0) → u + openings_w six (top six) (pred c) p 0 (pick_w six (top six) (pred c) p 0) ≤ length p → TakeAsk (suc (top six)) c p u 0
  take-ask zero lo o r = absurd (omega arith)
  take-ask (suc d) lo o r = record {
    lo = lo;
    deep = omega (arith, max-is, largest-le (top six) t);
    hi = omega (arith, root-level);
    cap = h.limited;
    readable = readable;
    sound = tree.1;
    maxed = tree.0;
    offers = omega (arith, max-is);
    room = omega (arith, r, ap (openings_w six (top six) d p 0) (picks d o));
  }

  store-ask : (c b : ℕ) → 1 ≤ c → c ≤ suc (top six) → b < frames six (top six) → u + openings_w six (top six) (pred c) p 0 b ≤ length p → StoreAsk (suc (top six)) c p u 0 b
  store-ask c b lo hi l r = record { lo = lo; deep = hi; hi = omega (arith, root-level); cap = h.limited; readable = readable; base = l; room = r }

  -- ---- an acquire of the number n: the root's level and the code that the function holds
  pub record Wanted (n root c : ℕ) : Type 0 where
    pub root_is : root ≡ suc (top six)
    pub code_is : c ≡ n
    pub low : 1 ≤ n
    pub high : n ≤ largest_code six

  -- the number is a code
  pub wants : (n root c : ℕ) → root ≡ largest_code six → c ≡ code six n → (c ≡ 0 → ⊥) → Wanted n root c
  wants n root c e f z = let w = code-some n c f z in record { root_is = e ∙ six-top; code_is = w.0; low = w.1; high = w.2 }

  -- it is none
  pub acquire-none : (n c : ℕ) → c ≡ code six n → c ≡ 0 → 1 ≡ refusal (acquire n)
  acquire-none n c e z = sym (acquire-1 six places pool_limit six-multiplies small-six s a h n (code-none n c e z))

  -- m is the largest free code: too small, or enough
  module _ (n root c m : ℕ) (w : Wanted n root c) (e : m ≡ largest (top six) t) where
    pub acquire-out : m < c → 8 ≡ refusal (acquire n)
    acquire-out l = sym (acquire-8 six places pool_limit six-multiplies small-six s a h n w.low w.high (omega (arith, l, e, max-is, w.code_is)))

    offered : c ≤ m → c ≤ max_of (word p 0)
    offered l = omega (arith, l, e, max-is)

    pub acquire-pick : c ≤ m → PickAsk root c p 0
    acquire-pick l = subst (λ (x : ℕ). PickAsk x c p 0) (sym w.root_is) (pick-ask c (omega (arith, w.code_is, w.low)) (offered l))

    pub acquire-need : (b : ℕ) → b < most_frames → NeedAsk root c p 0 b
    acquire-need b l = subst (λ (x : ℕ). NeedAsk x c p 0 b) (sym w.root_is) (need-ask c b (omega (arith, w.code_is, w.low)) (omega (arith, w.code_is, w.high, six-top)) (omega (arith, l, top-frames)))

    -- b is the block's first frame, k the words that it opens
    module _ (b k : ℕ) (l : c ≤ m) (eb : b ≡ pick_w six (pred root) (pred c) p 0) (ek : k ≡ openings_w six (pred root) (pred c) p 0 b) where
      opens : k ≡ openings_w six (top six) (pred n) p 0 (pick_w six (top six) (pred n) p 0)
      opens = ek ∙ λ i. openings_w six (pred (w.root_is i)) (pred (w.code_is i)) p 0 (eb' i)
        where
          eb' : b ≡ pick_w six (top six) (pred n) p 0
          eb' = eb ∙ λ i. pick_w six (pred (w.root_is i)) (pred (w.code_is i)) p 0

      pub acquire-full : length p - u < k → 9 ≡ refusal (acquire n)
      acquire-full r = sym (acquire-9 six places pool_limit six-multiplies small-six s a h n w.low (omega (arith, offered l, w.code_is)) (omega (arith, r, opens, h.high)))

      pub acquire-done : k ≤ length p - u → 0 ≡ refusal (acquire n)
      acquire-done r = sym (acquire-0 six places pool_limit six-multiplies small-six s a h n w.low (omega (arith, offered l, w.code_is)) (omega (arith, r, opens, h.high)))

  -- an acquire without refusal
  module _ (n : ℕ) (z : refusal (acquire n) ≡ 0) where
    -- the number is a code that the root offers, and the pool has room
    code_of : (1 ≤ n) × (n ≤ largest_code six)
    code_of = (
      le_of 1 n (λ l. let x : n ≡ 0 = omega (arith, l) in omega (arith, z, acquire-1 six places pool_limit six-multiplies small-six s a h n (inl x))),
      le_of n (largest_code six) (λ l. omega (arith, z, acquire-1 six places pool_limit six-multiplies small-six s a h n (inr l))),
    )

    offer-of : n ≤ max_of (word p 0)
    offer-of = le_of n (max_of (word p 0)) (λ l. omega (arith, z, acquire-8 six places pool_limit six-multiplies small-six s a h n code_of.0 code_of.1 l))

    room_of : u + openings_w six (top six) (pred n) p 0 (pick_w six (top six) (pred n) p 0) ≤ length p
    room_of =
        le_of (u + openings_w six (top six) (pred n) p 0 (pick_w six (top six) (pred n) p 0)) (length p)
        (λ l. omega (arith, z, acquire-9 six places pool_limit six-multiplies small-six s a h n code_of.0 offer-of l))

    number_of : (c : ℕ) → c ≡ code six n → c ≡ n
    number_of c e = e ∙ code_same n code_of.0 code_of.1

    -- so the first block may be taken
    pub acquire-take : (root c : ℕ) → root ≡ largest_code six → c ≡ code six n → TakeAsk root c p u 0
    acquire-take root c e f =
        let k = number_of c f in
        subst (λ (x : ℕ). TakeAsk x c p u 0) (sym (e ∙ six-top)) (subst (λ (y : ℕ). TakeAsk (suc (top six)) y p u 0) (sym k) (take-ask n code_of.0 offer-of room_of))

    -- its first frame is one of memory
    base-fits : (d : ℕ) → suc d ≡ n → (take_w six (top six) d (words p u) 0).base ≤ most_frames
    base-fits d e =
        let o : suc d ≤ max_of (word p 0) = omega (arith, e, offer-of) in
        let deep : d ≤ top six = omega (arith, e, code_of.1, six-top) in
        let room : u + openings_w six (top six) (pred (suc d)) p 0 (pick_w six (top six) (pred (suc d)) p 0) ≤ length p = subst (λ (x : ℕ). u + openings_w six (top six) (pred x) p 0 (pick_w six (top six) (pred x) p 0) ≤ length p) (sym e) room_of in
        let r = take_w-sound six (top six) d p u small-six asked-words deep o (omega (arith, room, ap (openings_w six (top six) d p 0) (picks d o))) in
        omega (arith, r.0, (pick-lowest six (top six) d t tree.1 (omega (arith, o, max-is))).fits, top-frames)

    -- the answer of what `acquire_page_token` left
    pub acquire-reply : (root c : ℕ) (p' : List ℕ) (u' b k x : ℕ) → root ≡ largest_code six → c ≡ code six n
        → p' ≡ (take_w six (pred root) (pred c) (words p u) 0).words.pool → u' ≡ (take_w six (pred root) (pred c) (words p u) 0).words.used → b ≡ (take_w six (pred root) (pred c) (words p u) 0).base
        → k ≡ (take_w six (pred root) (pred c) (words p u) 0).probes → x ≡ frame_address six b
        → deal 0 (store (record { used = u'; starts = s.state.starts; ends = s.state.ends }) p') x k ≡ served six places pool_limit s (acquire n)
    unfolding acted
    acquire-reply root c p' u' b k x e f ep eu eb ek ex =
        let same : take_w six (pred root) (pred c) (words p u) 0 ≡ take_w six (top six) (pred n) (words p u) 0 = λ i. take_w six (pred ((e ∙ six-top) i)) (pred (number_of c f i)) (words p u) 0 in
        let q : b ≡ (take_w six (top six) (pred n) (words p u) 0).base = eb ∙ λ i. (same i).base in
        let y : x ≡ (take_w six (top six) (pred n) (words p u) 0).base * bytes six smallest = ex ∙ frame-address b (omega (arith, q, base-fits' n refl)) ∙ ap (λ (v : ℕ). v * bytes six smallest) q in
        let ep' = ep ∙ λ i. (same i).words.pool in
        let eu' = eu ∙ λ i. (same i).words.used in
        let ek' = ek ∙ λ i. (same i).probes in
        (λ i. deal 0 (store (record { used = eu' i; starts = s.state.starts; ends = s.state.ends }) (ep' i)) (y i) (ek' i)) ∙ accepted-reply s (acquire n) z
      where
        base-fits' : (m : ℕ) → m ≡ n → (take_w six (top six) (pred m) (words p u) 0).base ≤ most_frames
        base-fits' zero g = absurd (omega (arith, g, code_of.0))
        base-fits' (suc d) g = base-fits d g

  -- ---- a release of the number n at b: the root's level, the code and the first frame that the function holds
  pub record Given (b n root c f : ℕ) : Type 0 where
    pub root_is : root ≡ suc (top six)
    pub code_is : c ≡ n
    pub frame_is : f ≡ address_frame six b
    pub block : Named six b n

  -- the number is no code
  pub release-none : (b n c : ℕ) → c ≡ code six n → c ≡ 0 → 1 ≡ refusal (release b n)
  release-none b n c e z = sym (release-1 six places pool_limit six-multiplies small-six s a h b n (code-none n c e z))

  -- the number is a code of k bytes: b is no multiple of them, or ends past memory, or the block is named
  module _ (b n c k : ℕ) (e : c ≡ code six n) (z : c ≡ 0 → ⊥) (ek : k ≡ bytes six c) where
    bytes_of : k ≡ bytes six n
    bytes_of = ek ∙ ap (bytes six) (code-some n c e z).0

    pub release-odd : (b % k ≡ 0 → ⊥) → 2 ≡ refusal (release b n)
    release-odd o = let w = code-some n c e z in sym (release-2 six places pool_limit six-multiplies small-six s a h b n w.1 w.2 (λ y. o (ap (λ (m : ℕ). b % m) bytes_of ∙ y)))

    module _ (root l : ℕ) (er : root ≡ largest_code six) (el : l ≡ bytes six root) (o : b % k ≡ 0) where
      last_of : l ≡ bytes six (largest_code six)
      last_of = el ∙ ap (bytes six) er

      aligned-of : b % bytes six n ≡ 0
      aligned-of = ap (λ (m : ℕ). b % m) (sym bytes_of) ∙ o

      pub release-past : l - k < b → 3 ≡ refusal (release b n)
      release-past y = let w = code-some n c e z in sym (release-3 six places pool_limit six-multiplies small-six s a h b n w.1 w.2 aligned-of (omega (arith, y, bytes_of, last_of)))

      pub gives : (f : ℕ) → f ≡ address_frame six b → b ≤ l - k → Given b n root c f
      gives f ef y =
          let w = code-some n c e z in
          record { root_is = er ∙ six-top; code_is = w.0; frame_is = ef; block = record { low = w.1; high = w.2; aligned = aligned-of; within = omega (arith, y, bytes_of, last_of) } }

  -- a block that is named may be looked up; k are its frames, x whether one is free, o the words that it opens
  module _ (b n root c f : ℕ) (g : Given b n root c f) where
    abbrev regions : List Region
    regions = regions_of six s.state.starts s.state.ends

    pub release-need : NeedAsk root c p 0 f
    release-need =
        subst (λ (x : ℕ). NeedAsk x c p 0 f) (sym g.root_is)
        (need-ask c f (omega (arith, g.code_is, g.block.low)) (omega (arith, g.code_is, g.block.high, six-top)) (omega (arith, g.frame_is, named-within b n g.block)))

    module _ (k : ℕ) (ek : k ≡ frames_of six c) where
      pub release-fits : f + k ≤ most_frames
      release-fits = omega (arith, ek, ap (frames_of six) g.code_is, g.frame_is, named-fits b n g.block)

      covers : covered regions f k ≡ covered regions (address_frame six b) (size six n)
      covers = let y : k ≡ size six n = ek ∙ ap (frames_of six) g.code_is ∙ sym (frames-own n g.block.low) in λ i. covered regions (g.frame_is i) (y i)

      pub release-bare : covered regions f k ≡ false → 6 ≡ refusal (release b n)
      release-bare v = sym (release-6 six places pool_limit six-multiplies small-six s a h b n g.block (sym covers ∙ v))

      module _ (v : covered regions f k ≡ true) (x : Bool) (ex : x ≡ any_free_w six (pred root) (pred c) p 0 f) where
        frees : x ≡ any_free_w six (top six) (pred n) p 0 (address_frame six b)
        frees = ex ∙ λ i. any_free_w six (pred (g.root_is i)) (pred (g.code_is i)) p 0 (g.frame_is i)

        pub release-free : x ≡ true → 7 ≡ refusal (release b n)
        release-free y = sym (release-7 six places pool_limit six-multiplies small-six s a h b n g.block (sym covers ∙ v) (sym frees ∙ y))

        module _ (y : x ≡ false) (o : ℕ) (eo : o ≡ openings_w six (pred root) (pred c) p 0 f) where
          opened : o ≡ openings_w six (top six) (pred n) p 0 (address_frame six b)
          opened = eo ∙ λ i. openings_w six (pred (g.root_is i)) (pred (g.code_is i)) p 0 (g.frame_is i)

          pub release-full : length p - u < o → 9 ≡ refusal (release b n)
          release-full l = sym (release-9 six places pool_limit six-multiplies small-six s a h b n g.block (sym covers ∙ v) (sym frees ∙ y) (omega (arith, l, opened, h.high)))

          pub release-done : o ≤ length p - u → 0 ≡ refusal (release b n)
          release-done l = sym (release-0 six places pool_limit six-multiplies small-six s a h b n g.block (sym covers ∙ v) (sym frees ∙ y) (omega (arith, l, opened, h.high)))

  -- a release without refusal
  module _ (b n : ℕ) (z : refusal (release b n) ≡ 0) where
    -- the block is named, covered and held, and the pool has room
    codes : (1 ≤ n) × (n ≤ largest_code six)
    codes = (
      le_of 1 n (λ l. let x : n ≡ 0 = omega (arith, l) in omega (arith, z, release-1 six places pool_limit six-multiplies small-six s a h b n (inl x))),
      le_of n (largest_code six) (λ l. omega (arith, z, release-1 six places pool_limit six-multiplies small-six s a h b n (inr l))),
    )

    even : b % bytes six n ≡ 0
    even = eq_of (b % bytes six n) 0 (λ l. omega (arith, z, release-2 six places pool_limit six-multiplies small-six s a h b n codes.0 codes.1 l))

    names : Named six b n
    names = record {
      low = codes.0;
      high = codes.1;
      aligned = even;
      within = le_of b (bytes six (largest_code six) - bytes six n) (λ l. omega (arith, z, release-3 six places pool_limit six-multiplies small-six s a h b n codes.0 codes.1 even l));
    }

    holds : covered (regions_of six s.state.starts s.state.ends) (address_frame six b) (size six n) ≡ true
    holds = true_of (covered (regions_of six s.state.starts s.state.ends) (address_frame six b) (size six n)) (λ l. omega (arith, z, release-6 six places pool_limit six-multiplies small-six s a h b n names l))

    held : any_free_w six (top six) (pred n) p 0 (address_frame six b) ≡ false
    held = false_of (any_free_w six (top six) (pred n) p 0 (address_frame six b)) (λ l. omega (arith, z, release-7 six places pool_limit six-multiplies small-six s a h b n names holds l))

    space : u + openings_w six (top six) (pred n) p 0 (address_frame six b) ≤ length p
    space = le_of (u + openings_w six (top six) (pred n) p 0 (address_frame six b)) (length p) (λ l. omega (arith, z, release-9 six places pool_limit six-multiplies small-six s a h b n names holds held l))

    module _ (root c f : ℕ) (er : root ≡ largest_code six) (ec : c ≡ code six n) (ef : f ≡ address_frame six b) where
      same_code : c ≡ n
      same_code = ec ∙ code_same n codes.0 codes.1

      -- so the block may be stored
      pub release-store : StoreAsk root c p u 0 f
      release-store =
          subst (λ (x : ℕ). StoreAsk x c p u 0 f) (sym (er ∙ six-top)) (subst (λ (x : ℕ). StoreAsk (suc (top six)) x p u 0 f) (sym same_code) (subst (λ (x : ℕ). StoreAsk (suc (top six)) n p u 0 x) (sym ef)
          (store-ask n (address_frame six b) codes.0 (omega (arith, codes.1, six-top)) (named-within b n names) space)))

      -- the answer of what `store_page_token` left
      pub release-reply : (p' : List ℕ) (u' : ℕ) → p' ≡ (store_w six (pred root) (pred c) (words p u) 0 f).pool → u' ≡ (store_w six (pred root) (pred c) (words p u) 0 f).used
          → plain 0 (store (record { used = u'; starts = s.state.starts; ends = s.state.ends }) p') ≡ served six places pool_limit s (release b n)
      unfolding acted
      release-reply p' u' ep eu =
          let same : store_w six (pred root) (pred c) (words p u) 0 f ≡ store_w six (top six) (pred n) (words p u) 0 (address_frame six b) = λ i. store_w six (pred ((er ∙ six-top) i)) (pred (same_code i)) (words p u) 0 (ef i) in
          let ep' = ep ∙ λ i. (same i).pool in
          let eu' = eu ∙ λ i. (same i).used in
          (λ i. plain 0 (store (record { used = eu' i; starts = s.state.starts; ends = s.state.ends }) (ep' i))) ∙ accepted-reply s (release b n) z

  -- ---- a report
  -- the code's sums are the definition's counts, and nothing refuses
  seeded-is : seeded_frames (regions_of six s.state.starts s.state.ends) ≡ count (seeded (newest six s.state.starts s.state.ends)) (memory six)
  seeded-is =
      sym (newest-sum (regions_of six s.state.starts s.state.ends))
      ∙ sym (seeded-count (memory six) (newest six s.state.starts s.state.ends) (newest-fit six six-multiplies s.state.starts s.state.ends regions-of))

  free-is : free_frames six (top six) t ≡ count (is_free six p) (memory six)
  free-is = free_frames-count six (top six) t tree.1 ∙ count_same (free six (top six) t) (is_free six p) (frames six (top six)) (λ f l. sym (free-view six (top six) p 0 f l))

  report-done : refusal report ≡ 0
  unfolding refusal_of refusals lacks_room acted
  report-done = ap (λ (v : Bool). verdict (refuse 9 v ∷ [])) (le-ltb (length p) u h.high)

  -- the answer of the four numbers
  pub report-reply : (x f l v : ℕ) → x ≡ seeded_frames (regions_of six s.state.starts s.state.ends) * bytes six smallest → f ≡ free_frames six (top six) t * bytes six smallest → l ≡ largest (top six) t → v ≡ u
      → tell 0 s x f l v ≡ served six places pool_limit s report
  unfolding acted
  report-reply x f l v ex ef el ev =
      let x' = ex ∙ ap (λ (n : ℕ). n * bytes six smallest) seeded-is in
      let f' = ef ∙ ap (λ (n : ℕ). n * bytes six smallest) free-is in
      let l' = el ∙ sym max-is in
      (λ i. tell 0 s (x' i) (f' i) (l' i) (ev i)) ∙ accepted-reply s report report-done
