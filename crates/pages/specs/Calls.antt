-- What each call answers and leaves, on any state, pool and numbers (document 01, 'What the calls do' and 'Refusal numbers').
use Rattle.std.specs.Prelude.{◌≡◌, Bool, ◌&&◌, not, cond, List, [], ◌∷◌, ◌++◌, ℕ, zero, suc, pred, ◌*◌, ◌-◌, ◌%◌, leb, ltb, eqb, length, set, replicate}
use Rattle.sizes.specs.Ladder.{Ladder, smallest, largest, bytes, address_frame}
use Rattle.model.specs.Ladder.{top}
use Rattle.model.specs.Frames.{count}
use Rattle.model.specs.Calls.{seeded, Call, seed, acquire, release, report, Test, refuse, verdict}
use Rattle.model.specs.FrameStore.{Frames, memory, size, blocks, lowest_free, whole, bare}
use Rattle.model.specs.TreeStore.{State as TreeState}
use Rattle.pool.specs.Words.{word, pack, max_of}
use Rattle.pool.specs.Nodes.{Words, words, store_w, take_w, seed_w}
use Rattle.pool.specs.View.{view}
use Rattle.pool.specs.Regions.{newest}
use Rattle.pages.specs.declared.state.State.{State}
use Rattle.pages.specs.Sound.{Sound}
use Rattle.pages.specs.Frames.{is_free}

-- the state that a caller keeps, and the words of the pool that it lends
pub record Store : Type 0 where
  pub state : State
  pub pool : List ℕ

-- ... as one
abbrev pub store : State → List ℕ → Store
store s p = record { state = s; pool = p }

-- what a call answers and leaves; what is not among its results is 0. Addresses of calls and answers are in bytes
pub record Reply : Type 0 where
  pub refusal : ℕ
  pub store : Store
  pub base : ℕ
  pub probes : ℕ
  pub seeded : ℕ
  pub free : ℕ
  pub largest : ℕ
  pub used : ℕ

-- the reply of an acquire
abbrev pub deal : (refusal : ℕ) → Store → (base probes : ℕ) → Reply
deal n s b k = record { refusal = n; store = s; base = b; probes = k; seeded = 0; free = 0; largest = 0; used = 0 }

-- the reply of a report
abbrev pub tell : (refusal : ℕ) → Store → (seeded free largest used : ℕ) → Reply
tell n s a f l u = record { refusal = n; store = s; base = 0; probes = 0; seeded = a; free = f; largest = l; used = u }

-- a reply without results: of fresh, a seed, a release, and every refusal
abbrev pub plain : (refusal : ℕ) → Store → Reply
plain n s = deal n s 0 0

-- the reply of a call whose refusal number is n, 0 for none: a refusal hands back the state it got, changes no pool word, and answers zeros
abbrev pub settle : ℕ → Store → Reply → Reply
settle zero s r = r
settle (suc n) s r = plain (suc n) s

-- the pool with its used count
abbrev pub words_of : Store → Words
words_of s = words s.pool s.state.used

-- the store with another pool and used count
abbrev pub leave : Store → Words → Store
leave s w = record { state = record { used = w.used; starts = s.state.starts; ends = s.state.ends }; pool = w.pool }

-- a state without regions, all places zero
abbrev pub no_regions : (most used : ℕ) → State
no_regions most u = record { used = u; starts = replicate most 0; ends = replicate most 0 }

-- a ladder, the most regions, the most words of a pool
module _ (L : Ladder) (most limit : ℕ) where
  -- the arrays of a state have as many places as there may be regions
  pub record Places (s : Store) : Type 0 where
    pub starts : length s.state.starts ≡ most
    pub ends : length s.state.ends ≡ most

  -- state and pool are sound; a block lies behind its parent
  abbrev pub SoundStore : Store → Type 0
  SoundStore s = Sound L ltb most limit s.state.used s.state.starts s.state.ends s.pool

  -- what a store shows: its free frames, and its regions in frames
  abbrev pub shown : Store → Frames
  shown s = record { free = is_free L s.pool; regions = newest L s.state.starts s.state.ends }

  -- the tree that the pool's words hold, with the regions; no promise names it, the demands do
  abbrev pub tree_of : Store → TreeState L
  tree_of s = record { tree = view L (top L) (word s.pool) 0; regions = (shown s).regions }

  -- the refusals of each call over the frames of a sound store, all but 9, in document 01's order
  unfoldable pub refusals : Frames → Call → List Test
  refusals g (seed a e) =
      refuse 2 (not (eqb (a % bytes L smallest) 0)) ∷ refuse 2 (not (eqb (e % bytes L smallest) 0)) ∷ refuse 2 (leb e a) ∷ refuse 3 (ltb (bytes L (largest L)) e)
      ∷ refuse 5 (leb most (length g.regions)) ∷ refuse 4 (not (bare (seeded g.regions) (address_frame L a) (address_frame L e - address_frame L a))) ∷ []
  refusals g (acquire c) = refuse 1 (eqb c 0) ∷ refuse 1 (ltb (largest L) c) ∷ refuse 8 (leb (blocks L c) (lowest_free L g.free c)) ∷ []
  refusals g (release b c) =
      refuse 1 (eqb c 0) ∷ refuse 1 (ltb (largest L) c) ∷ refuse 2 (not (eqb (b % bytes L c) 0)) ∷ refuse 3 (ltb (bytes L (largest L) - bytes L c) b)
      ∷ refuse 6 (not (whole (seeded g.regions) (address_frame L b) (size L c))) ∷ refuse 7 (not (bare g.free (address_frame L b) (size L c))) ∷ []
  refusals g report = []

  -- what each call answers and leaves, unless it is refused
  unfoldable pub acted : Store → Call → Reply
  acted s (seed a e) =
      let w = seed_w L (address_frame L e - address_frame L a) (words_of s) (address_frame L a) (address_frame L e) in
      let n = length (shown s).regions in
      plain 0 (store (record { used = w.used; starts = set s.state.starts n a; ends = set s.state.ends n e }) w.pool)
  acted s (acquire c) = let t = take_w L (top L) (pred c) (words_of s) 0 in deal 0 (leave s t.words) (t.base * bytes L smallest) t.probes
  acted s (release b c) = plain 0 (leave s (store_w L (top L) (pred c) (words_of s) 0 (address_frame L b)))
  acted s report =
      tell 0 s (count (seeded (shown s).regions) (memory L) * bytes L smallest) (count (shown s).free (memory L) * bytes L smallest) (max_of (word s.pool 0)) s.state.used

  -- 9: the openings would carry used past the pool's length
  unfoldable pub lacks_room : Store → Call → Bool
  lacks_room s c = ltb (length s.pool) (acted s c).store.state.used

  -- the refusal number of a call on a sound store, 0 for none
  unfoldable pub refusal_of : Store → Call → ℕ
  refusal_of s c = verdict (refusals (shown s) c ++ (refuse 9 (lacks_room s c) ∷ []))

  -- its reply
  unfoldable pub served : Store → Call → Reply
  served s c = settle (refusal_of s c) s (acted s c)

  -- THE PROMISE OF SEED, ACQUIRE, RELEASE AND REPORT
  pub record Replies (s : Store) (c : Call) (r : Reply) : Type 0 where
    pub unsound : (SoundStore s → ⊥) → r ≡ plain 10 s
    pub sound : SoundStore s → r ≡ served s c

  -- the promise of fresh: a new root in word 0, or 11 and a state of zeros
  unfoldable pub fresh_reply : List ℕ → Reply
  fresh_reply p = cond (leb 1 (length p) && leb (length p) limit) (plain 0 (store (no_regions most 1) (set p 0 (pack 0 0 (largest L) 0)))) (plain 11 (store (no_regions most 0) p))
