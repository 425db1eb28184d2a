-- The three demands, about the promises of the calls: the statements. `proofs/Demands` proves them.
use Rattle.std.specs.Prelude.{◌≡◌, ◌⊎◌, ◌↔◌, ◌≢◌, Bool, true, false, ◌&&◌, not, cond, List, [], ◌∷◌, ℕ, zero, suc, ◌+◌, ◌*◌, ◌-◌, ◌%◌, ◌≤◌, ◌<◌, leb, eqb, length, get_or}
use Rattle.sizes.specs.Ladder.{Ladder, smallest, largest, bytes, address_frame}
use Rattle.model.specs.Ladder.{top}
use Rattle.model.specs.Frames.{Wholly, Lowest, bit, count}
use Rattle.model.specs.Calls.{Region, seeded, Call, seed, acquire, release, report, Answer, refused, stored, dealt, reported, Outcome}
use Rattle.model.specs.FrameStore.{Frames, memory, size, Same, frame_step}
use Rattle.model.specs.TreeStore.{used, act}
use Rattle.model.specs.Runs.{reckon}
use Rattle.model.specs.Rust.{gives}
use Rattle.model.specs.Original.{empty_allocator}
use Rattle.model.specs.AsOriginal.{Said, originals, tellings}
use Rattle.pool.specs.Regions.{Holds}
use Rattle.pages.specs.Frames.{is_free}
use Rattle.pages.specs.Calls.{Store, store, Reply, plain, no_regions, Places, SoundStore, shown, tree_of, Replies, fresh_reply}

-- n is k where P holds, and what Rest says where P does not: the first condition in order wins
abbrev pub first : (n k : ℕ) (P Rest : Type 0) → Type 0
first n k P Rest = (P × (n ≡ k)) ⊎ ((P → ⊥) × Rest)

module _ (L : Ladder) (most limit : ℕ) where
  -- a call in frames, as the model has it
  abbrev pub in_frames : Call → Call
  in_frames (seed a e) = seed (address_frame L a) (address_frame L e)
  in_frames (acquire c) = acquire c
  in_frames (release b c) = release (address_frame L b) c
  in_frames report = report

  -- what an accepted call answers, in frames
  abbrev pub result_of : Call → Reply → Answer
  result_of (seed a e) r = stored
  result_of (acquire c) r = dealt (address_frame L r.base) r.probes
  result_of (release b c) r = stored
  result_of report r = reported (address_frame L r.seeded) (address_frame L r.free) r.largest

  -- what any call answers, in frames
  abbrev pub answer_of : Call → Reply → Answer
  answer_of c r = elim r.refusal [ zero ↦ result_of c r | suc n ↦ refused (suc n) ]

  -- 9: behind the call the tree would have more words than the pool
  abbrev pub Overfull : Store → Call → Type 0
  Overfull s c = length s.pool < used L (act L (tree_of L most limit s) (in_frames c)).state.tree

  -- ---- document 01's conditions, in its order
  -- b is the first frame of a wholly free block of the code
  pub record FreeBlock (s : Store) (c b : ℕ) : Type 0 where
    pub aligned : b % size L c ≡ 0
    pub fits : b + size L c ≤ memory L
    pub whole : Wholly (is_free L s.pool) b (size L c) true

  -- some frame between two addresses has the value v
  abbrev pub Some : (ℕ → Bool) → (start end : ℕ) → Bool → Type 0
  Some g a e v = (f : ℕ) × Holds L a e f × (g f ≡ v)

  -- c is no code
  abbrev pub NoCode : ℕ → Type 0
  NoCode c = (c ≡ 0) ⊎ (largest L < c)

  -- a is no multiple of a page
  abbrev pub NoPage : ℕ → Type 0
  NoPage a = a % bytes L smallest ≢ 0

  -- n is the refusal number of the call, 0 for none
  abbrev pub Number : Store → Call → ℕ → Type 0
  Number s (seed a e) n =
      first n 10 (SoundStore L most limit s → ⊥) (first n 2 (NoPage a ⊎ (NoPage e ⊎ (e ≤ a))) (first n 3 (bytes L (largest L) < e) (first n 5 (most ≤ length (shown L most limit s).regions)
      (first n 4 (Some (seeded (shown L most limit s).regions) a e true) (first n 9 (Overfull s (seed a e)) (n ≡ 0))))))
  Number s (acquire c) n = first n 10 (SoundStore L most limit s → ⊥) (first n 1 (NoCode c) (first n 8 ((b : ℕ) → FreeBlock s c b → ⊥) (first n 9 (Overfull s (acquire c)) (n ≡ 0))))
  Number s (release b c) n =
      first n 10 (SoundStore L most limit s → ⊥) (first n 1 (NoCode c) (first n 2 (b % bytes L c ≢ 0) (first n 3 (bytes L (largest L) - bytes L c < b)
      (first n 6 (Some (seeded (shown L most limit s).regions) b (b + bytes L c) false) (first n 7 (Some (is_free L s.pool) b (b + bytes L c) true) (first n 9 (Overfull s (release b c)) (n ≡ 0)))))))
  Number s report n = first n 10 (SoundStore L most limit s → ⊥) (n ≡ 0)

  -- DEMAND 1
  pub record Demand1 : Type 0 where
    -- each refusal exactly when document 01 says, the first in order winning
    pub number : (s : Store) → Places L most limit s → (c : Call) (r : Reply) → Replies L most limit s c r → Number s c r.refusal
    pub fresh : (p : List ℕ) → first (fresh_reply L most limit p).refusal 11 ((length p ≡ 0) ⊎ (limit < length p)) ((fresh_reply L most limit p).refusal ≡ 0)
    -- refused, fresh hands back zeros and changes no pool word
    pub fresh_unchanged : (p : List ℕ) → (fresh_reply L most limit p).refusal ≢ 0 → fresh_reply L most limit p ≡ plain 11 (store (no_regions most 0) p)
    -- a refusal hands back the state it got, changes no pool word, and answers zeros
    pub unchanged : (s : Store) (c : Call) (r : Reply) → Replies L most limit s c r → r.refusal ≢ 0 → r ≡ plain r.refusal s

  -- ---- the frame store, and runs
  -- an address that is no multiple of a page, which no frame number can say; of a release only where its number is a code
  abbrev pub unaligned : Call → Bool
  unaligned (seed a e) = not (eqb (a % bytes L smallest) 0 && eqb (e % bytes L smallest) 0)
  unaligned (acquire c) = false
  unaligned (release b c) = not (eqb (b % bytes L smallest) 0) && (leb smallest c && leb c (largest L))
  unaligned report = false

  -- the frame store, asked in bytes
  abbrev pub asked : Frames → Call → Outcome Frames
  asked g c = cond (unaligned c) (record { state = g; answer = refused 2 }) (frame_step L most g (in_frames c))

  -- the reply r to the call c on the sound store s is the frame store's
  pub record AsFrames (s : Store) (c : Call) (r : Reply) : Type 0 where
    -- the same answer, and the same frames after it, unless pool room is missing; results in bytes are whole frames
    pub answer : r.refusal ≢ 9 → answer_of c r ≡ (asked (shown L most limit s) c).answer
    pub leaves : r.refusal ≢ 9 → Same L (shown L most limit r.store) (asked (shown L most limit s) c).state
    pub bytes : (r.base % bytes L smallest ≡ 0) × (r.seeded % bytes L smallest ≡ 0) × (r.free % bytes L smallest ≡ 0)
    -- 9 exactly if the frame store accepts and the openings would carry used past the pool's length
    pub nine : (r.refusal ≡ 9) ↔ (((k : ℕ) → (asked (shown L most limit s) c).answer ≢ refused k) × Overfull s c)
    -- every call leaves the store sound
    pub keeps : SoundStore L most limit r.store

  -- an acquire takes the lowest aligned, wholly free block of the size asked, and says 'out of pages' exactly if none exists
  pub record Lowest-first (s : Store) (c : ℕ) (r : Reply) : Type 0 where
    pub deals : r.refusal ≡ 0 → Lowest (is_free L s.pool) (memory L) (size L c) (address_frame L r.base)
    pub none : (r.refusal ≡ 8) ↔ ((NoCode c → ⊥) × ((b : ℕ) → FreeBlock s c b → ⊥))

  -- the calls and their replies, one after the other, from one store to another
  pub data Runs : Store → List Call → List Reply → Store → Type 0 where
    none : {s : Store} → Runs s [] [] s
    more : {s t : Store} {cs : List Call} {rs : List Reply} (c : Call) (r : Reply) → Replies L most limit s c r → Runs r.store cs rs t → Runs s (c ∷ cs) (r ∷ rs) t

  -- a run in frames, as the original is asked
  abbrev pub saids : List Call → List Reply → List Said
  saids [] rs = []
  saids (c ∷ cs) [] = []
  saids (c ∷ cs) (r ∷ rs) = record { call = in_frames c; answer = answer_of c r } ∷ saids cs rs

  -- DEMAND 2: every answer on a sound store is the frame store's; an acquire takes the lowest block
  pub record Demand2 : Type 0 where
    pub frames : (s : Store) → Places L most limit s → SoundStore L most limit s → (c : Call) (r : Reply) → Replies L most limit s c r → AsFrames s c r
    pub lowest : (s : Store) → Places L most limit s → SoundStore L most limit s → (c : ℕ) (r : Reply) → Replies L most limit s (acquire c) r → Lowest-first s c r
    -- after the same calls from a fresh store, each page dealt and each 'out of pages' is the original's
    pub original : (p : List ℕ) → (fresh_reply L most limit p).refusal ≡ 0 → (cs : List Call) (rs : List Reply) (s : Store) → Runs (fresh_reply L most limit p).store cs rs s
        → originals L (saids cs rs) (empty_allocator (suc (top L))) ≡ gives (tellings L (saids cs rs))

  -- ---- what a run holds, and keeps
  -- the held frames after a run, reckoned from the accepted calls alone
  abbrev pub held : List Call → List Reply → (ℕ → Bool) → ℕ → Bool
  held [] rs h = h
  held (c ∷ cs) [] h = h
  held (c ∷ cs) (r ∷ rs) h = held cs rs (reckon L (in_frames c) (answer_of c r) h)

  -- the regions after a run, in frames, reckoned so too: an accepted seed puts its own in front
  abbrev pub sown : List Call → List Reply → List Region → List Region
  sown [] rs gs = gs
  sown (c ∷ cs) [] gs = gs
  sown (c ∷ cs) (r ∷ rs) gs = sown cs rs (elim r.refusal [ zero ↦ elim c [ seed a e ↦ record { start = address_frame L a; end = address_frame L e } ∷ gs | acquire k ↦ gs | release b k ↦ gs | report ↦ gs ] | suc n ↦ gs ])

  -- the seed of the region at place n
  abbrev pub region : Store → ℕ → Call
  region s n = seed (get_or s.state.starts n 0) (get_or s.state.ends n 0)

  -- t is newly seeded with the first n regions of s, on any pool
  pub data Newly (s : Store) : ℕ → Store → Type 0 where
    fresh : (p : List ℕ) → (fresh_reply L most limit p).refusal ≡ 0 → Newly s 0 (fresh_reply L most limit p).store
    next : {n : ℕ} {t : Store} (r : Reply) → Newly s n t → Replies L most limit t (region s n) r → r.refusal ≡ 0 → Newly s (suc n) r.store

  -- what holds of a store, its regions and the held frames after any calls from fresh
  pub record Kept (s : Store) (gs : List Region) (h : ℕ → Bool) : Type 0 where
    -- the store is sound
    pub sound : SoundStore L most limit s
    -- the regions are those of the accepted seeds, the newest first
    pub seeds : (shown L most limit s).regions ≡ gs
    -- every seeded frame is free or held, never both, and no other frame is either: the bits add up
    pub split : (f : ℕ) → f < memory L → bit (seeded gs f) ≡ bit (is_free L s.pool f) + bit (h f)
    pub beyond : (f : ℕ) → memory L ≤ f → (seeded gs f ≡ false) × (h f ≡ false)
    -- free plus held bytes equal seeded bytes, by the report
    pub totals : (r : Reply) → Replies L most limit s report r → r.free + count h (memory L) * bytes L smallest ≡ r.seeded
    -- no acquire deals a held frame
    pub unheld : (c : ℕ) (r : Reply) → Replies L most limit s (acquire c) r → r.refusal ≡ 0 → Wholly h (address_frame L r.base) (size L c) false
    -- its regions can be seeded anew, unless pool room is missing; once nothing is held an acquire gives the base that the store newly seeded with them gives, unless either lacks pool room
    pub reseeds : (n : ℕ) (t : Store) (r : Reply) → n < length gs → Newly s n t → Replies L most limit t (region s n) r → (r.refusal ≡ 0) ⊎ (r.refusal ≡ 9)
    pub settled : ((f : ℕ) → h f ≡ false) → (t : Store) → Newly s (length gs) t → (c : ℕ) (r r' : Reply)
        → Replies L most limit s (acquire c) r → Replies L most limit t (acquire c) r' → r.refusal ≢ 9 → r'.refusal ≢ 9 → (r.refusal ≡ r'.refusal) × (r.base ≡ r'.base)

  -- DEMAND 3: so it is after any calls from fresh, on any pool, refusals included
  abbrev pub Demand3 : Type 0
  Demand3 = (p : List ℕ) → (fresh_reply L most limit p).refusal ≡ 0 → (cs : List Call) (rs : List Reply) (s : Store) → Runs (fresh_reply L most limit p).store cs rs s → Kept s (sown cs rs []) (held cs rs (λ f. false))
