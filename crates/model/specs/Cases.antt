-- Short journals, computed: a check of the definitions by example. On the tree of the six sizes frame 524288 is address 2147483648.
use Rattle.std.specs.Prelude.{◌≡◌, List, [], ◌∷◌, false, ℕ}
use Rattle.sizes.specs.Ladder.{Ladder}
use Rattle.sizes.specs.Six.{six}
use Rattle.model.specs.Calls.{Call, seed, acquire, release, report, Answer, refused, stored, dealt, reported}
use Rattle.model.specs.FrameStore.{Frames, frame_step}
use Rattle.model.specs.TreeStore.{State, used, fresh, step}

-- a line of a journal's run: the answer, and the pool words in use behind it
pub data Line : Type 0 where
  line : Answer → (used : ℕ) → Line

-- the lines of a journal, for a store of at most two regions and a pool of n words
unfoldable pub lines_from : (n : ℕ) → List Call → State six → List Line
lines_from n [] s = []
lines_from n (c ∷ cs) s = let o = step six 2 n s c in line o.answer (used six o.state.tree) ∷ lines_from n cs o.state

abbrev pub lines : (n : ℕ) → List Call → List Line
lines n cs = lines_from n cs (fresh six)

-- document 01's journal (P6, P7)
abbrev pub Journal : Type 0
Journal = lines 16384 (seed 524288 524294 ∷ acquire 1 ∷ acquire 2 ∷ acquire 1 ∷ release 524288 1 ∷ release 524288 1 ∷ report ∷ [])
    ≡ line stored 1418 ∷ line (dealt 524288 7) 1423 ∷ line (refused 8) 1423 ∷ line (dealt 524289 8) 1423 ∷ line stored 1423 ∷ line (refused 7) 1423 ∷ line (reported 6 5 1) 1423 ∷ []

-- all of memory, its first frame dealt and given back: every level is opened and merged again, and nothing stays offered below the page then dealt
abbrev pub Cascade : Type 0
Cascade = lines 16384 (seed 0 34359738368 ∷ acquire 1 ∷ release 0 1 ∷ acquire 6 ∷ acquire 1 ∷ [])
    ≡ line stored 1 ∷ line (dealt 0 5) 1418 ∷ line stored 1418 ∷ line (dealt 0 0) 1418 ∷ line (refused 8) 1418 ∷ []

-- a single frame before a larger block: the lowest is dealt, not the one in the child that offers most
abbrev pub LowestFirst : Type 0
LowestFirst = lines 16384 (seed 524291 524296 ∷ acquire 1 ∷ []) ≡ line stored 1418 ∷ line (dealt 524291 10) 1418 ∷ []

-- a frame inside a free page, and a page one of whose frames is free, are not taken back
abbrev pub Inside : Type 0
Inside = lines 16384 (seed 524288 524292 ∷ release 524289 1 ∷ acquire 1 ∷ release 524288 2 ∷ [])
    ≡ line stored 1413 ∷ line (refused 7) 1413 ∷ line (dealt 524288 7) 1418 ∷ line (refused 7) 1418 ∷ []

-- touching regions merge, and a page that straddles them is taken back
abbrev pub Touching : Type 0
Touching = lines 16384 (seed 524288 524290 ∷ seed 524290 524292 ∷ acquire 2 ∷ release 524288 2 ∷ [])
    ≡ line stored 1418 ∷ line stored 1418 ∷ line (dealt 524288 6) 1418 ∷ line stored 1418 ∷ []

-- the last frame alone (P10)
abbrev pub LastFrame : Type 0
LastFrame = lines 16384 (seed 34359738367 34359738368 ∷ acquire 1 ∷ []) ≡ line stored 1418 ∷ line (dealt 34359738367 1412) 1418 ∷ []

-- a pool one word short, and one that just fits (P9)
abbrev pub TooShort : Type 0
TooShort = lines 1412 (seed 524288 524292 ∷ acquire 1 ∷ []) ≡ line (refused 9) 1 ∷ line (refused 8) 1 ∷ []

abbrev pub JustFits : Type 0
JustFits = lines 1413 (seed 524288 524292 ∷ acquire 1 ∷ acquire 2 ∷ []) ≡ line stored 1413 ∷ line (refused 9) 1413 ∷ line (dealt 524288 6) 1413 ∷ []

-- two sizes: a frame, and a page of four frames
abbrev pub small : Ladder
small = record { sizes = 0 ∷ 4096 ∷ 16384 ∷ []; fan_outs = 0 ∷ 0 ∷ 4 ∷ [] }

-- the answers of the frame store to a journal, for at most one region
unfoldable pub answers_from : List Call → Frames → List Answer
answers_from [] g = []
answers_from (c ∷ cs) g = let o = frame_step small 1 g c in o.answer ∷ answers_from cs o.state

-- the frame store on them: the lowest frame, out of pages, a frame that is free, one past memory, and the page whole again
abbrev pub FrameJournal : Type 0
FrameJournal = answers_from (seed 0 4 ∷ acquire 1 ∷ acquire 1 ∷ acquire 2 ∷ report ∷ release 2 1 ∷ release 1 1 ∷ release 4 1 ∷ release 0 1 ∷ acquire 2 ∷ []) (record { free = λ f. false; regions = [] })
    ≡ stored ∷ dealt 0 1 ∷ dealt 1 2 ∷ refused 8 ∷ reported 4 2 1 ∷ refused 7 ∷ stored ∷ refused 3 ∷ stored ∷ dealt 0 0 ∷ []
