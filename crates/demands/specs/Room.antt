-- How large a pool must be: with as many words as `room_for` says, no calls on these regions ever lack pool room; with fewer, some do.
use Rattle.std.specs.Prelude.{◌≡◌, ◌⊎◌, ◌≢◌, true, List, [], ◌∷◌, ℕ, ◌+◌, ◌-◌, ◌≤◌, ◌<◌, length}
use Rattle.sizes.specs.Ladder.{Ladder, bytes, address_frame}
use Rattle.model.specs.Frames.{Wholly}
use Rattle.model.specs.Calls.{Region, seeded, Regions, Call, seed, acquire, release, report}
use Rattle.model.specs.FrameStore.{memory}
use Rattle.model.specs.Room.{room_for}
use Rattle.pages.specs.declared.state.State.{State}
use Rattle.pages.specs.Calls.{Store, Reply, Places, SoundStore, Replies, fresh_reply}
use Rattle.pages.specs.Room.{with_region, Plans}
use Rattle.demands.specs.Demands.{Runs}

-- no reply is 9
abbrev pub Roomy : List Reply → Type 0
Roomy [] = Unit {0}
Roomy (r ∷ rs) = (r.refusal ≢ 9) × Roomy rs

module _ (L : Ladder) (most limit : ℕ) where
  -- a seed that is accepted, or refused for want of pool room alone, asks for frames of the regions; others may ask for anything
  abbrev pub Inside : List Region → Call → Reply → Type 0
  Inside gs (seed a e) r = (r.refusal ≡ 0) ⊎ (r.refusal ≡ 9) → Wholly (seeded gs) (address_frame L a) (address_frame L e - address_frame L a) true
  Inside gs (acquire c) r = Unit {0}
  Inside gs (release b c) r = Unit {0}
  Inside gs report r = Unit {0}

  -- the calls are on the regions
  abbrev pub On : List Region → List Call → List Reply → Type 0
  On gs [] rs = Unit {0}
  On gs (c ∷ cs) [] = Unit {0}
  On gs (c ∷ cs) (r ∷ rs) = Inside gs c r × On gs cs rs

  -- from fresh, with a pool of at least that many words, no sequence of calls on these regions ever answers 9
  abbrev pub EnoughRoom : Type 0
  EnoughRoom = (gs : List Region) (p : List ℕ) → (fresh_reply L most limit p).refusal ≡ 0 → room_for L gs ≤ length p
      → (cs : List Call) (rs : List Reply) (s : Store) → Runs L most limit (fresh_reply L most limit p).store cs rs s → On gs cs rs → Roomy rs

  -- and with fewer words some calls on them do: nobody can do with less
  abbrev pub NoLess : Type 0
  NoLess = (gs : List Region) → Regions (memory L) gs → length gs ≤ most → (p : List ℕ) → (fresh_reply L most limit p).refusal ≡ 0 → length p < room_for L gs
      → (cs : List Call) × (rs : List Reply) × (s : Store) × Runs L most limit (fresh_reply L most limit p).store cs rs s × On gs cs rs × (Roomy rs → ⊥)

  -- room_for answers as many as are enough
  abbrev pub PlansEnough : Type 0
  PlansEnough = (s : State) (a e n w : ℕ) → Plans L most limit s a e n w → n ≡ 0 → (p : List ℕ) → (fresh_reply L most limit p).refusal ≡ 0 → w ≤ length p
      → (cs : List Call) (rs : List Reply) (t : Store) → Runs L most limit (fresh_reply L most limit p).store cs rs t → On (with_region L s a e) cs rs → Roomy rs

  -- ... and no more
  abbrev pub PlansNoLess : Type 0
  PlansNoLess = (s : State) → length s.starts ≡ most → length s.ends ≡ most → (a e n w : ℕ) → Plans L most limit s a e n w → n ≡ 0 → (p : List ℕ) → (fresh_reply L most limit p).refusal ≡ 0 → length p < w
      → (cs : List Call) × (rs : List Reply) × (t : Store) × Runs L most limit (fresh_reply L most limit p).store cs rs t × On (with_region L s a e) cs rs × (Roomy rs → ⊥)

  -- whatever the pool: behind an accepted acquire, the page that was dealt, and any page that it is a part of, is never refused with 9 when it is given back
  abbrev pub GivesBack : Type 0
  GivesBack = (s : Store) → Places L most limit s → SoundStore L most limit s → (k : ℕ) (d : Reply) → Replies L most limit s (acquire k) d → d.refusal ≡ 0
      → (cs : List Call) (rs : List Reply) (t : Store) → Runs L most limit d.store cs rs t
      → (b c : ℕ) → k ≤ c → b ≤ d.base → d.base < b + bytes L c → (r : Reply) → Replies L most limit t (release b c) r → r.refusal ≢ 9
