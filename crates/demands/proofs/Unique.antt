-- A store is sound or is not, so a call has one reply and no other, and a function of `pages` one answer and no other. Assumes a ladder whose sizes multiply up.
use mathlib.Core.Path.{◌≡◌, refl, sym, ◌∙◌}
use mathlib.Core.Logic.Dec
use mathlib.Core.Bool.{Bool, true, false, Bool-discrete}
use mathlib.Core.List.{List}
use Prim.Native.Nat.{ℕ, suc, ◌-◌}
use native.Mathlib.Decide.{map_dec, dec_le, ℕ_discrete}
use lib.Dec.{ltb}
use lib.ListN.{length}
use Rattle.std.specs.declared.result.Result.{Result}
use Rattle.sizes.specs.Ladder.{Ladder}
use Rattle.sizes.specs.Laws.{MultipliesUp}
use Rattle.model.specs.Ladder.{top}
use Rattle.model.specs.Calls.{Call, seed, acquire, release, report}
use Rattle.pool.specs.Words.{fan_out_of, frames_of}
use Rattle.pool.specs.Check.{passes, sweep, walk}
use Rattle.pool.specs.Regions.{Regions, regions_of}
use Rattle.pool.specs.RegionTest.{regions_pass}
use Rattle.pages.specs.Answers.{done, dealt, told, refusal_in, room}
use Rattle.pages.specs.Calls.{Store, Reply, store, plain, Places, SoundStore, served, no_regions, Replies, fresh_reply}
use Rattle.pages.specs.Room.{Plans}
use Rattle.pages.specs.declared.answer.Dealt.{Dealt}
use Rattle.pages.specs.declared.answer.Report.{Report}
use Rattle.pages.specs.declared.refusal.Refusal.{Refusal}
use Rattle.pages.specs.declared.state.State.{State}
use Rattle.pages.proofs.Answers.{done-one, dealt-one, told-one, room-one}
use Rattle.pages.proofs.Decide.{check_sound, sound-check}
use Rattle.pages.specs.PassesCheck.{PassesCheck}

-- what the check asks is decided, clause by clause
checked-dec : (L : Ladder) (limit used : ℕ) (starts ends p : List ℕ) → Dec (PassesCheck L ltb limit used starts ends p)
checked-dec L limit used starts ends p = map_dec
    (λ x. record { low = x.0; high = x.1.0; limited = x.1.1.0; regions = x.1.1.1.0; walked = x.1.1.1.1.0; swept = x.1.1.1.1.1 })
    (λ c. (c.low, (c.high, (c.limited, (c.regions, (c.walked, c.swept))))))
    (Dec.and (dec_le 1 used) (Dec.and (dec_le used (length p)) (Dec.and (dec_le (length p) limit) (Dec.and (Bool-discrete (regions_pass L starts ends) true)
    (Dec.and (ℕ_discrete (walk (fan_out_of L) (frames_of L) ltb p (passes (fan_out_of L) (frames_of L) p (regions_of L starts ends)) used (suc (top L)) 0 0 0) (used - 1)) (Bool-discrete (sweep (fan_out_of L) p (suc (top L)) (used - 1) 1 0) true))))))

module _ (L : Ladder) (most limit : ℕ) (m : MultipliesUp L) where
  -- a store is sound or is not
  pub sound-dec : (s : Store) → Places L most limit s → Dec (SoundStore L most limit s)
  sound-dec s a =
      let u = s.state.used in
      let b = s.state.starts in
      let e = s.state.ends in
      map_dec (check_sound L m most limit u b e s.pool a.starts a.ends) (sound-check L m most limit u b e s.pool a.starts a.ends) (checked-dec L limit u b e s.pool)

  -- A CALL HAS A REPLY
  pub replies : (s : Store) (c : Call) → Places L most limit s → (r : Reply) × Replies L most limit s c r
  replies s c a = go (sound-dec s a)
    where
      go : Dec (SoundStore L most limit s) → (r : Reply) × Replies L most limit s c r
      go (yes h) = (served L most limit s c, record { unsound = λ k. absurd (k h); sound = λ k. refl })
      go (no h) = (plain 10 s, record { unsound = λ k. refl; sound = λ k. absurd (h k) })

  -- ... AND ONE ALONE
  pub unique : (s : Store) (c : Call) (r r' : Reply) → Replies L most limit s c r → Replies L most limit s c r' → Places L most limit s → r ≡ r'
  unique s c r r' q q' a = go (sound-dec s a)
    where
      go : Dec (SoundStore L most limit s) → r ≡ r'
      go (yes h) = q.sound h ∙ sym (q'.sound h)
      go (no h) = q.unsound h ∙ sym (q'.unsound h)

  -- ... so have seed, acquire, release and report, each
  pub seed-unique : (s : Store) (a e : ℕ) (r r' : Reply) → Replies L most limit s (seed a e) r → Replies L most limit s (seed a e) r' → Places L most limit s → r ≡ r'
  seed-unique s a e = unique s (seed a e)

  -- the same of the function's own answer: no second result and no second pool keeps the promise
  pub seed-answer-unique : (s : State) (p : List ℕ) (a e : ℕ) (q q' : List ℕ) (r r' : Result State Refusal)
      → Replies L most limit (store s p) (seed a e) (done s q r) → Replies L most limit (store s p) (seed a e) (done s q' r') → Places L most limit (store s p) → (r ≡ r') × (q ≡ q')
  seed-answer-unique s p a e q q' r r' h h' w = done-one s q q' r r' (seed-unique (store s p) a e _ _ h h' w)

  pub acquire-unique : (s : Store) (c : ℕ) (r r' : Reply) → Replies L most limit s (acquire c) r → Replies L most limit s (acquire c) r' → Places L most limit s → r ≡ r'
  acquire-unique s c = unique s (acquire c)

  pub acquire-answer-unique : (s : State) (p : List ℕ) (c : ℕ) (q q' : List ℕ) (r r' : Result (State × Dealt) Refusal)
      → Replies L most limit (store s p) (acquire c) (dealt s q r) → Replies L most limit (store s p) (acquire c) (dealt s q' r') → Places L most limit (store s p) → (r ≡ r') × (q ≡ q')
  acquire-answer-unique s p c q q' r r' h h' w = dealt-one s q q' r r' (acquire-unique (store s p) c _ _ h h' w)

  pub release-unique : (s : Store) (b c : ℕ) (r r' : Reply) → Replies L most limit s (release b c) r → Replies L most limit s (release b c) r' → Places L most limit s → r ≡ r'
  release-unique s b c = unique s (release b c)

  pub release-answer-unique : (s : State) (p : List ℕ) (b c : ℕ) (q q' : List ℕ) (r r' : Result State Refusal)
      → Replies L most limit (store s p) (release b c) (done s q r) → Replies L most limit (store s p) (release b c) (done s q' r') → Places L most limit (store s p) → (r ≡ r') × (q ≡ q')
  release-answer-unique s p b c q q' r r' h h' w = done-one s q q' r r' (release-unique (store s p) b c _ _ h h' w)

  pub report-unique : (s : Store) (r r' : Reply) → Replies L most limit s report r → Replies L most limit s report r' → Places L most limit s → r ≡ r'
  report-unique s = unique s report

  -- the pool is only read
  pub report-answer-unique : (s : State) (p : List ℕ) (r r' : Result Report Refusal)
      → Replies L most limit (store s p) report (told s p r) → Replies L most limit (store s p) report (told s p r') → Places L most limit (store s p) → r ≡ r'
  report-answer-unique s p r r' h h' w = (told-one s p p r r' (report-unique (store s p) _ _ h h' w)).0

  -- fresh's promise is an equation
  pub fresh-unique : (p : List ℕ) (r r' : Reply) → r ≡ fresh_reply L most limit p → r' ≡ fresh_reply L most limit p → r ≡ r'
  fresh-unique p r r' q q' = q ∙ sym q'

  pub fresh-answer-unique : (p q q' : List ℕ) (r r' : Result State Refusal)
      → done (no_regions most 0) q r ≡ fresh_reply L most limit p → done (no_regions most 0) q' r' ≡ fresh_reply L most limit p → (r ≡ r') × (q ≡ q')
  fresh-answer-unique p q q' r r' h h' = done-one (no_regions most 0) q q' r r' (fresh-unique p _ _ h h')

  -- yes exactly if sound: one answer
  pub check-unique : (s : Store) (x y : Bool) → (x ≡ true → SoundStore L most limit s) × (SoundStore L most limit s → x ≡ true) → (y ≡ true → SoundStore L most limit s) × (SoundStore L most limit s → y ≡ true) → x ≡ y
  check-unique s true y q q' = sym (q'.1 (q.0 refl))
  check-unique s false true q q' = q.1 (q'.0 refl)
  check-unique s false false q q' = refl

-- ROOM_FOR HAS ONE ANSWER: its numbers cannot differ, whether the regions are sound or not
module _ (L : Ladder) (most limit : ℕ) where
  pub plans-unique : (s : State) (a e n n' w w' : ℕ) → Plans L most limit s a e n w → Plans L most limit s a e n' w' → (n ≡ n') × (w ≡ w')
  plans-unique s a e n n' w w' q q' = (
    go n n' (λ h. (q.sound h).0 ∙ sym (q'.sound h).0) (λ k. (q.unsound k).0 ∙ sym (q'.unsound k).0),
    go w w' (λ h. (q.sound h).1 ∙ sym (q'.sound h).1) (λ k. (q.unsound k).1 ∙ sym (q'.unsound k).1),
  )
    where
      go : (x y : ℕ) → (Regions L most s.starts s.ends → x ≡ y) → ((Regions L most s.starts s.ends → ⊥) → x ≡ y) → x ≡ y
      go x y h k = cases (ℕ_discrete x y)
        where
          cases : Dec (x ≡ y) → x ≡ y
          cases (yes z) = z
          cases (no z) = absurd (z (k (λ r. z (h r))))

  pub room-answer-unique : (s : State) (a e : ℕ) (r r' : Result ℕ Refusal)
      → Plans L most limit s a e (refusal_in r) (room r) → Plans L most limit s a e (refusal_in r') (room r') → r ≡ r'
  room-answer-unique s a e r r' h h' = let x = plans-unique s a e (refusal_in r) (refusal_in r') (room r) (room r') h h' in room-one r r' x.0 x.1
