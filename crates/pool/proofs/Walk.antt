-- The walk with its test of each node, which looks at the node's level, place and first frame: it goes through exactly when the blocks' rules hold, the test passes at every node seen, and the count stays max_below used. Assumes nothing.
use mathlib.Core.Bool.{Bool, true, false, ◌&&◌}
use mathlib.Core.List.{List}
use mathlib.Core.Logic.{inl, inr, ◌≢◌}
use mathlib.Core.Path.{◌≡◌, refl, sym, ap, ap₂, ◌∙◌, subst, subst₂}
use Prim.Native.Nat.{ℕ, zero, suc, ◌+◌, ◌-◌, ◌*◌, ◌≤◌, ◌<◌}
use native.Mathlib.Omega.{arith}
use lib.Dec.{eqb}
use borrow.Author.Tests.{eq-eqb, le-leb, lt-ltb, leb-true, ltb-true, eqb-true}
use Rattle.pool.specs.Words.{level_of, link_of, word, sum_over}
use Rattle.pool.specs.Blocks.{By, Ok, size}
use Rattle.pool.specs.Check.{Enter, enters, walk, walk_block, walk_if, walk_link}
use Rattle.pool.proofs.Blocks.{ok-level, ok-make, ok-open, ok-shut, size-open, size-shut, zero_or}
use Rattle.pool.proofs.Cover.{and_intro, and-true}
use Rattle.pool.proofs.Sweep.{not-passes}

walk_block-ok : (used d : ℕ) (f : ℕ → ℕ → ℕ → ℕ) (P : ℕ → ℕ → Type 0) (z : ℕ → ℕ) → ((a b c : ℕ) → f a b c < used → P a b × (f a b c ≡ c + z a)) → (a b n c : ℕ) → walk_block f a b d n c < used → ((i : ℕ) → i < n → P (a + i) (b + i * d)) × (walk_block f a b d n c ≡ c + sum_over a n z)
unfolding walk_block sum_over
walk_block-ok used d f P z h a b zero c lt = ((λ i l. absurd (omega arith)), omega arith)
walk_block-ok used d f P z h a b (suc n) c lt =
    let r = walk_block-ok used d f P z h (suc a) (b + d) n (f a b c) lt in
    let o = h a b c (omega (arith, r.1)) in (
      (λ i l. elim (zero_or i) [
        | inl e ↦
            let ea : a ≡ a + i = omega arith in
            let eb : b ≡ b + i * d = omega (arith, ap (λ (j : ℕ). j * d) e) in
            subst₂ P ea eb o.0
        | inr je ↦
            let ea : suc a + je.0 ≡ a + i = omega (arith, je.1) in
            let eb : b + d + je.0 * d ≡ b + i * d = omega (arith, ap (λ (j : ℕ). j * d) je.1) in
            subst₂ P ea eb (r.0 je.0 (omega (arith, je.1)))
      ]),
      omega (arith, r.1, o.1),
    )

walk_block-yes : (used d : ℕ) (f : ℕ → ℕ → ℕ → ℕ) (P : ℕ → ℕ → Type 0) (z : ℕ → ℕ) → ((a b c : ℕ) → P a b → c + z a < used → f a b c ≡ c + z a) → (a b n c : ℕ) → ((i : ℕ) → i < n → P (a + i) (b + i * d)) → c + sum_over a n z < used → walk_block f a b d n c ≡ c + sum_over a n z
unfolding walk_block sum_over
walk_block-yes used d f P z h a b zero c ok lt = omega arith
walk_block-yes used d f P z h a b (suc n) c ok lt =
    let ea : a + 0 ≡ a = omega arith in
    let eb : b + 0 * d ≡ b = omega arith in
    let e : f a b c ≡ c + z a = h a b c (subst₂ P ea eb (ok 0 (omega arith))) (omega arith) in
    ap (λ (x : ℕ). walk_block f (suc a) (b + d) d n x) e
    ∙ walk_block-yes used d f P z h (suc a) (b + d) n (c + z a)
    (λ i l.
    let fa : a + suc i ≡ suc a + i = omega arith in
    let fb : b + suc i * d ≡ b + d + i * d = omega arith in
    subst₂ P fa fb (ok (suc i) (omega arith)))
    (omega arith)
    ∙ omega arith

-- fan and frames by level; loc is the test of a node
module _ (fan frames : ℕ → ℕ) (ord : ℕ → ℕ → Bool) (p : List ℕ) (loc : ℕ → ℕ → ℕ → Bool) where
  -- the test passes at every node seen
  abbrev pub AllL : ℕ → ℕ → (ℕ → ℕ → Type 0) → ℕ → Type 0
  AllL l b sub zero = Unit
  AllL l b sub (suc k) = (i : ℕ) → i < fan (suc l) → sub (suc (suc k) + i) (b + i * frames l)

  unfoldable pub All : ℕ → ℕ → ℕ → Type 0
  All zero q b = Unit
  All (suc l) q b = (loc (suc l) q b ≡ true) × AllL l b (All l) (link_of (word p q))

  pub all_here : (l q b : ℕ) → All (suc l) q b → loc (suc l) q b ≡ true
  unfolding All
  all_here l q b a = a.0

  pub all-child : (l q b k : ℕ) → All (suc l) q b → link_of (word p q) ≡ suc k → (i : ℕ) → i < fan (suc l) → All l (suc (suc k) + i) (b + i * frames l)
  unfolding All
  all-child l q b k a e = subst (AllL l b (All l)) e a.1

  pub all-shut : (l q b : ℕ) → loc (suc l) q b ≡ true → link_of (word p q) ≡ 0 → All (suc l) q b
  unfolding All
  all-shut l q b t e = (t, subst (AllL l b (All l)) (sym e) tt)

  pub all-make : (l q b k : ℕ) → loc (suc l) q b ≡ true → link_of (word p q) ≡ suc k → ((i : ℕ) → i < fan (suc l) → All l (suc (suc k) + i) (b + i * frames l)) → All (suc l) q b
  unfolding All
  all-make l q b k t e h = (t, subst (AllL l b (All l)) (sym e) h)

  -- ---- it goes through only if all is well

  walk_step : (used l q b c : ℕ) → ((a e d : ℕ) → walk fan frames ord p loc used l a e d < used → (Ok fan (By ord) p used l a × All l a e) × (walk fan frames ord p loc used l a e d ≡ d + size fan p l a)) → (t : Bool) (v : ℕ) → (eqb (level_of (word p q)) (suc l) && loc (suc l) q b) ≡ t → link_of (word p q) ≡ v → walk_link fan frames ord p loc t v (walk fan frames ord p loc used l) used l q b c < used → (Ok fan (By ord) p used (suc l) q × All (suc l) q b) × (walk_link fan frames ord p loc t v (walk fan frames ord p loc used l) used l q b c ≡ c + size fan p (suc l) q)
  walk_step used l q b c ih false v et ev lt = absurd (omega arith)
  walk_step used l q b c ih true zero et ev lt =
      let h = and-true et in
      ((ok-shut fan (By ord) p used l q (eqb-true (level_of (word p q)) (suc l) h.0) ev, all-shut l q b h.1 ev), omega (arith, size-shut fan p (suc l) q ev))
  walk_step used l q b c ih true (suc k) et ev lt = go (enters fan ord p used l q (suc k) c) refl lt
    where
      n : ℕ
      n = fan (suc l)

      go : (t : Bool) → enters fan ord p used l q (suc k) c ≡ t → walk_if t (walk fan frames ord p loc used l) used (suc (suc k)) b (frames l) n (c + suc n) < used → (Ok fan (By ord) p used (suc l) q × All (suc l) q b) × (walk_if t (walk fan frames ord p loc used l) used (suc (suc k)) b (frames l) n (c + suc n) ≡ c + size fan p (suc l) q)
      go false e l' = absurd (omega arith)
      go true e l' =
          let h = and-true et in
          let t₀ = and-true e in
          let t₁ = and-true t₀.1 in
          let t₂ = and-true t₁.1 in
          let t₃ = and-true t₂.1 in
          let r = walk_block-ok used (frames l) (walk fan frames ord p loc used l) (λ a d. Ok fan (By ord) p used l a × All l a d) (size fan p l) ih (suc (suc k)) b n (c + suc n) l' in (
            (
              ok-make fan (By ord) p used l q k (eqb-true (level_of (word p q)) (suc l) h.0) ev
                  (record {
                    deep = leb-true 1 l t₀.0;
                    past = t₁.0;
                    fits = ltb-true (suc k + n) used t₂.0;
                    head = eqb-true (word p (suc k)) q t₃.0;
                    children = λ y i. let e' : suc (suc k) + (y - suc (suc k)) ≡ y = omega (arith, i) in subst (Ok fan (By ord) p used l) e' (r.0 (y - suc (suc k)) (omega (arith, i))).0;
                  }),
              all-make l q b k h.1 ev (λ i j. (r.0 i j).1),
            ),
            omega (arith, r.1, size-open fan p l q k ev),
          )

  pub walk-ok : (used l q b c : ℕ) → walk fan frames ord p loc used l q b c < used → (Ok fan (By ord) p used l q × All l q b) × (walk fan frames ord p loc used l q b c ≡ c + size fan p l q)
  unfolding walk
  walk-ok used zero q b c lt = absurd (omega arith)
  walk-ok used (suc l) q b c lt = walk_step used l q b c (λ a e d h. walk-ok used l a e d h) (eqb (level_of (word p q)) (suc l) && loc (suc l) q b) (link_of (word p q)) refl refl lt

  -- ---- and if all is well it does
  walk-yes-step : (used l q b c : ℕ) → ((a e d : ℕ) → Ok fan (By ord) p used l a × All l a e → d + size fan p l a < used → walk fan frames ord p loc used l a e d ≡ d + size fan p l a) → Ok fan (By ord) p used (suc l) q → All (suc l) q b → c + size fan p (suc l) q < used → (v : ℕ) → link_of (word p q) ≡ v → walk_link fan frames ord p loc true v (walk fan frames ord p loc used l) used l q b c ≡ c + size fan p (suc l) q
  walk-yes-step used l q b c ih o al lt zero e = omega (arith, size-shut fan p (suc l) q e)
  walk-yes-step used l q b c ih o al lt (suc k) e =
      let r = ok-open fan (By ord) p used l q k o e in
      let z = size-open fan p l q k e in
      ap (λ (t : Bool). walk_if t (walk fan frames ord p loc used l) used (suc (suc k)) b (frames l) (fan (suc l)) (c + suc (fan (suc l))))
      (and_intro (le-leb 1 l r.deep) (and_intro r.past (and_intro (lt-ltb (suc k + fan (suc l)) used r.fits) (and_intro (eq-eqb (word p (suc k)) q r.head) (lt-ltb (c + suc (fan (suc l))) used (omega arith))))))
      ∙ walk_block-yes used (frames l) (walk fan frames ord p loc used l) (λ a d. Ok fan (By ord) p used l a × All l a d) (size fan p l) ih (suc (suc k)) b (fan (suc l)) (c + suc (fan (suc l))) (λ i j. (r.children (suc (suc k) + i) (omega arith), all-child l q b k al e i j)) (omega arith)
      ∙ omega arith

  pub walk-yes : (used l q b c : ℕ) → Ok fan (By ord) p used l q → All l q b → c + size fan p l q < used → walk fan frames ord p loc used l q b c ≡ c + size fan p l q
  unfolding walk Ok
  walk-yes used zero q b c o al lt = absurd o
  walk-yes used (suc l) q b c o al lt =
      ap (λ (t : Bool). walk_link fan frames ord p loc t (link_of (word p q)) (walk fan frames ord p loc used l) used l q b c) (and_intro (eq-eqb (level_of (word p q)) (suc l) (ok-level fan (By ord) p used (suc l) q o)) (all_here l q b al))
      ∙ walk-yes-step used l q b c (λ a e d g lt'. walk-yes used l a e d g.0 g.1 lt') o al lt (link_of (word p q)) refl

  -- ---- a law for each way through it
  pub walk-level : (used l q b c : ℕ) → (level_of (word p q) ≡ l → ⊥) → walk fan frames ord p loc used l q b c ≡ used
  unfolding walk
  walk-level used zero q b c h = refl
  walk-level used (suc l) q b c h = ap (λ (t : Bool). walk_link fan frames ord p loc t (link_of (word p q)) (walk fan frames ord p loc used l) used l q b c) (not-passes (eqb (level_of (word p q)) (suc l) && loc (suc l) q b) (λ e. h (eqb-true (level_of (word p q)) (suc l) (and-true e).0)))

  pub walk-fails : (used l q b c : ℕ) → loc l q b ≡ false → walk fan frames ord p loc used l q b c ≡ used
  unfolding walk
  walk-fails used zero q b c h = refl
  walk-fails used (suc l) q b c h = ap (λ (t : Bool). walk_link fan frames ord p loc t (link_of (word p q)) (walk fan frames ord p loc used l) used l q b c) (not-passes (eqb (level_of (word p q)) (suc l) && loc (suc l) q b) (λ e. let z : ◌≡◌ {A = ℕ} 0 1 = clash (sym h ∙ (and-true {a = eqb (level_of (word p q)) (suc l)} e).1) in omega arith))
    where
      clash : false ≡ true → ◌≡◌ {A = ℕ} 0 1
      clash e = cc

  pub walk-shut : (used l q b c : ℕ) → 1 ≤ l → level_of (word p q) ≡ l → loc l q b ≡ true → link_of (word p q) ≡ 0 → walk fan frames ord p loc used l q b c ≡ c
  unfolding walk
  walk-shut used zero q b c l1 v t e = absurd (omega arith)
  walk-shut used (suc l) q b c l1 v t e = ap₂ (λ (x : Bool) (L : ℕ). walk_link fan frames ord p loc x L (walk fan frames ord p loc used l) used l q b c) (and_intro (eq-eqb (level_of (word p q)) (suc l) v) t) e

  enter_step : (used l q b c : ℕ) → level_of (word p q) ≡ suc l → loc (suc l) q b ≡ true → (k : ℕ) → link_of (word p q) ≡ suc k → walk fan frames ord p loc used (suc l) q b c ≡ walk_if (enters fan ord p used l q (suc k) c) (walk fan frames ord p loc used l) used (suc (suc k)) b (frames l) (fan (suc l)) (c + suc (fan (suc l)))
  unfolding walk
  enter_step used l q b c v t k e = ap₂ (λ (x : Bool) (L : ℕ). walk_link fan frames ord p loc x L (walk fan frames ord p loc used l) used l q b c) (and_intro (eq-eqb (level_of (word p q)) (suc l) v) t) e

  pub walk-enter : (used l q b c : ℕ) → Enter fan ord p used l q c → loc l q b ≡ true → walk fan frames ord p loc used l q b c ≡ walk_block (walk fan frames ord p loc used (l - 1)) (link_of (word p q) + 1) b (frames (l - 1)) (fan l) (c + fan l + 1)
  walk-enter used zero q b c en t = absurd (omega (arith, en.deep))
  walk-enter used (suc l) q b c en t = elim (zero_or (link_of (word p q))) [
    | inl z ↦ absurd (omega (arith, en.some))
    | inr ke ↦
        let L : ℕ = suc ke.0 in
        let e₁ : l ≡ suc l - 1 = omega arith in
        let e₂ : suc (suc ke.0) ≡ link_of (word p q) + 1 = omega (arith, ke.1) in
        let e₃ : c + suc (fan (suc l)) ≡ c + fan (suc l) + 1 = omega arith in
        enter_step used l q b c en.level t ke.0 ke.1
        ∙ ap (λ (x : Bool). walk_if x (walk fan frames ord p loc used l) used (suc (suc ke.0)) b (frames l) (fan (suc l)) (c + suc (fan (suc l))))
        (and_intro (le-leb 1 l (omega (arith, en.deep))) (and_intro (subst (λ (j : ℕ). ord q j ≡ true) ke.1 en.past) (and_intro (lt-ltb (L + fan (suc l)) used (omega (arith, en.fits, ke.1))) (and_intro (eq-eqb (word p L) q (subst (λ (j : ℕ). word p j ≡ q) ke.1 en.head)) (lt-ltb (c + suc (fan (suc l))) used (omega (arith, en.room)))))))
        ∙ ap₂ (λ (a d : ℕ). walk_block (walk fan frames ord p loc used l) a b (frames l) (fan (suc l)) d) e₂ e₃
        ∙ ap (λ (j : ℕ). walk_block (walk fan frames ord p loc used j) (link_of (word p q) + 1) b (frames j) (fan (suc l)) (c + fan (suc l) + 1)) e₁
  ]

  pub walk-refuse : (used l q b c : ℕ) → link_of (word p q) ≢ 0 → (Enter fan ord p used l q c → ⊥) → walk fan frames ord p loc used l q b c ≡ used
  unfolding walk
  walk-refuse used zero q b c ne h = refl
  walk-refuse used (suc l) q b c ne h = go (eqb (level_of (word p q)) (suc l) && loc (suc l) q b) (link_of (word p q)) refl refl
    where
      stop : (k : ℕ) → level_of (word p q) ≡ suc l → link_of (word p q) ≡ suc k → enters fan ord p used l q (suc k) c ≡ true → ⊥
      stop k v ev t =
          let t₀ = and-true t in
          let t₁ = and-true t₀.1 in
          let t₂ = and-true t₁.1 in
          let t₃ = and-true t₂.1 in
          h (record {
            deep = omega (arith, leb-true 1 l t₀.0);
            level = v;
            past = subst (λ (j : ℕ). ord q j ≡ true) (sym ev) t₁.0;
            some = omega (arith, ev);
            fits = omega (arith, ev, ltb-true (suc k + fan (suc l)) used t₂.0);
            head = subst (λ (j : ℕ). word p j ≡ q) (sym ev) (eqb-true (word p (suc k)) q t₃.0);
            room = omega (arith, ltb-true (c + suc (fan (suc l))) used t₃.1);
          })

      go : (x : Bool) (v : ℕ) → (eqb (level_of (word p q)) (suc l) && loc (suc l) q b) ≡ x → link_of (word p q) ≡ v → walk_link fan frames ord p loc x v (walk fan frames ord p loc used l) used l q b c ≡ used
      go false v ex ev = refl
      go true zero ex ev = absurd (ne ev)
      go true (suc k) ex ev = ap (λ (x : Bool). walk_if x (walk fan frames ord p loc used l) used (suc (suc k)) b (frames l) (fan (suc l)) (c + suc (fan (suc l)))) (not-passes (enters fan ord p used l q (suc k) c) (stop k (eqb-true (level_of (word p q)) (suc l) (and-true {a = eqb (level_of (word p q)) (suc l)} ex).0) ev))

pub walk_block-none : (f : ℕ → ℕ → ℕ → ℕ) (a b d c : ℕ) → walk_block f a b d 0 c ≡ c
unfolding walk_block
walk_block-none f a b d c = refl

pub walk_block-more : (f : ℕ → ℕ → ℕ → ℕ) (a b d n c : ℕ) → 1 ≤ n → walk_block f a b d n c ≡ walk_block f (a + 1) (b + d) d (n - 1) (f a b c)
unfolding walk_block
walk_block-more f a b d zero c h = absurd (omega arith)
walk_block-more f a b d (suc n) c h =
    let e₁ : suc a ≡ a + 1 = omega arith in
    let e₂ : n ≡ suc n - 1 = omega arith in
    ap₂ (λ (x m : ℕ). walk_block f x (b + d) d m (f a b c)) e₁ e₂
