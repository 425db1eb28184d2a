-- The fields of Sound and the tests of all nodes: the fields are read off the tests, and gathered into them again. Assumes nothing.
use mathlib.Core.Bool.{Bool, true, false}
use mathlib.Core.List.{List}
use mathlib.Core.Logic.{inl, inr}
use mathlib.Core.Path.{◌≡◌, sym, ◌∙◌}
use Prim.Native.Nat.{ℕ, zero, suc, ◌+◌, ◌-◌, ◌*◌, ◌≤◌, ◌<◌}
use native.Mathlib.Decide.{ℕ_discrete}
use native.Mathlib.Omega.{arith}
use lib.Dec.{ltb}
use lib.ListN.{length}
use Rattle.sizes.specs.Ladder.{Ladder}
use Rattle.sizes.specs.Laws.{MultipliesUp}
use Rattle.model.proofs.Regions.{covered-iff}
use Rattle.model.specs.Calls.{Region}
use Rattle.model.specs.Ladder.{frames, top}
use Rattle.model.specs.TreeStore.{covered}
use Rattle.pool.specs.Nodes.{children_max}
use Rattle.pool.specs.Regions.{regions_of}
use Rattle.pages.specs.Sound.{Below, Node, Sound, deeper, itself}
use Rattle.pool.specs.Words.{fan_out_of, frames_of, link_of, max_of, token_of, word}
use Rattle.pool.specs.Blocks.{By, In, Ok, Shape}
use Rattle.pool.specs.Check.{all_below, max_below}
use Rattle.pool.specs.RegionTest.{regions_pass}
use Rattle.pool.proofs.Blocks.{ok-level, ok-make, ok-open, ok-shut, zero_or}
use Rattle.pool.proofs.Cover.{covers}
use Rattle.pool.proofs.Needed.{sees-level}
use Rattle.pages.proofs.Nodes.{RuleAt, below_at, below-sees, below-trans}
use Rattle.pool.proofs.Marks.{off-rule, on-rule, rule-off, rule-on, token-is}
use Rattle.pages.proofs.Quiet.{all_none, all-open, children-zero, max_open, max-shut, node_ok, node-pos, quiet-below}
use Rattle.pool.proofs.Regions.{regions-fit, regions-if, regions-of}
use Rattle.pages.proofs.Times.{filled-low, filled_of, filled-once}

-- the blocks are in order, each node keeps the rules of max and token, and regions cover the tokens
pub record Rules (L : Ladder) (rs : List Region) (used : ℕ) (p : List ℕ) : Type 0 where
  pub shape : Shape (fan_out_of L) (suc (top L)) p used
  pub rule : (l q b : ℕ) → Node L p l q b → RuleAt L p l q
  pub inside : (l q b : ℕ) → Node L p l q b → token_of (word p q) ≡ 1 → covered rs b (frames_of L l) ≡ true

module _ (L : Ladder) (mu : MultipliesUp L) (most limit used : ℕ) (starts ends p : List ℕ) (ls : length starts ≡ most) (le : length ends ≡ most) where
  -- ---- the fields, read off
  pub rules-sound : length p ≤ limit → regions_pass L starts ends ≡ true → Rules L (regions_of L starts ends) used p → Sound L ltb most limit used starts ends p
  rules-sound lim pass h = record {
    low = s.low;
    high = s.high;
    limited = lim;
    level = λ l q b n. ok-level (fan_out_of L) (By ltb) p used l q (ok n);
    leaf = λ q b n. elim (zero_or (link_of (word p q))) [ inl z ↦ z | inr ke ↦ absurd (omega (arith, (ok-open (fan_out_of L) (By ltb) p used 0 q ke.0 (ok n) ke.1).deep)) ];
    header = header;
    filled = filled_of L p (By ltb) (suc (top L)) used s.low s.rules s.once;
    behind = behind;
    token = λ l q b n t. (rule-on l (word p q) (max_below p (fan_out_of L l) (link_of (word p q))) (all_below p (fan_out_of L l) (link_of (word p q))) (h.rule l q b n) t).0;
    quiet = λ l q b m r c n t u lt. quiet-below L p used s h.rule n t u lt;
    unopened = λ l q b n t z. (off l q b n t).0 ∙ max-shut p (fan_out_of L l) (link_of (word p q)) z;
    opened = λ l q b k n t e. (off l q b n t).0 ∙ max_open p (fan_out_of L l) (link_of (word p q)) k e;
    gap = λ l q b k n t e. sym (all-open p (fan_out_of L l) (link_of (word p q)) k e) ∙ (off l q b n t).1;
    regions = regions-of L mu most starts ends ls le pass;
    inside = λ l q b n t. (covered-iff (frames L (top L)) b (frames_of L l) (regions_of L starts ends) (regions-fit L mu starts ends pass)).0 (h.inside l q b n t);
  }
    where
      s : Shape (fan_out_of L) (suc (top L)) p used
      s = h.shape

      ok : {l q b : ℕ} → Node L p l q b → Ok (fan_out_of L) (By ltb) p used l q
      ok n = node_ok L p used s n

      off : (l q b : ℕ) → Node L p l q b → token_of (word p q) ≡ 0 → (max_of (word p q) ≡ max_below p (fan_out_of L l) (link_of (word p q))) × (all_below p (fan_out_of L l) (link_of (word p q)) ≡ false)
      off l q b n t = rule-off l (word p q) (max_below p (fan_out_of L l) (link_of (word p q))) (all_below p (fan_out_of L l) (link_of (word p q))) (h.rule l q b n) t

      header : (l q b k : ℕ) → Node L p l q b → link_of (word p q) ≡ suc k → word p (suc k) ≡ q
      header zero q b k n e = absurd (omega (arith, node-pos L p used s zero q b n))
      header (suc l) q b k n e = (ok-open (fan_out_of L) (By ltb) p used l q k (ok n) e).head

      behind : (l q b k : ℕ) → Node L p l q b → link_of (word p q) ≡ suc k → ltb q (suc k) ≡ true
      behind zero q b k n e = absurd (omega (arith, node-pos L p used s zero q b n))
      behind (suc l) q b k n e = (ok-open (fan_out_of L) (By ltb) p used l q k (ok n) e).past

  -- ---- and gathered again
  module _ (s : Sound L ltb most limit used starts ends p) where
    deep : (l q b k : ℕ) → Node L p (suc l) q b → link_of (word p q) ≡ suc k → 1 ≤ l
    deep zero q b k n e = absurd (omega (arith, s.leaf q b n))
    deep (suc l) q b k n e = omega arith

    positive : {l q b : ℕ} → Node L p l q b → 1 ≤ l
    positive itself = omega arith
    positive (deeper {m = m} {r = r} {c = c} k i n e h) = deep m r c k n e

    -- a block's last place is met, hence used
    fits : (l q b k : ℕ) → Node L p (suc l) q b → link_of (word p q) ≡ suc k → suc k + fan_out_of L (suc l) < used
    fits l q b k n e = filled-low L p (suc (top L)) used s.low s.filled (suc k + fan_out_of L (suc l)) (covers (fan_out_of L) p k (below-sees L p n) e (suc k + fan_out_of L (suc l)) (omega arith))

    child-node : (l q b k y : ℕ) → Node L p (suc l) q b → link_of (word p q) ≡ suc k → In (suc (suc k)) (fan_out_of L (suc l)) y → Node L p l y (b + (y - suc (suc k)) * frames_of L l)
    child-node l q b k y n e i = below-trans L p n (below_at L p l q b k y e i)

    blocks : (l q b : ℕ) → Node L p l q b → Ok (fan_out_of L) (By ltb) p used l q
    blocks zero q b n = absurd (omega (arith, positive n))
    blocks (suc l) q b n = elim (zero_or (link_of (word p q))) [
      | inl z ↦ ok-shut (fan_out_of L) (By ltb) p used l q (s.level (suc l) q b n) z
      | inr ke ↦ ok-make (fan_out_of L) (By ltb) p used l q ke.0 (s.level (suc l) q b n) ke.1 (record {
        deep = deep l q b ke.0 n ke.1;
        past = s.behind (suc l) q b ke.0 n ke.1;
        fits = fits l q b ke.0 n ke.1;
        head = s.header (suc l) q b ke.0 n ke.1;
        children = λ y i. blocks l y (b + (y - suc (suc ke.0)) * frames_of L l) (child-node l q b ke.0 y n ke.1 i);
      })
    ]

    -- the children's max is 0 if each child's is
    none_below : (l q b k : ℕ) → Node L p (suc l) q b → link_of (word p q) ≡ suc k → ((y : ℕ) → In (suc (suc k)) (fan_out_of L (suc l)) y → max_of (word p y) ≡ 0) → children_max p (suc (suc k)) (fan_out_of L (suc l)) ≡ 0
    none_below l q b k n e z = children-zero p (suc (suc k)) (fan_out_of L (suc l)) (omega (arith, fits l q b k n e, s.high)) (λ y lo hi. z y (lo, hi))

    -- a node with no token at or below it has max 0
    bare : (l q b : ℕ) → Node L p l q b → ((m r c : ℕ) → Below L p l q b m r c → token_of (word p r) ≡ 0) → max_of (word p q) ≡ 0
    bare zero q b n f = absurd (omega (arith, positive n))
    bare (suc l) q b n f = elim (zero_or (link_of (word p q))) [
      | inl z ↦ s.unopened (suc l) q b n (f (suc l) q b itself) z
      | inr ke ↦ s.opened (suc l) q b ke.0 n (f (suc l) q b itself) ke.1
          ∙ none_below l q b ke.0 n ke.1 (λ y i. bare l y (b + (y - suc (suc ke.0)) * frames_of L l) (child-node l q b ke.0 y n ke.1 i)
          (λ m r c u. f m r c (below-trans L p (below_at L p l q b ke.0 y ke.1 i) u)))
    ]

    below-token : (l q b : ℕ) → Node L p (suc l) q b → token_of (word p q) ≡ 1 → max_below p (fan_out_of L (suc l)) (link_of (word p q)) ≡ 0
    below-token l q b n t = elim (zero_or (link_of (word p q))) [
      | inl z ↦ max-shut p (fan_out_of L (suc l)) (link_of (word p q)) z
      | inr ke ↦ max_open p (fan_out_of L (suc l)) (link_of (word p q)) ke.0 ke.1
          ∙ none_below l q b ke.0 n ke.1 (λ y i. bare l y (b + (y - suc (suc ke.0)) * frames_of L l) (child-node l q b ke.0 y n ke.1 i)
          (λ m r c u. s.quiet (suc l) q b m r c n t (below-trans L p (below_at L p l q b ke.0 y ke.1 i) u) (omega (arith, sees-level (fan_out_of L) p (below-sees L p u)))))
    ]

    rules : (l q b : ℕ) → Node L p l q b → RuleAt L p l q
    rules zero q b n = absurd (omega (arith, positive n))
    rules (suc l) q b n = elim (ℕ_discrete (token_of (word p q)) 0) [
      | no o ↦ let t = token-is (word p q) o in on-rule (suc l) (word p q) m a t (s.token (suc l) q b n t) (below-token l q b n t)
      | yes o ↦ elim (zero_or (link_of (word p q))) [
        | inl z ↦ off-rule (suc l) (word p q) m a o (s.unopened (suc l) q b n o z ∙ sym (max-shut p (fan_out_of L (suc l)) (link_of (word p q)) z)) (all_none p (fan_out_of L (suc l)) (link_of (word p q)) z)
        | inr ke ↦ off-rule (suc l) (word p q) m a o (s.opened (suc l) q b ke.0 n o ke.1 ∙ sym (max_open p (fan_out_of L (suc l)) (link_of (word p q)) ke.0 ke.1))
            (all-open p (fan_out_of L (suc l)) (link_of (word p q)) ke.0 ke.1 ∙ s.gap (suc l) q b ke.0 n o ke.1)
      ]
    ]
      where
        m : ℕ
        m = max_below p (fan_out_of L (suc l)) (link_of (word p q))

        a : Bool
        a = all_below p (fan_out_of L (suc l)) (link_of (word p q))

    pub sound-pass : regions_pass L starts ends ≡ true
    sound-pass = regions-if L mu most starts ends ls le s.regions

    pub sound-rules : Rules L (regions_of L starts ends) used p
    sound-rules = record {
      shape = record { low = s.low; high = s.high; rules = blocks (suc (top L)) 0 0 itself; once = filled-once L p (suc (top L)) used s.low s.filled };
      rule = rules;
      inside = λ l q b n t. (covered-iff (frames L (top L)) b (frames_of L l) (regions_of L starts ends) (regions-fit L mu starts ends sound-pass)).1 (s.inside l q b n t);
    }
