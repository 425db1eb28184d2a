-- The three looks along a run of children, one word at a time: the largest max, whether all have tokens, the first with enough. Assumes nothing.
use mathlib.Core.Bool.{Bool, true, false, ◌&&◌, cond}
use mathlib.Core.List.{List, ◌∷◌}
use mathlib.Core.Path.{◌≡◌, refl, ap, ap₂, ◌∙◌}
use Prim.Native.Nat.{ℕ, zero, suc, ◌+◌, ◌-◌, ◌≤◌, ◌<◌, max}
use native.Mathlib.Omega.{arith}
use lib.Dec.{leb}
use lib.ListN.{length, take}
use lib.Seq.{drop-cons}
use borrow.Author.Tests.{le-leb, lt-leb, eq-eqb, ne_eqb}
use Rattle.model.specs.Lists.{all, first, maximum}
use Rattle.pool.specs.Nodes.{children_all, children_first, children_max}
use Rattle.pool.specs.Words.{has_token, max_of, run, token_of, word}

run-cons : (p : List ℕ) (a n : ℕ) → a < length p → run p a (suc n) ≡ word p a ∷ run p (suc a) n
run-cons p a n h = ap (λ (l : List ℕ). take (suc n) l) (drop-cons p a 0 h)

-- the same at the code's numbers
more : {A : Type 0} (f : ℕ → ℕ → A) (a n : ℕ) → f (suc a) n ≡ f (a + 1) (suc n - 1)
more f a n =
    let x : suc a ≡ a + 1 = omega arith in
    let y : n ≡ suc n - 1 = omega arith in
    ap₂ f x y

pub max_none : (p : List ℕ) (a n : ℕ) → n ≡ 0 → children_max p a n ≡ 0
unfolding children_max maximum
max_none p a zero e = refl
max_none p a (suc n) e = absurd (omega arith)

pub max-more : (p : List ℕ) (a n : ℕ) → a < length p → 1 ≤ n → children_max p a n ≡ max (max_of (word p a)) (children_max p (a + 1) (n - 1))
unfolding children_max maximum
max-more p a zero h k = absurd (omega arith)
max-more p a (suc n) h k = ap (maximum max_of) (run-cons p a n h) ∙ ap (max (max_of (word p a))) (more (children_max p) a n)

pub all_none : (p : List ℕ) (a n : ℕ) → n ≡ 0 → children_all p a n ≡ true
unfolding children_all all
all_none p a zero e = refl
all_none p a (suc n) e = absurd (omega arith)

all_cons : (p : List ℕ) (a n : ℕ) → a < length p → children_all p a (suc n) ≡ (has_token (word p a) && children_all p (suc a) n)
unfolding children_all all
all_cons p a n h = ap (all has_token) (run-cons p a n h)

pub all_pass : (p : List ℕ) (a n : ℕ) → a < length p → 1 ≤ n → token_of (word p a) ≡ 1 → children_all p a n ≡ children_all p (a + 1) (n - 1)
all_pass p a zero h k t = absurd (omega arith)
all_pass p a (suc n) h k t = all_cons p a n h ∙ ap (λ (b : Bool). b && children_all p (suc a) n) (eq-eqb (token_of (word p a)) 1 t) ∙ more (children_all p) a n

pub all-fail : (p : List ℕ) (a n : ℕ) → a < length p → 1 ≤ n → (token_of (word p a) ≡ 1 → ⊥) → children_all p a n ≡ false
all-fail p a zero h k t = absurd (omega arith)
all-fail p a (suc n) h k t = all_cons p a n h ∙ ap (λ (b : Bool). b && children_all p (suc a) n) (ne_eqb (token_of (word p a)) 1 t)

first-cons : (c : ℕ) (p : List ℕ) (a n : ℕ) → a < length p → children_first c p a (suc n) ≡ cond (leb c (max_of (word p a))) 0 (suc (children_first c p (suc a) n))
unfolding children_first first
first-cons c p a n h = ap (first (λ v. leb c (max_of v))) (run-cons p a n h)

pub first-hit : (c : ℕ) (p : List ℕ) (a n : ℕ) → a < length p → 1 ≤ n → c ≤ max_of (word p a) → children_first c p a n ≡ 0
first-hit c p a zero h k l = absurd (omega arith)
first-hit c p a (suc n) h k l = first-cons c p a n h ∙ ap (λ (b : Bool). cond b 0 (suc (children_first c p (suc a) n))) (le-leb c (max_of (word p a)) l)

pub first-miss : (c : ℕ) (p : List ℕ) (a n : ℕ) → a < length p → 1 ≤ n → max_of (word p a) < c → children_first c p a n ≡ children_first c p (a + 1) (n - 1) + 1
first-miss c p a zero h k l = absurd (omega arith)
first-miss c p a (suc n) h k l =
    first-cons c p a n h ∙ ap (λ (b : Bool). cond b 0 (suc (children_first c p (suc a) n))) (lt-leb c (max_of (word p a)) l) ∙ ap suc (more (children_first c p) a n) ∙ omega arith
