-- The cases at the fences, computed on the tree store. Assumes nothing.
use mathlib.Core.Path.{◌≡◌, refl, ap, ap₂, ◌∙◌}
use mathlib.Core.Bool.{Bool, true, false, ◌&&◌, cond, and-eq-true_iff, false≢true}
use mathlib.Core.List.{List, [], ◌∷◌, ◌++◌, map}
use Prim.Native.Nat.{ℕ, zero, suc, ◌+◌, ◌^◌, ◌-◌, ◌≤◌, ◌<◌}
use native.Mathlib.Omega.{arith}
use lib.Dec.{leb, eqb}
use lib.ListN.{length, set, replicate, length-replicate}
use borrow.Author.Tests.{leb-true, eqb-true, eq-eqb}
use Rattle.sizes.specs.Ladder.{largest as largest_code, bytes, fan_out, address_frame}
use Rattle.sizes.specs.Six.{six}
use Rattle.sizes.proofs.Six.{six-multiplies, p1}
use Rattle.model.specs.Ladder.{fan, frames, top, probes}
use Rattle.model.specs.Lists.{maximum, sum, all, first}
use Rattle.model.specs.Tree.{largest, words as tree_words, merge, opened, handed_on, store, remove, pick}
use Rattle.model.specs.TreeStore.{fresh, any_free, largest_fit, seed_from, used, act, tests, step}
use Rattle.model.specs.Calls.{Call, seed, acquire}
use Rattle.pool.specs.Limits.{places, pool_limit}
use Rattle.pool.specs.Words.{word, pack}
use Rattle.pool.specs.Nodes.{Words, words, store_w, seed_w}
use Rattle.pool.specs.Cases.{of, document}
use Rattle.pool.proofs.Cases.{seed as seed-case}
use Rattle.pool.proofs.Sizes.{small-six}
use Rattle.pages.specs.Calls.{Store, Reply, fresh_reply}
use Rattle.demands.specs.Demands.{Runs}
use Rattle.demands.specs.Fences.{Line, line, line_of, Says, page16, back, Fences}
use Rattle.demands.proofs.TreeLines.{lines_from, aligned-calls, fresh_lines, seed-words}

-- two lines, two lists of lines, are the same
abbrev alike : Line → Line → Bool
alike (line a b c d) (line w x y z) = eqb a w && (eqb b x && (eqb c y && eqb d z))

unfoldable same : List Line → List Line → Bool
same [] [] = true
same [] (m ∷ ms) = false
same (l ∷ ls) [] = false
same (l ∷ ls) (m ∷ ms) = alike l m && same ls ms

-- a test that passes is an equation
alike_is : (l m : Line) → alike l m ≡ true → l ≡ m
alike_is (line a b c d) (line w x y z) e =
    let p = (and-eq-true_iff (eqb a w) (eqb b x && (eqb c y && eqb d z))).0 e in
    let q = (and-eq-true_iff (eqb b x) (eqb c y && eqb d z)).0 p.1 in
    let r = (and-eq-true_iff (eqb c y) (eqb d z)).0 q.1 in
    rw (eqb-true a w p.0, eqb-true b x q.0, eqb-true c y r.0, eqb-true d z r.1) refl

same-is : (ls ms : List Line) → same ls ms ≡ true → ls ≡ ms
unfolding same
same-is [] [] e = refl
same-is [] (m ∷ ms) e = absurd (false≢true e)
same-is (l ∷ ls) [] e = absurd (false≢true e)
same-is (l ∷ ls) (m ∷ ms) e =
    let p = (and-eq-true_iff (alike l m) (same ls ms)).0 e in
    ap₂ (λ (x : Line) (xs : List Line). x ∷ xs) (alike_is l m p.0) (same-is ls ms p.1)

-- the pool of n words is no longer than it may be, no call has an unaligned address, and the tree store has these lines for the calls
unfoldable matches : (n : ℕ) → List Call → List Line → Bool
matches n cs ls = (leb 1 n && leb n pool_limit) && (aligned-calls six places pool_limit cs && same (lines_from six places pool_limit n cs (fresh six)) ls)

-- a pool of n zeros
module _ (n : ℕ) where
  abbrev zeros : List ℕ
  zeros = replicate n 0

  -- a run from fresh on it
  abbrev Run : List Call → List Reply → Store → Type 0
  Run cs rs s = Runs six places pool_limit (fresh_reply six places pool_limit zeros).store cs rs s

  -- fresh accepts it
  fits : (leb 1 n && leb n pool_limit) ≡ true → (1 ≤ length zeros) × (length zeros ≤ pool_limit)
  fits e = let x = (and-eq-true_iff (leb 1 n) (leb n pool_limit)).0 e in rw (length-replicate {A = ℕ} n 0) (leb-true 1 n x.0, leb-true n pool_limit x.1)

  -- where the calls match the lines, the replies say them
  lines_are : {cs : List Call} {ls : List Line} → matches n cs ls ≡ true → (rs : List Reply) (s : Store) → Run cs rs s → map line_of rs ≡ ls
  unfolding matches
  lines_are {cs = cs} {ls = ls} e rs s g =
      let x = (and-eq-true_iff (leb 1 n && leb n pool_limit) (aligned-calls six places pool_limit cs && same (lines_from six places pool_limit n cs (fresh six)) ls)).0 e in
      let y = (and-eq-true_iff (aligned-calls six places pool_limit cs) (same (lines_from six places pool_limit n cs (fresh six)) ls)).0 x.1 in
      let z = fits x.0 in
      fresh_lines six places pool_limit six-multiplies small-six zeros z.0 z.1 cs rs s y.0 g
      ∙ ap (λ (k : ℕ). lines_from six places pool_limit k cs (fresh six)) (length-replicate n 0) ∙ same-is (lines_from six places pool_limit n cs (fresh six)) ls y.1

  -- THE PROMISES SAY WHAT THE TREE STORE SAYS
  says : {cs : List Call} {ls : List Line} → matches n cs ls ≡ true → Says n cs ls
  says e rs s g = (lines_are e rs s g, tt)

  -- ... and an accepted seed leaves the words that its stores write
  seeds : {a e u : ℕ} → matches n (seed a e ∷ []) (line 0 0 0 u ∷ []) ≡ true → (rs : List Reply) (s : Store) → Run (seed a e ∷ []) rs s
      → (map line_of rs ≡ line 0 0 0 u ∷ [])
      × (s.pool ≡ (seed_w six (address_frame six e - address_frame six a) (words (set zeros 0 (pack 0 0 (largest_code six) 0)) 1) (address_frame six a) (address_frame six e)).pool)
  unfolding matches
  seeds {a = a} {e = e} {u = u} t rs s g =
      let ls = line 0 0 0 u ∷ [] in
      let x = lines_are t rs s g in
      let z = fits ((and-eq-true_iff (leb 1 n && leb n pool_limit) (aligned-calls six places pool_limit (seed a e ∷ []) && same (lines_from six places pool_limit n (seed a e ∷ []) (fresh six)) ls)).0 t).0 in
      (x, seed-words six places pool_limit six-multiplies small-six zeros z.0 z.1 a e rs s u g x)

-- a test passes at 0 to 3
abbrev all_four : (ℕ → Bool) → Bool
all_four f = f 0 && (f 1 && (f 2 && f 3))

all-four-at : (f : ℕ → Bool) → all_four f ≡ true → (a : ℕ) → a < 4 → f a ≡ true
all-four-at f e a h = go a h ((and-eq-true_iff (f 0) (f 1 && (f 2 && f 3))).0 e)
  where
    go : (a : ℕ) → a < 4 → (f 0 ≡ true) × ((f 1 && (f 2 && f 3)) ≡ true) → f a ≡ true
    go zero h x = x.0
    go (suc zero) h x = ((and-eq-true_iff (f 1) (f 2 && f 3)).0 x.1).0
    go (suc (suc zero)) h x = ((and-eq-true_iff (f 2) (f 3)).0 ((and-eq-true_iff (f 1) (f 2 && f 3)).0 x.1).1).0
    go (suc (suc (suc zero))) h x = ((and-eq-true_iff (f 2) (f 3)).0 ((and-eq-true_iff (f 1) (f 2 && f 3)).0 x.1).1).1
    go (suc (suc (suc (suc a)))) h x = absurd (omega arith)

-- P8's calls for one order of the releases, and its lines
abbrev order : (a b c d : ℕ) → List Call
order a b c d = page16 ∷ acquire 1 ∷ acquire 1 ∷ acquire 1 ∷ acquire 1 ∷ back a ∷ back b ∷ back c ∷ back d ∷ acquire 2 ∷ []

abbrev merged : List Line
merged = line 0 0 0 1413 ∷ line 0 2147483648 7 1418 ∷ line 0 2147487744 8 1418 ∷ line 0 2147491840 9 1418 ∷ line 0 2147495936 10 1418 ∷ replicate 4 (line 0 0 0 1418) ++ (line 0 2147483648 6 1418 ∷ [])

-- the calls match them, where a, b, c, d are 0 to 3, each once
unfoldable ordered : (a b c d : ℕ) → Bool
ordered a b c d = cond (eqb (2 ^ a + 2 ^ b + 2 ^ c + 2 ^ d) 15) (matches 16384 (order a b c d) merged) true

-- they do in every order
every-order : all_four (λ a. all_four (λ b. all_four (λ c. all_four (λ d. ordered a b c d)))) ≡ true
unfolding ordered matches same lines_from bytes address_frame largest_code fan_out fan frames top probes maximum sum all first largest tree_words merge opened handed_on store remove pick any_free largest_fit seed_from used act tests step
every-order = refl

order-at : (a b c d : ℕ) → a < 4 → b < 4 → c < 4 → d < 4 → 2 ^ a + 2 ^ b + 2 ^ c + 2 ^ d ≡ 15 → matches 16384 (order a b c d) merged ≡ true
unfolding ordered
order-at a b c d ha hb hc hd e =
    let x = all-four-at (λ a. all_four (λ b. all_four (λ c. all_four (λ d. ordered a b c d)))) every-order a ha in
    let y = all-four-at (λ b. all_four (λ c. all_four (λ d. ordered a b c d))) x b hb in
    let z = all-four-at (λ d. ordered a b c d) (all-four-at (λ c. all_four (λ d. ordered a b c d)) y c hc) d hd in
    rw (eq-eqb (2 ^ a + 2 ^ b + 2 ^ c + 2 ^ d) 15 e) at z

-- the words that the seed of all memory leaves, and the journal's
root-110 : word (seed_w six (address_frame six (2 ^ 47) - address_frame six 0) (words (set (replicate 16384 0) 0 (pack 0 0 (largest_code six) 0)) 1) (address_frame six 0) (address_frame six (2 ^ 47))).pool 0 ≡ 110
unfolding address_frame bytes pack largest_code fan_out fan frames top largest_fit store_w seed_w
root-110 = refl

journal-words : (seed_w six (address_frame six 2147508224 - address_frame six 2147483648) (words (set (replicate 1423 0) 0 (pack 0 0 (largest_code six) 0)) 1) (address_frame six 2147483648) (address_frame six 2147508224)).pool
    ≡ document 226 33106 98754 164402 42 (of 5 0 ∷ [])
unfolding address_frame bytes pack largest_code
journal-words = ap (λ (w : Words). w.pool) seed-case

-- THE CASES AT THE FENCES
pub fences : Fences
unfolding matches same lines_from bytes address_frame largest_code fan_out fan frames top probes maximum sum all first largest tree_words merge opened handed_on store remove pick any_free largest_fit seed_from used act tests step
fences = record {
  P1 = p1;
  P2 = says 16384 refl;
  P3 = (λ rs s g. let x = seeds 16384 refl rs s g in (x.0, ap (λ (p : List ℕ). word p 0) x.1 ∙ root-110), says 16384 refl);
  P4 = says 16384 refl;
  P5 = says 16384 refl;
  P6 = λ rs s g. let x = seeds 1423 refl rs s g in (x.0, x.1 ∙ journal-words);
  P7 = says 16384 refl;
  P8 = λ a b c d ha hb hc hd e. says 16384 (order-at a b c d ha hb hc hd e);
  P9 = (says 1412 refl, says 1413 refl);
  P10 = says 16384 refl;
  P11 = says 16384 refl;
  P12 = says 16384 refl;
  part = (says 1413 refl, says 1418 refl);
}
