-- Laws of the printed lines: the fewest digits of a number, and a line made by putting one part behind another. Assumes nothing.
use mathlib.Core.Path.{◌≡◌, refl, sym, ap, subst, ◌∙◌}
use mathlib.Core.Bool.{Bool, true, false, cond}
use mathlib.Core.List.{List, [], ◌∷◌, ◌++◌, append_assoc, append-nil}
use Prim.Native.Nat.{ℕ, zero, suc, ◌+◌, ◌-◌, ◌*◌, ◌/◌, ◌^◌, ◌≤◌, ◌<◌}
use native.Mathlib.Nat.{pow-suc, pow-le-pow_right, le-div_iff_mul-le, div-lt_iff_lt-mul, add-zero}
use native.Mathlib.Numerals.{add-one}
use native.Mathlib.Omega.{arith}
use lib.Dec.{ltb}
use lib.ListN.{length, take, drop, get_or, set, length-append}
use lib.Seq.{take-suc, take-suc-set, drop-drop, drop-set-lt}
use Rattle.std.proofs.lemmas.Slice.{take-put_mid, drop-put_mid}
use borrow.Author.Tests.{ltb-true, ltb-false}
use Rattle.io.specs.Digits.{last_digits, IsDigitCount}
use Rattle.journal.specs.Lines.{width, decimal, spaced, printed, Put}

-- a number of two digits or more is no less than the power of ten that has as many
reaches : (n k : ℕ) → IsDigitCount 10 1 n (suc (suc k)) → 10 ^ suc k ≤ n
reaches n k f =
    let e : suc (suc k) - 1 ≡ suc k = omega arith in
    subst (λ (j : ℕ). 10 ^ j ≤ n) e (f.2 (omega arith))

-- a number below 10 has one digit
one-digit : (n k : ℕ) → IsDigitCount 10 1 n k → n < 10 → k ≡ 1
one-digit n zero f h = omega (arith, f.0)
one-digit n (suc zero) f h = refl
one-digit n (suc (suc k)) f h =
    let p : 10 ^ 1 ≤ 10 ^ suc k = pow-le-pow_right (omega arith) {i = 1} {j = suc k} (omega arith) in
    omega (arith, reaches n k f)

-- a number below a power of ten, and its tenth
tenth-below : (n k : ℕ) → n < 10 ^ suc k → n / 10 < 10 ^ k
tenth-below n k h = (div-lt_iff_lt-mul {k = 10} (omega arith)).1 (subst (λ (p : ℕ). n < p) (pow-suc 10 k) h)

-- the tenth of a number has a digit less
tenth : (n k : ℕ) → IsDigitCount 10 1 n (suc (suc k)) → IsDigitCount 10 1 (n / 10) (suc k)
tenth n k f =
    let e : k ≡ suc k - 1 = omega arith in
    let low : 10 ^ k * 10 ≤ n = subst (λ (p : ℕ). p ≤ n) (pow-suc 10 k) (reaches n k f) in
    (omega arith, tenth-below n (suc k) f.1, λ h. subst (λ (j : ℕ). 10 ^ j ≤ n / 10) e ((le-div_iff_mul-le {k = 10} (omega arith)).1 low))

-- one digit below ten, else one more than the tenth has, which are w
by_ten : (n w : ℕ) (t : Bool) → ltb n 10 ≡ t → (k : ℕ) → IsDigitCount 10 1 n k → ((j : ℕ) → IsDigitCount 10 1 (n / 10) j → j ≡ w) → k ≡ cond t 1 (suc w)
by_ten n w true e k f next = one-digit n k f (ltb-true n 10 e)
by_ten n w false e zero f next = omega (arith, f.0)
by_ten n w false e (suc zero) f next = omega (arith, f.1, ltb-false n 10 e)
by_ten n w false e (suc (suc k)) f next = ap suc (next (suc k) (tenth n k f))

-- the fewest digits of a number are as many as its width
fewest-width : (m n k : ℕ) → IsDigitCount 10 1 n k → n < 10 ^ suc m → k ≡ width m n
unfolding width
fewest-width zero n k f h = one-digit n k f (omega arith)
fewest-width (suc m) n k f h = by_ten n (width m (n / 10)) (ltb n 10) refl k f (λ j g. fewest-width m (n / 10) j g (tenth-below n (suc m) h))

-- the fewest digits of a number of 64 bits are its decimal
pub fewest_decimal : (n k : ℕ) → n < 2 ^ 64 → IsDigitCount 10 1 n k → decimal n ≡ last_digits 10 k n
unfolding decimal
fewest_decimal n k h f = ap (λ (j : ℕ). last_digits 10 j n) (sym (fewest-width 19 n k f (omega arith)))

-- ... as a text that has that many digits says it
pub fewest-decimal : (n k : ℕ) (x : List ℕ) → n < 2 ^ 64 → IsDigitCount 10 1 n k → x ≡ last_digits 10 k n → x ≡ decimal n
fewest-decimal n k x h f e = e ∙ sym (fewest_decimal n k h f)

-- what stays from an index on stays from a later one on
rest-later : (a b : List ℕ) (r s : ℕ) → r ≤ s → drop r a ≡ drop r b → drop s a ≡ drop s b
rest-later a b r s h e =
    let k : s ≡ r + (s - r) = omega arith in
    rw k (sym (drop-drop (s - r) r a) ∙ ap (drop (s - r)) e ∙ drop-drop (s - r) r b)

-- nothing is put
pub put-none : (d : List ℕ) (at : ℕ) → Put d at [] at d
put-none d at = record { index = sym (add-zero at); bytes = sym (append-nil (take at d)); rest = refl }

-- a text that is put, said in another way
pub put_as : {d t a : List ℕ} {at r : ℕ} (u : List ℕ) (s : ℕ) → t ≡ u → r ≡ s → Put d at t r a → Put d at u s a
put_as {d} {t} {a} {at} {r} u s e f p = subst (λ (x : List ℕ). Put d at x s a) e (subst (λ (j : ℕ). Put d at t j a) f p)

-- a byte is put
pub put_byte : (d : List ℕ) (at x : ℕ) → at < length d → Put d at (x ∷ []) (suc at) (set d at x)
put_byte d at x h = record {
  index = omega arith;
  bytes = take-suc-set d at x h;
  rest = drop-set-lt (suc at) d at x (omega arith);
}

-- one text is put behind another
pub put_then : {d t a u z : List ℕ} {at r s : ℕ} → Put d at t r a → Put a r u s z → Put d at (t ++ u) s z
put_then {d} {t} {a} {u} {z} {at} {r} {s} p q = record {
  index = omega (arith, p.index, q.index, length-append t u);
  bytes = q.bytes ∙ ap (λ (x : List ℕ). x ++ u) p.bytes ∙ append_assoc (take at d) t u;
  rest = q.rest ∙ rest-later a d r s (omega (arith, q.index)) p.rest;
}

-- what is copied into a part stands behind the bytes before it
pub ruleset middle = (take-put_mid, drop-put_mid)

-- the numbers of two lists
spaced-append : (xs ys : List ℕ) → spaced (xs ++ ys) ≡ spaced xs ++ spaced ys
unfolding spaced
spaced-append [] ys = refl
spaced-append (x ∷ xs) ys = ap (λ (s : List ℕ). (32 ∷ decimal x) ++ s) (spaced-append xs ys) ∙ sym (append_assoc (32 ∷ decimal x) (spaced xs) (spaced ys))

-- one number behind some
spaced-more : (ns : List ℕ) (i : ℕ) → i < length ns → spaced (take (i + 1) ns) ≡ spaced (take i ns) ++ (32 ∷ decimal (get_or ns i 0))
unfolding spaced
spaced-more ns i h = rw (add-one i, take-suc ns i 0 h) (spaced-append (take i ns) (get_or ns i 0 ∷ []) ∙ ap (λ (s : List ℕ). spaced (take i ns) ++ s) (append-nil (32 ∷ decimal (get_or ns i 0))))

-- before the first number
pub number_none : (d : List ℕ) (at : ℕ) → Put d at (spaced []) at d
unfolding spaced
number_none d at = put-none d at

-- a space and a number, put behind the first numbers
pub number_more : {d a b c : List ℕ} {at r s u : ℕ} (ns : List ℕ) (i : ℕ) → i < length ns → Put d at (spaced (take i ns)) r a → Put a r (32 ∷ []) s b → Put b s (decimal (get_or ns i 0)) u c → Put d at (spaced (take (i + 1) ns)) u c
number_more ns i h p q n = rw (spaced-more ns i h) (put_then p (put_then q n))

-- the parts of a line, put one behind the other
pub line_printed : {d a b c e f : List ℕ} {at i j k l m : ℕ} (n : ℕ) (name ns : List ℕ) → Put d at (decimal n) i a → Put a i (32 ∷ []) j b → Put b j name k c → Put c k (spaced ns) l e → Put e l (10 ∷ []) m f → Put d at (printed n name ns) m f
unfolding printed
line_printed n name ns pn ps pt pr pe = put_then pn (put_then (put_then ps pt) (put_then pr pe))
