-- The digits of a number: the last digit stands behind those of the tenth, and how many there are. Assumes nothing.
use mathlib.Core.Path.{◌≡◌, refl, sym, ap, ◌∙◌}
use mathlib.Core.List.{List, [], ◌∷◌, ◌++◌}
use mathlib.Core.Bool.{Bool, true, false, cond}
use Prim.Native.Nat.{ℕ, zero, suc, ◌-◌, ◌*◌, ◌^◌, ◌/◌, ◌%◌, ◌≤◌, ◌<◌}
use native.Mathlib.Nat.{pow-suc, div-div-eq-div-mul}
use native.Mathlib.Numerals.{sub-one}
use native.Mathlib.Omega.{arith}
use lib.ListN.{length, length-append}
use lib.Dec.{ltb}
use borrow.Author.Tests.{lt-ltb, le-ltb}
use Rattle.text.specs.Numbers.{digit, digits_of, number_text, last_digits}

-- a tenth has a digit less
tenth : (k n : ℕ) → n < 10 ^ suc k → n / 10 < 10 ^ k
tenth k n h = let p : 10 ^ suc k ≡ 10 ^ k * 10 = pow-suc 10 k in omega (arith, p)

-- ---- one digit, or the last behind the others
pub number_one : (n : ℕ) → n < 10 → number_text n ≡ digit n ∷ []
unfolding number_text digits_of
number_one n h = simp (lt-ltb n 10 h)

-- a number of k digits is spelt the same where one more is allowed
same_digits : (k n : ℕ) → n < 10 ^ suc k → digits_of (suc (suc k)) n ≡ digits_of (suc k) n
unfolding digits_of
same_digits zero n h = simp (lt-ltb n 10 h)
same_digits (suc k) n h = ap (λ (l : List ℕ). cond (ltb n 10) (digit n ∷ []) (l ++ (digit (n % 10) ∷ []))) (same_digits k (n / 10) (tenth (suc k) n h))

digits_more : (k n : ℕ) → 10 ≤ n → digits_of (suc k) n ≡ digits_of k (n / 10) ++ (digit (n % 10) ∷ [])
unfolding digits_of
digits_more k n h = simp (le-ltb n 10 h)

pub number_more : (n : ℕ) → 10 ≤ n → n < 10000000000 → number_text n ≡ number_text (n / 10) ++ (digit (n % 10) ∷ [])
unfolding number_text
number_more n g h = digits_more 9 n g ∙ ap (λ (l : List ℕ). l ++ (digit (n % 10) ∷ [])) (sym (same_digits 8 (n / 10) (omega arith)))

-- ---- how many there are: one more than a tenth has
last_most : (b : Bool) (n k : ℕ) (l : List ℕ) → length l ≤ k → length (cond b (digit n ∷ []) (l ++ (digit (n % 10) ∷ []))) ≤ suc k
last_most true n k l h = omega arith
last_most false n k l h = simp length-append (omega arith)

digits_most : (k n : ℕ) → length (digits_of k n) ≤ k
unfolding digits_of
digits_most zero n = omega arith
digits_most (suc k) n = last_most (ltb n 10) n k (digits_of k (n / 10)) (digits_most k (n / 10))

pub number_most : (n : ℕ) → length (number_text n) ≤ 10
unfolding number_text
number_most n = digits_most 10 n

last_some : (b : Bool) (n : ℕ) (l : List ℕ) → 1 ≤ length (cond b (digit n ∷ []) (l ++ (digit (n % 10) ∷ [])))
last_some true n l = omega arith
last_some false n l = simp length-append (omega arith)

pub number_some : (n : ℕ) → 1 ≤ length (number_text n)
unfolding number_text digits_of
number_some n = last_some (ltb n 10) n (digits_of 9 (n / 10))

-- a number below 10^k has at most k, for k from 1 on
digits_short : (k m n : ℕ) → n < 10 ^ suc k → length (digits_of m n) ≤ suc k
unfolding digits_of
digits_short k zero n h = omega arith
digits_short zero (suc m) n h = simp (lt-ltb n 10 h) (omega arith)
digits_short (suc k) (suc m) n h = last_most (ltb n 10) n (suc k) (digits_of m (n / 10)) (digits_short k m (n / 10) (tenth (suc k) n h))

pub number_short : (k n : ℕ) → n < 10 ^ suc k → length (number_text n) ≤ suc k
unfolding number_text
number_short k n h = digits_short k 10 n h

-- the tenth of a number of 32 bits leaves room for one more
pub tenth_short : (n : ℕ) → n < 10000000000 → length (number_text (n / 10)) ≤ 9
tenth_short n h = number_short 8 (n / 10) (omega arith)

-- ---- the last digits
pub last_none : (k n : ℕ) → k ≡ 0 → last_digits k n ≡ []
unfolding last_digits
last_none k n e = rw e

pub last_more : (k n : ℕ) → 0 < k → last_digits k n ≡ last_digits (k - 1) (n / 10) ++ (digit (n % 10) ∷ [])
unfolding last_digits
last_more zero n h = absurd (omega arith)
last_more (suc k) n h = simp sub-one

pub last_length : (k n : ℕ) → length (last_digits k n) ≡ k
unfolding last_digits
last_length zero n = refl
last_length (suc k) n = simp (length-append, last_length k (n / 10)) (omega arith)

-- four of them, each by its weight
pub four_are : (n : ℕ) → last_digits 4 n ≡ digit (n / 1000 % 10) ∷ (digit (n / 100 % 10) ∷ (digit (n / 10 % 10) ∷ (digit (n % 10) ∷ [])))
unfolding last_digits
four_are n = simp div-div-eq-div-mul
