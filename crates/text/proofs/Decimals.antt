-- The parts of a decimal's text, and how long it is. Assumes nothing.
use mathlib.Core.Path.{◌≡◌, refl}
use mathlib.Core.List.{[], ◌∷◌, ◌++◌}
use mathlib.Core.Bool.{Bool, true, false, cond}
use Prim.Native.Nat.{ℕ, ◌-◌, ◌/◌, ◌%◌, ◌≤◌, ◌<◌}
use native.Mathlib.Nat.{div-div-eq-div-mul}
use native.Mathlib.Omega.{arith}
use lib.ListN.{length, length-append}
use lib.Dec.{eqb, ltb}
use lib.IntN.{ℤ}
use borrow.Author.Tests.{lt-ltb, le-ltb, eq-eqb, ne_eqb, eqb-true, eqb-false}
use Rattle.decimal.specs.declared.Decimal.{Decimal}
use Rattle.decimal.specs.Exponent.{raised}
use Rattle.decimal.proofs.Bias.{raised_bounds}
use Rattle.text.specs.Numbers.{digit, last_digits, number_text}
use Rattle.text.specs.Decimals.{digits_text, exponent_text, decimal_text, or_else}
use Rattle.text.proofs.Numbers.{number_one, number_more, number_short, tenth_short, last_length}

-- ---- the nine digits: the first, a point, and the last eight
pub digits_are : (m : ℕ) → digits_text m ≡ digit (m / 100000000 % 10) ∷ (46 ∷ last_digits 8 m)
unfolding digits_text last_digits
digits_are m = simp div-div-eq-div-mul

-- the last eight are two times four
pub digits_fours : (m : ℕ) → digits_text m ≡ digit (m / 100000000 % 10) ∷ (46 ∷ (last_digits 4 (m / 10000) ++ last_digits 4 m))
unfolding digits_text last_digits
digits_fours m = simp div-div-eq-div-mul

pub digits_length : (m : ℕ) → length (digits_text m) ≡ 10
unfolding digits_text
digits_length m = refl

-- ---- the exponent
pub exponent_below : (x : ℕ) → x < 2992 → exponent_text x ≡ 69 ∷ (45 ∷ number_text (2992 - x))
unfolding exponent_text
exponent_below x h = simp (lt-ltb x 2992 h)

pub exponent_above : (x : ℕ) → 2992 ≤ x → exponent_text x ≡ 69 ∷ (43 ∷ number_text (x - 2992))
unfolding exponent_text
exponent_above x h = simp (le-ltb x 2992 h)

-- a raised exponent is below 4000
pub raised_small : (e : ℤ) → raised e < 4000
raised_small e = cases (eqb (raised e) 0) refl
  where
    cases : (b : Bool) → eqb (raised e) 0 ≡ b → raised e < 4000
    cases true z = omega (arith, eqb-true (raised e) 0 z)
    cases false z = (raised_bounds e (eqb-false (raised e) 0 z)).1

-- ---- the decimal, or its mark
pub decimal_zero : (mark : ℕ) (d : Decimal) → d.m ≡ 0 → or_else mark d ≡ mark ∷ []
unfolding or_else
decimal_zero mark d h = simp (eq-eqb d.m 0 h)

pub decimal_other : (mark : ℕ) (d : Decimal) → (d.m ≡ 0 → ⊥) → or_else mark d ≡ digits_text d.m ++ exponent_text (raised d.e)
unfolding or_else decimal_text
decimal_other mark d h = simp (ne_eqb d.m 0 h)

-- ---- lengths
exponent_short : (x : ℕ) → x < 4000 → length (exponent_text x) ≤ 6
unfolding exponent_text
exponent_short x h = cases (ltb x 2992)
  where
    cases : (b : Bool) → length (69 ∷ cond b (45 ∷ number_text (2992 - x)) (43 ∷ number_text (x - 2992))) ≤ 6
    cases true = omega (arith, number_short 3 (2992 - x) (omega arith))
    cases false = omega (arith, number_short 3 (x - 2992) (omega arith))

-- at most 16 bytes
pub decimal_short : (mark : ℕ) (d : Decimal) → length (or_else mark d) ≤ 16
unfolding or_else decimal_text
decimal_short mark d = cases (eqb d.m 0)
  where
    cases : (b : Bool) → length (cond b (mark ∷ []) (digits_text d.m ++ exponent_text (raised d.e))) ≤ 16
    cases true = omega arith
    cases false = simp length-append (omega (arith, digits_length d.m, exponent_short (raised d.e) (raised_small d.e)))

-- what the check has to know of the texts, in order that it finds the proofs of the functions alone
pub ruleset decimals = (number_one, number_more, tenth_short, last_length, digits_fours, exponent_below, exponent_above, digits_length, decimal_zero, decimal_other)
