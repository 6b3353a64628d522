-- Decimals as text (docs/SPECIFICATION.md, "Listing"): the first digit of m, a point, the other eight digits, E, a sign and the size of e + 8.
use Rattle.std.specs.Prelude.{ℕ, ◌-◌, ◌/◌, ◌%◌, List, [], ◌∷◌, ◌++◌, cond, eqb, ltb}
use Rattle.rounding.specs.Sizes.{bias}
use Rattle.decimal.specs.declared.Decimal.{Decimal}
use Rattle.decimal.specs.Exponent.{raised}
use Rattle.text.specs.Numbers.{digit, number_text}

-- the nine digits of m, a point after the first
unfoldable pub digits_text : ℕ → List ℕ
digits_text m =
    digit (m / 100000000 % 10) ∷ (46 ∷ (digit (m / 10000000 % 10) ∷ (digit (m / 1000000 % 10) ∷ (digit (m / 100000 % 10) ∷ (digit (m / 10000 % 10) ∷
    (digit (m / 1000 % 10) ∷ (digit (m / 100 % 10) ∷ (digit (m / 10 % 10) ∷ (digit (m % 10) ∷ [])))))))))

-- E, a sign and the size of e + 8, where x is e counted from -3000: 2992 is e = -8, printed E+0
unfoldable pub exponent_text : ℕ → List ℕ
exponent_text x = 69 ∷ cond (ltb x (bias - 8)) (45 ∷ number_text ((bias - 8) - x)) (43 ∷ number_text (x - (bias - 8)))

unfoldable pub decimal_text : Decimal → List ℕ
decimal_text d = digits_text d.m ++ exponent_text (raised d.e)

-- a guideline, "-" where absent; a sum, 0 where it is zero
unfoldable pub or_else : ℕ → Decimal → List ℕ
or_else mark d = cond (eqb d.m 0) (mark ∷ []) (decimal_text d)
