-- Decimals (docs/SPECIFICATION.md, "Decimals"): the pair (m, e) is worth m * 10^e. What an operand is, and the operations.
use Rattle.std.specs.Prelude.{Option, Some, None, Bool, cond, not, ◌&&◌, ℕ, ◌≤◌, ◌<◌, ◌-◌, pos, eqb, leb, List}
use Rattle.std.specs.List.{list_all}
use Rattle.std.proofs.Math.IntN.{sub_ℕ}
use Rattle.rounding.specs.Sizes.{nine_digits, ten_digits, bias}
use Rattle.rounding.specs.declared.Direction.{Direction}
use Rattle.rounding.specs.declared.Number.{Number}
use Rattle.rounding.specs.Number.{worth}
use Rattle.rounding.specs.Operations.{product_of, quotient_of, sum_of}
use Rattle.rounding.specs.WorkingForm.{nine_of}
use Rattle.decimal.specs.declared.Decimal.{Decimal}
use Rattle.decimal.specs.Exponent.{raise, raised}

-- (0, 0)
abbrev pub zero_of : Decimal
zero_of = record { m = 0; e = pos 0 }

-- ---- decimals and numbers with a biased exponent
-- an exponent outside -999 to 999 gives 0, which no operand has
abbrev pub biased_of : Decimal → Number
biased_of d = record { m = d.m; x = raised d.e }

abbrev pub decimal_of : Number → Decimal
decimal_of r = cond (eqb r.m 0) zero_of (record { m = r.m; e = sub_ℕ r.x bias })

-- what a number must be so that its decimal fits the fields
pub record Printable (r : Number) : Type 0 where
  pub digits : r.m < ten_digits
  pub exponent : r.x ≤ 10000

-- what d is worth, in units of 10^-3000
abbrev pub plain_of : Decimal → Number
plain_of d = record { m = d.m; x = raise d.e }

abbrev pub value_of : Decimal → ℕ
value_of d = worth (plain_of d)

-- ---- an operand: a working decimal, (0, 0) or m from 100,000,000 to 999,999,999, with e from -999 to 999
unfoldable pub is_operand : Number → Bool
is_operand r = cond (eqb r.m 0) (eqb r.x bias) (leb nine_digits r.m && (leb r.m (ten_digits - 1) && not (eqb r.x 0)))

-- every one of these decimals is an operand
abbrev pub all_operands : List Decimal → Bool
all_operands ds = list_all (λ (d : Decimal). is_operand (biased_of d)) ds

abbrev pub are_operands : Decimal → Decimal → Bool
are_operands a b = is_operand (biased_of a) && is_operand (biased_of b)

-- both with biased exponents, if both are operands
unfoldable pub operands_of : Decimal → Decimal → Option (Number × Number)
operands_of a b = cond (are_operands a b) (Some (biased_of a, biased_of b)) None

-- ---- multiplied, divided, added: the result rounded in the direction, or (0, 0) where an operand is none.
-- A zero divisor gives zero (`quotient_of`)
unfoldable pub mul_of : Decimal → Decimal → Direction → Decimal
mul_of a b dir = cond (are_operands a b) (decimal_of (product_of dir (biased_of a) (biased_of b))) zero_of

unfoldable pub div_of : Decimal → Decimal → Direction → Decimal
div_of a b dir = cond (are_operands a b) (decimal_of (quotient_of dir (biased_of a) (biased_of b))) zero_of

unfoldable pub add_of : Decimal → Decimal → Direction → Decimal
add_of a b dir = cond (are_operands a b) (decimal_of (sum_of dir (biased_of a) (biased_of b))) zero_of

-- ---- the working form of an input decimal; (0, 0) for what is none: m above 999,999,999 or e outside -999 to 999
unfoldable pub working_of : Decimal → Decimal
working_of d = cond (leb d.m (ten_digits - 1) && not (eqb (raised d.e) 0)) (decimal_of (nine_of (biased_of d))) zero_of

-- ---- whether a is worth at most b; false where one of them is no operand
unfoldable pub at_most_of : Decimal → Decimal → Bool
at_most_of a b = are_operands a b && leb (value_of a) (value_of b)
