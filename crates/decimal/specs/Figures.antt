-- The marked figures of the specification that are about decimals, as a table.
use Rattle.std.specs.Prelude.{List, [], ◌∷◌, ℕ, ℤ, pos, negsuc}
use Rattle.rounding.specs.declared.Direction.TheVariants.{Down, Up}
use Rattle.decimal.specs.declared.Decimal.{Decimal}
use Rattle.decimal.specs.Decimal.{zero_of, mul_of, div_of, add_of, working_of}

-- what the definitions give, and the figure
pub record Figure : Type 0 where
  pub found : Decimal
  pub printed : Decimal

infixl 10 ◌is◌
abbrev pub ◌is◌ : Decimal → Decimal → Figure
d is p = record { found = d; printed = p }

-- m * 10^e
abbrev pub dec : ℕ → ℤ → Decimal
dec m e = record { m = m; e = e }

-- a whole number in its working form
abbrev pub whole : ℕ → Decimal
whole m = working_of (dec m (pos 0))

unfoldable pub figures : List Figure
figures =
    (div_of (whole 1) (whole 3) Down is dec 333333333 (negsuc 8)) ∷
    (div_of (whole 1) (whole 3) Up is dec 333333334 (negsuc 8)) ∷
    (div_of (whole 2) (whole 3) Up is dec 666666667 (negsuc 8)) ∷
    (mul_of (whole 999999999) (whole 999999999) Down is dec 999999998 (pos 9)) ∷
    (mul_of (whole 999999999) (whole 999999999) Up is dec 999999999 (pos 9)) ∷
    (add_of (whole 999999999) (whole 1) Down is dec 100000000 (pos 1)) ∷
    (add_of (whole 999999999) (whole 1) Up is dec 100000000 (pos 1)) ∷
    (add_of (whole 1) (working_of (dec 1 (negsuc 19))) Down is dec 100000000 (negsuc 7)) ∷
    (add_of (whole 1) (working_of (dec 1 (negsuc 19))) Up is dec 100000001 (negsuc 7)) ∷
    (add_of zero_of (whole 7) Down is dec 700000000 (negsuc 7)) ∷
    (add_of zero_of (whole 7) Up is dec 700000000 (negsuc 7)) ∷ []
