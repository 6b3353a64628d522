-- The rule of a decimal in a file or record: m at most 999,999,999, e from -20 to 20, and m = 0 only with e = 0.
use Rattle.std.specs.Prelude.{Bool, true, not, ◌&&◌, List, [], ◌∷◌, ◌+◌, ◌-◌, eqb, leb}
use Rattle.rounding.specs.Sizes.{ten_digits, bias}
use Rattle.decimal.specs.declared.Decimal.{Decimal}
use Rattle.decimal.specs.Exponent.{raised}

-- e is counted from -3000 here: 2980 is -20, 3000 is 0, 3020 is 20
unfoldable pub valid_of : Decimal → Bool
valid_of d = leb d.m (ten_digits - 1) && ((leb (bias - 20) (raised d.e) && leb (raised d.e) (bias + 20)) && not (eqb d.m 0 && not (eqb (raised d.e) bias)))

abbrev pub all_valid : List Decimal → Bool
all_valid [] = true
all_valid (d ∷ ds) = valid_of d && all_valid ds
