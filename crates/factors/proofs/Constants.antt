-- The constants of the code are the working forms of the constants of the formulas. Assumes nothing.
use mathlib.Core.Path.{refl}
use mathlib.Core.Logic.{inr}
use Prim.Native.Nat.{ℕ}
use lib.Dec.{lit<, lit≤}
use lib.IntN.{ℤ, pos, negsuc}
use Rattle.rounding.specs.declared.Number.{Number}
use Rattle.rounding.specs.WorkingForm.{nine_of}
use Rattle.factors.specs.Widths.{input_width}
use Rattle.decimal.specs.declared.Decimal.{Decimal}
use Rattle.decimal.specs.Decimal.{working_of}
use Rattle.factors.specs.Stands.{Stands}

abbrev pub num : ℕ → ℕ → Number
num m x = record { m = m; x = x }

abbrev dec : ℕ → ℤ → Decimal
dec m e = record { m = m; e = e }

-- each constant is one of nine digits near 10^-8

pub unit_stands : Stands input_width (num 100000000 2992) (working_of (dec 1 (pos 0)))
unfolding working_of nine_of
unit_stands = record { is = refl; working = inr (record { least = lit≤ tt; most = lit< tt }); most = lit< tt; low = lit≤ tt; high = lit≤ tt }

pub millionth_stands : Stands input_width (num 100000000 2986) (working_of (dec 1 (negsuc 5)))
unfolding working_of nine_of
millionth_stands = record { is = refl; working = inr (record { least = lit≤ tt; most = lit< tt }); most = lit< tt; low = lit≤ tt; high = lit≤ tt }

pub thousandth_stands : Stands input_width (num 100000000 2989) (working_of (dec 1 (negsuc 2)))
unfolding working_of nine_of
thousandth_stands = record { is = refl; working = inr (record { least = lit≤ tt; most = lit< tt }); most = lit< tt; low = lit≤ tt; high = lit≤ tt }

pub half_stands : Stands input_width (num 500000000 2991) (working_of (dec 5 (negsuc 0)))
unfolding working_of nine_of
half_stands = record { is = refl; working = inr (record { least = lit≤ tt; most = lit< tt }); most = lit< tt; low = lit≤ tt; high = lit≤ tt }

pub years_per_hour_stands : Stands input_width (num 114000000 2988) (working_of (dec 114 (negsuc 5)))
unfolding working_of nine_of
years_per_hour_stands = record { is = refl; working = inr (record { least = lit≤ tt; most = lit< tt }); most = lit< tt; low = lit≤ tt; high = lit≤ tt }

pub thousand_stands : Stands input_width (num 100000000 2995) (working_of (dec 1 (pos 3)))
unfolding working_of nine_of
thousand_stands = record { is = refl; working = inr (record { least = lit≤ tt; most = lit< tt }); most = lit< tt; low = lit≤ tt; high = lit≤ tt }

pub days_stands : Stands input_width (num 365000000 2994) (working_of (dec 365 (pos 0)))
unfolding working_of nine_of
days_stands = record { is = refl; working = inr (record { least = lit≤ tt; most = lit< tt }); most = lit< tt; low = lit≤ tt; high = lit≤ tt }

pub hours_per_day_stands : Stands input_width (num 240000000 2993) (working_of (dec 24 (pos 0)))
unfolding working_of nine_of
hours_per_day_stands = record { is = refl; working = inr (record { least = lit≤ tt; most = lit< tt }); most = lit< tt; low = lit≤ tt; high = lit≤ tt }
