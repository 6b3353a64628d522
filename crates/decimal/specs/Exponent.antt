-- A signed exponent e as the natural number e + 3000.
use Rattle.std.specs.Prelude.{Bool, cond, ℕ, ◌+◌, ◌-◌, ℤ, pos, negsuc, leb, ltb}
use Rattle.rounding.specs.Sizes.{bias}

abbrev pub raise : ℤ → ℕ
raise (pos n) = bias + n
raise (negsuc n) = bias - 1 - n

-- e from -999 to 999
abbrev pub in_range : ℤ → Bool
in_range (pos n) = leb n 999
in_range (negsuc n) = ltb n 999

-- e + 3000 for e from -999 to 999, else 0
abbrev pub raised : ℤ → ℕ
raised e = cond (in_range e) (raise e) 0
