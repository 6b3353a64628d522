-- The sizes that every number has: nine digits, and an exponent counted from -3000.
use Rattle.std.specs.Prelude.{ℕ}

-- the least number of nine digits, and the least of ten
abbrev pub nine_digits : ℕ
nine_digits = 100000000

abbrev pub ten_digits : ℕ
ten_digits = 1000000000

-- the exponent e is kept as e + 3000
abbrev pub bias : ℕ
bias = 3000
