-- The product, the quotient and the sum of two numbers in range. Exponents are biased by 3000.
use Rattle.std.specs.Prelude.{cond, ℕ, ◌+◌, ◌-◌, ◌*◌, ◌^◌, leb}
use Rattle.rounding.specs.Sizes.{nine_digits, bias}
use Rattle.rounding.specs.declared.Direction.{Direction}
use Rattle.rounding.specs.declared.Number.{Number}
use Rattle.rounding.specs.Number.{rank_of}
use Rattle.rounding.specs.Round.{round_of}

unfoldable pub product_of : Direction → Number → Number → Number
product_of dir p q = round_of dir (p.m * q.m) 100000000 (p.x + q.x - (bias - 8))

-- the dividend and the divisor of a quotient: a divisor of fewer than nine digits is zero, and gives zero
abbrev pub dividend_of : Number → Number → ℕ
dividend_of p q = cond (leb nine_digits q.m) (p.m * 1000000000) 0

abbrev pub divisor_of : Number → ℕ
divisor_of q = cond (leb nine_digits q.m) q.m 1

unfoldable pub quotient_of : Direction → Number → Number → Number
quotient_of dir p q = round_of dir (dividend_of p q) (divisor_of q) (p.x + (bias - 9) - q.x)

-- p + q, where q does not come after p in the order of exponents: both over the power of ten between them
abbrev pub gap_of : Number → Number → ℕ
gap_of p q = rank_of p - rank_of q

unfoldable pub aligned_of : Direction → Number → Number → Number
aligned_of dir p q = round_of dir (p.m * 10 ^ gap_of p q + q.m) (10 ^ gap_of p q) p.x

unfoldable pub sum_of : Direction → Number → Number → Number
sum_of dir p q = cond (leb (rank_of q) (rank_of p)) (aligned_of dir p q) (aligned_of dir q p)
