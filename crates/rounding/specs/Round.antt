-- Rounding a fraction of naturals to nine digits in a direction: the computation, and what is asked of it.
use Rattle.std.specs.Prelude.{cond, ℕ, ◌+◌, ◌-◌, ◌*◌, ◌/◌, ◌^◌, ltb}
use Rattle.rounding.specs.Sizes.{ten_digits}
use Rattle.rounding.specs.declared.Direction.{Direction}
use Rattle.rounding.specs.declared.Direction.TheVariants.{Down, Up}
use Rattle.rounding.specs.declared.Number.{Number}
use Rattle.rounding.specs.Direction.{Side}
use Rattle.rounding.specs.Number.{worth, Working}

-- r is the greatest working decimal not above n / d (down), or the least not below it (up).
-- The other working decimals are w * 10^-j: with j at will that is every exponent
pub record Rounds (dir : Direction) (n d : ℕ) (r : Number) : Type 0 where
  pub working : Working r
  pub side : Side dir (worth r * d) n
  pub best : (w : Number) (j : ℕ) → Working w → Side dir (worth w * d) (n * 10 ^ j) → Side dir (worth w) (worth r * 10 ^ j)

-- what is added to a dividend: nothing, or the divisor less one
abbrev pub extra_of : Direction → ℕ → ℕ
extra_of Down d = 0
extra_of Up d = d - 1

-- the whole quotient n / d, rounded
abbrev pub divide_of : Direction → ℕ → ℕ → ℕ
divide_of dir n d = (n + extra_of dir d) / d

-- q * 10^x with nine digits, where q has nine or ten
unfoldable pub cut_of : Direction → ℕ → ℕ → Number
cut_of dir q x = cond (ltb q ten_digits) (record { m = q; x = x }) (record { m = divide_of dir q 10; x = x + 1 })

-- n / d * 10^x with nine digits, where n / d is zero or has nine or ten digits before its point
unfoldable pub round_of : Direction → ℕ → ℕ → ℕ → Number
round_of dir n d x = cut_of dir (divide_of dir n d) x
