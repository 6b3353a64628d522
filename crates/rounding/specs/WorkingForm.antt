-- The working form of a number of one to nine digits: the same value with nine digits.
use Rattle.std.specs.Prelude.{cond, ℕ, ◌+◌, ◌-◌, ◌*◌, ◌^◌, ◌≤◌, ◌<◌, ltb}
use Rattle.rounding.specs.Sizes.{ten_digits}
use Rattle.rounding.specs.declared.Number.{Number}

-- multiplied by 10^k where that leaves at most nine digits
abbrev pub raise_by : ℕ → Number → Number
raise_by k r = cond (ltb (r.m * 10 ^ k) ten_digits) (record { m = r.m * 10 ^ k; x = r.x - k }) r

unfoldable pub nine_of : Number → Number
nine_of r = raise_by 1 (raise_by 2 (raise_by 4 (raise_by 4 r)))

-- what is said of the working form beside its value: the exponent is at most 11 less (8 less for a nonzero m)
pub record NineResult (r s : Number) : Type 0 where
  pub most : s.m < ten_digits
  pub low : r.x ≤ s.x + 11
  pub high : s.x ≤ r.x
