-- A number of nine digits with a biased exponent: (m, x) stands for m * 10^(x - 3000).
use Rattle.std.specs.Prelude.{◌≡◌, Bool, cond, ◌⊎◌, ℕ, ◌+◌, ◌*◌, ◌^◌, ◌≤◌, ◌<◌, min, max, ◌-◌, eqb, leb}
use Rattle.rounding.specs.Sizes.{nine_digits, ten_digits, bias}
use Rattle.rounding.specs.declared.Number.{Number}

-- the value, in units of 10^-3000
abbrev pub worth : Number → ℕ
worth r = r.m * 10 ^ r.x

-- 1 in these units. It stays shut in proofs: written out it is too long for `omega`
unfoldable pub one : ℕ
one = 10 ^ bias

-- m from 100,000,000 to 999,999,999
pub record Nine (r : Number) : Type 0 where
  pub least : nine_digits ≤ r.m
  pub most : r.m < ten_digits

-- a working decimal: zero, or nine digits
abbrev pub Working : Number → Type 0
Working r = (r.m ≡ 0) ⊎ Nine r

-- what the operations ask of an operand: at most nine digits, and an exponent from -999 to 999
pub record InRange (r : Number) : Type 0 where
  pub most : r.m < ten_digits
  pub low : bias - 1000 < r.x
  pub high : r.x < bias + 1000

-- what the operations say of a result beside its value: the exponent is x or one more
pub record Result (x : ℕ) (r : Number) : Type 0 where
  pub most : r.m < ten_digits
  pub low : x ≤ r.x
  pub high : r.x ≤ x + 1

-- the same of a sum: the exponent is that of a summand, or one more
pub record SumResult (p q r : Number) : Type 0 where
  pub most : r.m < ten_digits
  pub low : min p.x q.x ≤ r.x
  pub high : r.x ≤ max p.x q.x + 1

-- the exponent as it counts in an order: zero comes before every other number
abbrev pub rank_of : Number → ℕ
rank_of r = cond (eqb r.m 0) 0 r.x

-- whether p is worth at most q
abbrev pub at_most_of : Number → Number → Bool
at_most_of p q = leb (worth p) (worth q)
