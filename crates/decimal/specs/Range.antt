-- A range of exponents around -8, the exponent of a working decimal near 1: from -8 - below to -8 + above. What the operations make of it.
use Rattle.std.specs.Prelude.{Bool, ◌&&◌, ℕ, ◌+◌, ◌≤◌, leb}

pub record Range : Type 0 where
  pub below : ℕ
  pub above : ℕ

-- the range with these ends
abbrev pub ends : ℕ → ℕ → Range
ends l h = record { below = l; above = h }

-- e from -999 to 983: inside -999 to 999, which an operand may have, and as far to one side as to the other, so that it serves divisors too
abbrev pub operand_range : Range
operand_range = ends 991 991

-- of a product, and of a quotient
abbrev pub product_range : Range → Range → Range
product_range v w = ends (v.below + w.below) (v.above + w.above + 1)

abbrev pub quotient_range : Range → Range → Range
quotient_range v w = ends (v.below + w.above + 1) (v.above + w.below)

-- of a product of more factors: of the first, and of all that the others add, each of them its own range and one above
abbrev pub joined_range : Range → Range → Range
joined_range v w = ends (v.below + w.below) (v.above + w.above)

-- of a sum after n additions: it never goes below its least summand, so only the upper end grows
abbrev pub added_range : ℕ → Range → Range
added_range n w = ends w.below (w.above + n)

-- every exponent of v is one of w
pub record Covers (w v : Range) : Type 0 where
  pub low : v.below ≤ w.below
  pub high : v.above ≤ w.above

abbrev pub covers_test : Range → Range → Bool
covers_test w v = leb v.below w.below && leb v.above w.above
