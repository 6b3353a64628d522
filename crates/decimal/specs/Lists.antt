-- Products and sums of lists, from the left: rounded in a direction, and exactly.
use Rattle.std.specs.Prelude.{cond, List, [], ◌∷◌, eqb}
use Rattle.rounding.specs.declared.Direction.{Direction}
use Rattle.decimal.specs.declared.Decimal.{Decimal}
use Rattle.decimal.specs.Decimal.{zero_of, mul_of, add_of}
use Rattle.decimal.specs.Fraction.{Fraction, nothing, times, plus}

abbrev pub multiplied : Direction → Decimal → List Decimal → Decimal
multiplied dir a [] = a
multiplied dir a (b ∷ bs) = multiplied dir (mul_of a b dir) bs

-- a list of no factors has no product: zero
abbrev pub product_of : Direction → List Decimal → Decimal
product_of dir [] = zero_of
product_of dir (a ∷ bs) = multiplied dir a bs

-- summands added in order, zeros skipped
abbrev pub summed : Direction → Decimal → List Decimal → Decimal
summed dir a [] = a
summed dir a (b ∷ bs) = summed dir (cond (eqb b.m 0) a (add_of a b dir)) bs

-- all summands added in order
abbrev pub added : Direction → Decimal → List Decimal → Decimal
added dir a [] = a
added dir a (b ∷ bs) = added dir (add_of a b dir) bs

-- ---- every decimal on the way to a product, and to a sum
abbrev pub multiplied_steps : Direction → Decimal → List Decimal → List Decimal
multiplied_steps dir a [] = a ∷ []
multiplied_steps dir a (b ∷ bs) = a ∷ multiplied_steps dir (mul_of a b dir) bs

abbrev pub product_steps : Direction → List Decimal → List Decimal
product_steps dir [] = []
product_steps dir (a ∷ bs) = multiplied_steps dir a bs

abbrev pub summed_steps : Direction → Decimal → List Decimal → List Decimal
summed_steps dir a [] = a ∷ []
summed_steps dir a (b ∷ bs) = a ∷ summed_steps dir (cond (eqb b.m 0) a (add_of a b dir)) bs

-- ---- exactly
abbrev pub times_all : Fraction → List Fraction → Fraction
times_all p [] = p
times_all p (q ∷ qs) = times_all (times p q) qs

abbrev pub exact_product : List Fraction → Fraction
exact_product [] = nothing
exact_product (p ∷ ps) = times_all p ps

abbrev pub plus_all : Fraction → List Fraction → Fraction
plus_all p [] = p
plus_all p (q ∷ qs) = plus_all (plus p q) qs
