-- How far the exponent of a number may go from -8 in the code, to either side: what its functions ask of numbers and say of them. The
-- ranges of the definitions, which are narrower, are in formulas specs/Limits.antt.
use Rattle.std.specs.Prelude.{ℕ, ◌+◌}
use Rattle.inputs.specs.Rules.{most_contaminants}

-- an input
abbrev pub input_width : ℕ
input_width = 28

-- the product of two inputs, or their quotient, and the product of three
abbrev pub two_width : ℕ
two_width = input_width + input_width + 1

abbrev pub three_width : ℕ
three_width = two_width + input_width + 1

-- what leads from soil or water to the air: B, the sum of two quotients, or 0.5
abbrev pub air_width : ℕ
air_width = two_width + 1

-- and its product with two inputs
abbrev pub intake_width : ℕ
intake_width = air_width + input_width + input_width + 2

-- H: its second part, a product of four over a product of two, and the sum of both parts
abbrev pub four_width : ℕ
four_width = three_width + input_width + 1

abbrev pub shower_width : ℕ
shower_width = four_width + two_width + 1

abbrev pub hours_width : ℕ
hours_width = shower_width + 1

-- G: a part, a product of three over an input, and the sum of both
abbrev pub age_width : ℕ
age_width = three_width + input_width + 1

abbrev pub ages_width : ℕ
ages_width = age_width + 1

-- what may be multiplied twice
abbrev pub middle_width : ℕ
middle_width = 300

-- a formula
abbrev pub formula_width : ℕ
formula_width = 600

-- the share of a record: a concentration times the sum of three terms
abbrev pub share_width : ℕ
share_width = formula_width + 3 + input_width + 1

-- the sums over all records, an addition for each
abbrev pub sum_width : ℕ
sum_width = share_width + (most_contaminants + 1)
