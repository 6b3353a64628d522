-- The limits that the proofs allow, each named once: how many roundings a value may take, and the range of its exponent. Every formula of the
-- table and every factor that is worked out keeps them, by a computed test of each list (formulas proofs/Sound.antt).
use Rattle.std.specs.Prelude.{ℕ, ◌+◌}
use Rattle.decimal.specs.Range.{Range, ends, product_range, quotient_range, added_range}
use Rattle.inputs.specs.Rules.{most_contaminants}

-- an input in its working form, from 10^-20 to below 10^29: exact
abbrev pub input_range : Range
input_range = ends 20 28

-- a part of a factor that is worked out, and the sum of two parts
abbrev pub part_roundings : ℕ
part_roundings = 5

abbrev pub part_range : Range
part_range = ends 160 180

abbrev pub worked_roundings : ℕ
worked_roundings = part_roundings + 2

abbrev pub worked_range : Range
worked_range = added_range 2 part_range

-- a formula
abbrev pub formula_roundings : ℕ
formula_roundings = 15

abbrev pub formula_range : Range
formula_range = ends 365 400

-- the sum of three terms
abbrev pub total_roundings : ℕ
total_roundings = formula_roundings + 3

abbrev pub total_range : Range
total_range = added_range 3 formula_range

-- a guideline, which is a target over it, and a share, which is a concentration times it
abbrev pub guideline_roundings : ℕ
guideline_roundings = total_roundings + 1

abbrev pub guideline_range : Range
guideline_range = quotient_range input_range total_range

abbrev pub share_roundings : ℕ
share_roundings = total_roundings + 1

abbrev pub share_range : Range
share_range = product_range input_range total_range

-- the sums over all records, an addition for each
abbrev pub sum_roundings : ℕ
sum_roundings = share_roundings + most_contaminants

abbrev pub sum_range : Range
sum_range = added_range most_contaminants share_range
