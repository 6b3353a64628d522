-- Every decimal on the way to the terms of a record and to their sum, on a side and in a direction. The text follows Term.antt.
use Rattle.std.specs.Prelude.{List, [], ◌∷◌, ◌++◌, map, ℕ}
use Rattle.rounding.specs.declared.Direction.{Direction}
use Rattle.rounding.specs.Direction.{opposite}
use Rattle.decimal.specs.declared.Decimal.{Decimal}
use Rattle.decimal.specs.Decimal.{zero_of}
use Rattle.decimal.specs.Lists.{product_steps, summed_steps}
use Rattle.std.specs.List.{flat_map}
use Rattle.inputs.specs.declared.Scenario.{Scenario}
use Rattle.inputs.specs.declared.Contaminant.{Contaminant}
use Rattle.formulas.specs.Side.{Side}
use Rattle.formulas.specs.Formula.{Formula, derived}
use Rattle.formulas.specs.Term.{look, term_of, inputs_of, plain_values, formulas_for, values_for}

-- a formula: the products before and after the stroke, factor by factor, and the term
abbrev pub formula_steps : List Decimal → Direction → Formula → List Decimal
formula_steps vs dir f = product_steps dir (map (look vs) f.before) ++ (product_steps (opposite dir) (map (look vs) f.after) ++ term_of vs dir f ∷ [])

-- formulas that are added up: each of them, and the sum term by term
abbrev pub total_steps : List Decimal → Direction → List Formula → List Decimal
total_steps vs dir fs = flat_map (formula_steps vs dir) fs ++ summed_steps dir zero_of (map (term_of vs dir) fs)

-- the factors that are worked out, as B, H and G with their parts; every value that a name stands for; the terms and their sum
unfoldable pub steps_for : Direction → Scenario → ℕ → Contaminant → Side → List Decimal
steps_for dir s medium r side =
    flat_map (total_steps (plain_values (inputs_of s r)) dir) derived ++ (values_for dir s r ++ total_steps (values_for dir s r) dir (formulas_for s medium r side))
