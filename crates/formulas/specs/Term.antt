-- What a formula comes to over working decimals, rounded in a direction (docs/SPECIFICATION.md, "Guidelines, sums, verdicts").
use Rattle.std.specs.Prelude.{Bool, true, false, cond, not, ◌&&◌, List, [], ◌∷◌, ◌++◌, map, ℕ, eqb, get_or, pos, negsuc}
use Rattle.rounding.specs.declared.Direction.{Direction}
use Rattle.rounding.specs.Direction.{opposite}
use Rattle.decimal.specs.declared.Decimal.{Decimal}
use Rattle.decimal.specs.Decimal.{zero_of, div_of, working_of}
use Rattle.decimal.specs.Lists.{product_of, summed}
use Rattle.inputs.specs.declared.kind.Inhalation.{Inhalation}
use Rattle.inputs.specs.declared.Scenario.{Scenario}
use Rattle.inputs.specs.declared.Contaminant.{Contaminant}
use Rattle.inputs.specs.Inputs.{scenario_decimals, formula_decimals}
use Rattle.formulas.specs.Side.{Side}
use Rattle.formulas.specs.Formula.{Formula, pathways_of, derived}

-- the value that a name stands for
abbrev pub look : List Decimal → ℕ → Decimal
look vs n = get_or vs n zero_of

-- no factor named is zero
abbrev pub known : List Decimal → List ℕ → Bool
known vs [] = true
known vs (n ∷ ns) = not (eqb (look vs n).m 0) && known vs ns

abbrev pub has_factors : List ℕ → Bool
has_factors [] = false
has_factors (n ∷ ns) = true

-- the pathway is not absent: there is a formula, and no factor of it is zero
unfoldable pub present_of : List Decimal → Formula → Bool
present_of vs f = has_factors f.before && (known vs f.before && known vs f.after)

-- no stroke, no division; the factors after the stroke are multiplied in the opposite direction
abbrev pub divided_of : Direction → Decimal → List Decimal → Decimal
divided_of dir p [] = p
divided_of dir p (d ∷ ds) = div_of p (product_of (opposite dir) (d ∷ ds)) dir

abbrev pub evaluated : List Decimal → Direction → Formula → Decimal
evaluated vs dir f = divided_of dir (product_of dir (map (look vs) f.before)) (map (look vs) f.after)

unfoldable pub term_of : List Decimal → Direction → Formula → Decimal
term_of vs dir f = cond (present_of vs f) (evaluated vs dir f) zero_of

-- terms added in order, absent ones skipped
unfoldable pub total_of : List Decimal → Direction → List Formula → Decimal
total_of vs dir fs = summed dir zero_of (map (term_of vs dir) fs)

-- ---- the values that the names stand for
-- 1, 10^-6, 10^-3, 0.5, 0.000114, 365, 10^3, 24
abbrev pub constants : List Decimal
constants =
    record { m = 1; e = pos 0 } ∷ (record { m = 1; e = negsuc 5 } ∷ (record { m = 1; e = negsuc 2 } ∷ (record { m = 5; e = negsuc 0 } ∷
    (record { m = 114; e = negsuc 5 } ∷ (record { m = 365; e = pos 0 } ∷ (record { m = 1; e = pos 3 } ∷ (record { m = 24; e = pos 0 } ∷ [])))))))

-- by intake or by concentration, and as the scenario has it
abbrev pub inputs_by : Inhalation → Scenario → Contaminant → List Decimal
inputs_by i s r = constants ++ (scenario_decimals s ++ formula_decimals i r)

abbrev pub inputs_of : Scenario → Contaminant → List Decimal
inputs_of s r = inputs_by s.inhalation s r

-- the working forms of the inputs behind a list of values for the factors that are worked out
abbrev pub values_from : List Decimal → List Decimal → List Decimal
values_from ds l = ds ++ map working_of l

-- these are not known yet
abbrev pub plain_values : List Decimal → List Decimal
plain_values l = values_from (map (λ (fs : List Formula). zero_of) derived) l

unfoldable pub values_of : Direction → List Decimal → List Decimal
values_of dir l = values_from (map (total_of (plain_values l) dir) derived) l

-- ---- what is cited above: the formulas of a record in a scenario and a medium, and the values of their names
abbrev pub formulas_for : Scenario → ℕ → Contaminant → Side → List Formula
formulas_for s medium r side = pathways_of s.inhalation medium r.class side

abbrev pub values_for : Direction → Scenario → Contaminant → List Decimal
values_for dir s r = values_of dir (inputs_of s r)
