-- What two scenarios with a record each have in common where a difference between them does not count: the words of the theorems about decimals that are
-- not looked at.
use Rattle.std.specs.Prelude.{◌≡◌, ℕ}
use Rattle.rounding.specs.declared.Direction.{Direction}
use Rattle.decimal.specs.declared.Decimal.{Decimal}
use Rattle.inputs.specs.declared.Scenario.{Scenario}
use Rattle.inputs.specs.declared.Contaminant.{Contaminant}
use Rattle.inputs.specs.declared.earlier.Earlier.{Earlier}
use Rattle.formulas.specs.Side.{Side}
use Rattle.formulas.specs.Term.{total_of, values_for, formulas_for}
use Rattle.guideline_rules.specs.Pathway.{has_pathway, record_refusal}
use Rattle.guideline_rules.specs.Guideline.{calculated_of, guidelines_of}

-- the sum of the terms of a record in a direction
abbrev terms_summed : Direction → Scenario → ℕ → Contaminant → Side → Decimal
terms_summed dir s medium r side = total_of (values_for dir s r) dir (formulas_for s medium r side)

-- whether there is a pathway, the tests of a record, what is calculated, the guidelines after the saturation, and the sums of terms
pub record Alike (medium : ℕ) (s : Scenario) (q : Contaminant) (t : Scenario) (r : Contaminant) : Type 0 where
  pub pathway : (side : Side) → has_pathway s medium q side ≡ has_pathway t medium r side
  pub refusal : (before : Earlier) → record_refusal s medium before q ≡ record_refusal t medium before r
  pub calculated : (side : Side) → calculated_of s medium q side ≡ calculated_of t medium r side
  pub guidelines : (side : Side) → guidelines_of s medium q side ≡ guidelines_of t medium r side
  pub total : (dir : Direction) (side : Side) → terms_summed dir s medium q side ≡ terms_summed dir t medium r side
