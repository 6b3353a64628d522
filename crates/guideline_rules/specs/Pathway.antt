-- What is sent back of a record that keeps its rules and its order, in the order of the tests: 12, then 8.
use Rattle.std.specs.Prelude.{Bool, false, not, ◌||◌, List, [], ◌∷◌, ℕ, Result, ⊤}
use Rattle.rounding.specs.declared.Direction.TheVariants.{Up}
use Rattle.decimal.specs.declared.Decimal.{Decimal}
use Rattle.outcome.specs.declared.Refusal.{Refusal}
use Rattle.outcome.specs.declared.Refusal.TheVariants.{Pathway, House}
use Rattle.outcome.specs.Outcome.{Test, test, refused_by}
use Rattle.inputs.specs.declared.Scenario.{Scenario}
use Rattle.inputs.specs.declared.Contaminant.{Contaminant}
use Rattle.inputs.specs.declared.earlier.Earlier.{Earlier}
use Rattle.inputs.specs.Rules.{lacks_house}
use Rattle.inputs.specs.Earlier.{mixed}
use Rattle.formulas.specs.Side.{Side, Risk, Hazard}
use Rattle.formulas.specs.Formula.{Formula}
use Rattle.formulas.specs.Term.{present_of, formulas_for, values_for}

-- a pathway of the list is not absent
abbrev pub any_pathway : List Decimal → List Formula → Bool
any_pathway vs [] = false
any_pathway vs (f ∷ fs) = present_of vs f || any_pathway vs fs

-- the record has a pathway on the side
unfoldable pub has_pathway : Scenario → ℕ → Contaminant → Side → Bool
has_pathway s medium r side = any_pathway (values_for Up s r) (formulas_for s medium r side)

abbrev pub either_side : Scenario → ℕ → Contaminant → Bool
either_side s medium r = has_pathway s medium r Risk || has_pathway s medium r Hazard

-- the tests after 4 and 7, with what stands before the record in its list: 12, tritium without L or W or in soil, or a chemical and tritium
-- in one list; 8, no pathway on either side
abbrev pub record_tests : Scenario → ℕ → Earlier → Contaminant → List Test
record_tests s medium before r = test House (lacks_house s medium r || mixed before r) ∷ test Pathway (not (either_side s medium r)) ∷ []

unfoldable pub record_refusal : Scenario → ℕ → Earlier → Contaminant → Result ⊤ Refusal
record_refusal s medium before r = refused_by (record_tests s medium before r)
