-- The single guideline of the specification: its eight decimals, or what is sent back.
use Rattle.std.specs.Prelude.{Bool, cond, ◌&&◌, List, ℕ, eqb, get_or, Result, Ok, Err}
use Rattle.rounding.specs.declared.Direction.TheVariants.{Down, Up}
use Rattle.decimal.specs.declared.Decimal.{Decimal}
use Rattle.decimal.specs.Decimal.{zero_of, div_of}
use Rattle.outcome.specs.declared.Refused.{Refused}
use Rattle.outcome.specs.declared.Refusal.TheVariants.{Field}
use Rattle.outcome.specs.Outcome.{refused, passing}
use Rattle.inputs.specs.declared.Scenario.{Scenario}
use Rattle.inputs.specs.declared.Contaminant.{Contaminant}
use Rattle.inputs.specs.Earlier.{none_before}
use Rattle.inputs.specs.Rules.{scenario_refusal, contaminant_fits}
use Rattle.formulas.specs.Side.{Side, Risk, Hazard}
use Rattle.formulas.specs.Target.{working_target}
use Rattle.formulas.specs.Formula.{Formula, none}
use Rattle.formulas.specs.Term.{term_of, total_of, formulas_for, values_for}
use Rattle.guideline_rules.specs.Pathway.{record_refusal}
use Rattle.guideline_rules.specs.declared.SideGuidelines.{SideGuidelines}
use Rattle.guideline_rules.specs.Answer.{Guidelines}
use Rattle.guideline_rules.specs.Saturation.{above_saturation, capped_side}

-- ---- the guidelines of a side over its target: target divided by the upper term, down; the total by the upper term sum
unfoldable pub side_of : List Decimal → Decimal → List Formula → SideGuidelines
side_of vs target fs = record {
  first = div_of target (term_of vs Up (get_or fs 0 none)) Down;
  second = div_of target (term_of vs Up (get_or fs 1 none)) Down;
  third = div_of target (term_of vs Up (get_or fs 2 none)) Down;
  total = div_of target (total_of vs Up fs) Down;
}

-- ---- the guidelines that come back: zero decimals on a refusal
abbrev pub zero_side : SideGuidelines
zero_side = record { first = zero_of; second = zero_of; third = zero_of; total = zero_of }

abbrev pub guidelines_sent : Result Guidelines Refused → Guidelines
guidelines_sent (Ok g) = g
guidelines_sent (Err r) = record { risk = zero_side; hazard = zero_side }

-- ---- one record in a scenario and a medium
-- a side's guidelines as calculated: its target over each term of its formulas, and over their sum
abbrev pub calculated_of : Scenario → ℕ → Contaminant → Side → SideGuidelines
calculated_of s medium r side = side_of (values_for Up s r) (working_target s side) (formulas_for s medium r side)

-- and inhalation no higher than the saturation
abbrev pub guidelines_of : Scenario → ℕ → Contaminant → Side → SideGuidelines
guidelines_of s medium r side = capped_side medium r (calculated_of s medium r side)

-- the saturation stands in the place of the guideline of pathway 0, 1 or 2, which it does in inhalation alone
abbrev pub is_capped : Scenario → ℕ → Contaminant → Side → ℕ → Bool
is_capped s medium r side n = eqb n 1 && above_saturation medium r (calculated_of s medium r side).second

-- those of both sides
abbrev pub both_sides : Scenario → ℕ → Contaminant → Guidelines
both_sides s medium r = record { risk = guidelines_of s medium r Risk; hazard = guidelines_of s medium r Hazard }

-- in block 0 the refusals of the scenario; in block 1 of the record, which stands alone, 4 and the refusals after it
unfoldable pub guideline_of : Scenario → ℕ → Contaminant → Result Guidelines Refused
guideline_of s medium r =
    passing (scenario_refusal s medium) 0
    (cond (contaminant_fits r) (passing (record_refusal s medium none_before r) 1 (Ok (both_sides s medium r))) (refused Field 1))
