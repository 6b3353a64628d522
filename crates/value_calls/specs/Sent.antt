-- The texts of what the single guideline, the list call and the built-in scenarios send back, and the operations on decimals.
use Rattle.std.specs.Prelude.{ℕ, ◌/◌, ◌%◌, ◌==◌, if◌then◌else◌, List, ◌++◌, Result}
use Rattle.rounding.specs.declared.Direction.{Direction}
use Rattle.rounding.specs.declared.Direction.TheVariants.{Down, Up}
use Rattle.decimal.specs.declared.Decimal.{Decimal}
use Rattle.decimal.specs.Decimal.{mul_of, div_of, add_of, working_of}
use Rattle.outcome.specs.declared.Refused.{Refused}
use Rattle.outcome.specs.Outcome.{number_of, block_of}
use Rattle.inputs.specs.Inputs.{scenario_decimals}
use Rattle.inputs.specs.BuiltIn.{scenario_sent}
use Rattle.inputs.specs.declared.Scenario.{Scenario}
use Rattle.formulas.specs.Side.{Risk, Hazard}
use Rattle.guideline_rules.specs.Answer.{Guidelines}
use Rattle.guideline_rules.specs.declared.SideGuidelines.{SideGuidelines}
use Rattle.guideline_rules.specs.Guideline.{guidelines_sent}
use Rattle.sum_rules.specs.Answer.{Sums}
use Rattle.sum_rules.specs.Promise.{side_sent}
use Rattle.case_output.specs.Printed.{next_text, all_text, four_text}

-- refusal and block
abbrev pub answered_text : {A : Type 0} → Result A Refused → List ℕ
answered_text a = next_text (number_of a) ++ next_text (block_of a)

-- the guidelines of a side
abbrev pub side_text : SideGuidelines → List ℕ
side_text g = four_text g.first g.second g.third g.total

-- refusal, block, eight decimals
abbrev pub guidelines_text : Result Guidelines Refused → List ℕ
guidelines_text a = answered_text a ++ side_text (guidelines_sent a).risk ++ side_text (guidelines_sent a).hazard

-- refusal, block, four sums, two verdicts
abbrev pub sums_text : Result Sums Refused → List ℕ
sums_text a =
    answered_text a ++
    four_text (side_sent a Risk).lower (side_sent a Risk).upper (side_sent a Hazard).lower (side_sent a Hazard).upper ++
    next_text (side_sent a Risk).verdict ++ next_text (side_sent a Hazard).verdict

-- the factors of a scenario
unfoldable pub factors_text : Scenario → List ℕ
factors_text s = all_text (scenario_decimals s)

-- refusal, block, factors
abbrev pub built_in_text : Result Scenario Refused → List ℕ
built_in_text b = answered_text b ++ factors_text (scenario_sent b)

-- down for an even choice, up for an odd one
abbrev pub direction_of : ℕ → Direction
direction_of choice = if choice % 2 == 0 then Down else Up

-- product, quotient and sum, each down and up, and the working form
abbrev pub operation_of : ℕ → Decimal → Decimal → Decimal
operation_of choice a b =
    if choice / 2 == 0 then mul_of a b (direction_of choice) else
    (if choice / 2 == 1 then div_of a b (direction_of choice) else
    (if choice / 2 == 2 then add_of a b (direction_of choice) else working_of a))
