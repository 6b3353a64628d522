-- Every decimal on the way to the single guideline, on a side: those of the upper terms and their sum, the target, what is calculated of
-- inhalation, the saturation, the four guidelines.
use Rattle.std.specs.Prelude.{List, [], ◌∷◌, ◌++◌, ℕ}
use Rattle.rounding.specs.declared.Direction.TheVariants.{Up}
use Rattle.decimal.specs.declared.Decimal.{Decimal}
use Rattle.decimal.specs.Decimal.{working_of}
use Rattle.inputs.specs.declared.Scenario.{Scenario}
use Rattle.inputs.specs.declared.Contaminant.{Contaminant}
use Rattle.formulas.specs.Side.{Side}
use Rattle.formulas.specs.Target.{working_target}
use Rattle.formulas.specs.Steps.{steps_for}
use Rattle.guideline_rules.specs.declared.SideGuidelines.{SideGuidelines}
use Rattle.guideline_rules.specs.Guideline.{calculated_of, guidelines_of}

-- the guidelines of a side as a list
abbrev pub four_of : SideGuidelines → List Decimal
four_of g = g.first ∷ (g.second ∷ (g.third ∷ (g.total ∷ [])))

-- the target, what is calculated of inhalation, and the saturation that it is compared with
abbrev pub calculated_steps : Scenario → ℕ → Contaminant → Side → List Decimal
calculated_steps s medium r side = working_target s side ∷ ((calculated_of s medium r side).second ∷ (working_of r.saturation ∷ []))

unfoldable pub guideline_steps : Scenario → ℕ → Contaminant → Side → List Decimal
guideline_steps s medium r side = steps_for Up s medium r side ++ (calculated_steps s medium r side ++ four_of (guidelines_of s medium r side))
