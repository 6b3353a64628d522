-- Every decimal on the way to an accepted single guideline is a working decimal with an e from -999 to 999, on each side. Assumes nothing.
use mathlib.Core.Path.{◌≡◌}
use mathlib.Core.Bool.{true}
use Prim.Native.Nat.{ℕ}
use Rattle.rounding.specs.declared.Direction.{Direction}
use Rattle.rounding.specs.declared.Direction.TheVariants.{Up}
use Rattle.decimal.specs.Decimal.{biased_of, is_operand, all_operands}
use Rattle.decimal.proofs.Value.{fair_value}
use Rattle.decimal.proofs.Steps.{operands_append, value_operand}
use Rattle.outcome.specs.Outcome.{number_of}
use Rattle.inputs.specs.declared.Scenario.{Scenario}
use Rattle.inputs.specs.declared.Contaminant.{Contaminant}
use Rattle.formulas.specs.Side.{Side}
use Rattle.formulas.specs.Target.{working_target}
use Rattle.formulas.specs.Steps.{steps_for}
use Rattle.formulas.proofs.ValueBounds.{target_fair}
use Rattle.formulas.proofs.InRange.{steps_in_range}
use Rattle.guideline_rules.specs.Guideline.{side_of, guidelines_of, guideline_of}
use Rattle.guideline_rules.specs.Steps.{four_of, guideline_steps}
use Rattle.guideline_rules.proofs.Accepted.{Accepted, inputs_valid}
use Rattle.guideline_rules.proofs.Saturation.{saturation_value}
use Rattle.guideline_rules.proofs.Promises.{guideline_value, term_bounds, target_bounds, total_fairly, inhalation, inhalation_value, saturation_valid, accepted_of}

module _ (s : Scenario) (medium : ℕ) (r : Contaminant) (a : Accepted s medium r) where
  -- the terms of inputs that passed their tests
  pub terms_in_range : (dir : Direction) (side : Side) → all_operands (steps_for dir s medium r side) ≡ true
  terms_in_range dir side = steps_in_range dir s medium r side (inputs_valid s r a.scenario a.contaminant)

  -- the target of a side
  pub target_in_range : (side : Side) → is_operand (biased_of (working_target s side)) ≡ true
  target_in_range side = value_operand (fair_value (target_fair Up s a.scenario side))

  -- its four guidelines
  four_in_range : (side : Side) → all_operands (four_of (guidelines_of s medium r side)) ≡ true
  unfolding side_of
  four_in_range side =
      let target = target_bounds s medium r a side in
      rw (
        value_operand (guideline_value target (term_bounds Up s medium r a side 0)),
        value_operand (inhalation_value s medium r a side),
        value_operand (guideline_value target (term_bounds Up s medium r a side 2)),
        value_operand (guideline_value target (total_fairly s medium r a side)),
      )

  pub worked_in_range : (side : Side) → all_operands (guideline_steps s medium r side) ≡ true
  unfolding guideline_steps
  worked_in_range side =
      operands_append (steps_for Up s medium r side) _ (terms_in_range Up side)
      (rw (target_in_range side, value_operand (inhalation s medium r a side), value_operand (saturation_value r (saturation_valid s medium r a))) (four_in_range side))

-- THE SINGLE GUIDELINE
pub guideline_in_range : (s : Scenario) (medium : ℕ) (r : Contaminant) → number_of (guideline_of s medium r) ≡ 0 → (side : Side) →
    all_operands (guideline_steps s medium r side) ≡ true
guideline_in_range s medium r z side = worked_in_range s medium r (accepted_of s medium r z) side
