-- A scenario and a medium that passed, and the inputs of a record that passed. Assumes nothing.
use mathlib.Core.Path.{◌≡◌}
use mathlib.Core.Bool.{true}
use Prim.Native.Nat.{ℕ}
use Rattle.inputs.specs.declared.Scenario.{Scenario}
use Rattle.inputs.specs.declared.Contaminant.{Contaminant}
use Rattle.inputs.specs.Inputs.{scenario_decimals}
use Rattle.inputs.specs.Valid.{all_valid}
use Rattle.inputs.specs.Rules.{one_to, most_medium, scenario_fits, OneTo}
use Rattle.inputs.proofs.Tests.{and_split, one_to_lem}
use Rattle.shares.specs.declared.plan.Plan.{Plan}
use Rattle.guideline_rules.proofs.Accepted.{Accepted, accepted_inputs}
use Rattle.shares.specs.Plan.{Workable}

-- ---- the scenario and the medium that passed
pub fits_parts : (s : Scenario) (medium : ℕ) → scenario_fits s medium ≡ true → (all_valid (scenario_decimals s) ≡ true) × OneTo most_medium medium
fits_parts s medium h = let a = and_split (one_to most_medium medium) _ h in (a.1, one_to_lem most_medium medium a.0)

-- ---- the inputs of a record
pub inputs_of_lem : {p : Plan} {r : Contaminant} → Workable p r → Accepted p.scenario p.medium r
inputs_of_lem {p} {r} h = accepted_inputs p.scenario p.medium r p.ready.fits h.known h.contaminant
