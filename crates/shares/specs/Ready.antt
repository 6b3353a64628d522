-- What a plan keeps of its scenario and its medium: they keep their rules, and the numbers in both directions are worked out of them.
use Rattle.std.specs.Prelude.{◌≡◌, true, ℕ}
use Rattle.std.specs.Coded.{Coded-set, coded_ℕ, coded_bool}
use Rattle.rounding.specs.declared.Direction.TheVariants.{Down, Up}
use Rattle.inputs.specs.declared.Scenario.{Scenario}
use Rattle.inputs.specs.Rules.{scenario_fits}
use Rattle.factors.specs.declared.numbers.Factors.{Factors}
use Rattle.factors.specs.declared.prepared.Prepared.{Prepared}
use Rattle.factors.specs.Stands.{FactorsFor}
use Rattle.factors.specs.Prepared.{PreparedFor}
use Rattle.factors.specs.OneProof.{one_stands, one_stand_all}

pub record PlanFor (s : Scenario) (medium : ℕ) (f : Factors) (above below : Prepared) : Type 0 where
  pub fits : scenario_fits s medium ≡ true
  pub factors : FactorsFor s f
  pub up : PreparedFor Up medium f above
  pub down : PreparedFor Down medium f below

-- it has one proof at most, so that a struct may keep it in a ghost field
pub one_plan : (s : Scenario) (medium : ℕ) (f : Factors) (above below : Prepared) → IsProp (PlanFor s medium f above below)
one_plan s medium f above below = Prim.hlevel (one_stands, one_stand_all, Coded-set coded_ℕ, Coded-set coded_bool)
