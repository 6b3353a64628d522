-- The target of a side: of risk TR, of hazard THI; as given, and in its working form.
use Rattle.decimal.specs.declared.Decimal.{Decimal}
use Rattle.decimal.specs.Decimal.{working_of}
use Rattle.inputs.specs.declared.Scenario.{Scenario}
use Rattle.formulas.specs.Side.{Side, Risk, Hazard}

abbrev pub target_of : Scenario → Side → Decimal
target_of s Risk = s.targets.tr
target_of s Hazard = s.targets.thi

abbrev pub working_target : Scenario → Side → Decimal
working_target s side = working_of (target_of s side)
