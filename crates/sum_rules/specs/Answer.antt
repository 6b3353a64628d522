-- The sums of both sides, which an accepted call answers.
use Rattle.formulas.specs.declared.Sides.{Sides}
use Rattle.sum_rules.specs.declared.SideSums.{SideSums}

abbrev pub Sums : Type 0
Sums = Sides SideSums
