-- The running sums of both sides.
use Rattle.formulas.specs.declared.Sides.{Sides}
use Rattle.shares.specs.declared.SideRun.{SideRun}

abbrev pub Runs : Type 0
Runs = Sides SideRun
