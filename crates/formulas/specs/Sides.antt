-- What a side has.
use Rattle.formulas.specs.declared.Sides.{Sides}
use Rattle.formulas.specs.Side.{Side, Risk, Hazard}

abbrev pub side_at : {A : Type 0} → Sides A → Side → A
side_at x Risk = x.risk
side_at x Hazard = x.hazard
