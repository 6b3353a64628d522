-- `factors::numbers::air_numbers`: by intake two zeros, by concentration the numbers of U and Q.
use Rattle.factors.proofs.StandsLaws.{no_air_stands}
use Rattle.factors.proofs.numbers.air_numbers.Goals as goal

pub returns-in-Intake : goal.returns-in-Intake
returns-in-Intake c = no_air_stands c.args.x c.in-Intake.is
