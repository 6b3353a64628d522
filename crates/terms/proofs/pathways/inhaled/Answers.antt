-- `terms::pathways::inhaled`: as the scenario has it.
use Rattle.terms.proofs.pathways.inhaled.Goals as goal

pub returns-in-Intake : goal.returns-in-Intake
returns-in-Intake c = rw c.in-Intake.is c.by_intake.ensures

pub returns-in-Concentration : goal.returns-in-Concentration
returns-in-Concentration c = rw c.in-Concentration.is c.by_concentration.ensures
