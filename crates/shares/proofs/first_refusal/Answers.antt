-- `shares::first_refusal`: the test of the length, then those of the scenario.
use Rattle.inputs.specs.Rules.{scenario_refusal}
use Rattle.sum_rules.specs.ListCall.{first_refusal}
use Rattle.shares.proofs.first_refusal.Goals as goal

pub returns-then-not-fits : goal.returns-then-not-fits
unfolding first_refusal
returns-then-not-fits c = rw c.if-not-fits.true

pub returns : goal.returns
unfolding first_refusal scenario_refusal
returns c = rw c.if-not-fits.false c.scenario_refusal.ensures
