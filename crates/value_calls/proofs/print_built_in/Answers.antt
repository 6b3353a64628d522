-- `value_calls::print_built_in`: the factors of the scenario that is sent back.
use Rattle.std.proofs.Common.{◌≡◌, Ok, Err, refl, ap, ◌∙◌}
use Rattle.std.specs.Prelude.{Result}
use Rattle.std.specs.Result.{result_unwrap_or}
use Rattle.outcome.specs.declared.Refused.{Refused}
use Rattle.inputs.specs.declared.Scenario.{Scenario}
use Rattle.inputs.specs.Inputs.{scenario_of, exposure_of, contact_of, targets_of, house_of, age_of, ages_of}
use Rattle.inputs.specs.BuiltIn.{blank, scenario_sent}
use Rattle.case_output.proofs.Written.{two_written}
use Rattle.value_calls.specs.Sent.{factors_text}
use Rattle.value_calls.proofs.print_built_in.Goals as goal

-- what the library hands over in the place of a refusal is what is sent back then
sent_or_blank : (x : Result Scenario Refused) {d : Scenario} → d ≡ blank → result_unwrap_or x d ≡ scenario_sent x
sent_or_blank (Ok s) e = refl
sent_or_blank (Err r) e = e

pub returns : goal.returns
unfolding scenario_of exposure_of contact_of targets_of house_of age_of ages_of
returns g c =
    two_written _ _ _ _ c.print_factors.result (ap factors_text (c.unwrap_or.ensures ∙ sent_or_blank c.args.b refl)) c.in_ok-print_answered.ensures c.print_factors.ensures
