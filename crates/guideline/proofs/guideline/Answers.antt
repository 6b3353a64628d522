-- `guideline::guideline`: the tests of the scenario, of the fields and of the record in their order.
use Rattle.std.proofs.Common.{◌≡◌, true, ℕ, sym, ◌∙◌}
use Rattle.std.specs.Prelude.{Ok}
use Rattle.outcome.proofs.Tests.{handed_back, tests_refused, tests_passed}
use Rattle.inputs.specs.declared.Scenario.{Scenario}
use Rattle.inputs.specs.declared.Contaminant.{Contaminant}
use Rattle.inputs.specs.Rules.{scenario_refusal, contaminant_fits, Checked}
use Rattle.guideline_rules.specs.Guideline.{guideline_of}
use Rattle.guideline_rules.proofs.Accepted.{scenario_passed, accepted_inputs}
use Rattle.guideline.proofs.guideline.Goals as goal

checked : {s : Scenario} {medium : ℕ} {r : Contaminant} → scenario_refusal s medium ≡ Ok tt → contaminant_fits r ≡ true → Checked s medium r
checked {s} {medium} z h = let p = scenario_passed s medium z in record { scenario = p.fits; factors = p.factors; contaminant = h }

pub returns-in_err-located : goal.returns-in_err-located
unfolding guideline_of
returns-in_err-located c =
    handed_back c.from_residual.result c.from_residual.ensures.1 ∙ sym (tests_refused c.scenario_refusal.ensures 0 _ (sym c.in_err-located.ensures))

pub returns-then-not-contaminant_fits : goal.returns-then-not-contaminant_fits
unfolding guideline_of
returns-then-not-contaminant_fits c =
    let z = tests_passed c.scenario_refusal.ensures 0 (sym c.in_ok-located.ensures) in
    rw (z, sym c.contaminant_fits.ensures ∙ c.if-not-contaminant_fits.true, c.in_block.ensures)

pub record_refusal-requires : goal.record_refusal-requires
record_refusal-requires c =
    checked (tests_passed c.scenario_refusal.ensures 0 (sym c.in_ok-located.ensures)) (sym c.contaminant_fits.ensures ∙ c.if-not-contaminant_fits.false)

pub returns-in_err-located-2 : goal.returns-in_err-located-2
unfolding guideline_of
returns-in_err-located-2 c =
    let z = tests_passed c.scenario_refusal.ensures 0 (sym c.in_ok-located.ensures) in
    let x = c.from_residual-in_err-located-2 in
    rw (z, sym c.contaminant_fits.ensures ∙ c.if-not-contaminant_fits.false)
    (handed_back x.result x.ensures.1 ∙ sym (tests_refused c.record_refusal.ensures 1 _ (sym c.in_err-located-2.ensures)))

pub worked_out-requires : goal.worked_out-requires
worked_out-requires c =
    let k = checked {r = c.args.r} (tests_passed c.scenario_refusal.ensures 0 (sym c.in_ok-located.ensures))
    (sym c.contaminant_fits.ensures ∙ c.if-not-contaminant_fits.false) in
    accepted_inputs c.args.s c.args.medium c.args.r k.scenario k.factors k.contaminant

pub returns : goal.returns
unfolding guideline_of
returns c =
    let z = tests_passed c.scenario_refusal.ensures 0 (sym c.in_ok-located.ensures) in
    let k = tests_passed c.record_refusal.ensures 1 (sym c.in_ok-located-2.ensures) in
    rw (z, sym c.contaminant_fits.ensures ∙ c.if-not-contaminant_fits.false, k, c.worked_out.ensures)
