-- `one_contaminant::single`: the answer of the site call on the written site is that of the single guideline.
use Rattle.std.proofs.Common.{refl, sym, ◌∙◌, replicate}
use Rattle.outcome.proofs.Tests.{handed_back}
use Rattle.one_contaminant.proofs.Singles.{evaluated_refused, evaluated_accepted}
use Rattle.one_contaminant.proofs.single.Goals as goal

pub returns-in_err-write_single : goal.returns-in_err-write_single
returns-in_err-write_single c = handed_back c.from_residual.result c.from_residual.ensures.1 ∙ sym c.in_err-write_single.ensures

pub returns-in_err-evaluate : goal.returns-in_err-evaluate
returns-in_err-evaluate c =
    let x = c.from_residual-in_err-evaluate in
    handed_back x.result x.ensures.1 ∙
    sym (evaluated_refused c.in_ok-write_single.ensures c.requires (replicate 1024 0) refl c.evaluate.ensures.0 c.in_err-evaluate.was)

pub returns : goal.returns
returns c =
    evaluated_accepted c.in_ok-write_single.ensures c.requires _ refl c.evaluate.ensures.0 c.in_ok-evaluate.was c.evaluate.ensures.1
    c.get_side-risk.ensures c.get_side-hazard.ensures
