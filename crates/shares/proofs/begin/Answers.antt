-- `shares::begin`: what has passed the tests before the first record keeps its rules.
use Rattle.std.proofs.Common.{sym, ◌∙◌, ap}
use Rattle.std.specs.Prelude.{Result, ⊤}
use Rattle.outcome.specs.declared.Refusal.{Refusal}
use Rattle.outcome.specs.Outcome.{located}
use Rattle.outcome.proofs.Tests.{handed_back, tests_passed}
use Rattle.sum_rules.proofs.Runs.{first_passed}
use Rattle.shares.proofs.begin.Goals as goal

pub returns-in_err-located : goal.returns-in_err-located
returns-in_err-located c =
    rw (handed_back c.from_residual.result c.from_residual.ensures.1)
    (ap (λ (x : Result ⊤ Refusal). located x 0) (sym c.first_refusal.ensures) ∙ sym c.in_err-located.ensures)

pub planned-requires : goal.planned-requires
planned-requires c =
    let z = tests_passed c.first_refusal.ensures 0 (sym c.in_ok-located.ensures) in
    (first_passed c.args.s c.args.medium c.args.n z).scenario.fits

pub returns : goal.returns
returns c = (c.planned.ensures, tests_passed c.first_refusal.ensures 0 (sym c.in_ok-located.ensures))
