-- `factors::numbers::number_of`: a valid decimal has few enough digits and a low enough exponent for its working form.
use Rattle.std.proofs.Common.{ap, ◌∙◌, arith}
use Rattle.rounding.specs.WorkingForm.{nine_of}
use Rattle.rounding.specs.declared.Number.{Number}
use Rattle.inputs.proofs.Tests.{valid_small}
use Rattle.factors.proofs.StandsLaws.{number_stands, zero_number_stands}
use Rattle.factors.proofs.numbers.number_of.Goals as goal

pub working-requires : goal.working-requires
working-requires c =
    let k = valid_small c.args.d c.requires in
    let m = ap (λ (r : Number). r.m) c.from.ensures in
    let x = ap (λ (r : Number). r.x) c.from.ensures in
    (omega (arith, k.digits, m), omega (arith, k.low, x))

pub returns : goal.returns
returns c = number_stands c.args.d c.working.result c.requires (c.working.ensures.0 ∙ ap nine_of c.from.ensures)

pub returns-then-d-eq0 : goal.returns-then-d-eq0
returns-then-d-eq0 c = zero_number_stands c.args.d c.requires c.if-d-eq0.true
