-- `rounding::Number::working`: the four steps are the definition's.
use Rattle.std.proofs.Common.{◌≡◌}
use Rattle.rounding.specs.WorkingForm.{nine_of}
use Rattle.rounding.proofs.NineDigits.{nine_result}
use Rattle.rounding.proofs.Number.working.Goals as goal

pub returns : goal.returns
unfolding nine_of
returns c =
    let e : c.raised-4.result ≡ nine_of c.args.self = cc in
    (e, rw e (nine_result c.args.self c.requires.0))
