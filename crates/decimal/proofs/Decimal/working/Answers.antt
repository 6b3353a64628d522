-- `decimal::Decimal::working`: zero for what has no working form, else the number's working form.
use Rattle.std.proofs.Common.{ap, ◌∙◌, arith, ne_eqb}
use borrow.Author.Tests.{le-leb}
use Rattle.std.proofs.lemmas.Bool.Decides.{nat_tests}
use Rattle.rounding.specs.declared.Number.{Number}
use Rattle.rounding.specs.WorkingForm.{nine_of}
use Rattle.decimal.specs.Exponent.{raised}
use Rattle.decimal.specs.Decimal.{decimal_of, working_of}
use Rattle.decimal.proofs.Decimal.working.Goals as goal

pub returns-then-r-ge-TEN_DIGITS : goal.returns-then-r-ge-TEN_DIGITS
unfolding working_of
returns-then-r-ge-TEN_DIGITS c =
    let m = ap (λ (r : Number). r.m) c.from-r.ensures in
    let x = ap (λ (r : Number). r.x) c.from-r.ensures in
    grind (arith, nat_tests)

pub returns : goal.returns
unfolding working_of
returns c =
    let d = c.args.self in
    let e = c.from-r.ensures in
    let m = ap (λ (r : Number). r.m) e in
    let x = ap (λ (r : Number). r.x) e in
    rw (le-leb d.m 999999999 (omega (arith, m, c.if-r-ge-TEN_DIGITS.false)), ne_eqb (raised d.e) 0 (λ h. c.if-r-eq0.false (x ∙ h)))
    (c.unbiased.ensures ∙ ap decimal_of (c.working.ensures.0 ∙ ap nine_of e))
