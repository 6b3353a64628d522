-- `rounding::Number::div`: the cut quotient is the definition's.
use Rattle.std.proofs.Common.{ℕ, ◌+◌, ◌-◌, ap, ap₂, ◌∙◌}
use Rattle.rounding.specs.declared.Number.{Number}
use Rattle.rounding.specs.Round.{divide_of, cut_of, round_of}
use Rattle.rounding.specs.Operations.{quotient_of}
use Rattle.rounding.proofs.Number.div.Goals as goal

pub returns : goal.returns
unfolding quotient_of round_of
returns c =
    let cutting : ℕ → Number = λ v. cut_of c.args.dir v (c.args.self.x + 2991 - c.args.other.x) in (
      c.cut.ensures.0 ∙ ap cutting (c.divide.ensures ∙ ap₂ (divide_of c.args.dir) c.pick-n.ensures c.pick-d.ensures),
      c.cut.ensures.1,
    )
