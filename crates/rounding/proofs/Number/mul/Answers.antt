-- `rounding::Number::mul`: the cut quotient is the definition's.
use Rattle.std.proofs.Common.{ℕ, ◌+◌, ◌-◌, ap, ◌∙◌}
use Rattle.rounding.specs.Round.{cut_of, round_of}
use Rattle.rounding.specs.Operations.{product_of}
use Rattle.rounding.proofs.Number.mul.Goals as goal

pub returns : goal.returns
unfolding product_of round_of
returns c = (
  c.cut.ensures.0 ∙ ap (λ (v : ℕ). cut_of c.args.dir v (c.args.self.x + c.args.other.x - 2992)) c.divide.ensures,
  c.cut.ensures.1,
)
