-- `decimal::Decimal::div`: the quotient of two operands, else zero.
use Rattle.std.proofs.Common.{rules}
use Rattle.rounding.specs.Operations.{quotient_of}
use Rattle.decimal.specs.Decimal.{div_of}
use Rattle.decimal.proofs.OperandFacts.{operated}
use Rattle.decimal.proofs.Decimal.div.Goals as goal

pub returns : goal.returns
unfolding div_of
returns c = operated c.args.self c.args.other (quotient_of c.args.dir) (λ p q r h. search rules) c.operate.ensures
