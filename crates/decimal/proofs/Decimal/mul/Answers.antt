-- `decimal::Decimal::mul`: the product of two operands, else zero.
use Rattle.std.proofs.Common.{rules}
use Rattle.rounding.specs.Operations.{product_of}
use Rattle.decimal.specs.Decimal.{mul_of}
use Rattle.decimal.proofs.OperandFacts.{operated}
use Rattle.decimal.proofs.Decimal.mul.Goals as goal

pub returns : goal.returns
unfolding mul_of
returns c = operated c.args.self c.args.other (product_of c.args.dir) (λ p q r h. search rules) c.operate.ensures
