-- `decimal::Decimal::add`: the sum of two operands, else zero.
use Rattle.std.proofs.Common.{rules}
use Rattle.rounding.specs.Operations.{sum_of}
use Rattle.decimal.specs.Decimal.{add_of}
use Rattle.decimal.proofs.OperandFacts.{operated}
use Rattle.decimal.proofs.Decimal.add.Goals as goal

pub returns : goal.returns
unfolding add_of
returns c = operated c.args.self c.args.other (sum_of c.args.dir) (λ p q r h. search rules) c.operate.ensures
