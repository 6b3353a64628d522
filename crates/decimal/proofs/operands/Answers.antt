-- `decimal::operands`: both are given where both are operands.
use Rattle.std.proofs.Common.{rules}
use Rattle.decimal.specs.Decimal.{operands_of}
use Rattle.decimal.proofs.operands.Goals as goal

pub returns : goal.returns
unfolding operands_of
returns c = search rules
