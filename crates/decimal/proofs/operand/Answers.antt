-- `decimal::operand`: each test decides the definition's.
use Rattle.std.proofs.Common.{arith}
use Rattle.std.proofs.lemmas.Bool.Decides.{nat_tests}
use Rattle.decimal.specs.Decimal.{is_operand}
use Rattle.decimal.proofs.operand.Goals as goal

pub returns-then-r-eq0 : goal.returns-then-r-eq0
unfolding is_operand
returns-then-r-eq0 c = grind (arith, nat_tests)

pub returns-then-contains : goal.returns-then-contains
unfolding is_operand
returns-then-contains c = grind (arith, nat_tests)

pub returns-else-contains : goal.returns-else-contains
unfolding is_operand
returns-else-contains c = grind (arith, nat_tests)
