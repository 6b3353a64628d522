-- `rounding::Number::add`: both numbers in their order, then aligned.
use Rattle.std.proofs.Common.{sym, arith}
use Rattle.rounding.proofs.CodeFacts.{picked_first, ordered_sum}
use Rattle.rounding.proofs.ExactResults.{sum_zero_right}
use Rattle.rounding.proofs.Number.add.Goals as goal

pub returns-then-other-eq0 : goal.returns-then-other-eq0
returns-then-other-eq0 c = (
  sym (sum_zero_right c.args.dir c.args.self c.args.other c.requires.0.most c.if-other-eq0.true),
  record { most = c.requires.0.most; low = omega arith; high = omega arith },
)

pub returns : goal.returns
returns c =
    let p = c.args.self in
    let q = c.args.other in
    let great = picked_first p q p q c.rank.ensures c.rank-2.ensures c.pick-great.ensures in
    let small = picked_first p q q p c.rank.ensures c.rank-2.ensures c.pick-small.ensures in
    ordered_sum p q c.requires.0 c.requires.1 c.args.dir great small c.aligned.ensures
