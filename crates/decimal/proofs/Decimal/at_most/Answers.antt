-- `decimal::Decimal::at_most`: two operands are compared by worth; else the answer is false.
use Rattle.std.proofs.Common.{rules, ◌<◌, arith}
use Rattle.decimal.proofs.OperandFacts.{operands_hold, compared}
use Rattle.decimal.proofs.Decimal.at_most.Goals as goal

pub is_some_and-requires : goal.is_some_and-requires
is_some_and-requires c = λ t e.
    let o = operands_hold c.args.self c.args.other c.operands.ensures {p = t.0} {q = t.1} e in
    let p : 0 < t.0.x = omega (arith, o.0.range.low) in
    let q : 0 < t.1.x = omega (arith, o.1.range.low) in
    let u = o.0.working in
    let v = o.1.working in
    search rules

pub returns : goal.returns
returns c = compared c.args.self c.args.other (λ t h. search rules) (rw c.operands.ensures at c.is_some_and.ensures)
