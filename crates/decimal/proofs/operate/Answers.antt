-- `decimal::operate`: two operands are in range.
use Rattle.decimal.proofs.OperandFacts.{operands_hold}
use Rattle.decimal.proofs.operate.Goals as goal

pub operation-requires : goal.operation-requires
operation-requires g c = let o = operands_hold c.args.a c.args.b c.operands.ensures c.in-Some.is in c.requires.callable c.in-Some.p c.in-Some.q (o.0.range, o.1.range)

pub unbiased-requires : goal.unbiased-requires
unbiased-requires g c =
    let o = operands_hold c.args.a c.args.b c.operands.ensures c.in-Some.is in
    c.requires.printable c.in-Some.p c.in-Some.q c.operation.result (o.0.range, o.1.range) c.operation.ensures
