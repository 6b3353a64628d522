-- `rounding::Number::at_most`: the exponents are compared, and at one exponent the digits.
use Rattle.std.proofs.Common.{◌∙◌}
use Rattle.rounding.specs.Number.{rank_of}
use Rattle.rounding.proofs.Exponents.{pair_order, ranks_decide}
use Rattle.rounding.proofs.Number.at_most.Goals as goal

pub returns : goal.returns
returns c =
    let p = c.args.self in
    let q = c.args.other in
    rw (c.rank.ensures, c.rank-2.ensures) at c.le.ensures ∙ pair_order (rank_of p) p.m (rank_of q) q.m ∙ ranks_decide p q c.requires.0.0 c.requires.1.0 c.requires.0.1 c.requires.1.1
