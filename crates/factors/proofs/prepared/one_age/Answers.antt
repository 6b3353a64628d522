-- `factors::prepared::one_age`: what the code works out is the part of the age, and without SA that part is zero.
use Rattle.std.proofs.Common.{sym}
use lib.Dec.{lit≤}
use Rattle.factors.proofs.StandsLaws.{stands_at, stands_middle, stands_operand, stands_is, stands_most, zero_stands}
use Rattle.factors.proofs.Ages.{three_stands, age_stands, no_age}
use Rattle.factors.proofs.prepared.one_age.Goals as goal

pub returns-then-x-eq0 : goal.returns-then-x-eq0
returns-then-x-eq0 c = stands_is (sym (no_age c.args.dir c.requires c.if-x-eq0.true)) (stands_most (lit≤ tt) zero_stands)

pub product3-requires : goal.product3-requires
product3-requires c =
    let factor = stands_at c.requires in
    (stands_middle (lit≤ tt) (factor 0), (stands_middle (lit≤ tt) (factor 1), stands_middle (lit≤ tt) (factor 2)))

pub div-requires : goal.div-requires
div-requires c =
    let three = three_stands c.args.dir c.requires c.product3.ensures.0 in
    ((stands_operand (lit≤ tt) three).range, (stands_operand (lit≤ tt) (stands_at c.requires 3)).range)

pub returns : goal.returns
returns c = age_stands c.args.dir c.requires c.product3.ensures.0 c.div.ensures.0
