-- `sums::reported`: the targets are the scenario's, in working form.
use lib.Dec.{lit≤}
use Rattle.factors.proofs.StandsLaws.{risk_target, hazard_target, stands_most, stands_own}
use Rattle.sums.proofs.reported.Goals as goal

pub side_sums-requires : goal.side_sums-requires
side_sums-requires c =
    let target = risk_target c.args.p.now.scenario c.args.p.now.factors c.args.p.now.ready.factors in
    (c.requires.risk, stands_most (lit≤ tt) (stands_own target))

pub side_sums-requires-2 : goal.side_sums-requires-2
side_sums-requires-2 c =
    let target = hazard_target c.args.p.now.scenario c.args.p.now.factors c.args.p.now.ready.factors in
    (c.requires.hazard, stands_most (lit≤ tt) (stands_own target))

pub returns : goal.returns
returns c =
    let f = c.args.p.now.ready.factors in
    let tr = risk_target c.args.p.now.scenario c.args.p.now.factors f in
    let thi = hazard_target c.args.p.now.scenario c.args.p.now.factors f in
    rw (c.side_sums.ensures, c.side_sums-2.ensures, tr.is, thi.is)
