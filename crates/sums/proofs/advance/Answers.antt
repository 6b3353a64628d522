-- `sums::advance`: a record is refused by its own tests, or adds its shares to the sums.
use Rattle.std.proofs.Common.{sym}
use Rattle.outcome.proofs.Tests.{handed_back, tests_passed}
use Rattle.sums.proofs.States.{stopped_record}
use Rattle.sums.proofs.Steps.{workable, next_runs, addable, moved_steps}
use Rattle.sums.proofs.advance.Goals as goal

pub returns-in_err-located : goal.returns-in_err-located
returns-in_err-located c =
    let p = c.requires in
    rw (handed_back c.from_residual.result c.from_residual.ensures.1) (stopped_record p.fits p.rising c.record_refusal.ensures (sym c.in_err-located.ensures))

pub add_shares-requires : goal.add_shares-requires
add_shares-requires c =
    let p = c.requires in
    addable (workable p) c.work-w.ensures c.total-risk.ensures.0 c.total-hazard.ensures.0 p.good.place p.good.runs c.total-risk.ensures.1
    c.total-hazard.ensures.1

pub returns : goal.returns
returns c =
    let p = c.requires in
    let sums =
    next_runs (workable p) c.work-w.ensures c.total-risk.ensures.0 c.total-hazard.ensures.0 p.good.place p.good.runs c.add_shares.ensures in
    rw c.next.ensures
    (moved_steps p (tests_passed c.record_refusal.ensures c.args.t.place (sym c.in_ok-located.ensures)) sums)
