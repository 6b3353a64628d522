-- `site::evaluate_blocks`: a refusal of a block or of the room leaves the output as it was; else the results are written.
use Rattle.std.proofs.Common.{length, sym, ap, ◌∙◌, arith}
use Rattle.std.specs.Prelude.{Err}
use Rattle.outcome.proofs.Tests.{handed_back}
use Rattle.site_rules.proofs.Opened.{site_long, opened_fits, left_refused}
use Rattle.site.proofs.Answers.{checking, answer_refused, answer_room}
use Rattle.site.proofs.Planned.{writing, planned_sums}
use Rattle.site.proofs.evaluate_blocks.Goals as goal

pub check_blocks-requires : goal.check_blocks-requires
check_blocks-requires c = checking c.requires

pub returns-in_err-check_blocks : goal.returns-in_err-check_blocks
returns-in_err-check_blocks c =
    let site = c.args.site.now in
    let out = c.args.out.now in
    let e = answer_refused c.requires (length out) (sym c.in_err-check_blocks.ensures) in
    (handed_back c.from_residual.result c.from_residual.ensures.1 ∙ sym e, sym (left_refused site out e))

pub returns-then-out-site : goal.returns-then-out-site
returns-then-out-site c =
    let site = c.args.site.now in
    let out = c.args.out.now in
    let e = answer_room c.requires (sym c.in_ok-check_blocks.ensures) (length out) c.if-out-site.true in
    (ap Err c.in_block.ensures ∙ sym e, sym (left_refused site out e))

pub planned-p-requires : goal.planned-p-requires
planned-p-requires c = opened_fits c.requires

pub put_results-requires : goal.put_results-requires
put_results-requires c =
    (writing c.requires (sym c.in_ok-check_blocks.ensures) c.planned-p.ensures, omega (arith, site_long c.requires, c.if-out-site.false))

pub returns : goal.returns
returns c =
    planned_sums c.requires (sym c.in_ok-check_blocks.ensures) c.planned-p.ensures c.args.out.now c.put_results.ensures.0 c.put_results.ensures.1
    c.if-out-site.false
