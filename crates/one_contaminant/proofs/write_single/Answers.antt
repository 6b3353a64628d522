-- `one_contaminant::write_single`: a refusal of one of the two writers is that of the single guideline; else both blocks stand.
use Rattle.std.proofs.Common.{sym, ap, ◌∙◌}
use Rattle.std.specs.Prelude.{Err}
use Rattle.outcome.proofs.Tests.{handed_back}
use Rattle.one_contaminant.proofs.Singles.{single_header, single_record, single_both}
use Rattle.one_contaminant.proofs.write_single.Goals as goal

pub returns-in_err-write_header : goal.returns-in_err-write_header
returns-in_err-write_header c =
    rw (handed_back c.from_residual.result c.from_residual.ensures.1) (single_header c.args.h c.args.r c.args.site.now c.requires c.in_err-write_header.ensures.0)

pub returns-in-Ok : goal.returns-in-Ok
returns-in-Ok c =
    single_both c.args.h c.args.r c.args.site.now c.requires c.in_ok-write_header.ensures.0 c.write_header.ensures.1 c.in-Ok.ensures.0 c.write_contaminant.ensures.1

pub returns-in-Err : goal.returns-in-Err
returns-in-Err c =
    single_record c.args.h c.args.r c.args.site.now c.requires c.in_ok-write_header.ensures.0 c.write_header.ensures.1 c.in-Err.ensures.0 ∙
    ap Err (sym c.in_block.ensures)
