-- `writers::write_contaminant`: refused, or accepted and written; an accepted one has room.
use Rattle.std.proofs.Common.{length, sym, ◌∙◌}
use Rattle.outcome.proofs.Tests.{handed_back, tests_passed}
use Rattle.block_rules.specs.Layouts.{contaminant_block}
use Rattle.block_rules.specs.Answers.{contaminant_refusal, contaminant_left}
use Rattle.writers.proofs.Answers.{sent_refused, sent_written, room_there}
use Rattle.writers.proofs.write_contaminant.Goals as goal

pub returns-in_err-located : goal.returns-in_err-located
unfolding contaminant_left
returns-in_err-located c =
    let a = c.args in
    let s = sent_refused (contaminant_block a.place a.r) a.out.now c.contaminant_refusal.ensures (sym c.in_err-located.ensures) in
    (handed_back c.from_residual.result c.from_residual.ensures.1 ∙ s.0, s.1)

pub put_contaminant-requires : goal.put_contaminant-requires
unfolding contaminant_refusal
put_contaminant-requires c = room_there (length c.args.out.now) _ (tests_passed c.contaminant_refusal.ensures 0 (sym c.in_ok-located.ensures))

pub returns : goal.returns
unfolding contaminant_left
returns c = let a = c.args in sent_written (contaminant_block a.place a.r) a.out.now c.contaminant_refusal.ensures (sym c.in_ok-located.ensures) c.put_contaminant.ensures
