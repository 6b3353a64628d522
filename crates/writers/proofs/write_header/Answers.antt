-- `writers::write_header`: refused, or accepted and written; an accepted one has room.
use Rattle.std.proofs.Common.{length, sym, ◌∙◌}
use Rattle.outcome.proofs.Tests.{handed_back, tests_passed}
use Rattle.block_rules.specs.Layouts.{header_block}
use Rattle.block_rules.specs.Answers.{header_refusal, header_left}
use Rattle.writers.proofs.Answers.{sent_refused, sent_written, room_there}
use Rattle.writers.proofs.write_header.Goals as goal

pub returns-in_err-located : goal.returns-in_err-located
unfolding header_left
returns-in_err-located c =
    let a = c.args in
    let s = sent_refused (header_block a.h) a.out.now c.header_refusal.ensures (sym c.in_err-located.ensures) in
    (handed_back c.from_residual.result c.from_residual.ensures.1 ∙ s.0, s.1)

pub put_header-requires : goal.put_header-requires
unfolding header_refusal
put_header-requires c = room_there (length c.args.out.now) _ (tests_passed c.header_refusal.ensures 0 (sym c.in_ok-located.ensures))

pub returns : goal.returns
unfolding header_left
returns c = let a = c.args in sent_written (header_block a.h) a.out.now c.header_refusal.ensures (sym c.in_ok-located.ensures) c.put_header.ensures
