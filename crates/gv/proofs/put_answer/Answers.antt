-- `gv::put_answer`: a refusal, last 10, leaves what was lent as it was.
use Rattle.std.proofs.Common.{length, refl}
use borrow.Author.Tests.{lt-ltb, le-ltb}
use Rattle.outcome.proofs.Tests.{handed_back}
use Rattle.gv_rules.specs.Exports.{guideline_put}
use Rattle.gv.proofs.put_answer.Goals as goal

pub returns-in_err-g : goal.returns-in_err-g
unfolding guideline_put
returns-in_err-g c = rw (handed_back c.from_residual.result c.from_residual.ensures.1, c.in_err-g.was) (refl, refl)

pub returns-then-out-lt64 : goal.returns-then-out-lt64
unfolding guideline_put
returns-then-out-lt64 c = rw (c.in_ok-g.was, lt-ltb (length c.args.out.now) 64 c.if-out-lt64.true, c.in_block.ensures) (refl, refl)

pub returns : goal.returns
unfolding guideline_put
returns c = rw (c.in_ok-g.was, le-ltb (length c.args.out.now) 64 c.if-out-lt64.false) (refl, c.put_guidelines.ensures)
