-- `sums::finish`: no record is left, so the answer is that of the sums.
use Rattle.sum_rules.specs.ListCall.{walk}
use Rattle.sums.specs.State.{answer_from}
use Rattle.sums.proofs.finish.Goals as goal

pub returns : goal.returns
unfolding answer_from walk
returns c = rw c.reported.ensures
