-- Each turn weighs one byte more, and after the last one all are weighed.
use Rattle.std.proofs.Common.{rules}
use Rattle.case_output.proofs.Weights.{weighs_one_more, weighs_all}
use Rattle.case_output.proofs.weigh.Goals as goal

pub loop-i-preserved : goal.loop-i-preserved
loop-i-preserved c = weighs_one_more _ _ _ (search rules) c.loop-i.invariant

pub returns : goal.returns
returns c = weighs_all _ _ _ (search rules) (search rules) c.loop-i.invariant
