-- The numbers of an answer, each of which has its own byte in the word of the C library.
use Rattle.std.specs.Prelude.{◌≤◌, Result}
use Rattle.inputs.specs.Rules.{most_contaminants}
use Rattle.outcome.specs.declared.Refused.{Refused}
use Rattle.outcome.specs.Outcome.{number_of, block_of, most_number}
use Rattle.sum_rules.specs.Answer.{Sums}
use Rattle.formulas.specs.Side.{Risk, Hazard}
use Rattle.sum_rules.specs.Promise.{side_sent}

pub record Bounded (a : Result Sums Refused) : Type 0 where
  pub number : number_of a ≤ most_number
  pub block : block_of a ≤ most_contaminants
  pub risk : (side_sent a Risk).verdict ≤ 4
  pub hazard : (side_sent a Hazard).verdict ≤ 4
