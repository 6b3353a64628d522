-- `blocks::get_header`: the two words and the scenario, each of its place.
use Rattle.block_rules.specs.Reading.{header_at}
use Rattle.blocks.proofs.get_header.Goals as goal

pub returns : goal.returns
unfolding header_at
returns c = λ k. record { medium = c.word.ensures k; count = c.word-2.ensures k; scenario = c.get_scenario.ensures k }
