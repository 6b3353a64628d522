-- `blocks::sound`: the sum and the place are the definition's.
use Rattle.block_rules.specs.Reading.{sound_at}
use Rattle.blocks.proofs.sound.Goals as goal

pub returns : goal.returns
unfolding sound_at
returns c = rw (c.sum-sum.ensures, c.word-found.ensures)
