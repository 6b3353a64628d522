-- `c_structs::word_of`: the sum is the definition's.
use Rattle.std.proofs.Common.{refl}
use Rattle.gv_rules.specs.Exports.{word_of}
use Rattle.c_structs.proofs.word_of.Goals as goal

pub returns : goal.returns
unfolding word_of
returns c = refl
