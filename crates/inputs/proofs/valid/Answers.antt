-- `inputs::valid`: the biased exponent decides the range, and whether the exponent is zero.
use Rattle.std.proofs.Common.{arith}
use mathlib.Core.Bool.{and_assoc}
use Rattle.inputs.specs.Valid.{valid_of}
use Rattle.decimal.proofs.Bias.{passed}
use Rattle.inputs.proofs.valid.Goals as goal

pub returns : goal.returns
unfolding valid_of
returns c = simp (passed c.args.d.e (omega arith) c.biased_exponent-x.ensures, and_assoc)
