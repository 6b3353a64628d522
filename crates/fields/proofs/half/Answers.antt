-- `fields::half`: the library's sum of two bytes is the definition's.
use Rattle.std.proofs.Common.{◌+◌, arith}
use Rattle.fields.specs.Fields.{half_at}
use Rattle.fields.proofs.half.Goals as goal

pub returns : goal.returns
unfolding half_at
returns c = omega (arith, c.from_le_bytes.ensures, c.type_inv.s c.args.at, c.type_inv.s (c.args.at + 1))
