-- `rounding::cut`: the picked digits and exponent are the definition's.
use Rattle.std.proofs.Common.{◌≡◌}
use Rattle.rounding.specs.Round.{cut_of}
use Rattle.rounding.proofs.CodeFacts.{cut_is}
use Rattle.rounding.proofs.Exponents.{cut_result}
use Rattle.rounding.proofs.cut.Goals as goal

picked : (c : goal.After-pick-2) → record { m = c.pick.result; x = c.pick-2.result } ≡ cut_of c.args.dir c.args.q c.args.x
picked c = cut_is c.args.dir c.args.q c.args.x c.divide-tenth.ensures c.pick.ensures c.pick-2.ensures

pub returns : goal.returns
returns c = (picked c, rw (picked c) (cut_result c.args.dir c.args.q c.args.x c.requires.0))
