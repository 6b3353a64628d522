-- `site::length_ok`: the three tests are the definition's.
use Rattle.std.proofs.Common.{◌%◌, eqb, leb}
use mathlib.Core.Bool.{and_assoc}
use Rattle.site_rules.specs.Blocks.{length_ok}
use Rattle.site.proofs.length_ok.Goals as goal

pub returns : goal.returns
unfolding length_ok
returns c = and_assoc (leb 1024 c.args.n) (leb c.args.n 61952) (eqb (c.args.n % 512) 0)
