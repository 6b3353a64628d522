-- `fields::read`: the word, and the number that the two bytes behind it stand for.
use Rattle.std.proofs.Common.{ap, ◌∙◌}
use mir.Syntax.{w32}
use mir.Facts.{to_z-of_z}
use Rattle.fields.specs.Fields.{signed_of, decimal_at}
use Rattle.fields.proofs.read.Goals as goal

pub returns : goal.returns
unfolding decimal_at
returns c = λ k. record {
  m = c.word.ensures k;
  e = (to_z-of_z {w = w32} {z = c.exponent.result} (record { sfits = c.exponent.type_inv }) ∙ c.exponent.ensures ∙ ap signed_of c.half.ensures) k;
}
