-- `fields::code`: the low 16 bits of a number are its code.
use Rattle.std.proofs.Common.{ℕ, ◌%◌, ap, ◌∙◌}
use mir.Syntax.{w32}
use mir.Val.{of_z}
use mir.Facts.{to_z-of_z}
use Rattle.fields.proofs.Exponents.{code_is}
use Rattle.fields.proofs.code.Goals as goal

pub returns : goal.returns
returns c =
    let bits = c.cast_unsigned.ensures ∙ ap (of_z w32) (to_z-of_z c.ranges.e) in
    ap (λ (n : ℕ). n % 65536) bits ∙ code_is c.args.e c.ranges.e
