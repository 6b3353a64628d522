-- `fields::exponent`: the library's reading of 16 bits is the definition's.
use Rattle.std.proofs.Common.{◌∙◌}
use mir.Syntax.{w16, w32}
use mir.Facts.{to_z-of_z}
use Rattle.fields.proofs.Exponents.{signed_is}
use Rattle.fields.proofs.exponent.Goals as goal

pub returns : goal.returns
returns c =
    let wide = to_z-of_z {w = w32} {z = c.from.result} (record { sfits = c.from.type_inv }) in
    let read = to_z-of_z {w = w16} {z = c.cast_signed.result} (record { sfits = c.cast_signed.type_inv }) in
    wide ∙ c.from.ensures ∙ read ∙ c.cast_signed.ensures ∙ signed_is c.args.h
