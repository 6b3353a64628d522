-- The buffer was filled, so its bytes are the ones that were read.
use Rattle.std.proofs.Common.{rules, subst}
use Rattle.std.proofs.lemmas.List.{take_all}
use Rattle.std.specs.Io.KnownBytes.{Consumes}
use Rattle.input_bytes.proofs.next_word.Goals as goal

pub returns : goal.returns
returns g c =
    let all = take_all c.in_ok-read_full.field-0 c.read_full.new.buf (search rules) in
    (c.read_full.new.buf, search rules, subst (Consumes _ _) all c.in_ok-read_full.ensures.bytes, search rules)
