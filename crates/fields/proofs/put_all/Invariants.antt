-- `fields::put_all`: the fields of the decimals so far are written.
use Rattle.std.proofs.Common.{◌≡◌, take}
use Rattle.words.specs.Bytes.{placed}
use Rattle.fields.specs.Fields.{field_bytes}
use Rattle.fields.proofs.put_all.Given as goal

abbrev pub invariant-loop-i : goal.invariant-loop-i
invariant-loop-i g l = l.out ≡ placed l.fn.out l.at (field_bytes (take l.i l.ds))
