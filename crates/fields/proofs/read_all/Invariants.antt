-- `fields::read_all`: the decimals so far are those of the fields so far.
use Rattle.std.proofs.Common.{◌≡◌, take, length}
use Rattle.fields.specs.Fields.{decimals_at}
use Rattle.fields.proofs.read_all.Given as goal

abbrev pub invariant-loop-i : goal.invariant-loop-i
invariant-loop-i g l = (length l.ds ≡ g.row.N) × (take l.i l.ds ≡ decimals_at l.s l.at l.i)
