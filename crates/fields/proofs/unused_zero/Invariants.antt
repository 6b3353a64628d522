-- `fields::unused_zero`: what is found so far, and what is left, make the whole.
use Rattle.std.proofs.Common.{◌≡◌, ◌+◌, ◌*◌, ◌-◌}
use mathlib.Core.Bool.{◌&&◌}
use Rattle.fields.specs.Fields.{unused_zero}
use Rattle.fields.proofs.unused_zero.Given as goal

abbrev pub invariant-loop-i : goal.invariant-loop-i
invariant-loop-i l = l.ok && unused_zero l.s (l.at + 8 * l.i) (l.n - l.i) ≡ unused_zero l.s l.at l.n
