-- `inputs::all_valid`: what is found so far, and what is left, make the whole.
use Rattle.std.proofs.Common.{◌≡◌, drop}
use mathlib.Core.Bool.{◌&&◌}
use Rattle.inputs.specs.Valid.{all_valid}
use Rattle.inputs.proofs.all_valid.Given as goal

abbrev pub invariant-loop-d : goal.invariant-loop-d
invariant-loop-d g l = l.ok && all_valid (drop l.d-index l.d-items) ≡ all_valid l.d-items
