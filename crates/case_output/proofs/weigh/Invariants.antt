-- The weight so far, and that of the bytes from place i on, add up to the weight of all.
use Rattle.std.proofs.Common.{◌≡◌, ◌+◌, ◌%◌, ◌^◌, drop}
use Rattle.case_output.specs.Printed.{weight, weight_from}
use Rattle.case_output.proofs.weigh.Given as goal

abbrev pub invariant-loop-i : goal.invariant-loop-i
invariant-loop-i l = (l.t + weight_from (l.i + 1) (drop l.i l.out)) % 2 ^ 32 ≡ weight l.out
