-- The number of a verdict is at most 4. Assumes nothing.
use Prim.Native.Nat.{◌≤◌}
use native.Mathlib.Omega.{arith}
use Rattle.sum_rules.specs.declared.Verdict.{Verdict}
use Rattle.sum_rules.specs.declared.Verdict.TheVariants.{Within, Above, Undecided, NoPathway}
use Rattle.sum_rules.specs.Verdict.{verdict_number}

pub verdict_most : (v : Verdict) → verdict_number v ≤ 4
verdict_most Within = omega arith
verdict_most Above = omega arith
verdict_most Undecided = omega arith
verdict_most NoPathway = omega arith
