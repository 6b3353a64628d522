-- The verdict of a side, tried in the specification's order: 4 none, 1 within, 2 above, 3 undecided; and its number.
use Rattle.std.specs.Prelude.{Bool, cond, not, ℕ}
use Rattle.decimal.specs.declared.Decimal.{Decimal}
use Rattle.decimal.specs.Decimal.{at_most_of}
use Rattle.sum_rules.specs.declared.Verdict.{Verdict}
use Rattle.sum_rules.specs.declared.Verdict.TheVariants.{Within, Above, Undecided, NoPathway}

abbrev pub verdict_number : Verdict → ℕ
verdict_number Within = 1
verdict_number Above = 2
verdict_number Undecided = 3
verdict_number NoPathway = 4

-- none when no contaminant has a pathway; within when the upper sum is at most the target; above when the lower sum is more
unfoldable pub verdict_of : Bool → Decimal → Decimal → Decimal → Verdict
verdict_of any lower upper target =
    cond (not any) NoPathway
    (cond (at_most_of upper target) Within
    (cond (not (at_most_of lower target)) Above Undecided))
