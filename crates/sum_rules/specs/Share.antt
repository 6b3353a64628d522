-- A contaminant's share of a side's sums, and one step of the running sums (docs/SPECIFICATION.md, "Guidelines, sums, verdicts").
use Rattle.std.specs.Prelude.{Bool, false, ◌||◌, List, [], ◌∷◌, ℕ}
use Rattle.rounding.specs.declared.Direction.{Direction}
use Rattle.rounding.specs.declared.Direction.TheVariants.{Down, Up}
use Rattle.decimal.specs.declared.Decimal.{Decimal}
use Rattle.decimal.specs.Decimal.{zero_of, mul_of, add_of, working_of}
use Rattle.decimal.specs.Fraction.{Fraction, given, times}
use Rattle.inputs.specs.declared.Scenario.{Scenario}
use Rattle.inputs.specs.declared.Contaminant.{Contaminant}
use Rattle.formulas.specs.Side.{Side}
use Rattle.formulas.specs.Term.{total_of, formulas_for, values_for}
use Rattle.formulas.specs.ExactTerm.{exact_total, exact_for}
use Rattle.guideline_rules.specs.Pathway.{has_pathway}

-- the sum of the terms of a side: upper terms added up, lower ones down
unfoldable pub term_sum : Scenario → ℕ → Contaminant → Direction → Side → Decimal
term_sum s medium r dir side = total_of (values_for dir s r) dir (formulas_for s medium r side)

-- the concentration that a sum uses: C
unfoldable pub used_of : Contaminant → Direction → Decimal
used_of r dir = working_of r.c

-- the concentration times the term sum, up with the upper, down with the lower
unfoldable pub share_of : Scenario → ℕ → Contaminant → Direction → Side → Decimal
share_of s medium r dir side = mul_of (used_of r dir) (term_sum s medium r dir side) dir

-- ---- the running sums of a side
pub record Running : Type 0 where
  pub lower : Decimal
  pub upper : Decimal
  pub any : Bool

-- the sum of a direction: the lower is rounded down, the upper up
abbrev pub run_sum : Direction → Running → Decimal
run_sum Down t = t.lower
run_sum Up t = t.upper

abbrev pub start : Running
start = record { lower = zero_of; upper = zero_of; any = false }

-- one step: the shares are added down and up
abbrev pub next : Scenario → ℕ → Side → Running → Contaminant → Running
next s medium side t r = record {
  lower = add_of t.lower (share_of s medium r Down side) Down;
  upper = add_of t.upper (share_of s medium r Up side) Up;
  any = t.any || has_pathway s medium r side;
}

-- the running sums of a side over a list
abbrev pub run_all : Scenario → ℕ → Side → Running → List Contaminant → Running
run_all s medium side t [] = t
run_all s medium side t (r ∷ rs) = run_all s medium side (next s medium side t r) rs

-- ---- exactly: the concentration as given times the sum of the exact terms
unfoldable pub exact_used : Contaminant → Fraction
exact_used r = given r.c

unfoldable pub exact_share : Scenario → ℕ → Side → Contaminant → Fraction
exact_share s medium side r = times (exact_used r) (exact_total (exact_for s r) (formulas_for s medium r side))
