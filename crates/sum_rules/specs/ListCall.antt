-- The list call: the sums of both sides over a list of contaminants, or what is sent back.
use Rattle.std.specs.Prelude.{cond, not, ◌&&◌, List, [], ◌∷◌, ℕ, ◌+◌, leb, length, Result, Ok, ⊤}
use Rattle.outcome.specs.declared.Refusal.{Refusal}
use Rattle.outcome.specs.declared.Refused.{Refused}
use Rattle.outcome.specs.declared.Refusal.TheVariants.{Length, Field, Order}
use Rattle.outcome.specs.Outcome.{refused, Test, test, refused_by, passing}
use Rattle.inputs.specs.declared.Scenario.{Scenario}
use Rattle.inputs.specs.declared.Contaminant.{Contaminant}
use Rattle.inputs.specs.declared.earlier.Earlier.{Earlier}
use Rattle.inputs.specs.Earlier.{none_before, before_next}
use Rattle.inputs.specs.Rules.{scenario_tests, contaminant_fits, most_contaminants}
use Rattle.formulas.specs.Side.{Side, Risk, Hazard}
use Rattle.formulas.specs.Target.{working_target}
use Rattle.guideline_rules.specs.Pathway.{record_refusal}
use Rattle.sum_rules.specs.declared.SideSums.{SideSums}
use Rattle.sum_rules.specs.Answer.{Sums}
use Rattle.sum_rules.specs.Share.{Running, start, next}
use Rattle.sum_rules.specs.Verdict.{verdict_of}

-- ---- what comes back
abbrev pub side_sums : Scenario → Side → Running → SideSums
side_sums s side t = record { lower = t.lower; upper = t.upper; verdict = verdict_of t.any t.lower t.upper (working_target s side) }

abbrev pub accepted : Scenario → Running → Running → Result Sums Refused
accepted s risk hazard = Ok (record { risk = side_sums s Risk risk; hazard = side_sums s Hazard hazard })

-- ---- before the first of n records: 1 for a list of none or over 120, then the tests of the scenario
abbrev pub first_tests : Scenario → ℕ → ℕ → List Test
first_tests s medium n = test Length (not (leb 1 n && leb n most_contaminants)) ∷ scenario_tests s medium

unfoldable pub first_refusal : Scenario → ℕ → ℕ → Result ⊤ Refusal
first_refusal s medium n = refused_by (first_tests s medium n)

-- ---- record by record, the n-th counting as block n, with what stands before it: 4, 7, then the tests of a record, or the answer with this
-- record taken in
unfoldable pub walk : Scenario → ℕ → List Contaminant → ℕ → Earlier → Running → Running → Result Sums Refused
walk s medium [] n before risk hazard = accepted s risk hazard
walk s medium (r ∷ rs) n before risk hazard =
    cond (contaminant_fits r)
    (cond (leb r.id before.id) (refused Order n)
    (passing (record_refusal s medium before r) n (walk s medium rs (n + 1) (before_next before r) (next s medium Risk risk r) (next s medium Hazard hazard r))))
    (refused Field n)

-- in block 0 the tests before the first record, then the records
unfoldable pub sums_of : Scenario → ℕ → List Contaminant → Result Sums Refused
sums_of s medium rs = passing (first_refusal s medium (length rs)) 0 (walk s medium rs 1 none_before start start)
