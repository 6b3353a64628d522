-- The state of the list call between two records, what it means, and what the functions over it promise.
use Rattle.std.specs.Prelude.{◌≡◌, true, false, List, ◌∷◌, ℕ, ◌+◌, ◌≤◌, leb, length, Result, Err, MatchResult}
use Rattle.rounding.specs.declared.Number.{Number}
use Rattle.decimal.specs.declared.Decimal.{Decimal}
use Rattle.decimal.specs.Decimal.{decimal_of}
use Rattle.outcome.specs.declared.Refused.{Refused}
use Rattle.inputs.specs.declared.Scenario.{Scenario}
use Rattle.inputs.specs.declared.Contaminant.{Contaminant}
use Rattle.inputs.specs.Earlier.{none_before}
use Rattle.inputs.specs.Rules.{contaminant_fits, most_contaminants, lacks_factor}
use Rattle.factors.specs.Widths.{share_width, sum_width}
use Rattle.formulas.specs.Side.{Risk, Hazard}
use Rattle.formulas.specs.Target.{working_target}
use Rattle.factors.specs.Stands.{Stands}
use Rattle.shares.specs.declared.plan.Plan.{Plan}
use Rattle.shares.specs.declared.SideRun.{SideRun}
use Rattle.shares.specs.Runs.{Runs}
use Rattle.sums.specs.declared.State.{State}
use Rattle.sum_rules.specs.declared.SideSums.{SideSums}
use Rattle.sum_rules.specs.Answer.{Sums}
use Rattle.sum_rules.specs.Verdict.{verdict_of}
use Rattle.sum_rules.specs.Share.{next}
use Rattle.sum_rules.specs.ListCall.{walk}
use Rattle.shares.specs.Plan.{no_runs, running_of}

-- the answer from this state with the rest of the records
unfoldable pub answer_from : Plan → State → List Contaminant → Result Sums Refused
answer_from p t rs = walk p.scenario p.medium rs t.place t.before (running_of t.runs.risk) (running_of t.runs.hazard)

-- the places of the rest end at 120
pub record Room (t : State) (rs : List Contaminant) : Type 0 where
  pub room : t.place + length rs ≤ most_contaminants + 1

-- the sums of a side after some records, with the range of their exponents
pub record SideReady (w : ℕ) (x : SideRun) : Type 0 where
  pub lower : Stands w x.lower (decimal_of x.lower)
  pub upper : Stands w x.upper (decimal_of x.upper)

pub record RunsReady (w : ℕ) (x : Runs) : Type 0 where
  pub risk : SideReady w x.risk
  pub hazard : SideReady w x.hazard

-- the sums y after x and the record r at a place
pub record NextRuns (p : Plan) (r : Contaminant) (place : ℕ) (x y : Runs) : Type 0 where
  pub ready : RunsReady (share_width + (place + 1)) y
  pub risk : running_of y.risk ≡ next p.scenario p.medium Risk (running_of x.risk) r
  pub hazard : running_of y.hazard ≡ next p.scenario p.medium Hazard (running_of x.hazard) r

-- what every state keeps
pub record Good (p : Plan) (t : State) : Type 0 where
  pub known : lacks_factor p.scenario ≡ false
  pub place : t.place ≤ most_contaminants + 1
  pub runs : RunsReady (share_width + t.place) t.runs

-- u is the state after t and the record r
pub record Moved (p : Plan) (t : State) (r : Contaminant) (u : State) : Type 0 where
  pub good : Good p u
  pub same : (rs : List Contaminant) → Room t (r ∷ rs) → answer_from p t (r ∷ rs) ≡ answer_from p u rs
  pub room : (rs : List Contaminant) → Room t (r ∷ rs) → Room u rs

-- e is the answer at the record r, whatever comes after it
pub record Stopped (p : Plan) (t : State) (r : Contaminant) (e : Refused) : Type 0 where
  pub same : (rs : List Contaminant) → answer_from p t (r ∷ rs) ≡ Err e

abbrev pub Stepped : Plan → State → Contaminant → Result State Refused → Type 0
Stepped p t r x = MatchResult x (Moved p t r) (Stopped p t r)

-- ---- what the parts of a step make
abbrev pub first_of : State
first_of = record { place = 1; before = none_before; runs = no_runs }

pub record Advancing (p : Plan) (t : State) (r : Contaminant) : Type 0 where
  pub good : Good p t
  pub place : t.place ≤ most_contaminants
  pub fits : contaminant_fits r ≡ true
  pub rising : leb r.id t.before.id ≡ false

-- a number that can be compared by its worth
abbrev pub Comparable : Number → Type 0
Comparable r = Stands sum_width r (decimal_of r)

-- the sums of a side with its target in working form
abbrev pub side_sums_of : SideRun → Decimal → SideSums
side_sums_of x target = record {
  lower = decimal_of x.lower;
  upper = decimal_of x.upper;
  verdict = verdict_of x.any (decimal_of x.lower) (decimal_of x.upper) target;
}

abbrev pub reported_of : Scenario → Runs → Sums
reported_of s x = record {
  risk = side_sums_of x.risk (working_target s Risk);
  hazard = side_sums_of x.hazard (working_target s Hazard);
}
