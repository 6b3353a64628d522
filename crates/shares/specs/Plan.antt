-- What a scenario gives to every record, and what a record adds to the running sums: what the functions of `shares` promise.
use Rattle.std.specs.Prelude.{◌≡◌, true, false, not, ◌||◌, ℕ, ◌+◌, ◌≤◌, ◌<◌, ◌-◌, eqb, Result, Ok, Err, MatchResult}
use Rattle.rounding.specs.Sizes.{ten_digits, bias}
use Rattle.rounding.specs.declared.Direction.{Direction}
use Rattle.rounding.specs.declared.Direction.TheVariants.{Down, Up}
use Rattle.rounding.specs.declared.Number.{Number}
use Rattle.rounding.specs.Operations.{product_of, sum_of}
use Rattle.decimal.specs.Decimal.{decimal_of}
use Rattle.outcome.specs.declared.Refused.{Refused}
use Rattle.outcome.specs.Outcome.{located}
use Rattle.inputs.specs.declared.Scenario.{Scenario}
use Rattle.inputs.specs.declared.Contaminant.{Contaminant}
use Rattle.inputs.specs.Rules.{lacks_factor, contaminant_fits}
use Rattle.factors.specs.declared.numbers.ContaminantNumbers.{ContaminantNumbers}
use Rattle.terms.specs.declared.pathways.PathwayTerms.{PathwayTerms}
use Rattle.terms.specs.Side.{Terms}
use Rattle.factors.specs.Stands.{Stands, NumbersFor, Input}
use Rattle.factors.specs.Widths.{input_width, sum_width}
use Rattle.terms.specs.Side.{TermsFor, TotalSize}
use Rattle.shares.specs.declared.plan.Plan.{Plan}
use Rattle.shares.specs.declared.Worked.{Worked}
use Rattle.shares.specs.declared.SideRun.{SideRun}
use Rattle.shares.specs.Runs.{Runs}
use Rattle.sum_rules.specs.Share.{Running, used_of}
use Rattle.sum_rules.specs.ListCall.{first_refusal}

-- ---- the plan of a scenario and a medium
pub record Planned (s : Scenario) (medium : ℕ) (p : Plan) : Type 0 where
  pub scenario : p.scenario ≡ s
  pub media : p.medium ≡ medium

-- the plan for n records, or what is sent back before the first
abbrev pub Begun : Scenario → ℕ → ℕ → Result Plan Refused → Type 0
Begun s medium n x =
    MatchResult x (λ (p : Plan). Planned s medium p × (first_refusal s medium n ≡ Ok tt)) (λ (r : Refused). located (first_refusal s medium n) 0 ≡ Err r)

-- ---- the terms of a record that keeps its rules
pub record Workable (p : Plan) (r : Contaminant) : Type 0 where
  pub known : lacks_factor p.scenario ≡ false
  pub contaminant : contaminant_fits r ≡ true

abbrev pub total_from : PathwayTerms → Number
total_from s = sum_of Down (sum_of Down s.first s.second) s.third

pub record WorkedFor (p : Plan) (r : Contaminant) (w : Worked) : Type 0 where
  pub numbers : ContaminantNumbers
  pub stands : NumbersFor p.scenario.inhalation r numbers
  pub below : Terms
  pub upper_terms : TermsFor Up p.factors numbers p.scenario.inhalation p.medium r.class w.above
  pub lower_terms : TermsFor Down p.factors numbers p.scenario.inhalation p.medium r.class below
  pub risk : w.risk ≡ total_from below.risk
  pub hazard : w.hazard ≡ total_from below.hazard
  pub risk_size : TotalSize w.risk
  pub hazard_size : TotalSize w.hazard
  pub c : (dir : Direction) → Stands input_width w.c (used_of r dir)

-- ---- the running sums, as numbers
abbrev pub no_runs : Runs
no_runs = record {
  risk = record { lower = record { m = 0; x = (bias - 8) }; upper = record { m = 0; x = (bias - 8) }; any = false };
  hazard = record { lower = record { m = 0; x = (bias - 8) }; upper = record { m = 0; x = (bias - 8) }; any = false };
}

-- what they stand for
abbrev pub running_of : SideRun → Running
running_of x = record { lower = decimal_of x.lower; upper = decimal_of x.upper; any = x.any }

-- sums that leave room for a share
pub record NumberSize (r : Number) : Type 0 where
  pub most : r.m < ten_digits
  pub low : (bias - 8) ≤ r.x + sum_width
  pub high : r.x ≤ (bias - 8) + sum_width

pub record RunSize (x : SideRun) : Type 0 where
  pub lower : NumberSize x.lower
  pub upper : NumberSize x.upper

-- one share on each side
pub record Shared (x : SideRun) (c lower upper : Number) (y : SideRun) : Type 0 where
  pub below : y.lower ≡ sum_of Down x.lower (product_of Down c lower)
  pub above : y.upper ≡ sum_of Up x.upper (product_of Up c upper)
  pub some : y.any ≡ x.any || not (eqb upper.m 0)

-- a and b are the sums of the upper terms
pub record Addable (x : Runs) (w : Worked) (a b : Number) : Type 0 where
  pub c : Input w.c
  pub risk_run : RunSize x.risk
  pub hazard_run : RunSize x.hazard
  pub risk_lower : TotalSize w.risk
  pub hazard_lower : TotalSize w.hazard
  pub risk_upper : TotalSize a
  pub hazard_upper : TotalSize b

pub record Added (x : Runs) (w : Worked) (a b : Number) (y : Runs) : Type 0 where
  pub risk : Shared x.risk w.c w.risk a y.risk
  pub hazard : Shared x.hazard w.c w.hazard b y.hazard
