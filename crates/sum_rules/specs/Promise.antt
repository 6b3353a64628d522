-- The words of demand 3 after its first sentence.
use Rattle.std.specs.Prelude.{◌≡◌, Bool, true, false, ◌&&◌, ◌||◌, List, [], ◌∷◌, map, ℕ, eqb, Result, Ok, Err}
use Rattle.decimal.specs.declared.Decimal.{Decimal}
use Rattle.decimal.specs.Decimal.{zero_of}
use Rattle.decimal.specs.Fraction.{Fraction, nothing, given, times, AtMost}
use Rattle.decimal.specs.Lists.{plus_all}
use Rattle.outcome.specs.declared.Refused.{Refused}
use Rattle.inputs.specs.declared.Scenario.{Scenario}
use Rattle.inputs.specs.declared.Contaminant.{Contaminant}
use Rattle.formulas.specs.Side.{Side}
use Rattle.formulas.specs.Sides.{side_at}
use Rattle.formulas.specs.Term.{formulas_for}
use Rattle.formulas.specs.ExactTerm.{exact_for, any_present}
use Rattle.sum_rules.specs.declared.SideSums.{SideSums}
use Rattle.sum_rules.specs.Answer.{Sums}
use Rattle.sum_rules.specs.Verdict.{verdict_number}
use Rattle.sum_rules.specs.Share.{exact_share}

-- the exact sum of a list on a side: each record at its own concentration
abbrev pub exact_sum : Scenario → ℕ → Side → List Contaminant → Fraction
exact_sum s medium side rs = plus_all nothing (map (exact_share s medium side) rs)

-- some contaminant of the list has a pathway on the side
abbrev pub some_pathway : Scenario → ℕ → Side → List Contaminant → Bool
some_pathway s medium side [] = false
some_pathway s medium side (r ∷ rs) = any_present (exact_for s r) (formulas_for s medium r side) || some_pathway s medium side rs

-- C is zero throughout
abbrev pub no_concentration : List Contaminant → Bool
no_concentration [] = true
no_concentration (r ∷ rs) = eqb r.c.m 0 && no_concentration rs

-- ---- what is sent back of a side
-- two sums and the number of the verdict
pub record SideSent : Type 0 where
  pub lower : Decimal
  pub upper : Decimal
  pub verdict : ℕ

abbrev pub sent_of : SideSums → SideSent
sent_of t = record { lower = t.lower; upper = t.upper; verdict = verdict_number t.verdict }

-- those of each case: zeros on a refusal
abbrev pub side_sent : Result Sums Refused → Side → SideSent
side_sent (Ok a) side = sent_of (side_at a side)
side_sent (Err r) side = record { lower = zero_of; upper = zero_of; verdict = 0 }

-- both sums are (0, 0): what "none" says beside its verdict
pub record ZeroSums (t : SideSent) : Type 0 where
  pub lower : t.lower ≡ zero_of
  pub upper : t.upper ≡ zero_of

-- 1 + 2/1,000,000 and 1 - 2/1,000,000
abbrev pub more : Fraction
more = record { top = 1000002; bottom = 1000000 }

abbrev pub less : Fraction
less = record { top = 999998; bottom = 1000000 }

-- the sums enclose the exact sum, each within 2/1,000,000 of it
pub record Enclosed (lower upper : Decimal) (exact : Fraction) : Type 0 where
  pub below : AtMost (given lower) exact
  pub above : AtMost exact (given upper)
  pub lower_near : AtMost (times exact less) (given lower)
  pub upper_near : AtMost (given upper) (times exact more)

-- p is more than q
abbrev pub MoreThan : Fraction → Fraction → Type 0
MoreThan p q = AtMost p q → ⊥

-- what the verdict says of the exact sum and the target
pub record Judged (verdict : ℕ) (some : Bool) (exact target : Fraction) : Type 0 where
  pub none : verdict ≡ 4 → some ≡ false
  pub never_none : some ≡ false → verdict ≡ 4
  pub within : verdict ≡ 1 → AtMost exact target
  pub above : verdict ≡ 2 → MoreThan exact target
  pub undecided_low : verdict ≡ 3 → AtMost (times exact less) target
  pub undecided_high : verdict ≡ 3 → AtMost target (times exact more)
