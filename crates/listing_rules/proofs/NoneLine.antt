-- The sum line of a side with verdict 4 is exactly "sum SIDE - - none". Assumes nothing.
use mathlib.Core.Path.{◌≡◌, refl, ap, subst, ◌∙◌}
use mathlib.Core.List.{List}
use Prim.Native.Nat.{ℕ}
use native.Mathlib.Omega.{arith}
use Rattle.std.specs.Prelude.{Result, Ok}
use Rattle.outcome.specs.declared.Refused.{Refused}
use Rattle.outcome.specs.Outcome.{number_of}
use Rattle.sum_rules.specs.Answer.{Sums}
use Rattle.sum_rules.specs.declared.SideSums.{SideSums}
use Rattle.sum_rules.specs.declared.Verdict.{Verdict}
use Rattle.sum_rules.specs.declared.Verdict.TheVariants.{Within, Above, Undecided, NoPathway}
use Rattle.formulas.specs.Side as formulas
use Rattle.sum_rules.specs.Verdict.{verdict_number}
use Rattle.sum_rules.specs.Promise.{sent_of, side_sent, ZeroSums}
use Rattle.formulas.specs.Sides.{side_at}
use Rattle.site_rules.specs.Site.{site_answer}
use Rattle.site_rules.proofs.Promises.{site_none_zero}
use Rattle.text.specs.Decimals.{or_else}
use Rattle.listing_rules.specs.declared.Side.{Side}
use Rattle.listing_rules.specs.declared.Side.TheVariants.{Risk, Hazard}
use Rattle.listing_rules.specs.Lines.{listed, sum_line, none_line}

-- verdict 4 is one case
is_none : (v : Verdict) → verdict_number v ≡ 4 → v ≡ NoPathway
is_none Within h = absurd (omega (arith, h))
is_none Above h = absurd (omega (arith, h))
is_none Undecided h = absurd (omega (arith, h))
is_none NoPathway h = refl

zero_line : (side : Side) (t : SideSums) → t.verdict ≡ NoPathway → ZeroSums (sent_of t) → sum_line side t ≡ none_line side
unfolding sum_line none_line or_else
zero_line Risk t e z = rw (e, z.lower, z.upper)
zero_line Hazard t e z = rw (e, z.lower, z.upper)

-- THE LINE of a side without a pathway
pub none_line_lem : (site : List ℕ) (out : ℕ) {a : Sums} → site_answer site out ≡ Ok a → (side : formulas.Side) →
    verdict_number (side_at a side).verdict ≡ 4 → sum_line (listed side) (side_at a side) ≡ none_line (listed side)
none_line_lem site out {a} e side v =
    let t = side_at a side in
    let sent : (side_sent (site_answer site out) side).verdict ≡ 4 = ap (λ (x : Result Sums Refused). (side_sent x side).verdict) e ∙ v in
    zero_line (listed side) t (is_none t.verdict v)
    (subst (λ (x : Result Sums Refused). ZeroSums (side_sent x side)) e (site_none_zero site out (ap number_of e) side sent))
