-- From the bytes that an accepted site leaves to demand 3: reading block 0 gives the sums and verdicts of the answer, reading block k the
-- decimals of the single guideline for the record at place k, and every e read is from -999 to 999. Assumes nothing.
use mathlib.Core.Path.{◌≡◌, sym, subst, ◌∙◌}
use mathlib.Core.Bool.{true}
use mathlib.Core.List.{List, ◌++◌}
use Prim.Native.Nat.{ℕ, ◌≤◌}
use native.Mathlib.Omega.{arith}
use lib.ListN.{length, get_or}
use Rattle.rounding.specs.declared.Direction.{Direction}
use Rattle.rounding.specs.declared.Direction.TheVariants.{Down, Up}
use Rattle.decimal.specs.declared.Decimal.{Decimal}
use Rattle.decimal.specs.Decimal.{zero_of, biased_of, is_operand, all_operands}
use Rattle.decimal.proofs.OperandFacts.{operand_is}
use Rattle.decimal.proofs.Value.{raised_inside}
use Rattle.std.specs.Prelude.{Result, Ok}
use Rattle.outcome.specs.declared.Refused.{Refused}
use Rattle.outcome.specs.Outcome.{number_of}
use Rattle.outcome.proofs.Numbers.{accepted_value}
use Rattle.inputs.specs.declared.Scenario.{Scenario}
use Rattle.inputs.specs.declared.Contaminant.{Contaminant}
use Rattle.inputs.specs.Rules.{one_to, most_class}
use Rattle.inputs.proofs.Tests.{and_split, one_to_lem}
use Rattle.formulas.specs.Side.{Side, Risk, Hazard}
use Rattle.fields.specs.Fields.{InField}
use Rattle.guideline_rules.specs.Answer.{Guidelines}
use Rattle.guideline_rules.specs.Guideline.{guidelines_sent, guideline_of, guidelines_of}
use Rattle.guideline_rules.proofs.Promises.{accepted_is}
use Rattle.sum_rules.specs.Answer.{Sums}
use Rattle.sum_rules.specs.Promise.{side_sent}
use Rattle.block_rules.specs.Layouts.{guideline_decimals, summary_decimals}
use Rattle.block_rules.proofs.ResultsBack.{ResultRead, result_back, SummaryRead, summary_back}
use Rattle.site_rules.specs.Blocks.{block_at, header_of, record_at, site_records}
use Rattle.site_rules.specs.Site.{site_answer}
use Rattle.site_rules.specs.Results.{result_at, site_left}
use Rattle.site_rules.proofs.Opened.{count_most}
use Rattle.site_rules.proofs.Passed.{PassedSite, passed_site, accepted_as}
use Rattle.site_rules.proofs.SameSums.{site_sums}
use Rattle.site_rules.proofs.Promises.{site_guidelines}
use Rattle.site_rules.proofs.OutputBlocks.{summary_block_lem, result_block_lem}
use Rattle.decimal.proofs.Steps.{operands_append, operands_behind, operand_at, operand_among}
use Rattle.formulas.specs.Steps.{steps_for}
use Rattle.guideline_rules.specs.Steps.{calculated_steps, four_of, guideline_steps}
use Rattle.guideline_rules.proofs.InRange.{guideline_in_range}
use Rattle.sum_rules.specs.Steps.{reported_sum, list_steps}
use Rattle.sum_rules.proofs.InRange.{list_in_range}
use Rattle.sum_rules.proofs.OnTheWay.{sums_reported}

-- ---- a working decimal with an e from -999 to 999 fits its field
operand_fits : (d : Decimal) → is_operand (biased_of d) ≡ true → InField d
operand_fits d h = let o = operand_is d h in record { word = omega (arith, o.range.most); exponent = raised_inside d.e (omega (arith, o.range.low)) }

operands_fit : (ds : List Decimal) → all_operands ds ≡ true → (n : ℕ) → InField (get_or ds n zero_of)
operands_fit ds h n = operand_fits (get_or ds n zero_of) (operand_at ds h n)

-- the four guidelines of a side are on the way to it
four_operands : (s : Scenario) (medium : ℕ) (r : Contaminant) (side : Side) → all_operands (guideline_steps s medium r side) ≡ true →
    all_operands (four_of (guidelines_of s medium r side)) ≡ true
unfolding guideline_steps
four_operands s medium r side h =
    operands_behind (calculated_steps s medium r side) (four_of (guidelines_of s medium r side))
    (operands_behind (steps_for Up s medium r side) (calculated_steps s medium r side ++ four_of (guidelines_of s medium r side)) h)

-- ---- an accepted site
module _ (site out : List ℕ) (z : number_of (site_answer site (length out)) ≡ 0) where
  abbrev s : Scenario
  s = (header_of site).scenario

  abbrev medium : ℕ
  medium = (header_of site).medium

  passed : PassedSite site (length out) (header_of site)
  passed = passed_site site (length out) z

  summary_of : {a : Sums} → site_answer site (length out) ≡ Ok a →
      SummaryRead (block_at (site_left site out) 0) (side_sent (site_answer site (length out)) Risk) (side_sent (site_answer site (length out)) Hazard)
  summary_of {a} f =
      let rs = site_records site in
      let e = site_sums site (length out) z in
      let listed = accepted_as e z in
      let ok : (side : Side) (dir : Direction) → is_operand (biased_of (reported_sum dir (side_sent (Ok a) side))) ≡ true = λ side dir.
      subst (λ (x : Result Sums Refused). is_operand (biased_of (reported_sum dir (side_sent x side))) ≡ true) (sym e ∙ f)
      (operand_among _ (list_steps dir s medium side rs) (list_in_range s medium rs listed dir side) (sums_reported s medium rs listed dir side)) in
      rw (summary_block_lem site out z f, f)
      (summary_back a.risk a.hazard (operands_fit (summary_decimals a.risk a.hazard) (rw (ok Risk Down, ok Risk Up, ok Hazard Down, ok Hazard Up))))

  -- BLOCK 0 holds the four sums and two verdicts of the answer
  pub site_summary_back : SummaryRead (block_at (site_left site out) 0) (side_sent (site_answer site (length out)) Risk) (side_sent (site_answer site (length out)) Hazard)
  site_summary_back = summary_of (accepted_value (site_answer site (length out)) z).1

  module _ (k : ℕ) (first : 1 ≤ k) (last : k ≤ (header_of site).count) where
    abbrev r : Contaminant
    r = record_at site k

    guidelines_fit : (n : ℕ) → InField (get_or (guideline_decimals (guidelines_sent (guideline_of s medium r)).risk (guidelines_sent (guideline_of s medium r)).hazard) n zero_of)
    guidelines_fit =
        let z = site_guidelines site (length out) z k first last in
        let four : (side : Side) → all_operands (four_of (guidelines_of s medium r side)) ≡ true = λ side.
        four_operands s medium r side (guideline_in_range s medium r z side) in
        subst (λ (g : Result Guidelines Refused). (n : ℕ) → InField (get_or (guideline_decimals (guidelines_sent g).risk (guidelines_sent g).hazard) n zero_of))
        (sym (accepted_is s medium r z))
        (operands_fit (guideline_decimals (guidelines_of s medium r Risk) (guidelines_of s medium r Hazard))
        (operands_append (four_of (guidelines_of s medium r Risk)) (four_of (guidelines_of s medium r Hazard)) (four Risk) (four Hazard)))

    class_most : r.class ≤ most_class
    class_most = (one_to_lem most_class r.class (and_split (one_to most_class r.class) _ (passed.records k first last).fits).0).1

    -- BLOCK k holds the eight decimals of the single guideline for the record at place k
    pub site_result_back : ResultRead (block_at (site_left site out) k) k (record_at site k).class (record_at site k).id
        (guidelines_sent (guideline_of (header_of site).scenario (header_of site).medium (record_at site k))).risk
        (guidelines_sent (guideline_of (header_of site).scenario (header_of site).medium (record_at site k))).hazard
    unfolding result_at
    site_result_back =
        rw (result_block_lem site out z k first last)
        (result_back k r.class r.id (guidelines_sent (guideline_of s medium r)).risk (guidelines_sent (guideline_of s medium r)).hazard
        (omega (arith, count_most passed.opened)) (omega (arith, class_most)) guidelines_fit)
