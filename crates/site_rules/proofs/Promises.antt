-- Demand 3 for an accepted site: its sums enclose the exact sums, its verdicts judge them, and its guidelines keep the targets. Each is the
-- promise of the list call or of the single guideline, for the records of the site. Assumes nothing.
use mathlib.Core.Path.{◌≡◌, sym, subst}
use mathlib.Core.Bool.{true, false}
use mathlib.Core.List.{List}
use Prim.Native.Nat.{ℕ, ◌≤◌, ◌<◌}
use lib.ListN.{get_or}
use Rattle.decimal.specs.Fraction.{given}
use Rattle.std.specs.Prelude.{Result}
use Rattle.outcome.specs.declared.Refused.{Refused}
use Rattle.outcome.specs.Outcome.{number_of}
use Rattle.inputs.specs.declared.Scenario.{Scenario}
use Rattle.inputs.specs.declared.Contaminant.{Contaminant}
use Rattle.inputs.specs.Rules.{scenario_fits, lacks_factor, scenario_refusal}
use Rattle.formulas.specs.Side.{Side}
use Rattle.formulas.specs.Target.{target_of}
use Rattle.formulas.specs.Formula.{none}
use Rattle.formulas.specs.Term.{formulas_for}
use Rattle.formulas.specs.ExactTerm.{exact_present, exact_term, exact_total, exact_for, any_present}
use Rattle.guideline_rules.specs.Guideline.{is_capped, guidelines_sent, guideline_of}
use Rattle.guideline_rules.specs.Promise.{pathway_at, Promised, PathwayPromised}
use Rattle.formulas.specs.Sides.{side_at}
use Rattle.guideline_rules.proofs.Promises.{promise, pathway_promises}
use Rattle.sum_rules.specs.Answer.{Sums}
use Rattle.sum_rules.specs.ListCall.{sums_of}
use Rattle.sum_rules.specs.Promise.{exact_sum, some_pathway, no_concentration, side_sent, ZeroSums, Enclosed, Judged}
use Rattle.sum_rules.proofs.Verdicts.{sums_enclose, zero_within, verdict_judges}
use Rattle.sum_rules.proofs.NoPathway.{none_zero}
use Rattle.site_rules.specs.Blocks.{header_of, record_at, site_records}
use Rattle.site_rules.specs.Site.{site_answer}
use Rattle.site_rules.specs.Passed.{RecordOk}
use Rattle.site_rules.proofs.Opened.{opened_fits, opened_known}
use Rattle.site_rules.proofs.Passed.{accepted_as, passed_site}
use Rattle.site_rules.proofs.SameSums.{site_sums}

-- the single guideline accepts a record that keeps its rules and passed its tests
guideline_accepted : (s : Scenario) (medium : ℕ) (r : Contaminant) → scenario_fits s medium ≡ true → lacks_factor s ≡ false → RecordOk s medium r →
    number_of (guideline_of s medium r) ≡ 0
unfolding guideline_of scenario_refusal
guideline_accepted s medium r fits known ok = rw (fits, known, ok.fits, ok.passed)

module _ (site : List ℕ) (out : ℕ) (z : number_of (site_answer site out) ≡ 0) where
  abbrev s : Scenario
  s = (header_of site).scenario

  abbrev medium : ℕ
  medium = (header_of site).medium

  abbrev records : List Contaminant
  records = site_records site

  -- ---- the sums and the verdicts
  listed : number_of (sums_of s medium records) ≡ 0
  listed = accepted_as (site_sums site out z) z

  module _ (side : Side) where
    -- DEMAND 3: the exact sum lies from the lower to the upper sum, and each differs from it by at most 2/1,000,000 of it
    pub site_enclosed : Enclosed (side_sent (site_answer site out) side).lower (side_sent (site_answer site out) side).upper (exact_sum s medium side records)
    site_enclosed =
        subst (λ (a : Result Sums Refused). Enclosed (side_sent a side).lower (side_sent a side).upper (exact_sum s medium side records)) (sym (site_sums site out z))
        (sums_enclose s medium records listed side)

    -- DEMAND 3: what the verdict says of the exact sum and the target
    pub site_judged : Judged ((side_sent (site_answer site out) side).verdict) (some_pathway s medium side records) (exact_sum s medium side records)
        (given (target_of s side))
    site_judged =
        subst (λ (a : Result Sums Refused). Judged ((side_sent a side).verdict) (some_pathway s medium side records) (exact_sum s medium side records) (given (target_of s side)))
        (sym (site_sums site out z)) (verdict_judges s medium records listed side)

    -- with a pathway and C zero throughout the verdict is "within"
    pub site_zero_within : some_pathway s medium side records ≡ true → no_concentration records ≡ true → (side_sent (site_answer site out) side).verdict ≡ 1
    site_zero_within k c =
        subst (λ (a : Result Sums Refused). (side_sent a side).verdict ≡ 1) (sym (site_sums site out z)) (zero_within s medium records listed side k c)

    -- "none" has zero sums
    pub site_none_zero : (side_sent (site_answer site out) side).verdict ≡ 4 → ZeroSums (side_sent (site_answer site out) side)
    site_none_zero =
        subst (λ (a : Result Sums Refused). (side_sent a side).verdict ≡ 4 → ZeroSums (side_sent a side)) (sym (site_sums site out z))
        (none_zero s medium records listed side)

  -- ---- the guidelines of the record at place k
  module _ (k : ℕ) (first : 1 ≤ k) (last : k ≤ (header_of site).count) where
    pub site_guidelines : number_of (guideline_of (header_of site).scenario (header_of site).medium (record_at site k)) ≡ 0
    site_guidelines =
        let p = passed_site site out z in
        guideline_accepted s medium (record_at site k) (opened_fits p.opened) (opened_known p.opened) (p.records k first last)

    -- DEMAND 3, first sentence: the total guideline is above zero exactly when there is a pathway on that side, and then it keeps the target
    pub site_promise : (side : Side) → Promised (side_at (guidelines_sent (guideline_of s medium (record_at site k))) side).total (given (target_of s side))
        (any_present (exact_for s (record_at site k)) (formulas_for s medium (record_at site k) side)) (exact_total (exact_for s (record_at site k)) (formulas_for s medium (record_at site k) side))
    site_promise side = promise s medium (record_at site k) site_guidelines side

    -- the same of each pathway's own guideline, but for the lower bound where the saturation stands in its place
    pub site_pathway_promises : (side : Side) (n : ℕ) → n < 3 → PathwayPromised (pathway_at (side_at (guidelines_sent (guideline_of s medium (record_at site k))) side) n) (given (target_of s side))
        (exact_present (exact_for s (record_at site k)) (get_or (formulas_for s medium (record_at site k) side) n none))
        (exact_term (exact_for s (record_at site k)) (get_or (formulas_for s medium (record_at site k) side) n none)) (is_capped s medium (record_at site k) side n)
    site_pathway_promises side n m = pathway_promises s medium (record_at site k) site_guidelines side n m
