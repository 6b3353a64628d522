-- What the saturation changes of an accepted guideline: inhalation of a chemical in soil, where it is below what is calculated, and nothing else.
-- Assumes nothing.
use mathlib.Core.Path.{◌≡◌, refl, ◌∙◌}
use mathlib.Core.Bool.{Bool, true, false}
use Prim.Native.Nat.{ℕ, min}
use native.Mathlib.Omega.{arith}
use lib.Dec.{eqb}
use borrow.Author.Tests.{eqb-true}
use Rattle.decimal.specs.Decimal.{value_of}
use Rattle.decimal.proofs.Steps.{value_operable}
use Rattle.outcome.specs.Outcome.{number_of}
use Rattle.inputs.specs.declared.Scenario.{Scenario}
use Rattle.inputs.specs.declared.Contaminant.{Contaminant}
use Rattle.inputs.specs.declared.earlier.Earlier.{Earlier}
use Rattle.inputs.proofs.Tests.{and_split}
use Rattle.formulas.specs.Side.{Side}
use Rattle.formulas.specs.Sides.{side_at}
use Rattle.guideline_rules.specs.Pathway.{has_pathway, record_refusal}
use Rattle.guideline_rules.specs.Saturation.{has_saturation, SaturationCounts, Replaced, without_saturation, SameButInhalation}
use Rattle.guideline_rules.specs.Guideline.{side_of, calculated_of, is_capped, guidelines_sent, guideline_of}
use Rattle.guideline_rules.proofs.Saturation.{counted, counts, above, saturation_worth, capped_worth}
use Rattle.guideline_rules.proofs.Promises.{accepted_of, side_is, inhalation, saturation_valid}

not_counted : (medium : ℕ) (r : Contaminant) → (SaturationCounts medium r → ⊥) → has_saturation medium r ≡ false
not_counted medium r n = cases (has_saturation medium r) refl
  where
    cases : (b : Bool) → has_saturation medium r ≡ b → b ≡ false
    cases true e = absurd (n (counts medium r e))
    cases false e = refl

module _ (s : Scenario) (medium : ℕ) (r : Contaminant) where
  -- the saturation makes no pathway: the tests of a record, 8 among them, do not look at it
  pub refusal_without_saturation : (before : Earlier) → record_refusal s medium before (without_saturation r) ≡ record_refusal s medium before r
  unfolding record_refusal has_pathway
  refusal_without_saturation before = refl

  -- nor does what is calculated
  pub calculated_without_saturation : (side : Side) → calculated_of s medium (without_saturation r) side ≡ calculated_of s medium r side
  unfolding side_of
  calculated_without_saturation side = refl

  module _ (z : number_of (guideline_of s medium r) ≡ 0) (side : Side) where
    -- ingestion, pathway 3 and the total are as calculated, whatever the saturation
    pub others_as_calculated : SameButInhalation (side_at (guidelines_sent (guideline_of s medium r)) side) (calculated_of s medium r side)
    unfolding side_of
    others_as_calculated = rw (side_is s medium r z side) (record { first = refl; third = refl; total = refl })

    -- and so is inhalation in water, of what is no chemical, and without a saturation
    pub saturation_ignored : (SaturationCounts medium r → ⊥) → side_at (guidelines_sent (guideline_of s medium r)) side ≡ calculated_of s medium r side
    unfolding side_of
    saturation_ignored n = side_is s medium r z side ∙ rw (not_counted medium r n) refl

    -- otherwise inhalation is worth the lower of what is calculated, after its rounding, and the saturation
    pub inhalation_worth : SaturationCounts medium r →
        value_of (side_at (guidelines_sent (guideline_of s medium r)) side).second ≡ min (value_of (calculated_of s medium r side).second) (value_of r.saturation)
    inhalation_worth k =
        let a = accepted_of s medium r z in
        let o = value_operable (inhalation s medium r a side) in
        rw (side_is s medium r z side) (capped_worth r (saturation_valid s medium r a) medium (calculated_of s medium r side).second o (counted medium r k))

    -- a capped guideline is that of inhalation, and what is calculated of it is worth more than the saturation
    pub capped_only_above : (n : ℕ) → is_capped s medium r side n ≡ true → Replaced medium r (calculated_of s medium r side) n
    capped_only_above n h =
        let a = accepted_of s medium r z in
        let v = saturation_valid s medium r a in
        let p = and_split (eqb n 1) _ h in
        let u = above r v medium (calculated_of s medium r side).second (value_operable (inhalation s medium r a side)) p.1 in
        record { inhalation = eqb-true n 1 p.0; counts = u.counts; above = omega (arith, u.less, saturation_worth r v) }
