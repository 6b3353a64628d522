-- In water refusals, sums and verdicts do not look at ages and ABS that keep their rule: a list with others has the same answer. Assumes nothing.
use mathlib.Core.Path.{◌≡◌, refl, sym, ap, ◌∙◌}
use mathlib.Core.Bool.{Bool, true, not, ◌&&◌}
use mathlib.Core.List.{List, [], ◌∷◌, map}
use Prim.Native.Nat.{ℕ}
use lib.Dec.{leb}
use lib.ListN.{take}
use Rattle.decimal.specs.declared.Decimal.{Decimal}
use Rattle.outcome.specs.declared.Refusal.TheVariants.{Length, Field, Factor}
use Rattle.outcome.specs.Outcome.{test, refused_by}
use Rattle.inputs.specs.declared.groups.Ages.{Ages}
use Rattle.inputs.specs.declared.Scenario.{Scenario}
use Rattle.inputs.specs.declared.Contaminant.{Contaminant}
use Rattle.inputs.specs.declared.kind.Medium.TheVariants.{Soil}
use Rattle.inputs.specs.Kinds.{medium_number}
use Rattle.inputs.specs.Inputs.{ages_decimals, scenario_decimals}
use Rattle.inputs.specs.Valid.{valid_of, all_valid}
use Rattle.inputs.specs.Rules.{most_contaminants, one_to, most_medium, scenario_fits, lacks_factor, contaminant_fits}
use Rattle.inputs.proofs.Tests.{valid_join}
use Rattle.guideline_rules.specs.Skin.{ChemicalInSoil, with_ages, with_abs}
use Rattle.guideline_rules.proofs.SoilOnSkin.{without_skin}
use Rattle.sum_rules.specs.EachPasses.{each_passes}
use Rattle.sum_rules.specs.Share.{used_of}
use Rattle.sum_rules.specs.ListCall.{first_refusal, sums_of}
use Rattle.sum_rules.proofs.Mapped.{SameRecord, same_record, sums_mapped}

module _ (s : Scenario) (medium : ℕ) (water : medium ≡ medium_number Soil → ⊥) (a : Ages Decimal) (d : Decimal) where
  not_soil : (r : Contaminant) → ChemicalInSoil medium r → ⊥
  not_soil r c = water c.soil

  module _ (abs : valid_of d ≡ true) where
    fits_same : (r : Contaminant) → valid_of r.abs ≡ true → contaminant_fits (with_abs d r) ≡ contaminant_fits r
    fits_same r h = rw (abs, h) refl

    each_same : (r : Contaminant) → valid_of r.abs ≡ true → SameRecord (with_ages a s) s medium (with_abs d r) r
    unfolding used_of
    each_same r h = same_record (with_ages a s) s (with_abs d r) r (without_skin s medium r a d (not_soil r)) (fits_same r h) refl (λ before. refl) (λ dir. refl)

    -- the scenario's other decimals, and those of the ages
    scenario_same : all_valid (ages_decimals a) ≡ true → all_valid (ages_decimals s.ages) ≡ true → scenario_fits (with_ages a s) medium ≡ scenario_fits s medium
    scenario_same h k =
        let others = take 21 (scenario_decimals s) in
        ap (λ (b : Bool). one_to most_medium medium && b)
        (valid_join others (ages_decimals a) ∙ ap (λ (b : Bool). all_valid others && b) (h ∙ sym k) ∙ sym (valid_join others (ages_decimals s.ages)))

    pub sums_without_skin : (rs : List Contaminant) → all_valid (ages_decimals a) ≡ true → all_valid (ages_decimals s.ages) ≡ true →
        each_passes (λ (r : Contaminant). valid_of r.abs) rs ≡ true → sums_of (with_ages a s) medium (map (with_abs d) rs) ≡ sums_of s medium rs
    unfolding first_refusal
    sums_without_skin rs h k z =
        sums_mapped (with_ages a s) s medium (with_abs d) (λ (r : Contaminant). valid_of r.abs) each_same (λ x y. refl)
        (λ n i. refused_by (test Length (not (leb 1 n && leb n most_contaminants)) ∷ test Field (not (scenario_same h k i)) ∷ test Factor (lacks_factor s) ∷ [])) rs z
