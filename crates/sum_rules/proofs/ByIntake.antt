-- By intake refusals, sums and verdicts do not look at A, U and Q that keep their rule: a list with others has the same answer. Assumes nothing.
use mathlib.Core.Path.{◌≡◌, refl}
use mathlib.Core.Bool.{true, not, ◌&&◌}
use mathlib.Core.List.{List, [], ◌∷◌, map}
use Prim.Native.Nat.{ℕ}
use lib.Dec.{leb}
use Rattle.decimal.specs.declared.Decimal.{Decimal}
use Rattle.outcome.specs.declared.Refusal.TheVariants.{Length, Field, Factor}
use Rattle.outcome.specs.Outcome.{test, refused_by}
use Rattle.inputs.specs.declared.groups.AirToxicity.{AirToxicity}
use Rattle.inputs.specs.declared.kind.Inhalation.TheVariants.{Intake}
use Rattle.inputs.specs.declared.Scenario.{Scenario}
use Rattle.inputs.specs.declared.Contaminant.{Contaminant}
use Rattle.inputs.specs.Valid.{valid_of}
use Rattle.inputs.specs.Rules.{most_contaminants, lacks_factor}
use Rattle.guideline_rules.specs.Inhalation.{with_hours, with_toxicity_in_air, air_valid}
use Rattle.guideline_rules.proofs.Inhalation.{alike_by_intake, air_fits, hours_fit}
use Rattle.sum_rules.specs.EachPasses.{each_passes}
use Rattle.sum_rules.specs.Share.{used_of}
use Rattle.sum_rules.specs.ListCall.{first_refusal, sums_of}
use Rattle.sum_rules.proofs.Mapped.{SameRecord, same_record, sums_mapped}

module _ (s : Scenario) (medium : ℕ) (i : s.inhalation ≡ Intake) (h : Decimal) (x : AirToxicity Decimal) where
  module _ (valid : air_valid x ≡ true) where
    each_same : (r : Contaminant) → air_valid r.in_air ≡ true → SameRecord (with_hours h s) s medium (with_toxicity_in_air x r) r
    unfolding used_of
    each_same r v = same_record (with_hours h s) s (with_toxicity_in_air x r) r (alike_by_intake s medium r h x i) (air_fits s medium h x r valid v) refl (λ before. refl) (λ dir. refl)

    pub sums_by_intake : (rs : List Contaminant) → valid_of h ≡ true → valid_of s.air_hours ≡ true →
        each_passes (λ (r : Contaminant). air_valid r.in_air) rs ≡ true → sums_of (with_hours h s) medium (map (with_toxicity_in_air x) rs) ≡ sums_of s medium rs
    unfolding first_refusal
    sums_by_intake rs a b z =
        sums_mapped (with_hours h s) s medium (with_toxicity_in_air x) (λ (r : Contaminant). air_valid r.in_air) each_same (λ x y. refl)
        (λ n j. refused_by (test Length (not (leb 1 n && leb n most_contaminants)) ∷ test Field (not (hours_fit s medium h x a b j)) ∷ test Factor (lacks_factor s) ∷ [])) rs z
