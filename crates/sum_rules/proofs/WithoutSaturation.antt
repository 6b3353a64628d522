-- Refusals, sums and verdicts do not look at saturations that keep their rule: a list without them has the same answer. Assumes nothing.
use mathlib.Core.Path.{◌≡◌, refl}
use mathlib.Core.Bool.{true}
use mathlib.Core.List.{List, map}
use Prim.Native.Nat.{ℕ}
use Rattle.inputs.specs.declared.Scenario.{Scenario}
use Rattle.inputs.specs.declared.Contaminant.{Contaminant}
use Rattle.inputs.specs.Valid.{valid_of}
use Rattle.inputs.specs.Rules.{contaminant_fits}
use Rattle.guideline_rules.specs.Pathway.{has_pathway, record_refusal}
use Rattle.guideline_rules.specs.Saturation.{without_saturation}
use Rattle.sum_rules.specs.EachPasses.{each_passes}
use Rattle.sum_rules.specs.Share.{term_sum, used_of, share_of}
use Rattle.sum_rules.specs.ListCall.{sums_of}
use Rattle.sum_rules.proofs.Mapped.{SameRecord, sums_mapped}

-- where the saturation keeps its rule, the record keeps its rules with and without it
fits_without : (r : Contaminant) → valid_of r.saturation ≡ true → contaminant_fits (without_saturation r) ≡ contaminant_fits r
unfolding valid_of
fits_without r h = rw h refl

module _ (s : Scenario) (medium : ℕ) where
  each_same : (r : Contaminant) → valid_of r.saturation ≡ true → SameRecord s s medium (without_saturation r) r
  unfolding share_of term_sum used_of has_pathway record_refusal
  each_same r h = record { fits = fits_without r h; id = refl; behind = λ before. refl; refusal = λ before. refl; step = λ side t. refl }

  pub sums_without_saturation : (rs : List Contaminant) → each_passes (λ (r : Contaminant). valid_of r.saturation) rs ≡ true →
      sums_of s medium (map without_saturation rs) ≡ sums_of s medium rs
  sums_without_saturation = sums_mapped s s medium without_saturation (λ (r : Contaminant). valid_of r.saturation) each_same (λ x y. refl) (λ n. refl)
