-- By concentration refusals, sums and verdicts of chemicals do not look at IRA, SFi and RfDi that keep their rule; and those of a list without chemicals are the
-- same by intake and by concentration. Assumes nothing.
use mathlib.Core.Path.{◌≡◌, refl, sym, ap, ◌∙◌}
use mathlib.Core.Bool.{true, false≢true, not, ◌&&◌}
use mathlib.Core.List.{List, [], ◌∷◌, map}
use Prim.Native.Nat.{ℕ}
use lib.Dec.{leb}
use borrow.Author.Tests.{eq-eqb, eqb-true, not-true}
use Rattle.decimal.specs.declared.Decimal.{Decimal}
use Rattle.outcome.specs.declared.Refusal.TheVariants.{Length, Field, Factor}
use Rattle.outcome.specs.Outcome.{test, refused_by}
use Rattle.inputs.specs.declared.kind.Inhalation.{Inhalation}
use Rattle.inputs.specs.declared.kind.Inhalation.TheVariants.{Concentration}
use Rattle.inputs.specs.declared.kind.Class.TheVariants.{Chemical}
use Rattle.inputs.specs.declared.Scenario.{Scenario}
use Rattle.inputs.specs.declared.Contaminant.{Contaminant}
use Rattle.inputs.specs.Valid.{valid_of}
use Rattle.inputs.specs.Rules.{is_class, most_contaminants, lacks_factor}
use Rattle.inputs.proofs.Tests.{and_split}
use Rattle.guideline_rules.specs.Inhalation.{with_ira, with_inhalation, with_inhaled_toxicity}
use Rattle.guideline_rules.proofs.Inhalation.{alike_by_concentration, alike_either_way, doses_fit, ira_fits}
use Rattle.sum_rules.specs.EachPasses.{each_passes, valid_chemical, other_class}
use Rattle.sum_rules.specs.Share.{used_of}
use Rattle.sum_rules.specs.ListCall.{first_refusal, sums_of}
use Rattle.sum_rules.proofs.Mapped.{SameRecord, same_record, sums_mapped}

module _ (s : Scenario) (medium : ℕ) (i : s.inhalation ≡ Concentration) (ira sfi rfdi : Decimal) (valid : valid_of sfi && valid_of rfdi ≡ true) where
  each_same : (r : Contaminant) → valid_chemical r ≡ true → SameRecord (with_ira ira s) s medium (with_inhaled_toxicity sfi rfdi r) r
  unfolding used_of
  each_same r v =
      let a = and_split (is_class Chemical r) _ v in
      same_record (with_ira ira s) s (with_inhaled_toxicity sfi rfdi r) r (alike_by_concentration s medium r ira sfi rfdi i (eqb-true r.class 1 a.0))
      (doses_fit s medium ira sfi rfdi r valid a.1) refl (λ before. refl) (λ dir. refl)

  pub sums_by_concentration : (rs : List Contaminant) → valid_of ira ≡ true → valid_of s.contact.ira ≡ true → each_passes valid_chemical rs ≡ true →
      sums_of (with_ira ira s) medium (map (with_inhaled_toxicity sfi rfdi) rs) ≡ sums_of s medium rs
  unfolding first_refusal
  sums_by_concentration rs a b z =
      sums_mapped (with_ira ira s) s medium (with_inhaled_toxicity sfi rfdi) valid_chemical each_same (λ x y. refl)
      (λ n j. refused_by (test Length (not (leb 1 n && leb n most_contaminants)) ∷ test Field (not (ira_fits s medium ira sfi rfdi a b j)) ∷ test Factor (lacks_factor s) ∷ [])) rs z

-- ---- a list without chemicals
module _ (s : Scenario) (medium : ℕ) (i : Inhalation) where
  itself : (r : Contaminant) → other_class r ≡ true → SameRecord (with_inhalation i s) s medium r r
  itself r v =
      same_record (with_inhalation i s) s r r (alike_either_way s medium r i (λ e. absurd (false≢true (sym (not-true _ v) ∙ eq-eqb r.class 1 e)))) refl refl (λ before. refl) (λ dir. refl)

  as_it_is : (rs : List Contaminant) → map (λ (r : Contaminant). r) rs ≡ rs
  as_it_is [] = refl
  as_it_is (r ∷ rs) = ap (λ (l : List Contaminant). r ∷ l) (as_it_is rs)

  pub sums_either_way : (rs : List Contaminant) → each_passes other_class rs ≡ true → sums_of (with_inhalation i s) medium rs ≡ sums_of s medium rs
  unfolding first_refusal
  sums_either_way rs z =
      ap (sums_of (with_inhalation i s) medium) (sym (as_it_is rs)) ∙
      sums_mapped (with_inhalation i s) s medium (λ (r : Contaminant). r) other_class itself (λ x y. refl) (λ n. refl) rs z
