-- Soil on skin is a pathway of chemicals in soil alone: in water and of the other classes ages and ABS change nothing. A chemical in soil without ABS has
-- the guidelines of its first two pathways, in the total too. Assumes nothing.
use mathlib.Core.Path.{◌≡◌, refl, sym, ap, ◌∙◌}
use mathlib.Core.Bool.{Bool, true, false, ◌&&◌}
use mathlib.Core.List.{List, [], ◌∷◌}
use Prim.Native.Nat.{ℕ}
use lib.Dec.{eqb, lit<}
use lib.ListN.{get_or}
use borrow.Author.Tests.{eqb-true}
use Rattle.rounding.specs.declared.Direction.{Direction}
use Rattle.rounding.specs.declared.Direction.TheVariants.{Down, Up}
use Rattle.rounding.specs.WorkingForm.{nine_of}
use Rattle.decimal.specs.declared.Decimal.{Decimal}
use Rattle.decimal.specs.Decimal.{zero_of, div_of, working_of}
use Rattle.decimal.specs.Lists.{summed}
use Rattle.inputs.specs.declared.groups.Ages.{Ages}
use Rattle.inputs.specs.declared.kind.Inhalation.{Inhalation}
use Rattle.inputs.specs.declared.kind.Inhalation.TheVariants.{Intake, Concentration}
use Rattle.inputs.specs.declared.Scenario.{Scenario}
use Rattle.inputs.specs.declared.Contaminant.{Contaminant}
use Rattle.inputs.proofs.Tests.{and_split}
use Rattle.formulas.specs.Side.{Side, Risk, Hazard}
use Rattle.formulas.specs.Target.{working_target}
use Rattle.formulas.specs.Formula.{Formula, none, ABS, table, pathways_of, derived}
use Rattle.formulas.specs.Term.{look, present_of, term_of, total_of, values_of, values_for, formulas_for}
use Rattle.formulas.proofs.Presence.{absent_term, zero_factor}
use Rattle.guideline_rules.specs.declared.SideGuidelines.{SideGuidelines}
use Rattle.guideline_rules.specs.Guideline.{side_of, calculated_of}
use Rattle.guideline_rules.specs.Alike.{Alike}
use Rattle.guideline_rules.proofs.SameRows.{same, values_by, Each, in_table, alike}
use Rattle.guideline_rules.proofs.SameRows.Each.{end, next, other}
use Rattle.guideline_rules.specs.Skin.{ChemicalInSoil, with_ages, with_abs, first_two}

-- ---- what is no chemical in soil
not_chemical_in_soil : (medium : ℕ) (r : Contaminant) → (ChemicalInSoil medium r → ⊥) → eqb 1 medium && eqb 1 r.class ≡ false
not_chemical_in_soil medium r n = cases (eqb 1 medium && eqb 1 r.class) refl
  where
    cases : (b : Bool) → eqb 1 medium && eqb 1 r.class ≡ b → b ≡ false
    cases true e = let p = and_split (eqb 1 medium) _ e in absurd (n (record { soil = sym (eqb-true 1 medium p.0); chemical = sym (eqb-true 1 r.class p.1) }))
    cases false e = refl

module _ (s : Scenario) (medium : ℕ) (r : Contaminant) (a : Ages Decimal) (d : Decimal) (n : ChemicalInSoil medium r → ⊥) where
  -- the other rows, by intake or by concentration
  other_rows : (i : Inhalation) (dir : Direction) (side : Side) → Each dir (values_by i dir (with_ages a s) (with_abs d r)) (values_by i dir s r) medium r.class side (table i)
  unfolding table values_of derived total_of term_of present_of side_of
  other_rows Intake dir Risk =
      other (not_chemical_in_soil medium r n)
      (next (same refl refl (λ t. refl)) (next (same refl refl (λ t. refl)) (next (same refl refl (λ t. refl)) (next (same refl refl (λ t. refl)) end))))
  other_rows Intake dir Hazard =
      other (not_chemical_in_soil medium r n)
      (next (same refl refl (λ t. refl)) (next (same refl refl (λ t. refl)) (next (same refl refl (λ t. refl)) (next (same refl refl (λ t. refl)) end))))
  other_rows Concentration dir Risk =
      other (not_chemical_in_soil medium r n)
      (next (same refl refl (λ t. refl)) (next (same refl refl (λ t. refl)) (next (same refl refl (λ t. refl)) (next (same refl refl (λ t. refl)) end))))
  other_rows Concentration dir Hazard =
      other (not_chemical_in_soil medium r n)
      (next (same refl refl (λ t. refl)) (next (same refl refl (λ t. refl)) (next (same refl refl (λ t. refl)) (next (same refl refl (λ t. refl)) end))))

  -- whether there is a pathway, the tests of a record, what is calculated and the sums of terms do not look at the ages and at ABS
  pub without_skin : Alike medium (with_ages a s) (with_abs d r) s r
  without_skin =
      alike medium (with_ages a s) s (with_abs d r) r (λ side. refl) refl refl (λ before. refl) (λ g. refl)
      (λ dir side. in_table dir _ _ medium r.class side s.inhalation (other_rows s.inhalation dir side))

-- ---- a chemical in soil without ABS
module _ (s : Scenario) (medium : ℕ) (r : Contaminant) (k : ChemicalInSoil medium r) (z : r.abs ≡ zero_of) where
  abs_zero : (dir : Direction) → eqb (look (values_for dir s r) ABS).m 0 ≡ true
  unfolding values_of derived working_of nine_of
  abs_zero dir = ap (λ (d : Decimal). eqb (working_of d).m 0) z

  no_third : (dir : Direction) (side : Side) → term_of (values_for dir s r) dir (get_or (pathways_of s.inhalation 1 1 side) 2 none) ≡ zero_of
  unfolding pathways_of table
  no_third dir Risk = zero_factor (values_for dir s r) dir (get_or (pathways_of s.inhalation 1 1 Risk) 2 none) 1 (lit< tt) (abs_zero dir)
  no_third dir Hazard = zero_factor (values_for dir s r) dir (get_or (pathways_of s.inhalation 1 1 Hazard) 2 none) 0 (lit< tt) (abs_zero dir)

  -- three formulas of which the third has the term t: their sum in a direction, and their guidelines
  abbrev summed_with : Direction → List Formula → Decimal → Decimal
  summed_with dir fs t = summed dir zero_of (term_of (values_for dir s r) dir (get_or fs 0 none) ∷ term_of (values_for dir s r) dir (get_or fs 1 none) ∷ t ∷ [])

  abbrev with_third : Decimal → List Formula → Decimal → SideGuidelines
  with_third target fs t = record {
    first = div_of target (term_of (values_for Up s r) Up (get_or fs 0 none)) Down;
    second = div_of target (term_of (values_for Up s r) Up (get_or fs 1 none)) Down;
    third = div_of target t Down;
    total = div_of target (summed_with Up fs t) Down;
  }

  none_zero : (dir : Direction) → term_of (values_for dir s r) dir none ≡ zero_of
  unfolding present_of
  none_zero dir = absent_term (values_for dir s r) dir none refl

  left : (side : Side) → side_of (values_for Up s r) (working_target s side) (pathways_of s.inhalation 1 1 side) ≡ side_of (values_for Up s r) (working_target s side) (first_two (pathways_of s.inhalation 1 1 side))
  unfolding pathways_of table side_of total_of
  left Risk = ap (with_third (working_target s Risk) (pathways_of s.inhalation 1 1 Risk)) (no_third Up Risk ∙ sym (none_zero Up))
  left Hazard = ap (with_third (working_target s Hazard) (pathways_of s.inhalation 1 1 Hazard)) (no_third Up Hazard ∙ sym (none_zero Up))

  pub two_pathways_left : (side : Side) → calculated_of s medium r side ≡ side_of (values_for Up s r) (working_target s side) (first_two (formulas_for s medium r side))
  two_pathways_left side = rw (k.soil, k.chemical) (left side)

  -- and the sum of its terms, in either direction, is theirs
  summed_left : (dir : Direction) (side : Side) → total_of (values_for dir s r) dir (pathways_of s.inhalation 1 1 side) ≡ total_of (values_for dir s r) dir (first_two (pathways_of s.inhalation 1 1 side))
  unfolding pathways_of table total_of
  summed_left dir Risk = ap (summed_with dir (pathways_of s.inhalation 1 1 Risk)) (no_third dir Risk ∙ sym (none_zero dir))
  summed_left dir Hazard = ap (summed_with dir (pathways_of s.inhalation 1 1 Hazard)) (no_third dir Hazard ∙ sym (none_zero dir))

  pub two_pathways_summed : (dir : Direction) (side : Side) →
      total_of (values_for dir s r) dir (formulas_for s medium r side) ≡ total_of (values_for dir s r) dir (first_two (formulas_for s medium r side))
  two_pathways_summed dir side = rw (k.soil, k.chemical) (summed_left dir side)
