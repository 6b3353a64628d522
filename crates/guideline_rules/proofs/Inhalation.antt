-- What inhalation looks at: by intake nothing looks at A, U and Q; by concentration no chemical looks at IRA, SFi and RfDi; and what is no chemical has
-- the same by either. By concentration a zero A leaves a chemical no inhalation. Assumes nothing.
use mathlib.Core.Path.{◌≡◌, refl, sym, ap, ◌∙◌}
use mathlib.Core.Bool.{◌&&◌, not, true, false, and-false}
use mathlib.Core.List.{List, [], ◌∷◌}
use Prim.Native.Nat.{ℕ}
use lib.Dec.{eqb, lit<}
use borrow.Author.Tests.{ne_eqb}
use Rattle.rounding.specs.declared.Direction.{Direction}
use Rattle.rounding.specs.declared.Direction.TheVariants.{Down, Up}
use Rattle.rounding.specs.WorkingForm.{nine_of}
use Rattle.decimal.specs.declared.Decimal.{Decimal}
use Rattle.decimal.specs.Decimal.{zero_of, div_of, working_of}
use Rattle.decimal.proofs.Laws.{div_zero}
use Rattle.inputs.specs.declared.groups.AirToxicity.{AirToxicity}
use Rattle.inputs.specs.declared.kind.Inhalation.{Inhalation}
use Rattle.inputs.specs.declared.kind.Inhalation.TheVariants.{Intake, Concentration}
use Rattle.inputs.specs.declared.kind.Class.TheVariants.{Chemical}
use Rattle.inputs.specs.declared.kind.Medium.{Medium}
use Rattle.inputs.specs.declared.kind.Medium.TheVariants.{Soil, Water}
use Rattle.inputs.specs.Kinds.{medium_number, class_number}
use Rattle.outcome.specs.declared.Refusal.TheVariants.{Field, Factor}
use Rattle.outcome.specs.Outcome.{test, refused_by}
use Rattle.inputs.specs.Valid.{valid_of}
use Rattle.inputs.specs.Rules.{scenario_fits, lacks_factor, scenario_refusal, contaminant_fits}
use Rattle.inputs.proofs.Tests.{and_split}
use Rattle.inputs.specs.declared.Scenario.{Scenario}
use Rattle.inputs.specs.declared.Contaminant.{Contaminant}
use Rattle.formulas.specs.Side.{Side, Risk, Hazard}
use Rattle.formulas.specs.Target.{working_target}
use Rattle.formulas.specs.Formula.{A, B, Half, inhaled_risk, inhaled_hazard, table, pathways_of, derived}
use Rattle.formulas.specs.Term.{look, present_of, term_of, total_of, values_of, values_for}
use Rattle.formulas.proofs.Presence.{zero_factor}
use Rattle.guideline_rules.specs.Alike.{Alike}
use Rattle.guideline_rules.specs.Guideline.{side_of, calculated_of, guideline_of}
use Rattle.guideline_rules.specs.Inhalation.{with_hours, with_inhalation, with_ira, with_toxicity_in_air, with_inhaled_toxicity, air_valid}
use Rattle.guideline_rules.proofs.SameRows.{same, values_by, Each, in_table, alike, guideline_same}
use Rattle.guideline_rules.proofs.SameRows.Each.{end, next, other}

-- ---- by intake: other hours in the air, and other U and Q, change nothing
module _ (s : Scenario) (medium : ℕ) (r : Contaminant) (h : Decimal) (x : AirToxicity Decimal) where
  rows_by_intake : (dir : Direction) (side : Side) →
      Each dir (values_by Intake dir (with_hours h s) (with_toxicity_in_air x r)) (values_by Intake dir s r) medium r.class side (table Intake)
  unfolding table values_of derived total_of term_of present_of side_of
  rows_by_intake dir Risk =
      next (same refl refl (λ t. refl)) (next (same refl refl (λ t. refl)) (next (same refl refl (λ t. refl))
      (next (same refl refl (λ t. refl)) (next (same refl refl (λ t. refl)) end))))
  rows_by_intake dir Hazard =
      next (same refl refl (λ t. refl)) (next (same refl refl (λ t. refl)) (next (same refl refl (λ t. refl))
      (next (same refl refl (λ t. refl)) (next (same refl refl (λ t. refl)) end))))

  pub alike_by_intake : s.inhalation ≡ Intake → Alike medium (with_hours h s) (with_toxicity_in_air x r) s r
  alike_by_intake i =
      alike medium (with_hours h s) s (with_toxicity_in_air x r) r (λ side. refl) refl refl (λ before. refl) (λ g. refl)
      (λ dir side. rw i (in_table dir _ _ medium r.class side Intake (rows_by_intake dir side)))

-- where all of them keep their rule, the single guideline is the same, refused or not
module _ (s : Scenario) (medium : ℕ) (h : Decimal) (x : AirToxicity Decimal) where
  pub air_fits : (r : Contaminant) → air_valid x ≡ true → air_valid r.in_air ≡ true → contaminant_fits (with_toxicity_in_air x r) ≡ contaminant_fits r
  air_fits r v w =
      let a = and_split (valid_of x.u) (valid_of x.q) v in
      let b = and_split (valid_of r.in_air.u) (valid_of r.in_air.q) w in
      rw (a.0, a.1, b.0, b.1) refl

  pub hours_fit : valid_of h ≡ true → valid_of s.air_hours ≡ true → scenario_fits (with_hours h s) medium ≡ scenario_fits s medium
  hours_fit a b = rw (a, b) refl

  pub guideline_by_intake : (r : Contaminant) → s.inhalation ≡ Intake → valid_of h ≡ true → valid_of s.air_hours ≡ true → air_valid x ≡ true → air_valid r.in_air ≡ true →
      guideline_of (with_hours h s) medium (with_toxicity_in_air x r) ≡ guideline_of s medium r
  unfolding scenario_refusal
  guideline_by_intake r i a b v w =
      guideline_same (alike_by_intake s medium r h x i)
      (λ j. refused_by (test Field (not (hours_fit a b j)) ∷ test Factor (lacks_factor s) ∷ [])) (air_fits r v w)

-- ---- by concentration: another IRA, and other SFi and RfDi, change nothing of a chemical
module _ (s : Scenario) (medium : ℕ) (r : Contaminant) (ira sfi rfdi : Decimal) where
  chemical_rows : (dir : Direction) (side : Side) →
      Each dir (values_by Concentration dir (with_ira ira s) (with_inhaled_toxicity sfi rfdi r)) (values_by Concentration dir s r) medium 1 side (table Concentration)
  unfolding table values_of derived total_of term_of present_of side_of
  chemical_rows dir Risk =
      next (same refl refl (λ t. refl)) (other (and-false _) (next (same refl refl (λ t. refl)) (other (and-false _) (other (and-false _) end))))
  chemical_rows dir Hazard =
      next (same refl refl (λ t. refl)) (other (and-false _) (next (same refl refl (λ t. refl)) (other (and-false _) (other (and-false _) end))))

  pub alike_by_concentration : s.inhalation ≡ Concentration → r.class ≡ class_number Chemical → Alike medium (with_ira ira s) (with_inhaled_toxicity sfi rfdi r) s r
  alike_by_concentration i k =
      alike medium (with_ira ira s) s (with_inhaled_toxicity sfi rfdi r) r (λ side. refl) refl refl (λ before. refl) (λ g. refl)
      (λ dir side. rw (i, k) (in_table dir _ _ medium 1 side Concentration (chemical_rows dir side)))

-- where all of them keep their rule, both keep their rules alike
module _ (s : Scenario) (medium : ℕ) (ira sfi rfdi : Decimal) where
  pub doses_fit : (r : Contaminant) → valid_of sfi && valid_of rfdi ≡ true → valid_of r.toxicity.sfi && valid_of r.toxicity.rfdi ≡ true →
      contaminant_fits (with_inhaled_toxicity sfi rfdi r) ≡ contaminant_fits r
  doses_fit r v w =
      let a = and_split (valid_of sfi) (valid_of rfdi) v in
      let b = and_split (valid_of r.toxicity.sfi) (valid_of r.toxicity.rfdi) w in
      rw (a.0, a.1, b.0, b.1) refl

  pub ira_fits : valid_of ira ≡ true → valid_of s.contact.ira ≡ true → scenario_fits (with_ira ira s) medium ≡ scenario_fits s medium
  ira_fits a b = rw (a, b) refl

-- ---- what is no chemical: the same by intake and by concentration
no_chemical : (r : Contaminant) → (r.class ≡ class_number Chemical → ⊥) → eqb 1 r.class ≡ false
no_chemical r n = ne_eqb 1 r.class (λ e. n (sym e))

module _ (s : Scenario) (medium : ℕ) (r : Contaminant) (i : Inhalation) (n : r.class ≡ class_number Chemical → ⊥) where
  -- the rows of the other classes name no inhalation of a chemical
  other_formulas : (j : Inhalation) (side : Side) → pathways_of i medium r.class side ≡ pathways_of j medium r.class side
  unfolding pathways_of table
  other_formulas j Risk = rw (no_chemical r n) (simp (and-false))
  other_formulas j Hazard = rw (no_chemical r n) (simp (and-false))

  other_classes : (j : Inhalation) (dir : Direction) (side : Side) → Each dir (values_by i dir (with_inhalation i s) r) (values_by j dir s r) medium r.class side (table j)
  unfolding table values_of derived total_of term_of present_of side_of
  other_classes j dir Risk =
      other (rw (no_chemical r n) (and-false _)) (next (same refl refl (λ t. refl)) (other (rw (no_chemical r n) (and-false _))
      (next (same refl refl (λ t. refl)) (next (same refl refl (λ t. refl)) end))))
  other_classes j dir Hazard =
      other (rw (no_chemical r n) (and-false _)) (next (same refl refl (λ t. refl)) (other (rw (no_chemical r n) (and-false _))
      (next (same refl refl (λ t. refl)) (next (same refl refl (λ t. refl)) end))))

  pub alike_either_way : Alike medium (with_inhalation i s) r s r
  alike_either_way =
      alike medium (with_inhalation i s) s r r (other_formulas s.inhalation) refl refl (λ before. refl) (λ g. refl)
      (λ dir side. in_table dir _ _ medium r.class side s.inhalation (other_classes s.inhalation dir side))

-- ---- by concentration a zero A leaves a chemical no inhalation, in soil or in water
module _ (s : Scenario) (r : Contaminant) (z : s.air_hours ≡ zero_of) where
  hours_zero : (dir : Direction) → eqb (look (values_for dir s r) A).m 0 ≡ true
  unfolding values_of derived working_of nine_of
  hours_zero dir = ap (λ (d : Decimal). eqb (working_of d).m 0) z

  pub no_hours_no_inhalation : (dir : Direction) (air : ℕ) →
      (term_of (values_for dir s r) dir (inhaled_risk Concentration air) ≡ zero_of) × (term_of (values_for dir s r) dir (inhaled_hazard Concentration air) ≡ zero_of)
  no_hours_no_inhalation dir air =
      let vs = values_for dir s r in
      (zero_factor vs dir (inhaled_risk Concentration air) 3 (lit< tt) (hours_zero dir), zero_factor vs dir (inhaled_hazard Concentration air) 1 (lit< tt) (hours_zero dir))

-- so a chemical by concentration without A has no guideline of inhalation, in soil or in water: of values that give its terms zero
module _ (vs : List Decimal) (target : Decimal) (zero : (air : ℕ) →
    (term_of vs Up (inhaled_risk Concentration air) ≡ zero_of) × (term_of vs Up (inhaled_hazard Concentration air) ≡ zero_of)) where
  divided : {d : Decimal} → d ≡ zero_of → div_of target d Down ≡ zero_of
  divided e = ap (λ (x : Decimal). div_of target x Down) e ∙ div_zero Down target

  second_in : (m : Medium) (i : Inhalation) (medium class : ℕ) → medium ≡ medium_number m → i ≡ Concentration → class ≡ class_number Chemical → (side : Side) →
      (side_of vs target (pathways_of i medium class side)).second ≡ zero_of
  unfolding side_of pathways_of table
  second_in Soil i medium class e c k Risk = rw (e, c, k) (divided (zero B).0)
  second_in Soil i medium class e c k Hazard = rw (e, c, k) (divided (zero B).1)
  second_in Water i medium class e c k Risk = rw (e, c, k) (divided (zero Half).0)
  second_in Water i medium class e c k Hazard = rw (e, c, k) (divided (zero Half).1)

pub no_hours_no_guideline : (s : Scenario) (m : Medium) (r : Contaminant) → s.inhalation ≡ Concentration → r.class ≡ class_number Chemical → s.air_hours ≡ zero_of →
    (side : Side) → (calculated_of s (medium_number m) r side).second ≡ zero_of
no_hours_no_guideline s m r i k z side =
    second_in (values_for Up s r) (working_target s side) (no_hours_no_inhalation s r z Up) m s.inhalation (medium_number m) r.class refl i k side
