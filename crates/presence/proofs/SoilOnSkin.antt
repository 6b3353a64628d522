-- Soil on skin makes a pathway of a chemical in soil, whatever else is zero: refusal 8 sees it. Assumes nothing.
use mathlib.Core.Path.{◌≡◌, refl, ◌∙◌}
use mathlib.Core.Bool.{Bool, true, false, ◌&&◌, ◌||◌, or-true}
use mathlib.Core.Logic.{◌⊎◌, inl, inr}
use Prim.Native.Nat.{ℕ}
use lib.Dec.{eqb}
use Rattle.decimal.specs.declared.Decimal.{Decimal}
use Rattle.inputs.specs.declared.groups.Age.{Age}
use Rattle.inputs.specs.declared.Scenario.{Scenario}
use Rattle.inputs.specs.declared.Contaminant.{Contaminant}
use Rattle.inputs.specs.Rules.{Checked}
use Rattle.formulas.specs.Side.{Side, Risk, Hazard}
use Rattle.formulas.specs.Formula.{table, pathways_of, derived}
use Rattle.guideline_rules.specs.Pathway.{has_pathway}
use Rattle.guideline_rules.specs.Skin.{ChemicalInSoil, AgeKnown, SkinKnown}
use Rattle.presence.specs.Presence.{known_of, known_values, some_known}
use Rattle.presence.proofs.KnownValues.{needed, side_known}

-- an age as the table has it, and G by both
abbrev in_table : Age Decimal → Bool
in_table x = (known_of x.sa && (known_of x.ef && (known_of x.ed && true))) && (known_of x.bw && true)

age_known_lem : (x : Age Decimal) → AgeKnown x → in_table x ≡ true
age_known_lem x k = rw (k.sa, k.ef, k.ed, k.bw) refl

either_age : (x y : Age Decimal) → AgeKnown x ⊎ AgeKnown y → in_table x || (in_table y || false) ≡ true
either_age x y (inl k) = rw (age_known_lem x k) refl
either_age x y (inr k) = rw (age_known_lem y k) (or-true (in_table x))

module _ {s : Scenario} {medium : ℕ} {r : Contaminant} (h : Checked s medium r) (c : ChemicalInSoil medium r) (k : SkinKnown s r) where
  seen_with : (side : Side) → some_known (known_values s.inhalation s r) (pathways_of s.inhalation 1 1 side) ≡ true → has_pathway s medium r side ≡ true
  seen_with side e = side_known h side ∙ (λ i. some_known (known_values s.inhalation s r) (pathways_of s.inhalation (c.soil i) (c.chemical i) side)) ∙ e

  pub risk_on_skin : eqb r.toxicity.sfo.m 0 ≡ false → has_pathway s medium r Risk ≡ true
  unfolding known_values derived pathways_of table
  risk_on_skin d =
      let n = needed s h.factors in
      seen_with Risk (rw (d, k.abs, k.af, n.at, either_age s.ages.child s.ages.adult k.age) (simp or-true))

  pub hazard_on_skin : eqb r.toxicity.rfdo.m 0 ≡ false → has_pathway s medium r Hazard ≡ true
  unfolding known_values derived pathways_of table
  hazard_on_skin d =
      let n = needed s h.factors in
      seen_with Hazard (rw (d, k.abs, k.af, n.ed, either_age s.ages.child s.ages.adult k.age) (simp or-true))
