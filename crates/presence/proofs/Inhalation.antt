-- By concentration U makes a risk pathway, and Q a hazard pathway, of a chemical with hours in the air, whatever else is zero: refusal 8 sees it.
-- Assumes nothing.
use mathlib.Core.Path.{◌≡◌, refl, ◌∙◌}
use mathlib.Core.Bool.{true, false, ◌&&◌, ◌||◌, or-true}
use mathlib.Core.Logic.{◌⊎◌, inl, inr}
use Prim.Native.Nat.{ℕ}
use lib.Dec.{eqb}
use Rattle.inputs.specs.declared.kind.Inhalation.TheVariants.{Concentration}
use Rattle.inputs.specs.declared.Scenario.{Scenario}
use Rattle.inputs.specs.declared.Contaminant.{Contaminant}
use Rattle.inputs.specs.Rules.{Checked}
use Rattle.formulas.specs.Side.{Side, Risk, Hazard}
use Rattle.formulas.specs.Formula.{table, pathways_of, derived}
use Rattle.guideline_rules.specs.Pathway.{has_pathway}
use Rattle.guideline_rules.specs.Inhalation.{InhaledByConcentration, ToTheAir}
use Rattle.presence.specs.Presence.{known_of, known_values, some_known}
use Rattle.presence.proofs.KnownValues.{needed, side_known}

-- B as the table has it
either_part : (s : Scenario) (r : Contaminant) → (eqb r.transfer.vf.m 0 ≡ false) ⊎ (eqb s.contact.pef.m 0 ≡ false) →
    (known_of r.transfer.vf && true) || ((known_of s.contact.pef && true) || false) ≡ true
either_part s r (inl k) = rw k refl
either_part s r (inr k) = rw k (or-true _)

module _ {s : Scenario} {medium : ℕ} {r : Contaminant} (h : Checked s medium r) (c : InhaledByConcentration s r) where
  seen_in : (m : ℕ) (side : Side) → medium ≡ m → some_known (known_values Concentration s r) (pathways_of Concentration m 1 side) ≡ true → has_pathway s medium r side ≡ true
  seen_in m side e q =
      side_known h side ∙ (λ j. some_known (known_values (c.concentration j) s r) (pathways_of (c.concentration j) (e j) (c.chemical j) side)) ∙ q

  pub risk_inhaled : ToTheAir medium s r → eqb r.in_air.u.m 0 ≡ false → has_pathway s medium r Risk ≡ true
  unfolding known_values derived pathways_of table
  risk_inhaled (inl soil) u = let n = needed s h.factors in seen_in 1 Risk soil.0 (rw (u, c.hours, n.ef, n.ed, n.at, either_part s r soil.1) (simp or-true))
  risk_inhaled (inr water) u = let n = needed s h.factors in seen_in 2 Risk water (rw (u, c.hours, n.ef, n.ed, n.at) (simp or-true))

  pub hazard_inhaled : ToTheAir medium s r → eqb r.in_air.q.m 0 ≡ false → has_pathway s medium r Hazard ≡ true
  unfolding known_values derived pathways_of table
  hazard_inhaled (inl soil) q = let n = needed s h.factors in seen_in 1 Hazard soil.0 (rw (q, c.hours, n.ef, either_part s r soil.1) (simp or-true))
  hazard_inhaled (inr water) q = let n = needed s h.factors in seen_in 2 Hazard water (rw (q, c.hours, n.ef) (simp or-true))
