-- `terms::pathways::terms_of`: the terms are those of the row of the medium and the class; where the row has none, there is no term.
use Rattle.std.proofs.Common.{◌≡◌, ℕ, refl, sym, subst, List}
use Rattle.rounding.specs.declared.Direction.{Direction}
use Rattle.factors.specs.declared.numbers.Factors.{Factors}
use Rattle.factors.specs.declared.numbers.ContaminantNumbers.{ContaminantNumbers}
use Rattle.factors.specs.declared.prepared.Prepared.{Prepared}
use Rattle.inputs.specs.declared.kind.Medium.{Medium}
use Rattle.inputs.specs.declared.kind.Inhalation.{Inhalation}
use Rattle.inputs.specs.Kinds.{medium_number}
use lib.Dec.{lit≤}
use Rattle.formulas.specs.Formula.{Half}
use Rattle.factors.proofs.StandsLaws.{stands_most}
use Rattle.formulas.specs.Side.{Risk, Hazard}
use Rattle.formulas.specs.Formula.{Formula, table, no_pathways, pathways_of, derived}
use Rattle.terms.specs.Side.{number_values, Ready, Terms, SideFor, TermsFor, no_side}
use Rattle.terms.proofs.NumberValues.{input, no_terms}
use Rattle.terms.proofs.pathways.terms_of.Goals as goal

-- a medium and a class without a formula of hazard: the risk side alone is left to prove
risk_alone : {dir : Direction} {f : Factors} {t : ContaminantNumbers} (i : Inhalation) (medium class : ℕ) {r : Terms} → pathways_of i medium class Hazard ≡ no_pathways →
    SideFor dir f t (pathways_of i medium class Risk) r.risk → r.hazard ≡ no_side → TermsFor dir f t i medium class r
risk_alone {dir} {f} {t} i medium class {r} none risk e =
    record { risk = risk; hazard = subst (λ (fs : List Formula). SideFor dir f t fs r.hazard) (sym none) (no_terms dir f t e) }

ready_in : {dir : Direction} {m k : Medium} {f : Factors} {p : Prepared} {t : ContaminantNumbers} → m ≡ k → Ready dir (medium_number m) f p t → Ready dir (medium_number k) f p t
ready_in {dir} {f = f} {p} {t} e r = subst (λ (m : Medium). Ready dir (medium_number m) f p t) e r

pub inhaled-breathed-requires : goal.inhaled-breathed-requires
inhaled-breathed-requires c = (ready_in c.in-Chemical-Soil.is-1 c.requires, c.air-b.ensures)

pub on_skin-skin-requires : goal.on_skin-skin-requires
on_skin-skin-requires c = ready_in c.in-Chemical-Soil.is-1 c.requires

pub soil_chemical_risk-requires : goal.soil_chemical_risk-requires
unfolding pathways_of table
soil_chemical_risk-requires c = (c.inhaled-breathed.ensures.risk, c.on_skin-skin.ensures.risk c.args.inhalation)

pub soil_chemical_hazard-requires : goal.soil_chemical_hazard-requires
unfolding pathways_of table
soil_chemical_hazard-requires c = (c.inhaled-breathed.ensures.hazard, c.on_skin-skin.ensures.hazard c.args.inhalation)

pub returns-in-Chemical-Soil : goal.returns-in-Chemical-Soil
returns-in-Chemical-Soil c =
    let row = c.in-Chemical-Soil in
    rw (row.is-0, row.is-1) (record { risk = c.soil_chemical_risk.ensures; hazard = c.soil_chemical_hazard.ensures })

pub returns-in-Radionuclide-Soil : goal.returns-in-Radionuclide-Soil
unfolding pathways_of table
returns-in-Radionuclide-Soil c =
    let row = c.in-Radionuclide-Soil in
    rw (row.is-0, row.is-1) (risk_alone c.args.inhalation 1 2 refl c.soil_radionuclide_risk.ensures c.no_side.ensures)

pub inhaled-breathed-requires-in-Chemical-Water : goal.inhaled-breathed-requires-in-Chemical-Water
unfolding number_values derived
inhaled-breathed-requires-in-Chemical-Water c =
    (ready_in c.in-Chemical-Water.is-1 c.requires, record { stands = stands_most (lit≤ tt) (input c.requires Half) })

pub water_chemical_risk-requires : goal.water_chemical_risk-requires
unfolding pathways_of table
water_chemical_risk-requires c = c.inhaled-breathed-in-Chemical-Water.ensures.risk

pub water_chemical_hazard-requires : goal.water_chemical_hazard-requires
unfolding pathways_of table
water_chemical_hazard-requires c = c.inhaled-breathed-in-Chemical-Water.ensures.hazard

pub returns-in-Chemical-Water : goal.returns-in-Chemical-Water
returns-in-Chemical-Water c =
    let row = c.in-Chemical-Water in
    rw (row.is-0, row.is-1) (record { risk = c.water_chemical_risk.ensures; hazard = c.water_chemical_hazard.ensures })

pub returns-in-Radionuclide-Water : goal.returns-in-Radionuclide-Water
unfolding pathways_of table
returns-in-Radionuclide-Water c =
    let row = c.in-Radionuclide-Water in
    rw (row.is-0, row.is-1) (risk_alone c.args.inhalation 2 2 refl c.water_radionuclide_risk.ensures c.no_side-in-Radionuclide-Water.ensures)

pub water_tritium_risk-requires : goal.water_tritium_risk-requires
water_tritium_risk-requires c = c.in-Tritium-Water.is-1

pub returns-in-Tritium-Soil : goal.returns-in-Tritium-Soil
unfolding pathways_of table
returns-in-Tritium-Soil c =
    let row = c.in-Tritium-Soil in
    rw (row.is-0, row.is-1) (risk_alone c.args.inhalation 1 3 refl (no_terms c.args.dir c.args.f.now c.args.t.now c.no_side-none.ensures) c.no_side-none.ensures)

pub returns-in-Tritium-Water : goal.returns-in-Tritium-Water
unfolding pathways_of table
returns-in-Tritium-Water c =
    let row = c.in-Tritium-Water in
    rw (row.is-0, row.is-1) (risk_alone c.args.inhalation 2 3 refl c.water_tritium_risk.ensures c.no_side-in-Tritium-Water.ensures)
