-- The marked figures (docs/SPECIFICATION.md, "Checked figures") as one table: those about decimals, those of the office worker in soil, those of
-- tritium in water, those of a saturation, those of soil on skin, and those of inhalation by concentration.
use Rattle.std.specs.Prelude.{ℕ, List, [], ◌∷◌, ◌++◌, get_or, pos, negsuc}
use Rattle.rounding.specs.declared.Direction.TheVariants.{Up}
use Rattle.decimal.specs.declared.Decimal.{Decimal}
use Rattle.decimal.specs.Decimal.{zero_of}
use Rattle.decimal.specs.Figures.{Figure, figures, dec, ◌is◌}
use Rattle.inputs.specs.declared.Contaminant.{Contaminant}
use Rattle.inputs.specs.Inputs.{no_toxicity_in_air}
use Rattle.inputs.specs.BuiltIn.{office}
use Rattle.formulas.specs.Side.{Risk}
use Rattle.formulas.specs.Formula.{none}
use Rattle.formulas.specs.Term.{term_of, formulas_for, values_for}
use Rattle.formulas.specs.Figures.{resident, tritium, office_on_skin, sample_of, skin_sample, office_by_concentration, volatile}
use Rattle.guideline_rules.specs.Guideline.{guidelines_sent, guideline_of}

-- a chemical with SFo 1, RfDo 0.02 and a concentration, all else zero
abbrev pub sample : Decimal → Contaminant
sample c = sample_of c zero_of

abbrev pub chemical : Contaminant
chemical = sample zero_of

unfoldable pub office_figures : List Figure
office_figures =
    (term_of (values_for Up office chemical) Up (get_or (formulas_for office 1 chemical Risk) 0 none) is dec 174727426 (negsuc 14)) ∷
    ((guidelines_sent (guideline_of office 1 chemical)).risk.first is dec 572319997 (negsuc 7)) ∷
    ((guidelines_sent (guideline_of office 1 chemical)).risk.total is dec 572319997 (negsuc 7)) ∷
    ((guidelines_sent (guideline_of office 1 chemical)).hazard.first is dec 408799998 (negsuc 3)) ∷
    ((guidelines_sent (guideline_of office 1 chemical)).hazard.total is dec 408799998 (negsuc 3)) ∷ []

unfoldable pub tritium_figures : List Figure
tritium_figures =
    ((guidelines_sent (guideline_of resident 2 tritium)).risk.first is dec 661375661 (negsuc 5)) ∷
    ((guidelines_sent (guideline_of resident 2 tritium)).risk.second is dec 668791421 (negsuc 3)) ∷
    ((guidelines_sent (guideline_of resident 2 tritium)).risk.third is dec 277918126 (negsuc 2)) ∷
    ((guidelines_sent (guideline_of resident 2 tritium)).risk.total is dec 653359672 (negsuc 5)) ∷
    ((guidelines_sent (guideline_of resident 2 tritium)).hazard.total is zero_of) ∷ []

-- a chemical with SFi 0.029, RfDi 0.0017 and VF 19000, and a saturation
abbrev solvent : Decimal → Contaminant
solvent saturation = record {
  class = 1;
  id = 1;
  toxicity = record { sfo = zero_of; sfi = dec 29 (negsuc 2); sfx = zero_of; rfdo = zero_of; rfdi = dec 17 (negsuc 3) };
  transfer = record { vf = dec 19000 (pos 0); pc = zero_of };
  c = zero_of;
  saturation = saturation;
  in_air = no_toxicity_in_air;
  abs = zero_of;
}

-- its guidelines for inhalation and its totals, of risk and of hazard, in soil
unfoldable pub saturation_row : Decimal → Decimal → Decimal → List Figure
saturation_row saturation risk hazard =
    let g = guidelines_sent (guideline_of office 1 (solvent saturation)) in
    (g.risk.second is risk) ∷ (g.hazard.second is hazard) ∷ (g.risk.total is dec 937416517 (negsuc 7)) ∷ (g.hazard.total is dec 165052265 (negsuc 5)) ∷ []

-- without a saturation, with 50, which is below the guideline of hazard alone, and with 0.5, which is below both
unfoldable pub saturation_figures : List Figure
saturation_figures =
    saturation_row zero_of (dec 937416517 (negsuc 7)) (dec 165052265 (negsuc 5)) ++
    (saturation_row (dec 50 (pos 0)) (dec 937416517 (negsuc 7)) (dec 500000000 (negsuc 6)) ++
    saturation_row (dec 5 (negsuc 0)) (dec 500000000 (negsuc 8)) (dec 500000000 (negsuc 8)))

-- the sample with ABS 0.1, where the scenario has soil on skin: the pathways and the total, of risk and of hazard
unfoldable pub skin_figures : List Figure
skin_figures =
    let g = guidelines_sent (guideline_of office_on_skin 1 skin_sample) in
    (g.risk.first is dec 572319997 (negsuc 7)) ∷ (g.risk.second is zero_of) ∷ (g.risk.third is dec 145170454 (negsuc 7)) ∷
    (g.risk.total is dec 115797992 (negsuc 7)) ∷
    (g.hazard.first is dec 408799998 (negsuc 3)) ∷ (g.hazard.second is zero_of) ∷ (g.hazard.third is dec 103693181 (negsuc 3)) ∷
    (g.hazard.total is dec 827128518 (negsuc 4)) ∷ []

-- inhalation by concentration, 8 hours of air a day: of risk and of hazard in a medium
abbrev air_row : ℕ → Decimal → Decimal → List Figure
air_row medium risk hazard =
    let g = guidelines_sent (guideline_of (office_by_concentration (dec 8 (pos 0))) medium volatile) in
    (g.risk.second is risk) ∷ (g.risk.total is risk) ∷ (g.hazard.second is hazard) ∷ (g.hazard.total is hazard) ∷ []

unfoldable pub concentration_figures : List Figure
concentration_figures =
    air_row 1 (dec 298737133 (negsuc 6)) (dec 249658889 (negsuc 4)) ++ air_row 2 (dec 314461538 (negsuc 10)) (dec 262799999 (negsuc 8))

abbrev pub marked_figures : List Figure
marked_figures = figures ++ (office_figures ++ (tritium_figures ++ (saturation_figures ++ (skin_figures ++ concentration_figures))))
