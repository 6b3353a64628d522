-- The examples of tritium, of soil on skin and of inhalation by concentration (docs/SPECIFICATION.md, "Checked figures"), and what H and G come to
-- there: in each direction, and with a zero factor in one part or in both.
use Rattle.std.specs.Prelude.{List, [], ◌∷◌, ℕ, get_or, pos, negsuc}
use Rattle.rounding.specs.declared.Direction.{Direction}
use Rattle.rounding.specs.declared.Direction.TheVariants.{Down, Up}
use Rattle.decimal.specs.declared.Decimal.{Decimal}
use Rattle.decimal.specs.Decimal.{zero_of}
use Rattle.decimal.specs.Figures.{Figure, dec, ◌is◌}
use Rattle.inputs.specs.declared.kind.Inhalation.TheVariants.{Intake, Concentration}
use Rattle.inputs.specs.declared.Scenario.{Scenario}
use Rattle.inputs.specs.declared.Contaminant.{Contaminant}
use Rattle.inputs.specs.Inputs.{no_toxicity_in_air}
use Rattle.inputs.specs.BuiltIn.{office, no_ages}
use Rattle.formulas.specs.Side.{Side, Risk, Hazard}
use Rattle.formulas.specs.Formula.{H, G, none}
use Rattle.formulas.specs.Term.{look, term_of, formulas_for, values_for}

-- a resident with a house (002, Table 1.2.3), with these ET and N; and tritium
abbrev resident_with : Decimal → Decimal → Scenario
resident_with et n = record {
  exposure = record { ef = dec 350 (pos 0); ed = dec 30 (pos 0); bw = dec 70 (pos 0); at = dec 70 (pos 0) };
  contact = record { ir = dec 2 (pos 0); ira = dec 83 (negsuc 1); pef = zero_of; et = et; rf = zero_of; sa = dec 19 (negsuc 0) };
  targets = record { tr = dec 1 (negsuc 5); thi = dec 1 (pos 0) };
  house = record {
    m = dec 6696 (negsuc 1);
    f = dec 625 (negsuc 2);
    n = n;
    s = dec 6 (pos 0);
    v = dec 5 (pos 0);
    l = dec 276 (negsuc 1);
    w = dec 272 (pos 0);
    k = dec 15 (negsuc 5);
  };
  air_hours = zero_of;
  ages = no_ages;
  inhalation = Intake;
}

abbrev pub resident : Scenario
resident = resident_with (dec 167 (negsuc 2)) (dec 4 (pos 0))

abbrev pub tritium : Contaminant
tritium = record {
  class = 3;
  id = 1;
  toxicity = record { sfo = dec 72 (negsuc 14); sfi = dec 96 (negsuc 14); sfx = zero_of; rfdo = zero_of; rfdi = zero_of };
  transfer = record { vf = zero_of; pc = zero_of };
  c = dec 500 (pos 0);
  saturation = zero_of;
  in_air = no_toxicity_in_air;
  abs = zero_of;
}

abbrev hours : Direction → Scenario → Decimal
hours dir s = look (values_for dir s tritium) H

unfoldable pub hours_figures : List Figure
hours_figures =
    (hours Up resident is dec 266904093 (negsuc 8)) ∷
    (hours Down resident is dec 266904092 (negsuc 8)) ∷
    (hours Up (resident_with zero_of (dec 4 (pos 0))) is dec 999040921 (negsuc 9)) ∷
    (hours Up (resident_with (dec 167 (negsuc 2)) zero_of) is dec 167000000 (negsuc 8)) ∷
    (hours Up (resident_with zero_of zero_of) is zero_of) ∷ []

-- the office worker's soil on skin (004, A-4.1), with these body weights of the child and of the adult
abbrev office_with : Decimal → Decimal → Scenario
office_with child adult = record {
  exposure = office.exposure;
  contact = office.contact;
  targets = office.targets;
  house = office.house;
  air_hours = office.air_hours;
  ages = record {
    child = record { sa = dec 2000 (pos 0); ef = dec 350 (pos 0); ed = dec 6 (pos 0); bw = child };
    adult = record { sa = dec 5000 (pos 0); ef = dec 350 (pos 0); ed = dec 24 (pos 0); bw = adult };
    af = dec 2 (negsuc 0);
  };
  inhalation = office.inhalation;
}

-- a chemical with SFo 1, RfDo 0.02, a concentration and ABS, all else zero
abbrev pub sample_of : Decimal → Decimal → Contaminant
sample_of c abs = record {
  class = 1;
  id = 1;
  toxicity = record { sfo = dec 1 (pos 0); sfi = zero_of; sfx = zero_of; rfdo = dec 2 (negsuc 1); rfdi = zero_of };
  transfer = record { vf = zero_of; pc = zero_of };
  c = c;
  saturation = zero_of;
  in_air = no_toxicity_in_air;
  abs = abs;
}

abbrev pub office_on_skin : Scenario
office_on_skin = office_with (dec 15 (pos 0)) (dec 70 (pos 0))

abbrev g_of : Direction → Decimal → Decimal → Decimal
g_of dir child adult = look (values_for dir (office_with child adult) tritium) G

unfoldable pub ages_figures : List Figure
ages_figures =
    (g_of Up (dec 15 (pos 0)) (dec 70 (pos 0)) is dec 880000000 (negsuc 2)) ∷
    (g_of Up (dec 13 (pos 0)) (dec 72 (pos 0)) is dec 906410258 (negsuc 2)) ∷
    (g_of Down (dec 13 (pos 0)) (dec 72 (pos 0)) is dec 906410256 (negsuc 2)) ∷
    (g_of Up zero_of (dec 70 (pos 0)) is dec 600000000 (negsuc 2)) ∷
    (g_of Up (dec 15 (pos 0)) zero_of is dec 280000000 (negsuc 2)) ∷
    (g_of Up zero_of zero_of is zero_of) ∷ []

-- the sample with ABS 0.1 there, and the upper third term of each side
abbrev pub skin_sample : Contaminant
skin_sample = sample_of zero_of (dec 1 (negsuc 0))

abbrev third_term : Side → Decimal
third_term side = term_of (values_for Up office_on_skin skin_sample) Up (get_or (formulas_for office_on_skin 1 skin_sample side) 2 none)

unfoldable pub skin_term_figures : List Figure
skin_term_figures = (third_term Risk is dec 688845402 (negsuc 14)) ∷ (third_term Hazard is dec 964383562 (negsuc 12)) ∷ []

-- the office worker with inhalation by concentration and so many hours of air a day
abbrev pub office_by_concentration : Decimal → Scenario
office_by_concentration hours = record {
  exposure = office.exposure;
  contact = office.contact;
  targets = office.targets;
  house = office.house;
  air_hours = hours;
  ages = office.ages;
  inhalation = Concentration;
}

-- a chemical with U 7.8 × 10^-6, Q 0.03, VF 19000 and C 2, all else zero
abbrev pub volatile : Contaminant
volatile = record {
  class = 1;
  id = 1;
  toxicity = record { sfo = zero_of; sfi = zero_of; sfx = zero_of; rfdo = zero_of; rfdi = zero_of };
  transfer = record { vf = dec 19000 (pos 0); pc = zero_of };
  c = dec 2 (pos 0);
  saturation = zero_of;
  in_air = record { u = dec 78 (negsuc 6); q = dec 3 (negsuc 1) };
  abs = zero_of;
}

-- its term of inhalation in a medium, and without hours in the air
abbrev inhaled_term : Direction → Decimal → ℕ → Side → Decimal
inhaled_term dir hours medium side =
    let s = office_by_concentration hours in
    term_of (values_for dir s volatile) dir (get_or (formulas_for s medium volatile side) 1 none)

unfoldable pub air_figures : List Figure
air_figures =
    (inhaled_term Up (dec 8 (pos 0)) 1 Risk is dec 334742450 (negsuc 15)) ∷
    (inhaled_term Down (dec 8 (pos 0)) 1 Risk is dec 334742446 (negsuc 15)) ∷
    (inhaled_term Up (dec 8 (pos 0)) 1 Hazard is dec 400546523 (negsuc 11)) ∷
    (inhaled_term Down (dec 8 (pos 0)) 1 Hazard is dec 400546518 (negsuc 11)) ∷
    (inhaled_term Up (dec 8 (pos 0)) 2 Risk is dec 318003914 (negsuc 11)) ∷
    (inhaled_term Down (dec 8 (pos 0)) 2 Risk is dec 318003913 (negsuc 11)) ∷
    (inhaled_term Up (dec 8 (pos 0)) 2 Hazard is dec 380517504 (negsuc 7)) ∷
    (inhaled_term Down (dec 8 (pos 0)) 2 Hazard is dec 380517503 (negsuc 7)) ∷
    (inhaled_term Up zero_of 1 Risk is zero_of) ∷ (inhaled_term Up zero_of 2 Hazard is zero_of) ∷ []
