-- Inhalation by intake and by concentration: the words of the theorems about what each looks at.
use Rattle.std.specs.Prelude.{◌≡◌, ◌⊎◌, Bool, false, ◌&&◌, ℕ, eqb}
use Rattle.inputs.specs.declared.groups.AirToxicity.{AirToxicity}
use Rattle.decimal.specs.declared.Decimal.{Decimal}
use Rattle.inputs.specs.declared.kind.Inhalation.{Inhalation}
use Rattle.inputs.specs.declared.kind.Inhalation.TheVariants.{Concentration}
use Rattle.inputs.specs.declared.kind.Class.TheVariants.{Chemical}
use Rattle.inputs.specs.declared.kind.Medium.TheVariants.{Soil, Water}
use Rattle.inputs.specs.Kinds.{medium_number, class_number}
use Rattle.inputs.specs.Valid.{valid_of}
use Rattle.inputs.specs.declared.Scenario.{Scenario}
use Rattle.inputs.specs.declared.Contaminant.{Contaminant}

-- the scenario with other hours in the air, and with inhalation worked out so
abbrev pub with_hours : Decimal → Scenario → Scenario
with_hours d s = record {
  exposure = s.exposure;
  contact = s.contact;
  targets = s.targets;
  house = s.house;
  air_hours = d;
  ages = s.ages;
  inhalation = s.inhalation;
}

abbrev pub with_inhalation : Inhalation → Scenario → Scenario
with_inhalation i s = record {
  exposure = s.exposure;
  contact = s.contact;
  targets = s.targets;
  house = s.house;
  air_hours = s.air_hours;
  ages = s.ages;
  inhalation = i;
}

-- the scenario with another IRA
abbrev pub with_ira : Decimal → Scenario → Scenario
with_ira d s = record {
  exposure = s.exposure;
  contact = record { ir = s.contact.ir; ira = d; pef = s.contact.pef; et = s.contact.et; rf = s.contact.rf; sa = s.contact.sa };
  targets = s.targets;
  house = s.house;
  air_hours = s.air_hours;
  ages = s.ages;
  inhalation = s.inhalation;
}

-- the record with other U and Q, and with other SFi and RfDi
abbrev pub with_toxicity_in_air : AirToxicity Decimal → Contaminant → Contaminant
with_toxicity_in_air x r =
    record { class = r.class; id = r.id; toxicity = r.toxicity; transfer = r.transfer; c = r.c; saturation = r.saturation; in_air = x; abs = r.abs }

abbrev pub with_inhaled_toxicity : Decimal → Decimal → Contaminant → Contaminant
with_inhaled_toxicity sfi rfdi r = record {
  class = r.class;
  id = r.id;
  toxicity = record { sfo = r.toxicity.sfo; sfi = sfi; sfx = r.toxicity.sfx; rfdo = r.toxicity.rfdo; rfdi = rfdi };
  transfer = r.transfer;
  c = r.c;
  saturation = r.saturation;
  in_air = r.in_air;
  abs = r.abs;
}

-- U and Q keep their rule
abbrev pub air_valid : AirToxicity Decimal → Bool
air_valid x = valid_of x.u && valid_of x.q

-- a chemical by concentration, with the hours in the air
pub record InhaledByConcentration (s : Scenario) (r : Contaminant) : Type 0 where
  pub concentration : s.inhalation ≡ Concentration
  pub chemical : r.class ≡ class_number Chemical
  pub hours : eqb s.air_hours.m 0 ≡ false

-- what leads from soil or water to the air is known: in soil VF or PEF is, in water it is 0.5
abbrev pub ToTheAir : ℕ → Scenario → Contaminant → Type 0
ToTheAir medium s r = ((medium ≡ medium_number Soil) × ((eqb r.transfer.vf.m 0 ≡ false) ⊎ (eqb s.contact.pef.m 0 ≡ false))) ⊎ (medium ≡ medium_number Water)
