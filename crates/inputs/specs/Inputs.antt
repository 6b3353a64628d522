-- The decimals of a scenario and of a contaminant as lists, group by group in the order of the block, and each record out of such a list.
use Rattle.std.specs.Prelude.{List, [], ◌∷◌, ◌++◌, ℕ, get_or, drop}
use Rattle.decimal.specs.declared.Decimal.{Decimal}
use Rattle.decimal.specs.Decimal.{zero_of}
use Rattle.inputs.specs.declared.groups.Exposure.{Exposure}
use Rattle.inputs.specs.declared.groups.Contact.{Contact}
use Rattle.inputs.specs.declared.groups.Targets.{Targets}
use Rattle.inputs.specs.declared.groups.House.{House}
use Rattle.inputs.specs.declared.groups.Age.{Age}
use Rattle.inputs.specs.declared.groups.Ages.{Ages}
use Rattle.inputs.specs.declared.kind.Inhalation.{Inhalation}
use Rattle.inputs.specs.declared.kind.Inhalation.TheVariants.{Intake, Concentration}
use Rattle.inputs.specs.declared.Scenario.{Scenario}
use Rattle.inputs.specs.declared.groups.Toxicity.{Toxicity}
use Rattle.inputs.specs.declared.groups.Transfer.{Transfer}
use Rattle.inputs.specs.declared.groups.AirToxicity.{AirToxicity}
use Rattle.inputs.specs.declared.Contaminant.{Contaminant}

-- ---- the groups, of decimals or of the numbers that stand for them
abbrev pub exposure_decimals : {T : Type 0} → Exposure T → List T
exposure_decimals x = x.ef ∷ (x.ed ∷ (x.bw ∷ (x.at ∷ [])))

abbrev pub contact_decimals : {T : Type 0} → Contact T → List T
contact_decimals x = x.ir ∷ (x.ira ∷ (x.pef ∷ (x.et ∷ (x.rf ∷ (x.sa ∷ [])))))

abbrev pub target_decimals : {T : Type 0} → Targets T → List T
target_decimals x = x.tr ∷ (x.thi ∷ [])

abbrev pub house_decimals : {T : Type 0} → House T → List T
house_decimals x = x.m ∷ (x.f ∷ (x.n ∷ (x.s ∷ (x.v ∷ (x.l ∷ (x.w ∷ (x.k ∷ [])))))))

abbrev pub age_decimals : {T : Type 0} → Age T → List T
age_decimals x = x.sa ∷ (x.ef ∷ (x.ed ∷ (x.bw ∷ [])))

abbrev pub ages_decimals : {T : Type 0} → Ages T → List T
ages_decimals x = age_decimals x.child ++ (age_decimals x.adult ++ (x.af ∷ []))

abbrev pub toxicity_decimals : {T : Type 0} → Toxicity T → List T
toxicity_decimals x = x.sfo ∷ (x.sfi ∷ (x.sfx ∷ (x.rfdo ∷ (x.rfdi ∷ []))))

abbrev pub transfer_decimals : {T : Type 0} → Transfer T → List T
transfer_decimals x = x.vf ∷ (x.pc ∷ [])

abbrev pub air_decimals : {T : Type 0} → AirToxicity T → List T
air_decimals x = x.u ∷ (x.q ∷ [])

-- ---- a scenario
abbrev pub scenario_decimals : Scenario → List Decimal
scenario_decimals s =
    exposure_decimals s.exposure ++ (contact_decimals s.contact ++ (target_decimals s.targets ++
    (house_decimals s.house ++ (s.air_hours ∷ ages_decimals s.ages))))

-- ---- a contaminant: all of its decimals
abbrev pub contaminant_decimals : Contaminant → List Decimal
contaminant_decimals r = toxicity_decimals r.toxicity ++ (transfer_decimals r.transfer ++ (r.c ∷ (r.saturation ∷ (air_decimals r.in_air ++ (r.abs ∷ [])))))

-- and those that a formula names, where U and Q count by concentration alone
abbrev pub no_toxicity_in_air : AirToxicity Decimal
no_toxicity_in_air = record { u = zero_of; q = zero_of }

abbrev pub toxicity_in_air : Inhalation → AirToxicity Decimal → AirToxicity Decimal
toxicity_in_air Intake x = no_toxicity_in_air
toxicity_in_air Concentration x = x

abbrev pub formula_decimals : Inhalation → Contaminant → List Decimal
formula_decimals i r = toxicity_decimals r.toxicity ++ (transfer_decimals r.transfer ++ (air_decimals (toxicity_in_air i r.in_air) ++ (r.abs ∷ [])))

-- how many they are
abbrev pub scenario_places : ℕ
scenario_places = 30

abbrev pub contaminant_places : ℕ
contaminant_places = 12

-- ---- out of such a list
abbrev nth : List Decimal → ℕ → Decimal
nth l n = get_or l n zero_of

unfoldable pub exposure_of : List Decimal → Exposure Decimal
exposure_of l = record { ef = nth l 0; ed = nth l 1; bw = nth l 2; at = nth l 3 }

unfoldable pub contact_of : List Decimal → Contact Decimal
contact_of l = record { ir = nth l 0; ira = nth l 1; pef = nth l 2; et = nth l 3; rf = nth l 4; sa = nth l 5 }

unfoldable pub targets_of : List Decimal → Targets Decimal
targets_of l = record { tr = nth l 0; thi = nth l 1 }

unfoldable pub house_of : List Decimal → House Decimal
house_of l = record { m = nth l 0; f = nth l 1; n = nth l 2; s = nth l 3; v = nth l 4; l = nth l 5; w = nth l 6; k = nth l 7 }

unfoldable pub age_of : List Decimal → Age Decimal
age_of l = record { sa = nth l 0; ef = nth l 1; ed = nth l 2; bw = nth l 3 }

unfoldable pub ages_of : List Decimal → Ages Decimal
ages_of l = record { child = age_of l; adult = age_of (drop 4 l); af = nth l 8 }

unfoldable pub toxicity_of : List Decimal → Toxicity Decimal
toxicity_of l = record { sfo = nth l 0; sfi = nth l 1; sfx = nth l 2; rfdo = nth l 3; rfdi = nth l 4 }

unfoldable pub transfer_of : List Decimal → Transfer Decimal
transfer_of l = record { vf = nth l 0; pc = nth l 1 }

unfoldable pub air_of : List Decimal → AirToxicity Decimal
air_of l = record { u = nth l 0; q = nth l 1 }

unfoldable pub scenario_of : Inhalation → List Decimal → Scenario
scenario_of i l = record {
  exposure = exposure_of l;
  contact = contact_of (drop 4 l);
  targets = targets_of (drop 10 l);
  house = house_of (drop 12 l);
  air_hours = nth l 20;
  ages = ages_of (drop 21 l);
  inhalation = i;
}

unfoldable pub contaminant_of : ℕ → ℕ → List Decimal → Contaminant
contaminant_of class id l = record {
  class = class;
  id = id;
  toxicity = toxicity_of l;
  transfer = transfer_of (drop 5 l);
  c = nth l 7;
  saturation = nth l 8;
  in_air = air_of (drop 9 l);
  abs = nth l 11;
}
