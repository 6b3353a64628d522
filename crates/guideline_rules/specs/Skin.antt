-- Soil on skin: the words of the theorems about it.
use Rattle.std.specs.Prelude.{◌≡◌, ◌⊎◌, false, ℕ, eqb, List, [], ◌∷◌, get_or}
use Rattle.decimal.specs.declared.Decimal.{Decimal}
use Rattle.inputs.specs.declared.groups.Age.{Age}
use Rattle.inputs.specs.declared.groups.Ages.{Ages}
use Rattle.inputs.specs.declared.Scenario.{Scenario}
use Rattle.inputs.specs.declared.Contaminant.{Contaminant}
use Rattle.inputs.specs.declared.kind.Class.TheVariants.{Chemical}
use Rattle.inputs.specs.declared.kind.Medium.TheVariants.{Soil}
use Rattle.inputs.specs.Kinds.{medium_number, class_number}
use Rattle.formulas.specs.Formula.{Formula, none}

-- a chemical in soil, which alone has this pathway
pub record ChemicalInSoil (medium : ℕ) (r : Contaminant) : Type 0 where
  pub soil : medium ≡ medium_number Soil
  pub chemical : r.class ≡ class_number Chemical

-- what its pathway needs beside the dose of a side: ABS, the adherence, and one age with all four factors
pub record AgeKnown (x : Age Decimal) : Type 0 where
  pub sa : eqb x.sa.m 0 ≡ false
  pub ef : eqb x.ef.m 0 ≡ false
  pub ed : eqb x.ed.m 0 ≡ false
  pub bw : eqb x.bw.m 0 ≡ false

pub record SkinKnown (s : Scenario) (r : Contaminant) : Type 0 where
  pub abs : eqb r.abs.m 0 ≡ false
  pub af : eqb s.ages.af.m 0 ≡ false
  pub age : AgeKnown s.ages.child ⊎ AgeKnown s.ages.adult

-- the scenario with other ages, and the record with another ABS
abbrev pub with_ages : Ages Decimal → Scenario → Scenario
with_ages a s = record {
  exposure = s.exposure;
  contact = s.contact;
  targets = s.targets;
  house = s.house;
  air_hours = s.air_hours;
  ages = a;
  inhalation = s.inhalation;
}

abbrev pub with_abs : Decimal → Contaminant → Contaminant
with_abs d r =
    record { class = r.class; id = r.id; toxicity = r.toxicity; transfer = r.transfer; c = r.c; saturation = r.saturation; in_air = r.in_air; abs = d }

-- the first two pathways, and no third
abbrev pub first_two : List Formula → List Formula
first_two fs = get_or fs 0 none ∷ get_or fs 1 none ∷ none ∷ []
