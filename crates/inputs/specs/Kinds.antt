-- The numbers of the media, of the classes and of the ways to work out inhalation.
use Rattle.std.specs.Prelude.{Bool, cond, ◌||◌, ℕ, eqb}
use Rattle.inputs.specs.declared.kind.Medium.{Medium}
use Rattle.inputs.specs.declared.kind.Medium.TheVariants.{Soil, Water}
use Rattle.inputs.specs.declared.kind.Class.{Class}
use Rattle.inputs.specs.declared.kind.Class.TheVariants.{Chemical, Radionuclide, Tritium}
use Rattle.inputs.specs.declared.kind.Inhalation.{Inhalation}
use Rattle.inputs.specs.declared.kind.Inhalation.TheVariants.{Intake, Concentration}

abbrev pub medium_number : Medium → ℕ
medium_number Soil = 1
medium_number Water = 2

abbrev pub class_number : Class → ℕ
class_number Chemical = 1
class_number Radionuclide = 2
class_number Tritium = 3

-- inhalation of a chemical: a header of kind 1 has it by intake, one of kind 6 by concentration
abbrev pub header_kind : Inhalation → ℕ
header_kind Intake = 1
header_kind Concentration = 6

-- the kind of a header, and what it tells
abbrev pub is_header_kind : ℕ → Bool
is_header_kind n = eqb n (header_kind Intake) || eqb n (header_kind Concentration)

abbrev pub inhalation_of : ℕ → Inhalation
inhalation_of n = cond (eqb n (header_kind Concentration)) Concentration Intake
