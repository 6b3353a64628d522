-- The rules of the specification that a scenario and a contaminant have to keep, wherever they come from.
use Rattle.std.specs.Prelude.{◌≡◌, Bool, true, false, not, ◌&&◌, ◌||◌, List, [], ◌∷◌, ℕ, ◌≤◌, eqb, leb, Result, ⊤}
use Rattle.outcome.specs.declared.Refusal.{Refusal}
use Rattle.outcome.specs.declared.Refusal.TheVariants.{Field, Factor}
use Rattle.outcome.specs.Outcome.{Test, test, refused_by}
use Rattle.inputs.specs.declared.Scenario.{Scenario}
use Rattle.inputs.specs.declared.Contaminant.{Contaminant}
use Rattle.inputs.specs.declared.kind.Class.{Class}
use Rattle.inputs.specs.declared.kind.Class.TheVariants.{Tritium}
use Rattle.inputs.specs.declared.kind.Medium.TheVariants.{Soil}
use Rattle.inputs.specs.Kinds.{medium_number, class_number}
use Rattle.inputs.specs.Inputs.{scenario_decimals, contaminant_decimals}
use Rattle.inputs.specs.Valid.{all_valid}

-- a list or a site has 1 to 120 contaminants
abbrev pub most_contaminants : ℕ
most_contaminants = 120

-- the media are 1 soil and 2 water, the classes 1 chemical, 2 radionuclide and 3 tritium
abbrev pub most_medium : ℕ
most_medium = 2

abbrev pub most_class : ℕ
most_class = 3

-- a number from 1 to so many
abbrev pub one_to : ℕ → ℕ → Bool
one_to most n = leb 1 n && leb n most

abbrev pub OneTo : ℕ → ℕ → Type 0
OneTo most n = (1 ≤ n) × (n ≤ most)

-- 4: a decimal or the medium breaks its rule
abbrev pub scenario_fits : Scenario → ℕ → Bool
scenario_fits s medium = one_to most_medium medium && all_valid (scenario_decimals s)

-- 6: EF, ED, BW, AT, TR or THI zero
abbrev pub lacks_factor : Scenario → Bool
lacks_factor s =
    not (not (eqb s.exposure.ef.m 0) && (not (eqb s.exposure.ed.m 0) && (not (eqb s.exposure.bw.m 0) &&
    (not (eqb s.exposure.at.m 0) && (not (eqb s.targets.tr.m 0) && not (eqb s.targets.thi.m 0))))))

-- what is sent back of a scenario in a medium: 4, then 6
abbrev pub scenario_tests : Scenario → ℕ → List Test
scenario_tests s medium = test Field (not (scenario_fits s medium)) ∷ test Factor (lacks_factor s) ∷ []

unfoldable pub scenario_refusal : Scenario → ℕ → Result ⊤ Refusal
scenario_refusal s medium = refused_by (scenario_tests s medium)

-- 4: a decimal, the class or the id breaks its rule
abbrev pub contaminant_fits : Contaminant → Bool
contaminant_fits r = one_to most_class r.class && (not (eqb r.id 0) && all_valid (contaminant_decimals r))

-- a record of the class
abbrev pub is_class : Class → Contaminant → Bool
is_class k r = eqb r.class (class_number k)

-- 12: tritium where the house has no L or no W, or in soil
abbrev pub lacks_house : Scenario → ℕ → Contaminant → Bool
lacks_house s medium r = is_class Tritium r && (eqb s.house.l.m 0 || (eqb s.house.w.m 0 || eqb medium (medium_number Soil)))

-- inputs that passed conditions 4 and 6
pub record Checked (s : Scenario) (medium : ℕ) (r : Contaminant) : Type 0 where
  pub scenario : scenario_fits s medium ≡ true
  pub factors : lacks_factor s ≡ false
  pub contaminant : contaminant_fits r ≡ true
