-- A number of nine digits that stands for a working decimal, with the range of its exponent: what the code keeps of every value.
use Rattle.std.specs.Prelude.{◌≡◌, List, [], ◌∷◌, ◌++◌, map, ℕ, ◌+◌, ◌≤◌, ◌<◌, ◌-◌}
use Rattle.rounding.specs.Sizes.{ten_digits, bias}
use Rattle.rounding.specs.declared.Number.{Number}
use Rattle.rounding.specs.Number.{Working}
use Rattle.factors.specs.Widths.{input_width}
use Rattle.decimal.specs.declared.Decimal.{Decimal}
use Rattle.decimal.specs.Decimal.{decimal_of, working_of}
use Rattle.inputs.specs.declared.Scenario.{Scenario}
use Rattle.inputs.specs.declared.Contaminant.{Contaminant}
use Rattle.inputs.specs.declared.kind.Inhalation.{Inhalation}
use Rattle.inputs.specs.Inputs.{exposure_decimals, contact_decimals, target_decimals, house_decimals, ages_decimals, toxicity_decimals, transfer_decimals, air_decimals}
use Rattle.inputs.specs.Inputs.{scenario_decimals, formula_decimals}
use Rattle.factors.specs.declared.numbers.Factors.{Factors}
use Rattle.factors.specs.declared.numbers.ContaminantNumbers.{ContaminantNumbers}

-- r is the decimal d, zero or of nine digits, its exponent within w of -8
pub record Stands (w : ℕ) (r : Number) (d : Decimal) : Type 0 where
  pub is : decimal_of r ≡ d
  pub working : Working r
  pub most : r.m < ten_digits
  pub low : (bias - 8) ≤ r.x + w
  pub high : r.x ≤ (bias - 8) + w

-- a number that stands for a working decimal of an input
abbrev pub Input : Number → Type 0
Input r = Stands input_width r (decimal_of r)

-- each number stands for the working decimal at its place
pub data StandAll : List Number → List Decimal → Type 0 where
  end : StandAll [] []
  next : {n : Number} {d : Decimal} {ns : List Number} {ds : List Decimal} → Stands input_width n d → StandAll ns ds → StandAll (n ∷ ns) (d ∷ ds)

-- ---- the numbers as a list, in the order of their decimals
abbrev pub factor_numbers : Factors → List Number
factor_numbers f =
    exposure_decimals f.exposure ++ (contact_decimals f.contact ++ (target_decimals f.targets ++
    (house_decimals f.house ++ (f.air_hours ∷ ages_decimals f.ages))))

abbrev pub contaminant_numbers : ContaminantNumbers → List Number
contaminant_numbers t = toxicity_decimals t.toxicity ++ (transfer_decimals t.transfer ++ (air_decimals t.in_air ++ (t.abs ∷ [])))

-- ---- the numbers of an input's decimals
abbrev pub FactorsFor : Scenario → Factors → Type 0
FactorsFor s f = StandAll (factor_numbers f) (map working_of (scenario_decimals s))

abbrev pub NumbersFor : Inhalation → Contaminant → ContaminantNumbers → Type 0
NumbersFor i r t = StandAll (contaminant_numbers t) (map working_of (formula_decimals i r))

-- ---- numbers that stand for working decimals of inputs
abbrev pub Inputs : List Number → Type 0
Inputs ns = StandAll ns (map decimal_of ns)

abbrev pub ReadyFactors : Factors → Type 0
ReadyFactors f = Inputs (factor_numbers f)

abbrev pub ReadyNumbers : ContaminantNumbers → Type 0
ReadyNumbers t = Inputs (contaminant_numbers t)
