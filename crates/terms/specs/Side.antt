-- What the code's terms of a side stand for: the terms of the table's formulas over the decimals that its numbers stand for.
use Rattle.std.specs.Prelude.{List, [], ◌∷◌, ◌++◌, map, ℕ, ◌+◌, ◌≤◌, ◌<◌, ◌-◌, get_or}
use Rattle.rounding.specs.Sizes.{ten_digits, bias}
use Rattle.rounding.specs.declared.Direction.{Direction}
use Rattle.rounding.specs.declared.Number.{Number}
use Rattle.decimal.specs.declared.Decimal.{Decimal}
use Rattle.decimal.specs.Decimal.{zero_of, decimal_of, working_of}
use Rattle.factors.specs.declared.numbers.Factors.{Factors}
use Rattle.factors.specs.declared.numbers.ContaminantNumbers.{ContaminantNumbers}
use Rattle.factors.specs.declared.prepared.Prepared.{Prepared}
use Rattle.terms.specs.declared.pathways.PathwayTerms.{PathwayTerms}
use Rattle.formulas.specs.declared.Sides.{Sides}
use Rattle.formulas.specs.Side.{Risk, Hazard}
use Rattle.inputs.specs.declared.kind.Medium.{Medium}
use Rattle.inputs.specs.declared.kind.Medium.TheVariants.{Soil, Water}
use Rattle.inputs.specs.declared.kind.Inhalation.{Inhalation}
use Rattle.decimal.specs.Lists.{product_of}
use Rattle.formulas.specs.Formula.{Formula, B, Half, EF, IRA, none, inhaled_risk, inhaled_hazard, pathways_of, derived}
use Rattle.formulas.specs.Term.{look, constants, total_of, term_of}
use Rattle.factors.specs.Widths.{formula_width, air_width, intake_width}
use Rattle.factors.specs.Stands.{Stands, factor_numbers, contaminant_numbers, ReadyFactors, ReadyNumbers}
use Rattle.factors.specs.Prepared.{PreparedFor}

-- the decimals that the constants and the code's numbers stand for, in the order of `inputs_of`
abbrev pub number_inputs : Factors → ContaminantNumbers → List Decimal
number_inputs f t = map working_of constants ++ (map decimal_of (factor_numbers f) ++ map decimal_of (contaminant_numbers t))

-- as `values_of`: the factors that are worked out, then the inputs
unfoldable pub number_values : Direction → Factors → ContaminantNumbers → List Decimal
number_values dir f t = map (total_of (map (λ (fs : List Formula). zero_of) derived ++ number_inputs f t) dir) derived ++ number_inputs f t

-- the terms of both sides
abbrev pub Terms : Type 0
Terms = Sides PathwayTerms

-- the numbers that a side's terms are worked out from, in a medium
pub record Ready (dir : Direction) (medium : ℕ) (f : Factors) (p : Prepared) (t : ContaminantNumbers) : Type 0 where
  pub prepared : PreparedFor dir medium f p
  pub factors : ReadyFactors f
  pub numbers : ReadyNumbers t

-- the factor from soil or water to the air: B in soil, 0.5 in water
abbrev pub air_place : Medium → ℕ
air_place Soil = B
air_place Water = Half

-- a is that factor in a direction
pub record AirFor (dir : Direction) (f : Factors) (t : ContaminantNumbers) (m : Medium) (a : Number) : Type 0 where
  pub stands : Stands air_width a (look (number_values dir f t) (air_place m))

-- n is the term of pathway i, counted from 0, of these formulas
abbrev pub TermFor : Direction → Factors → ContaminantNumbers → List Formula → ℕ → Number → Type 0
TermFor dir f t fs i n = Stands formula_width n (term_of (number_values dir f t) dir (get_or fs i none))

pub record SideFor (dir : Direction) (f : Factors) (t : ContaminantNumbers) (fs : List Formula) (s : PathwayTerms) : Type 0 where
  pub first : TermFor dir f t fs 0 s.first
  pub second : TermFor dir f t fs 1 s.second
  pub third : TermFor dir f t fs 2 s.third

-- r is IRA, that factor, EF: what hazard by intake divides
abbrev pub IntakeFor : Direction → Factors → ContaminantNumbers → Medium → Number → Type 0
IntakeFor dir f t m r = Stands intake_width r (product_of dir (map (look (number_values dir f t)) (IRA ∷ air_place m ∷ EF ∷ [])))

-- r is the inhalation of a chemical in a medium, of risk and of hazard
pub record InhaledFor (dir : Direction) (f : Factors) (t : ContaminantNumbers) (i : Inhalation) (m : Medium) (r : Sides Number) : Type 0 where
  pub risk : Stands formula_width r.risk (term_of (number_values dir f t) dir (inhaled_risk i (air_place m)))
  pub hazard : Stands formula_width r.hazard (term_of (number_values dir f t) dir (inhaled_hazard i (air_place m)))

-- the third terms of a chemical in soil, of risk and of hazard, which are the same by intake and by concentration
pub record SkinFor (dir : Direction) (f : Factors) (t : ContaminantNumbers) (r : Sides Number) : Type 0 where
  pub risk : (i : Inhalation) → TermFor dir f t (pathways_of i 1 1 Risk) 2 r.risk
  pub hazard : (i : Inhalation) → TermFor dir f t (pathways_of i 1 1 Hazard) 2 r.hazard

pub record TermsFor (dir : Direction) (f : Factors) (t : ContaminantNumbers) (i : Inhalation) (medium class : ℕ) (r : Terms) : Type 0 where
  pub risk : SideFor dir f t (pathways_of i medium class Risk) r.risk
  pub hazard : SideFor dir f t (pathways_of i medium class Hazard) r.hazard

abbrev pub no_side : PathwayTerms
no_side = record { first = record { m = 0; x = (bias - 8) }; second = record { m = 0; x = (bias - 8) }; third = record { m = 0; x = (bias - 8) } }

-- ---- the sum of a side's terms
-- a number whose exponent leaves room for sums and a division
pub record Wide (r : Number) : Type 0 where
  pub most : r.m < ten_digits
  pub low : (bias - 8) ≤ r.x + formula_width
  pub high : r.x ≤ (bias - 8) + formula_width

pub record WideSide (s : PathwayTerms) : Type 0 where
  pub first : Wide s.first
  pub second : Wide s.second
  pub third : Wide s.third

-- two exponents more at the most
pub record TotalSize (r : Number) : Type 0 where
  pub most : r.m < ten_digits
  pub low : (bias - 8) ≤ r.x + formula_width
  pub high : r.x ≤ (bias - 8) + (formula_width + 2)
