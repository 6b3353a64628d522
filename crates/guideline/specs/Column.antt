-- What the code keeps of a side's guidelines: numbers, and the equations that make them.
use Rattle.std.specs.Prelude.{◌≡◌, ℕ}
use Rattle.decimal.specs.Decimal.{decimal_of, Printable}
use Rattle.inputs.specs.declared.Contaminant.{Contaminant}
use Rattle.formulas.specs.declared.Sides.{Sides}
use Rattle.guideline_rules.specs.Answer.{Guidelines}
use Rattle.guideline_rules.specs.Saturation.{capped_side}
use Rattle.terms.specs.Side.{TotalSize}
use Rattle.guideline_rules.specs.declared.SideGuidelines.{SideGuidelines}
use Rattle.rounding.specs.declared.Direction.TheVariants.{Down, Up}
use Rattle.rounding.specs.declared.Number.{Number}
use Rattle.rounding.specs.Operations.{quotient_of, sum_of}
use Rattle.terms.specs.declared.pathways.PathwayTerms.{PathwayTerms}
use Rattle.guideline.specs.declared.Column.{Column}

pub record ColumnFor (target : Number) (t : PathwayTerms) (c : Column) : Type 0 where
  pub sum : c.sum ≡ sum_of Up (sum_of Up t.first t.second) t.third
  pub size : TotalSize c.sum
  pub first : c.first ≡ quotient_of Down target t.first
  pub second : c.second ≡ quotient_of Down target t.second
  pub third : c.third ≡ quotient_of Down target t.third
  pub total : c.total ≡ quotient_of Down target c.sum

pub record PrintableColumn (c : Column) : Type 0 where
  pub first : Printable c.first
  pub second : Printable c.second
  pub third : Printable c.third
  pub total : Printable c.total

abbrev pub column_decimals : Column → SideGuidelines
column_decimals c = record { first = decimal_of c.first; second = decimal_of c.second; third = decimal_of c.third; total = decimal_of c.total }

-- the columns of both sides
abbrev pub Columns : Type 0
Columns = Sides Column

-- their guidelines as decimals, inhalation no higher than the saturation of the contaminant
abbrev pub guidelines_from : Columns → ℕ → Contaminant → Guidelines
guidelines_from c medium r =
    record { risk = capped_side medium r (column_decimals c.risk); hazard = capped_side medium r (column_decimals c.hazard) }
