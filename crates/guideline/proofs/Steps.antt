-- The steps of the single guideline's code, and what their results stand for. Assumes nothing.
use mathlib.Core.Path.{◌≡◌, ap₂, subst}
use mathlib.Core.List.{List}
use Prim.Native.Nat.{ℕ}
use lib.Dec.{lit≤}
use lib.ListN.{length}
use Rattle.rounding.specs.declared.Direction.{Direction}
use Rattle.rounding.specs.declared.Direction.TheVariants.{Up}
use Rattle.decimal.specs.declared.Decimal.{Decimal}
use Rattle.inputs.specs.declared.Scenario.{Scenario}
use Rattle.inputs.specs.declared.Contaminant.{Contaminant}
use Rattle.factors.specs.declared.numbers.Factors.{Factors}
use Rattle.factors.specs.declared.numbers.ContaminantNumbers.{ContaminantNumbers}
use Rattle.terms.specs.declared.pathways.PathwayTerms.{PathwayTerms}
use Rattle.terms.specs.Side.{Terms}
use Rattle.formulas.specs.Side.{Risk, Hazard}
use Rattle.formulas.specs.Target.{working_target}
use Rattle.formulas.specs.Formula.{Formula}
use Rattle.formulas.specs.Term.{formulas_for, values_for}
use Rattle.factors.specs.Stands.{FactorsFor, NumbersFor}
use Rattle.terms.specs.Side.{number_values, SideFor, TermsFor, Wide, WideSide}
use Rattle.formulas.proofs.Sound.{three_pathways}
use Rattle.factors.proofs.StandsLaws.{risk_target, hazard_target}
use Rattle.terms.proofs.SameValues.{values_same}
use Rattle.guideline.specs.declared.Column.{Column}
use Rattle.guideline.specs.Column.{ColumnFor, PrintableColumn, guidelines_from}
use Rattle.guideline_rules.proofs.Accepted.{Accepted}
use Rattle.guideline_rules.specs.declared.SideGuidelines.{SideGuidelines}
use Rattle.guideline_rules.specs.Saturation.{capped_side}
use Rattle.guideline_rules.specs.Guideline.{both_sides}
use Rattle.guideline.proofs.ColumnBounds.{SideStands, ColumnStands, stands_wide, side_wide, column_stands, column_printable, column_is}

-- ---- the terms over the values of the definitions
pub sides : {dir : Direction} {f : Factors} {t : ContaminantNumbers} {fs : List Formula} {k : PathwayTerms} {vs : List Decimal} →
    number_values dir f t ≡ vs → SideFor dir f t fs k → SideStands dir vs fs k
sides {dir} {f} {t} {fs} {k} {vs} e h = subst (λ (l : List Decimal). SideStands dir l fs k) e (record { first = h.first; second = h.second; third = h.third })

pub record TermsOf (s : Scenario) (medium : ℕ) (r : Contaminant) (f : Factors) (t : ContaminantNumbers) (k : Terms) : Type 0 where
  pub inputs : Accepted s medium r
  pub factors : FactorsFor s f
  pub numbers : NumbersFor s.inhalation r t
  pub terms : TermsFor Up f t s.inhalation medium r.class k

module _ {s : Scenario} {medium : ℕ} {r : Contaminant} {f : Factors} {t : ContaminantNumbers} {k : Terms} (h : TermsOf s medium r f t k) where
  same : number_values Up f t ≡ values_for Up s r
  same = values_same Up s r h.factors h.numbers

  pub risk_terms : SideStands Up (values_for Up s r) (formulas_for s medium r Risk) k.risk
  risk_terms = sides same h.terms.risk

  pub hazard_terms : SideStands Up (values_for Up s r) (formulas_for s medium r Hazard) k.hazard
  hazard_terms = sides same h.terms.hazard

  pub wide : (Wide f.targets.tr × WideSide k.risk) × (Wide f.targets.thi × WideSide k.hazard)
  wide =
      let risk = stands_wide (lit≤ tt) (risk_target s f h.factors) in
      let hazard = stands_wide (lit≤ tt) (hazard_target s f h.factors) in
      ((risk, side_wide risk_terms), (hazard, side_wide hazard_terms))

-- ---- the columns
pub record ColumnsOf (s : Scenario) (medium : ℕ) (r : Contaminant) (f : Factors) (t : ContaminantNumbers) (k : Terms) (x y : Column) : Type 0 where
  pub terms : TermsOf s medium r f t k
  pub risk : ColumnFor f.targets.tr k.risk x
  pub hazard : ColumnFor f.targets.thi k.hazard y

module _ {s : Scenario} {medium : ℕ} {r : Contaminant} {f : Factors} {t : ContaminantNumbers} {k : Terms} {x y : Column} (h : ColumnsOf s medium r f t k x y) where
  abbrev vs : List Decimal
  vs = values_for Up s r

  risk_three : length (formulas_for s medium r Risk) ≡ 3
  risk_three = three_pathways s.inhalation medium r.class Risk

  hazard_three : length (formulas_for s medium r Hazard) ≡ 3
  hazard_three = three_pathways s.inhalation medium r.class Hazard

  risk_column : ColumnStands vs (working_target s Risk) (formulas_for s medium r Risk) x
  risk_column =
      column_stands vs (formulas_for s medium r Risk) k.risk risk_three (risk_terms h.terms) f.targets.tr (working_target s Risk) x
      (risk_target s f h.terms.factors) h.risk

  hazard_column : ColumnStands vs (working_target s Hazard) (formulas_for s medium r Hazard) y
  hazard_column =
      column_stands vs (formulas_for s medium r Hazard) k.hazard hazard_three (hazard_terms h.terms) f.targets.thi (working_target s Hazard) y
      (hazard_target s f h.terms.factors) h.hazard

  pub both_printable : PrintableColumn x × PrintableColumn y
  both_printable = (column_printable risk_column, column_printable hazard_column)

  pub both_are : guidelines_from (record { risk = x; hazard = y }) medium r ≡ both_sides s medium r
  both_are = ap₂ (λ (a b : SideGuidelines). record { risk = capped_side medium r a; hazard = capped_side medium r b }) (column_is risk_column) (column_is hazard_column)
