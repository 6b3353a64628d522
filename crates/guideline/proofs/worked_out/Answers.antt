-- `guideline::worked_out`: the terms and the columns stand for those of the definitions.
use Rattle.std.proofs.Common.{◌≡◌, ℕ, refl, ◌∙◌}
use Rattle.rounding.specs.declared.Direction.TheVariants.{Up}
use Rattle.inputs.specs.declared.Scenario.{Scenario}
use Rattle.inputs.specs.declared.Contaminant.{Contaminant}
use Rattle.factors.specs.declared.numbers.Factors.{Factors}
use Rattle.factors.specs.declared.numbers.ContaminantNumbers.{ContaminantNumbers}
use Rattle.factors.specs.Stands.{FactorsFor, NumbersFor}
use Rattle.inputs.proofs.Tests.{contaminant_parts}
use Rattle.factors.proofs.StandsLaws.{all_own}
use Rattle.terms.specs.Side.{Terms}
use Rattle.terms.specs.Side.{TermsFor}
use Rattle.terms.proofs.SameValues.{ready, terms_at}
use Rattle.guideline_rules.proofs.Accepted.{Accepted}
use Rattle.guideline.specs.declared.Column.{Column}
use Rattle.guideline.specs.Column.{ColumnFor}
use Rattle.guideline.proofs.Steps.{TermsOf, ColumnsOf, wide, both_printable, both_are}
use Rattle.guideline.proofs.worked_out.Goals as goal

-- ---- what the code has worked out: the kinds, the terms, then the columns
module _ {s : Scenario} {medium : ℕ} {r : Contaminant} {m n : ℕ}
    (a : m ≡ medium) (b : n ≡ r.class) (i : Accepted s medium r)
    {f : Factors} {t : ContaminantNumbers} {k : Terms} where
  terms_worked : FactorsFor s f → NumbersFor s.inhalation r t → TermsFor Up f t s.inhalation m n k → TermsOf s medium r f t k
  terms_worked g l u =
      record { inputs = i; factors = g; numbers = l; terms = terms_at a b u }

  columns_filled : FactorsFor s f → NumbersFor s.inhalation r t → TermsFor Up f t s.inhalation m n k → {v w : Column} →
      ColumnFor f.targets.tr k.risk v × ColumnFor f.targets.thi k.hazard w → ColumnsOf s medium r f t k v w
  columns_filled g l u q = record { terms = terms_worked g l u; risk = q.0; hazard = q.1 }

-- ---- the calls
pub of-soil_or_water-requires : goal.of-soil_or_water-requires
of-soil_or_water-requires c = c.requires.media

pub of-class-requires : goal.of-class-requires
of-class-requires c = c.requires.class

pub prepare-p-requires : goal.prepare-p-requires
prepare-p-requires c = all_own c.scenario_numbers-f.ensures

pub contaminant_numbers-t-requires : goal.contaminant_numbers-t-requires
contaminant_numbers-t-requires c = (contaminant_parts c.args.r c.requires.contaminant).formulas _

pub terms_of-side-requires : goal.terms_of-side-requires
terms_of-side-requires c = ready refl c.prepare-p.ensures c.scenario_numbers-f.ensures c.contaminant_numbers-t.ensures

pub columns_of-columns-requires : goal.columns_of-columns-requires
columns_of-columns-requires c =
    wide (terms_worked c.of-soil_or_water.ensures c.of-class.ensures c.requires
    c.scenario_numbers-f.ensures c.contaminant_numbers-t.ensures c.terms_of-side.ensures)

pub decimals-requires : goal.decimals-requires
decimals-requires c =
    both_printable
    (columns_filled c.of-soil_or_water.ensures c.of-class.ensures c.requires
    c.scenario_numbers-f.ensures c.contaminant_numbers-t.ensures c.terms_of-side.ensures
    c.columns_of-columns.ensures)

pub returns : goal.returns
returns c =
    c.decimals.ensures ∙
    both_are
    (columns_filled c.of-soil_or_water.ensures c.of-class.ensures c.requires
    c.scenario_numbers-f.ensures c.contaminant_numbers-t.ensures c.terms_of-side.ensures
    c.columns_of-columns.ensures)
