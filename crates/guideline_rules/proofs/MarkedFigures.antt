-- Every marked figure of the specification: the definitions give what the table prints. Assumes nothing.
use mathlib.Core.Path.{◌≡◌, refl}
use mathlib.Core.List.{map}
use Rattle.rounding.specs.Round.{cut_of, round_of}
use Rattle.rounding.specs.Operations.{product_of, quotient_of, aligned_of, sum_of}
use Rattle.rounding.specs.WorkingForm.{nine_of}
use Rattle.decimal.specs.Decimal.{is_operand, mul_of, div_of, add_of, working_of, at_most_of}
use Rattle.decimal.specs.Figures.{Figure, figures}
use Rattle.inputs.specs.Valid.{valid_of}
use Rattle.formulas.specs.Formula.{table, pathways_of, derived}
use Rattle.formulas.specs.Term.{present_of, term_of, total_of, values_of}
use Rattle.inputs.specs.Rules.{scenario_refusal}
use Rattle.guideline_rules.specs.Pathway.{has_pathway, record_refusal}
use Rattle.guideline_rules.specs.Guideline.{side_of, guideline_of}
use Rattle.guideline_rules.specs.Figures.{office_figures, tritium_figures, saturation_row, saturation_figures, skin_figures, concentration_figures, marked_figures}

pub marked : map (λ (f : Figure). f.found) marked_figures ≡ map (λ (f : Figure). f.printed) marked_figures
unfolding figures office_figures tritium_figures saturation_row saturation_figures skin_figures concentration_figures is_operand mul_of div_of add_of working_of
    at_most_of cut_of round_of product_of quotient_of aligned_of sum_of nine_of valid_of table pathways_of derived present_of term_of total_of values_of
    side_of scenario_refusal has_pathway record_refusal guideline_of
marked = refl
