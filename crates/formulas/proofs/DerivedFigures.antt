-- What H, G and the terms come to in the examples of tritium, of soil on skin and of inhalation by concentration: the definitions give the figures of
-- the table. Assumes nothing.
use mathlib.Core.Path.{◌≡◌, refl}
use mathlib.Core.List.{List, ◌++◌, map}
use Rattle.rounding.specs.Round.{cut_of, round_of}
use Rattle.rounding.specs.Operations.{product_of, quotient_of, aligned_of, sum_of}
use Rattle.rounding.specs.WorkingForm.{nine_of}
use Rattle.decimal.specs.Decimal.{is_operand, mul_of, div_of, add_of, working_of}
use Rattle.decimal.specs.Figures.{Figure}
use Rattle.formulas.specs.Formula.{table, pathways_of, derived}
use Rattle.formulas.specs.Term.{present_of, term_of, total_of, values_of}
use Rattle.formulas.specs.Figures.{hours_figures, ages_figures, skin_term_figures, air_figures}

abbrev derived_figures : List Figure
derived_figures = hours_figures ++ (ages_figures ++ (skin_term_figures ++ air_figures))

pub derived_found : map (λ (f : Figure). f.found) derived_figures ≡ map (λ (f : Figure). f.printed) derived_figures
unfolding hours_figures ages_figures skin_term_figures air_figures is_operand mul_of div_of add_of working_of cut_of round_of product_of quotient_of aligned_of
    sum_of nine_of table pathways_of derived present_of term_of total_of values_of
derived_found = refl
