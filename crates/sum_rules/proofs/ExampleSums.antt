-- The examples of the specification: the definitions give the sums and verdicts that it prints. Assumes nothing.
use mathlib.Core.Path.{◌≡◌, refl}
use mathlib.Core.List.{[], ◌∷◌}
use Rattle.rounding.specs.Round.{cut_of, round_of}
use Rattle.rounding.specs.Operations.{product_of, quotient_of, aligned_of, sum_of}
use Rattle.rounding.specs.WorkingForm.{nine_of}
use Rattle.decimal.specs.Decimal.{is_operand, mul_of, div_of, add_of, working_of, at_most_of}
use Rattle.inputs.specs.BuiltIn.{office}
use Rattle.inputs.specs.Valid.{valid_of}
use Rattle.formulas.specs.Formula.{table, pathways_of, derived}
use Rattle.formulas.specs.Term.{present_of, term_of, total_of, values_of}
use Rattle.inputs.specs.Rules.{scenario_refusal}
use Rattle.guideline_rules.specs.Pathway.{has_pathway, record_refusal}
use Rattle.guideline_rules.specs.Guideline.{side_of}
use Rattle.formulas.specs.Figures.{resident, tritium}
use Rattle.sum_rules.specs.Share.{term_sum, used_of, share_of}
use Rattle.sum_rules.specs.Verdict.{verdict_of}
use Rattle.sum_rules.specs.ListCall.{first_refusal, walk, sums_of}
use Rattle.sum_rules.specs.Example.{example, printed, tritium_printed}

pub example_sums : sums_of office 1 example ≡ printed
unfolding is_operand mul_of div_of add_of working_of at_most_of cut_of round_of product_of quotient_of aligned_of sum_of nine_of valid_of table pathways_of derived present_of
    term_of total_of values_of side_of term_sum used_of share_of has_pathway record_refusal first_refusal scenario_refusal verdict_of walk sums_of
example_sums = refl

pub tritium_sums : sums_of resident 2 (tritium ∷ []) ≡ tritium_printed
unfolding is_operand mul_of div_of add_of working_of at_most_of cut_of round_of product_of quotient_of aligned_of sum_of nine_of valid_of table pathways_of derived present_of
    term_of total_of values_of side_of term_sum used_of share_of has_pathway record_refusal first_refusal scenario_refusal verdict_of walk sums_of
tritium_sums = refl
