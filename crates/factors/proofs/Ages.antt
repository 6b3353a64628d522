-- What the code works out of the ages of a scenario stands for G: each part, zero without SA, and their sum. Assumes nothing.
use mathlib.Core.Path.{◌≡◌, refl, ap, ◌∙◌}
use lib.Dec.{lit≤}
use Rattle.rounding.specs.declared.Direction.{Direction}
use Rattle.rounding.specs.declared.Number.{Number}
use Rattle.rounding.specs.Operations.{product_of, quotient_of, sum_of}
use Rattle.decimal.specs.declared.Decimal.{Decimal}
use Rattle.decimal.specs.Decimal.{zero_of, decimal_of, mul_of, div_of}
use Rattle.decimal.specs.Range.{ends}
use Rattle.decimal.proofs.Laws.{decimal_zero, mul_zero_left, div_zero_left}
use Rattle.decimal.proofs.Value.{Value}
use Rattle.inputs.specs.declared.groups.Age.{Age}
use Rattle.inputs.specs.Inputs.{age_decimals}
use Rattle.factors.specs.declared.numbers.Factors.{Factors}
use Rattle.factors.specs.Widths.{three_width, age_width, ages_width}
use Rattle.factors.specs.Stands.{Stands, Inputs, ReadyFactors}
use Rattle.factors.specs.Stands.StandAll.{end, next}
use Rattle.factors.specs.Prepared.{one_age, both_ages}
use Rattle.factors.proofs.StandsLaws.{stands_at, stands_mul3, stands_div, stands_add, stands_value}

-- ---- an age
module _ (dir : Direction) {x : Age Number} (inputs : Inputs (age_decimals x)) where
  pub three_stands : {a : Number} → a ≡ product_of dir (product_of dir x.sa x.ef) x.ed →
      Stands three_width a (mul_of (mul_of (decimal_of x.sa) (decimal_of x.ef) dir) (decimal_of x.ed) dir)
  three_stands e = stands_mul3 dir (stands_at inputs 0) (stands_at inputs 1) (stands_at inputs 2) (lit≤ tt) e

  pub age_stands : {a b : Number} → a ≡ product_of dir (product_of dir x.sa x.ef) x.ed → b ≡ quotient_of dir a x.bw → Stands age_width b (one_age dir x)
  age_stands e g = stands_div dir (three_stands e) (stands_at inputs 3) (lit≤ tt) g

  -- without SA
  pub no_age : x.sa.m ≡ 0 → one_age dir x ≡ zero_of
  no_age z =
      let ef = decimal_of x.ef in
      let ed = decimal_of x.ed in
      let bw = decimal_of x.bw in
      ap (λ (d : Decimal). div_of (mul_of (mul_of d ef dir) ed dir) bw dir) (decimal_zero x.sa z) ∙
      ap (λ (d : Decimal). div_of (mul_of d ed dir) bw dir) (mul_zero_left dir ef) ∙
      ap (λ (d : Decimal). div_of d bw dir) (mul_zero_left dir ed) ∙ div_zero_left dir bw

-- ---- both
module _ (dir : Direction) {f : Factors} (ready : ReadyFactors f) where
  pub child_inputs : Inputs (age_decimals f.ages.child)
  child_inputs = next (stands_at ready 21) (next (stands_at ready 22) (next (stands_at ready 23) (next (stands_at ready 24) end)))

  pub adult_inputs : Inputs (age_decimals f.ages.adult)
  adult_inputs = next (stands_at ready 25) (next (stands_at ready 26) (next (stands_at ready 27) (next (stands_at ready 28) end)))

  pub ages_stand : {a b g : Number} → Stands age_width a (one_age dir f.ages.child) → Stands age_width b (one_age dir f.ages.adult) → g ≡ sum_of dir a b →
      Stands ages_width g (both_ages dir f)
  ages_stand s t e = stands_add dir s t (lit≤ tt) (lit≤ tt) e

  -- whatever the code works out, all are zero or have nine digits
  abbrev worked_out : Age Number → Number
  worked_out x = quotient_of dir (product_of dir (product_of dir x.sa x.ef) x.ed) x.bw

  child_stands : Stands age_width (worked_out f.ages.child) (one_age dir f.ages.child)
  child_stands = age_stands dir child_inputs refl refl

  adult_stands : Stands age_width (worked_out f.ages.adult) (one_age dir f.ages.adult)
  adult_stands = age_stands dir adult_inputs refl refl

  pub child_value : Value (ends age_width age_width) (one_age dir f.ages.child)
  child_value = stands_value (lit≤ tt) child_stands

  pub adult_value : Value (ends age_width age_width) (one_age dir f.ages.adult)
  adult_value = stands_value (lit≤ tt) adult_stands

  pub ages_value : Value (ends ages_width ages_width) (both_ages dir f)
  ages_value = stands_value (lit≤ tt) (ages_stand child_stands adult_stands refl)
