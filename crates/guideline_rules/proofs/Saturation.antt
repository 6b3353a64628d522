-- The inhalation guideline and the saturation: it is worth the lower of the two, is absent exactly when the calculated one is, and keeps what
-- that one promises, but for the lower bound where the saturation stands in its place. Assumes nothing.
use mathlib.Core.Path.{◌≡◌, refl, sym, ap, ◌∙◌}
use mathlib.Core.Bool.{Bool, true, false, false≢true, cond, not, ◌&&◌}
use Prim.Native.Nat.{ℕ, ◌*◌, ◌<◌, min}
use native.Mathlib.Nat.{mul-le-mul_right}
use native.Mathlib.Omega.{arith}
use lib.Dec.{eqb, leb}
use borrow.Author.Tests.{eqb-true, ne_eqb, leb-true, leb-false, not-true}
use Rattle.rounding.specs.declared.Direction.TheVariants.{Down}
use Rattle.decimal.specs.declared.Decimal.{Decimal}
use Rattle.decimal.specs.Decimal.{value_of, working_of, at_most_of}
use Rattle.decimal.specs.Fraction.{Fraction, given}
use Rattle.decimal.specs.Range.{Range, Covers}
use Rattle.decimal.proofs.Laws.{Operable, at_most_is, working_value}
use Rattle.decimal.proofs.Approximation.{Fair, fair_operable, fair_zero, given_zero}
use Rattle.decimal.proofs.Value.{Value, value_most, fair_value}
use Rattle.inputs.specs.declared.Contaminant.{Contaminant}
use Rattle.inputs.specs.declared.kind.Class.TheVariants.{Chemical}
use Rattle.inputs.specs.declared.kind.Medium.TheVariants.{Soil}
use Rattle.inputs.specs.Kinds.{medium_number}
use Rattle.inputs.specs.Rules.{is_class}
use Rattle.inputs.specs.Valid.{valid_of}
use Rattle.inputs.proofs.Tests.{and_split, valid_small}
use Rattle.formulas.specs.Limits.{input_range}
use Rattle.formulas.proofs.ValueBounds.{valid_fair}
use Rattle.guideline_rules.specs.Saturation.{has_saturation, above_saturation, capped, SaturationCounts}
use Rattle.guideline_rules.specs.Promise.{Promised, PathwayPromised}

-- a guideline that is not capped promises both bounds
pub as_calculated : {g : Decimal} {t : Fraction} {present : Bool} {exact : Fraction} → Promised g t present exact → PathwayPromised g t present exact false
as_calculated p = record { when = p.when; most = λ on. (p.kept on).most; least = λ off on. (p.kept on).least }

-- ---- when the saturation counts
pub counted : (medium : ℕ) (r : Contaminant) → SaturationCounts medium r → has_saturation medium r ≡ true
counted medium r c = rw (c.soil, c.chemical, c.known)

pub counts : (medium : ℕ) (r : Contaminant) → has_saturation medium r ≡ true → SaturationCounts medium r
counts medium r h =
    let p = and_split (eqb medium (medium_number Soil)) _ h in
    let q = and_split (is_class Chemical r) _ p.1 in
    record { soil = eqb-true medium _ p.0; chemical = eqb-true r.class _ q.0; known = not-true _ q.1 }

-- ---- a saturation that keeps its rule
module _ (r : Contaminant) (valid : valid_of r.saturation ≡ true) where
  abbrev saturation : Decimal
  saturation = working_of r.saturation

  stands : Fair Down 0 input_range saturation (given r.saturation)
  stands = valid_fair Down r.saturation valid

  pub saturation_value : Value input_range saturation
  saturation_value = fair_value stands

  pub saturation_worth : value_of saturation ≡ value_of r.saturation
  saturation_worth = let k = valid_small r.saturation valid in working_value r.saturation k.digits (omega (arith, k.low))

  -- ---- beside a calculated guideline
  module _ (medium : ℕ) (g : Decimal) (o : Operable g) where
    compared : at_most_of g saturation ≡ leb (value_of g) (value_of saturation)
    compared = at_most_is g saturation o (fair_operable stands)

    -- what is above the saturation is worth more, and the saturation counts
    pub record Above : Type 0 where
      pub counts : SaturationCounts medium r
      pub less : value_of saturation < value_of g

    pub above : above_saturation medium r g ≡ true → Above
    above h =
        let p = and_split (has_saturation medium r) _ h in
        record { counts = counts medium r p.0; less = leb-false (value_of g) (value_of saturation) (sym compared ∙ not-true _ p.1) }

    -- the lower of the two is the saturation exactly where the other is above it
    capped_is : capped medium r g ≡ cond (above_saturation medium r g) saturation g
    capped_is = cases (has_saturation medium r) (at_most_of g saturation)
      where
        cases : (a b : Bool) → cond a (cond b g saturation) g ≡ cond (a && not b) saturation g
        cases true true = refl
        cases true false = refl
        cases false b = refl

    -- a value where it is one
    pub capped_value : {w : Range} → Covers w input_range → Value w g → Value w (capped medium r g)
    capped_value {w} c v = rw capped_is (cases (above_saturation medium r g))
      where
        cases : (b : Bool) → Value w (cond b saturation g)
        cases true = value_most c saturation_value
        cases false = v

    -- its promise
    module _ {t : Fraction} {present : Bool} {exact : Fraction} (p : Promised g t present exact) where
      capped_promise : (b : Bool) → above_saturation medium r g ≡ b → PathwayPromised (cond b saturation g) t present exact b
      unfolding given
      capped_promise false e = as_calculated p
      capped_promise true e =
          let a = above e in
          let known : eqb saturation.m 0 ≡ false = fair_zero stands ∙ given_zero r.saturation ∙ a.counts.known in
          let there : eqb g.m 0 ≡ false = sym (given_zero g) ∙ ne_eqb (value_of g) 0 (omega (arith, a.less)) in
          record {
            when = ap not known ∙ sym (ap not there) ∙ p.when;
            most = λ on. omega (arith, (p.kept on).most, mul-le-mul_right (exact.top * t.bottom) a.less);
            least = λ off on. absurd (false≢true (sym off));
          }

      pub inhalation_promise : PathwayPromised (capped medium r g) t present exact (above_saturation medium r g)
      inhalation_promise = rw capped_is (capped_promise (above_saturation medium r g) refl)

    -- what it is worth
    pub capped_worth : has_saturation medium r ≡ true → value_of (capped medium r g) ≡ min (value_of g) (value_of r.saturation)
    capped_worth h = rw h (cases (at_most_of g saturation) refl)
      where
        cases : (b : Bool) → at_most_of g saturation ≡ b → value_of (cond b g saturation) ≡ min (value_of g) (value_of r.saturation)
        cases true e = let l = leb-true (value_of g) (value_of saturation) (sym compared ∙ e) in omega (arith, l, saturation_worth)
        cases false e = let l = leb-false (value_of g) (value_of saturation) (sym compared ∙ e) in omega (arith, l, saturation_worth)
