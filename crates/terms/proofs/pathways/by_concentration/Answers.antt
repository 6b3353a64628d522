-- `terms::pathways::by_concentration`: each term is that of its formula, whatever leads to the air.
use Rattle.std.proofs.Common.{ℕ, ◌≡◌, ◌+◌, [], ◌∷◌, subst}
use lib.Dec.{lit≤}
use Rattle.rounding.specs.declared.Direction.{Direction}
use Rattle.rounding.specs.declared.Number.{Number}
use Rattle.rounding.specs.Direction.{opposite}
use Rattle.rounding.specs.Operations.{product_of}
use Rattle.decimal.specs.Decimal.{mul_of}
use Rattle.decimal.specs.Lists.{product_of as list_product}
use Rattle.inputs.specs.declared.kind.Medium.{Medium}
use Rattle.inputs.specs.declared.kind.Inhalation.TheVariants.{Concentration}
use Rattle.formulas.specs.Formula.{A, AT, Days, ED, EF, HoursPerDay, Q, Thousand, U, derived, inhaled_risk, inhaled_hazard}
use Rattle.formulas.specs.Term.{look}
use Rattle.factors.specs.declared.numbers.Factors.{Factors}
use Rattle.factors.specs.declared.numbers.ContaminantNumbers.{ContaminantNumbers}
use Rattle.factors.specs.declared.prepared.Prepared.{Prepared}
use Rattle.factors.specs.Stands.{Stands}
use Rattle.factors.specs.Widths.{input_width, two_width, intake_width}
use Rattle.terms.specs.Side.{number_values, Ready, air_place, AirFor}
use Rattle.factors.proofs.StandsLaws.{stands_mul, stands_mul3, stands_div, stands_middle}
use Rattle.terms.proofs.NumberValues.{named, named_below, input, middle, term_stands}
use Rattle.terms.proofs.Products.{number, three_below, three_fit, two_more, two_more_fit, quotient_fits}
use Rattle.terms.proofs.pathways.by_concentration.Goals as goal

-- ---- what the code multiplies by the factor to the air, and the hours of the lifetime, which it multiplies in the other direction
module _ {dir : Direction} {medium : ℕ} {f : Factors} {p : Prepared} {t : ContaminantNumbers} (ready : Ready dir medium f p t) {m : Medium} {air : Number}
    (stands : AirFor dir f t m air) where
  inhaled3 : {a : Number} → a ≡ product_of dir (product_of dir t.in_air.u (number ready Thousand)) air → Stands intake_width a (named dir f t (U ∷ Thousand ∷ air_place m ∷ []))
  unfolding number_values derived
  inhaled3 e = stands_mul3 dir (input ready U) (input ready Thousand) stands.stands (lit≤ tt) e

  inhaled6 : {a b r : Number} → a ≡ product_of dir (product_of dir t.in_air.u (number ready Thousand)) air → b ≡ product_of dir (product_of dir a f.air_hours) f.exposure.ef →
      r ≡ product_of dir b f.exposure.ed →
      Stands (intake_width + input_width + input_width + 2 + input_width + 1) r (named dir f t (U ∷ Thousand ∷ air_place m ∷ A ∷ EF ∷ ED ∷ []))
  unfolding number_values derived
  inhaled6 e g h = stands_mul dir (two_more ready A EF (inhaled3 e) (lit≤ tt) g) (input ready ED) (lit≤ tt) h

  breathed3 : {a : Number} → a ≡ product_of dir (product_of dir air f.air_hours) f.exposure.ef → Stands intake_width a (named dir f t (air_place m ∷ A ∷ EF ∷ []))
  unfolding number_values derived
  breathed3 e = stands_mul3 dir stands.stands (input ready A) (input ready EF) (lit≤ tt) e

  lifetime3 : {back : Direction} {a : Number} → back ≡ opposite dir → a ≡ product_of back p.averaging (number ready HoursPerDay) →
      Stands (two_width + input_width + 1) a (named_below dir f t (AT ∷ Days ∷ HoursPerDay ∷ []))
  unfolding number_values derived
  lifetime3 {back} {a} b e =
      let at_days = list_product (opposite dir) (look (number_values dir f t) AT ∷ look (number_values dir f t) Days ∷ []) in
      subst (λ (d : Direction). Stands (two_width + input_width + 1) a (mul_of at_days (look (number_values dir f t) HoursPerDay) d)) b
      (stands_mul back ready.prepared.averaging (input ready HoursPerDay) (lit≤ tt) e)

-- ---- what it may multiply and divide
pub product3-requires : goal.product3-requires
product3-requires c = let r = middle c.requires.0 in (r U, (r Thousand, stands_middle (lit≤ tt) c.requires.1.stands))

pub product3-requires-2 : goal.product3-requires-2
product3-requires-2 c = two_more_fit c.requires.0 A EF (inhaled3 c.requires.0 c.requires.1 c.product3.ensures.0) (lit≤ tt)

pub mul-inhaled-requires : goal.mul-inhaled-requires
mul-inhaled-requires c =
    let ready = c.requires.0 in
    quotient_fits (two_more ready A EF (inhaled3 ready c.requires.1 c.product3.ensures.0) (lit≤ tt) c.product3-2.ensures.0) (lit≤ tt) (input ready ED) (lit≤ tt)

pub product3-reference-requires : goal.product3-reference-requires
product3-reference-requires c = three_fit c.requires.0 Q Days HoursPerDay

pub div-requires : goal.div-requires
div-requires c =
    let dividend = inhaled6 c.requires.0 c.requires.1 c.product3.ensures.0 c.product3-2.ensures.0 c.mul-inhaled.ensures.0 in
    let divisor = lifetime3 c.requires.0 c.requires.1 c.opposite-back.ensures c.mul-lifetime.ensures.0 in
    quotient_fits dividend (lit≤ tt) divisor (lit≤ tt)

pub product3-requires-3 : goal.product3-requires-3
product3-requires-3 c = let r = middle c.requires.0 in (stands_middle (lit≤ tt) c.requires.1.stands, (r A, r EF))

pub div-requires-2 : goal.div-requires-2
div-requires-2 c =
    let dividend = breathed3 c.requires.0 c.requires.1 c.product3-3.ensures.0 in
    let divisor = three_below c.requires.0 Q Days HoursPerDay c.opposite-back.ensures c.product3-reference.ensures.0 in
    quotient_fits dividend (lit≤ tt) divisor (lit≤ tt)

pub returns : goal.returns
unfolding number_values derived
returns c =
    let ready = c.requires.0 in
    let air = c.requires.1 in
    let dir = c.args.dir in
    let inhaled = inhaled6 ready air c.product3.ensures.0 c.product3-2.ensures.0 c.mul-inhaled.ensures.0 in
    let lifetime = lifetime3 ready air c.opposite-back.ensures c.mul-lifetime.ensures.0 in
    let breathed = breathed3 ready air c.product3-3.ensures.0 in
    let reference = three_below ready Q Days HoursPerDay c.opposite-back.ensures c.product3-reference.ensures.0 in
    record {
      risk = term_stands ready (inhaled_risk Concentration (air_place c.args.medium)) (lit≤ tt) (stands_div dir inhaled lifetime (lit≤ tt) c.div.ensures.0);
      hazard = term_stands ready (inhaled_hazard Concentration (air_place c.args.medium)) (lit≤ tt) (stands_div dir breathed reference (lit≤ tt) c.div-2.ensures.0);
    }
