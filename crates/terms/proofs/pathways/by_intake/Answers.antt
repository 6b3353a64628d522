-- `terms::pathways::by_intake`: each term is that of its formula, whatever leads to the air.
use Rattle.std.proofs.Common.{ℕ, ◌≡◌, [], ◌∷◌}
use lib.Dec.{lit≤}
use Rattle.rounding.specs.declared.Direction.{Direction}
use Rattle.rounding.specs.declared.Number.{Number}
use Rattle.rounding.specs.Operations.{product_of}
use Rattle.inputs.specs.declared.kind.Medium.{Medium}
use Rattle.inputs.specs.declared.kind.Inhalation.TheVariants.{Intake}
use Rattle.formulas.specs.Formula.{BW, Days, ED, EF, IRA, RfDi, SFi, derived, inhaled_risk, inhaled_hazard}
use Rattle.factors.specs.declared.numbers.Factors.{Factors}
use Rattle.factors.specs.declared.numbers.ContaminantNumbers.{ContaminantNumbers}
use Rattle.factors.specs.declared.prepared.Prepared.{Prepared}
use Rattle.factors.specs.Stands.{Stands}
use Rattle.factors.specs.Widths.{intake_width}
use Rattle.terms.specs.Side.{number_values, Ready, air_place, AirFor}
use Rattle.factors.proofs.StandsLaws.{stands_mul3, stands_div, stands_middle}
use Rattle.terms.proofs.NumberValues.{named, input, middle, term_stands}
use Rattle.terms.proofs.Products.{three_below, three_fit, two_more, two_more_fit, quotient_fits}
use Rattle.terms.proofs.pathways.by_intake.Goals as goal

-- ---- what the code multiplies by the factor to the air
module _ {dir : Direction} {medium : ℕ} {f : Factors} {p : Prepared} {t : ContaminantNumbers} (ready : Ready dir medium f p t) {m : Medium} {air : Number}
    (stands : AirFor dir f t m air) where
  inhaled3 : {a : Number} → a ≡ product_of dir (product_of dir t.toxicity.sfi f.contact.ira) air → Stands intake_width a (named dir f t (SFi ∷ IRA ∷ air_place m ∷ []))
  unfolding number_values derived
  inhaled3 e = stands_mul3 dir (input ready SFi) (input ready IRA) stands.stands (lit≤ tt) e

-- ---- what it may multiply and divide
pub product3-requires : goal.product3-requires
product3-requires c = let r = middle c.requires.0 in (r SFi, (r IRA, stands_middle (lit≤ tt) c.requires.1.stands))

pub product3-inhaled-requires : goal.product3-inhaled-requires
product3-inhaled-requires c = two_more_fit c.requires.0 EF ED (inhaled3 c.requires.0 c.requires.1 c.product3.ensures.0) (lit≤ tt)

pub product3-dose-requires : goal.product3-dose-requires
product3-dose-requires c = three_fit c.requires.0 RfDi BW Days

pub div-requires : goal.div-requires
div-requires c =
    let ready = c.requires.0 in
    let dividend = two_more ready EF ED (inhaled3 ready c.requires.1 c.product3.ensures.0) (lit≤ tt) c.product3-inhaled.ensures.0 in
    quotient_fits dividend (lit≤ tt) ready.prepared.lifetime (lit≤ tt)

pub div-requires-2 : goal.div-requires-2
div-requires-2 c = quotient_fits c.intake-intake.ensures (lit≤ tt) (three_below c.requires.0 RfDi BW Days c.opposite.ensures c.product3-dose.ensures.0) (lit≤ tt)

pub returns : goal.returns
unfolding number_values derived
returns c =
    let ready = c.requires.0 in
    let dir = c.args.dir in
    let inhaled = two_more ready EF ED (inhaled3 ready c.requires.1 c.product3.ensures.0) (lit≤ tt) c.product3-inhaled.ensures.0 in
    let dose = three_below ready RfDi BW Days c.opposite.ensures c.product3-dose.ensures.0 in
    record {
      risk = term_stands ready (inhaled_risk Intake (air_place c.args.medium)) (lit≤ tt) (stands_div dir inhaled ready.prepared.lifetime (lit≤ tt) c.div.ensures.0);
      hazard = term_stands ready (inhaled_hazard Intake (air_place c.args.medium)) (lit≤ tt) (stands_div dir c.intake-intake.ensures dose (lit≤ tt) c.div-2.ensures.0);
    }
