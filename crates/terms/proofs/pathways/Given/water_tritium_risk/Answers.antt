-- `terms::pathways::Given::water_tritium_risk`: each term is that of its formula in the table.
use Rattle.std.proofs.Common.{ℕ, ap, ◌≡◌, ◌+◌, [], ◌∷◌}
use lib.Dec.{lit≤}
use Rattle.rounding.specs.declared.Direction.{Direction}
use Rattle.rounding.specs.declared.Number.{Number}
use Rattle.rounding.specs.Operations.{product_of}
use Rattle.inputs.specs.declared.kind.Medium.TheVariants.{Water}
use Rattle.inputs.specs.Kinds.{medium_number}
use Rattle.formulas.specs.Formula.{H, Thousandth, Thousand, EF, ED, IRA, ET, SA, M, K, SFo, SFi, table, pathways_of, derived}
use Rattle.factors.specs.declared.numbers.Factors.{Factors}
use Rattle.factors.specs.declared.numbers.ContaminantNumbers.{ContaminantNumbers}
use Rattle.factors.specs.declared.prepared.Prepared.{Prepared}
use Rattle.factors.specs.Stands.{Stands}
use Rattle.factors.specs.Widths.{input_width, three_width, hours_width}
use Rattle.terms.specs.Side.{number_values, Ready}
use Rattle.factors.proofs.StandsLaws.{stands_middle, stands_mul3}
use Rattle.terms.proofs.NumberValues.{named, input, middle, term_stands, hours_stands}
use Rattle.terms.proofs.Products.{number, three_inputs, two_more, three_fit, two_more_fit}
use Rattle.terms.proofs.pathways.Given.water_tritium_risk.Goals as goal

-- ---- what the code multiplies by H
module _ {dir : Direction} {medium : ℕ} {f : Factors} {p : Prepared} {t : ContaminantNumbers} (ready : Ready dir medium f p t) where
  breathed5 : {a b : Number} → medium ≡ medium_number Water → a ≡ product_of dir (product_of dir (number ready SFi) (number ready IRA)) (number ready M) →
      b ≡ product_of dir (product_of dir a (number ready Thousandth)) p.hours →
      Stands (three_width + input_width + hours_width + 2) b (named dir f t (SFi ∷ IRA ∷ M ∷ Thousandth ∷ H ∷ []))
  breathed5 water e g = stands_mul3 dir (three_inputs ready SFi IRA M e) (input ready Thousandth) (hours_stands ready water) (lit≤ tt) g

-- ---- what it may multiply
pub product3-requires : goal.product3-requires
product3-requires c = three_fit c.args.self.ready SFi IRA M

pub product3-breathed-requires : goal.product3-breathed-requires
product3-breathed-requires c =
    let ready = c.args.self.ready in
    let three = three_inputs ready SFi IRA M c.product3.ensures.0 in
    (stands_middle (lit≤ tt) three, (middle ready Thousandth, stands_middle (lit≤ tt) (hours_stands ready (ap medium_number c.requires))))

pub product3-requires-2 : goal.product3-requires-2
product3-requires-2 c = three_fit c.args.self.ready SFo SA K

pub product3-wet-requires : goal.product3-wet-requires
product3-wet-requires c =
    let ready = c.args.self.ready in
    two_more_fit ready ET Thousand (three_inputs ready SFo SA K c.product3-2.ensures.0) (lit≤ tt)

pub product3-requires-3 : goal.product3-requires-3
product3-requires-3 c =
    let ready = c.args.self.ready in
    two_more_fit ready EF ED (breathed5 ready (ap medium_number c.requires) c.product3.ensures.0 c.product3-breathed.ensures.0) (lit≤ tt)

pub product3-requires-4 : goal.product3-requires-4
product3-requires-4 c =
    let ready = c.args.self.ready in
    two_more_fit ready EF ED (two_more ready ET Thousand (three_inputs ready SFo SA K c.product3-2.ensures.0) (lit≤ tt) c.product3-wet.ensures.0) (lit≤ tt)

pub returns : goal.returns
unfolding number_values derived pathways_of table
returns c =
    let ready = c.args.self.ready in
    let breathed = breathed5 ready (ap medium_number c.requires) c.product3.ensures.0 c.product3-breathed.ensures.0 in
    let wet = two_more ready ET Thousand (three_inputs ready SFo SA K c.product3-2.ensures.0) (lit≤ tt) c.product3-wet.ensures.0 in
    record {
      first = c.water_radionuclide_risk.ensures.first;
      second = term_stands ready _ (lit≤ tt) (two_more ready EF ED breathed (lit≤ tt) c.product3-3.ensures.0);
      third = term_stands ready _ (lit≤ tt) (two_more ready EF ED wet (lit≤ tt) c.product3-4.ensures.0);
    }
