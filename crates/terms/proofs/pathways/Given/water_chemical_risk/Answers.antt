-- `terms::pathways::Given::water_chemical_risk`: each term is that of its formula in the table.
use lib.Dec.{lit≤}
use Rattle.formulas.specs.Formula.{Thousandth, EF, ED, IR, ET, SA, SFo, PC, table, pathways_of, derived}
use Rattle.terms.specs.Side.{number_values}
use Rattle.factors.proofs.StandsLaws.{stands_div}
use Rattle.terms.proofs.NumberValues.{range, term_stands}
use Rattle.terms.proofs.Products.{two_inputs, three_inputs, two_more, three_fit, two_more_fit, quotient_fits}
use Rattle.terms.proofs.pathways.Given.water_chemical_risk.Goals as goal

-- ---- what it may multiply and divide
pub mul-requires : goal.mul-requires
mul-requires c = let r = range c.args.self.ready in (r SFo, r IR)

pub product3-swallowed-requires : goal.product3-swallowed-requires
product3-swallowed-requires c =
    let ready = c.args.self.ready in
    two_more_fit ready EF ED (two_inputs ready SFo IR c.mul.ensures.0) (lit≤ tt)

pub product3-requires : goal.product3-requires
product3-requires c = three_fit c.args.self.ready SFo SA PC

pub product3-wet-requires : goal.product3-wet-requires
product3-wet-requires c =
    let ready = c.args.self.ready in
    two_more_fit ready ET Thousandth (three_inputs ready SFo SA PC c.product3.ensures.0) (lit≤ tt)

pub product3-absorbed-requires : goal.product3-absorbed-requires
product3-absorbed-requires c =
    let ready = c.args.self.ready in
    two_more_fit ready EF ED (two_more ready ET Thousandth (three_inputs ready SFo SA PC c.product3.ensures.0) (lit≤ tt) c.product3-wet.ensures.0) (lit≤ tt)

pub div-requires : goal.div-requires
div-requires c =
    let ready = c.args.self.ready in
    let dividend = two_more ready EF ED (two_inputs ready SFo IR c.mul.ensures.0) (lit≤ tt) c.product3-swallowed.ensures.0 in
    quotient_fits dividend (lit≤ tt) ready.prepared.lifetime (lit≤ tt)

pub div-requires-2 : goal.div-requires-2
div-requires-2 c =
    let ready = c.args.self.ready in
    let wet = two_more ready ET Thousandth (three_inputs ready SFo SA PC c.product3.ensures.0) (lit≤ tt) c.product3-wet.ensures.0 in
    let dividend = two_more ready EF ED wet (lit≤ tt) c.product3-absorbed.ensures.0 in
    quotient_fits dividend (lit≤ tt) ready.prepared.lifetime (lit≤ tt)

pub returns : goal.returns
unfolding number_values derived pathways_of table
returns c =
    let ready = c.args.self.ready in
    let dir = c.args.self.dir in
    let swallowed = two_more ready EF ED (two_inputs ready SFo IR c.mul.ensures.0) (lit≤ tt) c.product3-swallowed.ensures.0 in
    let wet = two_more ready ET Thousandth (three_inputs ready SFo SA PC c.product3.ensures.0) (lit≤ tt) c.product3-wet.ensures.0 in
    let absorbed = two_more ready EF ED wet (lit≤ tt) c.product3-absorbed.ensures.0 in
    record {
      first = term_stands ready _ (lit≤ tt) (stands_div dir swallowed ready.prepared.lifetime (lit≤ tt) c.div.ensures.0);
      second = c.requires;
      third = term_stands ready _ (lit≤ tt) (stands_div dir absorbed ready.prepared.lifetime (lit≤ tt) c.div-2.ensures.0);
    }
