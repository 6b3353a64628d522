-- `terms::pathways::Given::water_chemical_hazard`: each term is that of its formula in the table.
use lib.Dec.{lit≤}
use Rattle.formulas.specs.Formula.{Thousandth, Days, EF, BW, ET, SA, RfDo, PC, table, pathways_of, derived}
use Rattle.terms.specs.Side.{number_values}
use Rattle.factors.proofs.StandsLaws.{stands_div}
use Rattle.terms.proofs.NumberValues.{term_stands}
use Rattle.terms.proofs.Products.{three_inputs, two_more, three_below, three_fit, two_more_fit, quotient_fits}
use Rattle.terms.proofs.pathways.Given.water_chemical_hazard.Goals as goal

-- ---- what it may multiply and divide
pub product3-oral-requires : goal.product3-oral-requires
product3-oral-requires c = three_fit c.args.self.ready RfDo BW Days

pub product3-requires : goal.product3-requires
product3-requires c = three_fit c.args.self.ready SA PC ET

pub product3-absorbed-requires : goal.product3-absorbed-requires
product3-absorbed-requires c =
    let ready = c.args.self.ready in
    two_more_fit ready Thousandth EF (three_inputs ready SA PC ET c.product3.ensures.0) (lit≤ tt)

pub div-requires : goal.div-requires
div-requires c =
    let ready = c.args.self.ready in
    let divisor = three_below ready RfDo BW Days c.opposite.ensures c.product3-oral.ensures.0 in
    quotient_fits ready.prepared.water_intake (lit≤ tt) divisor (lit≤ tt)

pub div-requires-2 : goal.div-requires-2
div-requires-2 c =
    let ready = c.args.self.ready in
    let dividend = two_more ready Thousandth EF (three_inputs ready SA PC ET c.product3.ensures.0) (lit≤ tt) c.product3-absorbed.ensures.0 in
    let divisor = three_below ready RfDo BW Days c.opposite.ensures c.product3-oral.ensures.0 in
    quotient_fits dividend (lit≤ tt) divisor (lit≤ tt)

pub returns : goal.returns
unfolding number_values derived pathways_of table
returns c =
    let ready = c.args.self.ready in
    let dir = c.args.self.dir in
    let swallowed = three_below ready RfDo BW Days c.opposite.ensures c.product3-oral.ensures.0 in
    let absorbed = two_more ready Thousandth EF (three_inputs ready SA PC ET c.product3.ensures.0) (lit≤ tt) c.product3-absorbed.ensures.0 in
    record {
      first = term_stands ready _ (lit≤ tt) (stands_div dir ready.prepared.water_intake swallowed (lit≤ tt) c.div.ensures.0);
      second = c.requires;
      third = term_stands ready _ (lit≤ tt) (stands_div dir absorbed swallowed (lit≤ tt) c.div-2.ensures.0);
    }
