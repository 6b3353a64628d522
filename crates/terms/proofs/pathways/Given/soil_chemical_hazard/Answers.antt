-- `terms::pathways::Given::soil_chemical_hazard`: each term is that of its formula in the table.
use lib.Dec.{lit≤}
use Rattle.formulas.specs.Formula.{Days, BW, RfDo, table, pathways_of, derived}
use Rattle.terms.specs.Side.{number_values}
use Rattle.factors.proofs.StandsLaws.{stands_div}
use Rattle.terms.proofs.NumberValues.{term_stands}
use Rattle.terms.proofs.Products.{three_below, three_fit, quotient_fits}
use Rattle.terms.proofs.pathways.Given.soil_chemical_hazard.Goals as goal

-- ---- what it may multiply and divide
pub product3-oral-requires : goal.product3-oral-requires
product3-oral-requires c = three_fit c.args.self.ready RfDo BW Days

pub div-requires : goal.div-requires
div-requires c =
    let ready = c.args.self.ready in
    let divisor = three_below ready RfDo BW Days c.opposite.ensures c.product3-oral.ensures.0 in
    quotient_fits ready.prepared.soil_intake (lit≤ tt) divisor (lit≤ tt)

pub returns : goal.returns
unfolding number_values derived pathways_of table
returns c =
    let ready = c.args.self.ready in
    let dir = c.args.self.dir in
    let swallowed = three_below ready RfDo BW Days c.opposite.ensures c.product3-oral.ensures.0 in
    record {
      first = term_stands ready _ (lit≤ tt) (stands_div dir ready.prepared.soil_intake swallowed (lit≤ tt) c.div.ensures.0);
      second = c.requires.0;
      third = c.requires.1;
    }
