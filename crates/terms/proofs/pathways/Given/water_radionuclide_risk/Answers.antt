-- `terms::pathways::Given::water_radionuclide_risk`: each term is that of its formula in the table.
use lib.Dec.{lit≤}
use Rattle.formulas.specs.Formula.{EF, ED, IR, SFo, table, pathways_of, derived}
use Rattle.terms.specs.Side.{number_values}
use Rattle.factors.proofs.StandsLaws.{zero_stands}
use Rattle.terms.proofs.NumberValues.{range, term_stands}
use Rattle.terms.proofs.Products.{two_inputs, two_more, two_more_fit}
use Rattle.terms.proofs.pathways.Given.water_radionuclide_risk.Goals as goal

-- ---- what it may multiply and divide
pub mul-requires : goal.mul-requires
mul-requires c = let r = range c.args.self.ready in (r SFo, r IR)

pub product3-requires : goal.product3-requires
product3-requires c =
    let ready = c.args.self.ready in
    two_more_fit ready EF ED (two_inputs ready SFo IR c.mul.ensures.0) (lit≤ tt)

pub returns : goal.returns
unfolding number_values derived pathways_of table
returns c =
    let ready = c.args.self.ready in
    record {
      first = term_stands ready _ (lit≤ tt) (two_more ready EF ED (two_inputs ready SFo IR c.mul.ensures.0) (lit≤ tt) c.product3.ensures.0);
      second = term_stands ready _ (lit≤ tt) zero_stands;
      third = term_stands ready _ (lit≤ tt) zero_stands;
    }
