-- `terms::pathways::Given::soil_chemical_risk`: each term is that of its formula in the table.
use Rattle.std.proofs.Common.{refl}
use lib.Dec.{lit≤}
use Rattle.formulas.specs.Formula.{Millionth, EF, ED, IR, SFo, table, pathways_of, derived}
use Rattle.terms.specs.Side.{number_values}
use Rattle.factors.proofs.StandsLaws.{stands_div}
use Rattle.terms.proofs.NumberValues.{range, term_stands}
use Rattle.terms.proofs.Products.{two_inputs, two_powered, two_more, power_fits, two_more_fit, quotient_fits}
use Rattle.terms.proofs.pathways.Given.soil_chemical_risk.Goals as goal

-- ---- what it may multiply and divide
pub mul-requires : goal.mul-requires
mul-requires c = let r = range c.args.self.ready in (r SFo, r IR)

pub times_power-swallowed-requires : goal.times_power-swallowed-requires
times_power-swallowed-requires c = power_fits c.args.self.ready Millionth (two_inputs c.args.self.ready SFo IR c.mul.ensures.0) (lit≤ tt) refl

pub product3-requires : goal.product3-requires
product3-requires c =
    let ready = c.args.self.ready in
    two_more_fit ready EF ED (two_powered ready SFo IR Millionth c.mul.ensures.0 c.times_power-swallowed.ensures.0) (lit≤ tt)

pub div-requires : goal.div-requires
div-requires c =
    let ready = c.args.self.ready in
    let dividend = two_more ready EF ED (two_powered ready SFo IR Millionth c.mul.ensures.0 c.times_power-swallowed.ensures.0) (lit≤ tt) c.product3.ensures.0 in
    quotient_fits dividend (lit≤ tt) ready.prepared.lifetime (lit≤ tt)

pub returns : goal.returns
unfolding number_values derived pathways_of table
returns c =
    let ready = c.args.self.ready in
    let dir = c.args.self.dir in
    let swallowed = two_more ready EF ED (two_powered ready SFo IR Millionth c.mul.ensures.0 c.times_power-swallowed.ensures.0) (lit≤ tt) c.product3.ensures.0 in
    record {
      first = term_stands ready _ (lit≤ tt) (stands_div dir swallowed ready.prepared.lifetime (lit≤ tt) c.div.ensures.0);
      second = c.requires.0;
      third = c.requires.1;
    }
