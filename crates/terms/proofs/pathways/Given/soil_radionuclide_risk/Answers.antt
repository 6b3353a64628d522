-- `terms::pathways::Given::soil_radionuclide_risk`: each term is that of its formula in the table.
use Rattle.std.proofs.Common.{ℕ, ◌≡◌, [], ◌∷◌, refl}
use lib.Dec.{lit≤}
use Rattle.rounding.specs.declared.Direction.{Direction}
use Rattle.rounding.specs.declared.Number.{Number}
use Rattle.rounding.specs.Operations.{product_of}
use Rattle.formulas.specs.Formula.{Millionth, YearsPerHour, EF, ED, IR, IRA, PEF, ET, RF, SFo, SFi, SFx, table, pathways_of, derived}
use Rattle.factors.specs.declared.numbers.Factors.{Factors}
use Rattle.factors.specs.declared.numbers.ContaminantNumbers.{ContaminantNumbers}
use Rattle.factors.specs.declared.prepared.Prepared.{Prepared}
use Rattle.factors.specs.Stands.{Stands}
use Rattle.terms.specs.Side.{number_values, Ready}
use Rattle.factors.proofs.StandsLaws.{stands_div, stands_mul, stands_operand}
use Rattle.factors.proofs.Constants.{num}
use Rattle.terms.proofs.NumberValues.{named, input, range, term_stands}
use Rattle.terms.proofs.Products.{two_inputs, three_inputs, two_powered, two_more, three_fit, power_fits, two_more_fit}
use Rattle.terms.proofs.pathways.Given.soil_radionuclide_risk.Goals as goal

-- ---- what the code multiplies by 0.000114
module _ {dir : Direction} {medium : ℕ} {f : Factors} {p : Prepared} {t : ContaminantNumbers} (ready : Ready dir medium f p t) where
  outdoors4 : {a b : Number} → a ≡ product_of dir (product_of dir t.toxicity.sfx f.contact.et) f.contact.rf →
      b ≡ product_of dir a (num 114000000 2988) → Stands 115 b (named dir f t (SFx ∷ ET ∷ RF ∷ YearsPerHour ∷ []))
  outdoors4 e g = stands_mul dir (three_inputs ready SFx ET RF e) (input ready YearsPerHour) (lit≤ tt) g

-- ---- what it may multiply and divide
pub mul-requires : goal.mul-requires
mul-requires c = let r = range c.args.self.ready in (r SFo, r IR)

pub times_power-swallowed-requires : goal.times_power-swallowed-requires
times_power-swallowed-requires c = power_fits c.args.self.ready Millionth (two_inputs c.args.self.ready SFo IR c.mul.ensures.0) (lit≤ tt) refl

pub mul-requires-2 : goal.mul-requires-2
mul-requires-2 c = let r = range c.args.self.ready in (r SFi, r IRA)

pub product3-inhaled-requires : goal.product3-inhaled-requires
product3-inhaled-requires c =
    let ready = c.args.self.ready in
    two_more_fit ready EF ED (two_inputs ready SFi IRA c.mul-2.ensures.0) (lit≤ tt)

pub product3-requires : goal.product3-requires
product3-requires c = three_fit c.args.self.ready SFx ET RF

pub mul-outdoors-requires : goal.mul-outdoors-requires
mul-outdoors-requires c =
    let ready = c.args.self.ready in
    let r = range ready in
    ((stands_operand (lit≤ tt) (three_inputs ready SFx ET RF c.product3.ensures.0)).range, r YearsPerHour)

pub product3-requires-2 : goal.product3-requires-2
product3-requires-2 c =
    let ready = c.args.self.ready in
    two_more_fit ready EF ED (two_powered ready SFo IR Millionth c.mul.ensures.0 c.times_power-swallowed.ensures.0) (lit≤ tt)

pub div-requires : goal.div-requires
div-requires c =
    let ready = c.args.self.ready in
    let r = range ready in
    ((stands_operand (lit≤ tt) (two_more ready EF ED (two_inputs ready SFi IRA c.mul-2.ensures.0) (lit≤ tt) c.product3-inhaled.ensures.0)).range, r PEF)

pub product3-requires-3 : goal.product3-requires-3
product3-requires-3 c =
    let ready = c.args.self.ready in
    two_more_fit ready EF ED (outdoors4 ready c.product3.ensures.0 c.mul-outdoors.ensures.0) (lit≤ tt)

pub returns : goal.returns
unfolding number_values derived pathways_of table
returns c =
    let ready = c.args.self.ready in
    let breathed = two_more ready EF ED (two_inputs ready SFi IRA c.mul-2.ensures.0) (lit≤ tt) c.product3-inhaled.ensures.0 in
    record {
      first = term_stands ready _ (lit≤ tt) (two_more ready EF ED (two_powered ready SFo IR Millionth c.mul.ensures.0 c.times_power-swallowed.ensures.0) (lit≤ tt) c.product3-2.ensures.0);
      second = term_stands ready _ (lit≤ tt) (stands_div c.args.self.dir breathed (input ready PEF) (lit≤ tt) c.div.ensures.0);
      third = term_stands ready _ (lit≤ tt) (two_more ready EF ED (outdoors4 ready c.product3.ensures.0 c.mul-outdoors.ensures.0) (lit≤ tt) c.product3-3.ensures.0);
    }
