-- `terms::pathways::skin_terms`: each term is that of its formula in the table.
use Rattle.std.proofs.Common.{ℕ, ◌≡◌, ◌+◌, [], ◌∷◌, refl}
use lib.Dec.{lit≤}
use Rattle.rounding.specs.declared.Direction.{Direction}
use Rattle.rounding.specs.declared.Number.{Number}
use Rattle.rounding.specs.Operations.{product_of}
use Rattle.inputs.specs.declared.kind.Medium.TheVariants.{Soil}
use Rattle.inputs.specs.Kinds.{medium_number}
use Rattle.formulas.specs.Formula.{G, Millionth, Days, ED, AF, ABS, SFo, RfDo, table, pathways_of, derived}
use Rattle.factors.specs.declared.numbers.Factors.{Factors}
use Rattle.factors.specs.declared.numbers.ContaminantNumbers.{ContaminantNumbers}
use Rattle.factors.specs.declared.prepared.Prepared.{Prepared}
use Rattle.factors.specs.Stands.{Stands}
use Rattle.factors.specs.Widths.{input_width, three_width, ages_width}
use Rattle.terms.specs.Side.{number_values, Ready}
use Rattle.factors.proofs.StandsLaws.{stands_mul, stands_mul3, stands_div, stands_middle}
use Rattle.terms.proofs.NumberValues.{named, input, middle, term_stands, ages_stand}
use Rattle.terms.proofs.Products.{number, three_inputs, three_below, three_fit, quotient_fits}
use Rattle.terms.proofs.pathways.skin_terms.Goals as goal

-- ---- what the code multiplies by G
module _ {dir : Direction} {medium : ℕ} {f : Factors} {p : Prepared} {t : ContaminantNumbers} (ready : Ready dir medium f p t) (soil : medium ≡ medium_number Soil) where
  absorbed : {a b : Number} → a ≡ product_of dir (product_of dir (number ready SFo) (number ready ABS)) (number ready AF) →
      b ≡ product_of dir (product_of dir a (number ready Millionth)) p.both_ages →
      Stands (three_width + input_width + ages_width + 2) b (named dir f t (SFo ∷ ABS ∷ AF ∷ Millionth ∷ G ∷ []))
  absorbed e g = stands_mul3 dir (three_inputs ready SFo ABS AF e) (input ready Millionth) (ages_stand ready soil) (lit≤ tt) g

  dosed : {a b : Number} → a ≡ product_of dir (product_of dir (number ready ABS) (number ready AF)) (number ready Millionth) → b ≡ product_of dir a p.both_ages →
      Stands (three_width + ages_width + 1) b (named dir f t (ABS ∷ AF ∷ Millionth ∷ G ∷ []))
  dosed e g = stands_mul dir (three_inputs ready ABS AF Millionth e) (ages_stand ready soil) (lit≤ tt) g

-- ---- what it may multiply and divide
pub product3-requires : goal.product3-requires
product3-requires c = three_fit c.requires SFo ABS AF

pub product3-risk-requires : goal.product3-risk-requires
product3-risk-requires c =
    let ready = c.requires in
    let three = three_inputs ready SFo ABS AF c.product3.ensures.0 in
    (stands_middle (lit≤ tt) three, (middle ready Millionth, stands_middle (lit≤ tt) (ages_stand ready refl)))

pub product3-requires-2 : goal.product3-requires-2
product3-requires-2 c = three_fit c.requires ABS AF Millionth

pub mul-hazard-requires : goal.mul-hazard-requires
mul-hazard-requires c =
    let ready = c.requires in
    quotient_fits (three_inputs ready ABS AF Millionth c.product3-2.ensures.0) (lit≤ tt) (ages_stand ready refl) (lit≤ tt)

pub product3-dose-requires : goal.product3-dose-requires
product3-dose-requires c = three_fit c.requires RfDo ED Days

pub div-requires : goal.div-requires
div-requires c =
    let ready = c.requires in
    let dividend = absorbed ready refl c.product3.ensures.0 c.product3-risk.ensures.0 in
    quotient_fits dividend (lit≤ tt) ready.prepared.averaging (lit≤ tt)

pub div-requires-2 : goal.div-requires-2
div-requires-2 c =
    let ready = c.requires in
    let dividend = dosed ready refl c.product3-2.ensures.0 c.mul-hazard.ensures.0 in
    quotient_fits dividend (lit≤ tt) (three_below ready RfDo ED Days c.opposite.ensures c.product3-dose.ensures.0) (lit≤ tt)

pub returns : goal.returns
unfolding number_values derived pathways_of table
returns c =
    let ready = c.requires in
    let dir = c.args.dir in
    let soil = refl in
    let risk = absorbed ready soil c.product3.ensures.0 c.product3-risk.ensures.0 in
    let hazard = dosed ready soil c.product3-2.ensures.0 c.mul-hazard.ensures.0 in
    let dose = three_below ready RfDo ED Days c.opposite.ensures c.product3-dose.ensures.0 in
    record {
      risk = λ i. term_stands ready _ (lit≤ tt) (stands_div dir risk ready.prepared.averaging (lit≤ tt) c.div.ensures.0);
      hazard = λ i. term_stands ready _ (lit≤ tt) (stands_div dir hazard dose (lit≤ tt) c.div-2.ensures.0);
    }
