-- `terms::pathways::Given::air`: what the code adds up is B.
use Rattle.std.proofs.Common.{sym, ap, subst, ◌∙◌}
use lib.Dec.{lit≤}
use Rattle.rounding.specs.declared.Number.{Number}
use Rattle.rounding.specs.Operations.{sum_of}
use Rattle.factors.specs.Widths.{air_width}
use Rattle.formulas.specs.Formula.{B, One, VF}
use Rattle.formulas.specs.Term.{look}
use Rattle.factors.specs.Stands.{Stands}
use Rattle.terms.specs.Side.{number_values}
use Rattle.factors.proofs.StandsLaws.{stands_div}
use Rattle.terms.proofs.NumberValues.{input, range, air_number, air_stands}
use Rattle.terms.proofs.Products.{quotient_fits}
use Rattle.terms.proofs.pathways.Given.air.Goals as goal

pub div-requires : goal.div-requires
div-requires c = let r = range c.args.self.ready in (r One, r VF)

pub add-requires : goal.add-requires
add-requires c =
    let ready = c.args.self.ready in
    let r = input ready in
    let quotient = stands_div c.args.self.dir (r One) (r VF) (lit≤ tt) c.div.ensures.0 in
    quotient_fits quotient (lit≤ tt) ready.prepared.inverse_pef (lit≤ tt)

pub returns : goal.returns
unfolding air_number
returns c =
    let a = c.args.self in
    let e = c.add.ensures.0 ∙ ap (λ (q : Number). sum_of a.dir q a.p.inverse_pef) c.div.ensures.0 in
    record { stands = subst (λ (b : Number). Stands air_width b (look (number_values a.dir a.f a.t) B)) (sym e) (air_stands c.args.self.ready) }
