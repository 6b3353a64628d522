-- `terms::pathways::intake`: in soil the product, in water the one that was prepared.
use Rattle.std.proofs.Common.{subst, sym}
use lib.Dec.{lit≤}
use Rattle.inputs.specs.declared.kind.Medium.{Medium}
use Rattle.formulas.specs.Formula.{EF, IRA, derived}
use Rattle.terms.specs.Side.{number_values, IntakeFor}
use Rattle.factors.proofs.StandsLaws.{stands_mul3, stands_middle, stands_most}
use Rattle.terms.proofs.NumberValues.{input, middle}
use Rattle.terms.proofs.pathways.intake.Goals as goal

pub product3-requires : goal.product3-requires
product3-requires c = let r = middle c.requires.0 in (r IRA, (stands_middle (lit≤ tt) c.requires.1.stands, r EF))

pub returns-in-Soil : goal.returns-in-Soil
unfolding number_values derived
returns-in-Soil c = stands_mul3 c.args.dir (input c.requires.0 IRA) c.requires.1.stands (input c.requires.0 EF) (lit≤ tt) c.product3.ensures.0

pub returns-in-Water : goal.returns-in-Water
unfolding number_values derived
returns-in-Water c =
    subst (λ (m : Medium). IntakeFor c.args.dir c.args.f.now c.args.t.now m c.args.p.now.vapour_intake) (sym c.in-Water.is)
    (stands_most (lit≤ tt) c.requires.0.prepared.vapour_intake)
