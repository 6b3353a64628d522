-- `factors::prepared::prepare`: each product stands for the product of the decimals that its factors stand for.
use lib.Dec.{lit≤}
use Rattle.factors.proofs.Places.{EF, BW, AT, IR, IRA, PEF}
use Rattle.factors.proofs.StandsLaws.{stands_at, stands_mul, stands_mul3, stands_div, stands_middle, stands_operand}
use Rattle.factors.proofs.Constants.{unit_stands, millionth_stands, half_stands, days_stands}
use Rattle.factors.proofs.prepared.prepare.Goals as goal

pub product3-lifetime-requires : goal.product3-lifetime-requires
product3-lifetime-requires c =
    let factor = stands_at c.requires in
    (stands_middle (lit≤ tt) (factor BW), (stands_middle (lit≤ tt) (factor AT), stands_middle (lit≤ tt) days_stands))

pub product3-soil_intake-requires : goal.product3-soil_intake-requires
product3-soil_intake-requires c =
    let factor = stands_at c.requires in
    (stands_middle (lit≤ tt) (factor IR), (stands_middle (lit≤ tt) millionth_stands, stands_middle (lit≤ tt) (factor EF)))

pub mul-water_intake-requires : goal.mul-water_intake-requires
mul-water_intake-requires c =
    let factor = stands_at c.requires in
    ((stands_operand (lit≤ tt) (factor IR)).range, (stands_operand (lit≤ tt) (factor EF)).range)

pub product3-vapour_intake-requires : goal.product3-vapour_intake-requires
product3-vapour_intake-requires c =
    let factor = stands_at c.requires in
    (stands_middle (lit≤ tt) (factor IRA), (stands_middle (lit≤ tt) half_stands, stands_middle (lit≤ tt) (factor EF)))

pub div-inverse_pef-requires : goal.div-inverse_pef-requires
div-inverse_pef-requires c =
    let factor = stands_at c.requires in
    ((stands_operand (lit≤ tt) unit_stands).range, (stands_operand (lit≤ tt) (factor PEF)).range)

pub mul-averaging-requires : goal.mul-averaging-requires
mul-averaging-requires c =
    let factor = stands_at c.requires in
    ((stands_operand (lit≤ tt) (factor AT)).range, (stands_operand (lit≤ tt) days_stands).range)

pub returns : goal.returns
returns c =
    let dir = c.args.dir in
    let factor = stands_at c.requires in
    record {
      lifetime = rw (← c.opposite.ensures) (stands_mul3 c.opposite.result (factor BW) (factor AT) days_stands (lit≤ tt) c.product3-lifetime.ensures.0);
      soil_intake = stands_mul3 dir (factor IR) millionth_stands (factor EF) (lit≤ tt) c.product3-soil_intake.ensures.0;
      water_intake = stands_mul dir (factor IR) (factor EF) (lit≤ tt) c.mul-water_intake.ensures.0;
      vapour_intake = stands_mul3 dir (factor IRA) half_stands (factor EF) (lit≤ tt) c.product3-vapour_intake.ensures.0;
      inverse_pef = stands_div dir unit_stands (factor PEF) (lit≤ tt) c.div-inverse_pef.ensures.0;
      hours = c.hours-hours.ensures;
      both_ages = c.both_ages-both_ages.ensures;
      averaging = rw (← c.opposite-2.ensures) (stands_mul c.opposite-2.result (factor AT) days_stands (lit≤ tt) c.mul-averaging.ensures.0);
    }
