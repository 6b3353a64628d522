-- `factors::prepared::hours`: what the code works out is H, and where it works out nothing H is ET.
use lib.Dec.{lit≤}
use Rattle.factors.proofs.StandsLaws.{stands_at, stands_div, stands_middle, stands_operand}
use Rattle.factors.proofs.Places.{ET, F, N, S, Vol, L, W}
use Rattle.factors.proofs.Hours.{three_stands, four_stands, air_stands, hours_stand, hours_alone}
use Rattle.factors.proofs.prepared.hours.Goals as goal

pub returns-then-x : goal.returns-then-x
returns-then-x c water = hours_alone c.args.dir c.requires c.if-x.true

pub product3-requires : goal.product3-requires
product3-requires c =
    let factor = stands_at c.requires in
    (stands_middle (lit≤ tt) (factor F), (stands_middle (lit≤ tt) (factor N), stands_middle (lit≤ tt) (factor S)))

pub mul-shower-requires : goal.mul-shower-requires
mul-shower-requires c =
    let three = three_stands c.args.dir c.requires c.product3.ensures.0 in
    ((stands_operand (lit≤ tt) three).range, (stands_operand (lit≤ tt) (stands_at c.requires Vol)).range)

pub mul-air-requires : goal.mul-air-requires
mul-air-requires c =
    let factor = stands_at c.requires in
    ((stands_operand (lit≤ tt) (factor L)).range, (stands_operand (lit≤ tt) (factor W)).range)

pub div-requires : goal.div-requires
div-requires c =
    let shower = four_stands c.args.dir c.requires c.product3.ensures.0 c.mul-shower.ensures.0 in
    let air = air_stands c.args.dir c.requires c.opposite.ensures c.mul-air.ensures.0 in
    ((stands_operand (lit≤ tt) shower).range, (stands_operand (lit≤ tt) air).range)

pub add-requires : goal.add-requires
add-requires c =
    let shower = four_stands c.args.dir c.requires c.product3.ensures.0 c.mul-shower.ensures.0 in
    let air = air_stands c.args.dir c.requires c.opposite.ensures c.mul-air.ensures.0 in
    let part = stands_div c.args.dir shower air (lit≤ tt) c.div.ensures.0 in
    ((stands_operand (lit≤ tt) (stands_at c.requires ET)).range, (stands_operand (lit≤ tt) part).range)

pub returns : goal.returns
returns c water =
    let dir = c.args.dir in
    let shower = four_stands dir c.requires c.product3.ensures.0 c.mul-shower.ensures.0 in
    let air = air_stands dir c.requires c.opposite.ensures c.mul-air.ensures.0 in
    hours_stand dir c.requires (stands_div dir shower air (lit≤ tt) c.div.ensures.0) c.add.ensures.0
