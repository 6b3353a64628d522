-- `factors::numbers::numbers_of`: each call is at a valid decimal, and gives a number that stands for it.
use Rattle.std.proofs.Common.{rules, arith}
use Rattle.decimal.specs.Decimal.{zero_of}
use Rattle.factors.proofs.StandsLaws.{no_number, stands_places, valid_turn}
use Rattle.factors.proofs.numbers.numbers_of.Goals as goal

pub map-requires : goal.map-requires
map-requires g c = (
  omega (arith, g.N.fits),
  (
    omega (arith, g.N.fits),
    (
      omega (arith, g.N.fits),
      record { at = λ xs t q d u y f e. let v = valid_turn c.args.ds xs t u d c.requires y e in search rules },
    ),
  ),
)

pub returns : goal.returns
returns g c =
    let items = c.map.ensures.items in
    stands_places c.map.result c.args.ds g.row.N items.long (omega arith) (λ i h. let k = items.at i zero_of no_number h in search rules)
