-- `factors::numbers::scenario_numbers`: the numbers of its groups, one after the other, and that of A.
use Rattle.factors.specs.Stands.StandAll.{next}
use Rattle.factors.proofs.StandsLaws.{stands_join, stands_same}
use Rattle.factors.proofs.numbers.scenario_numbers.Goals as goal

pub returns : goal.returns
returns c =
    let exposure = stands_same c.into.ensures c.numbers_of.ensures c.into-2.ensures in
    let contact = stands_same c.into-3.ensures c.numbers_of-2.ensures c.into-4.ensures in
    let targets = stands_same c.into-5.ensures c.numbers_of-3.ensures c.into-6.ensures in
    let house = stands_same c.into-7.ensures c.numbers_of-4.ensures c.into-8.ensures in
    let ages = stands_same c.into-9.ensures c.numbers_of-5.ensures c.into-10.ensures in
    stands_join exposure (stands_join contact (stands_join targets (stands_join house (next c.number_of.ensures ages))))
