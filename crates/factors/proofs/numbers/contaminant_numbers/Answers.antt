-- `factors::numbers::contaminant_numbers`: the numbers of its groups, one after the other, and that of ABS.
use Rattle.factors.specs.Stands.StandAll.{end, next}
use Rattle.factors.proofs.StandsLaws.{stands_join, stands_same}
use Rattle.factors.proofs.numbers.contaminant_numbers.Goals as goal

pub returns : goal.returns
returns c =
    let toxicity = stands_same c.into.ensures c.numbers_of.ensures c.into-2.ensures in
    let transfer = stands_same c.into-3.ensures c.numbers_of-2.ensures c.into-4.ensures in
    stands_join toxicity (stands_join transfer (stands_join c.air_numbers.ensures (next c.number_of.ensures end)))
