-- `shares::planned`: the numbers of the scenario, and what is prepared from them in both directions.
use Rattle.factors.proofs.StandsLaws.{all_own}
use Rattle.shares.proofs.Plans.{fits_parts}
use Rattle.shares.proofs.planned.Goals as goal

pub prepare-requires : goal.prepare-requires
prepare-requires c = all_own c.scenario_numbers-f.ensures

pub prepare-requires-2 : goal.prepare-requires-2
prepare-requires-2 c = all_own c.scenario_numbers-f.ensures

pub scenario_numbers-f-requires : goal.scenario_numbers-f-requires
scenario_numbers-f-requires c = (fits_parts c.args.s c.args.medium c.requires).0

pub of-soil_or_water-requires : goal.of-soil_or_water-requires
of-soil_or_water-requires c = (fits_parts c.args.s c.args.medium c.requires).1

pub invariant_of-result : goal.invariant_of-result
invariant_of-result c =
    record {
      ready = record {
        fits = c.requires;
        factors = c.scenario_numbers-f.ensures;
        up = rw (← c.of-soil_or_water.ensures) c.prepare.ensures;
        down = rw (← c.of-soil_or_water.ensures) c.prepare-2.ensures;
      };
    }
