-- `factors::prepared::both_ages`: both parts added up; in water nothing is asked.
use lib.Dec.{lit≤}
use Rattle.factors.proofs.StandsLaws.{stands_operand}
use Rattle.factors.proofs.Ages.{child_inputs, adult_inputs, ages_stand}
use Rattle.factors.proofs.prepared.both_ages.Goals as goal

pub one_age-child-requires : goal.one_age-child-requires
one_age-child-requires c = child_inputs c.args.dir c.requires

pub one_age-adult-requires : goal.one_age-adult-requires
one_age-adult-requires c = adult_inputs c.args.dir c.requires

pub add-requires : goal.add-requires
add-requires c = ((stands_operand (lit≤ tt) c.one_age-child.ensures).range, (stands_operand (lit≤ tt) c.one_age-adult.ensures).range)

pub returns : goal.returns
returns c soil = ages_stand c.args.dir c.requires c.one_age-child.ensures c.one_age-adult.ensures c.add.ensures.0
