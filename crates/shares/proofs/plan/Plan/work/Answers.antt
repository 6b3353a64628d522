-- `shares::Plan::work`: the numbers of the record, and the terms that they give in both directions.
use Rattle.inputs.proofs.Tests.{contaminant_parts}
use Rattle.sum_rules.specs.Share.{used_of}
use Rattle.terms.proofs.SameValues.{ready, terms_at}
use Rattle.shares.proofs.Plans.{inputs_of_lem}
use Rattle.shares.proofs.plan.Plan.work.Goals as goal

pub of-medium-requires : goal.of-medium-requires
of-medium-requires c = (inputs_of_lem c.requires).media

pub of-class-requires : goal.of-class-requires
of-class-requires c = (inputs_of_lem c.requires).class

pub contaminant_numbers-x-requires : goal.contaminant_numbers-x-requires
contaminant_numbers-x-requires c = (contaminant_parts c.args.r (inputs_of_lem c.requires).contaminant).formulas _

pub terms_of-above-requires : goal.terms_of-above-requires
terms_of-above-requires c = ready c.of-medium.ensures c.args.self.now.ready.up c.args.self.now.ready.factors c.contaminant_numbers-x.ensures

pub terms_of-below-requires : goal.terms_of-below-requires
terms_of-below-requires c = ready c.of-medium.ensures c.args.self.now.ready.down c.args.self.now.ready.factors c.contaminant_numbers-x.ensures

pub number_of-c-requires : goal.number_of-c-requires
number_of-c-requires c = (contaminant_parts c.args.r (inputs_of_lem c.requires).contaminant).c

pub returns : goal.returns
unfolding used_of
returns c =
    let medium = c.of-medium.ensures in
    let class = c.of-class.ensures in
    record {
      numbers = c.contaminant_numbers-x.result;
      stands = c.contaminant_numbers-x.ensures;
      below = c.terms_of-below.result;
      upper_terms = terms_at medium class c.terms_of-above.ensures;
      lower_terms = terms_at medium class c.terms_of-below.ensures;
      risk = c.total.ensures.0;
      hazard = c.total-2.ensures.0;
      risk_size = c.total.ensures.1;
      hazard_size = c.total-2.ensures.1;
      c = λ dir. c.number_of-c.ensures;
    }
