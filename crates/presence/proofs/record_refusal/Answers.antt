-- `presence::record_refusal`: the medium and the class passed, so each has its kind; 12, then 8.
use mathlib.Core.Bool.{◌||◌}
use Rattle.std.proofs.Common.{sym, ap₂, ◌∙◌}
use Rattle.guideline_rules.specs.Pathway.{record_refusal}
use Rattle.presence.proofs.KnownValues.{needed, checked_inputs, pathway_is}
use Rattle.presence.proofs.record_refusal.Goals as goal

pub of-medium-requires : goal.of-medium-requires
of-medium-requires c = (checked_inputs c.requires).media

pub of-class-requires : goal.of-class-requires
of-class-requires c = (checked_inputs c.requires).class

pub has_pathway-requires : goal.has_pathway-requires
has_pathway-requires c = needed _ c.requires.factors

pub returns-then-lacks_house-mixed : goal.returns-then-lacks_house-mixed
unfolding record_refusal
returns-then-lacks_house-mixed c = rw (sym (ap₂ ◌||◌ c.lacks_house.ensures c.mixed.ensures) ∙ c.if-lacks_house-mixed.true)

pub returns-then-not-has_pathway : goal.returns-then-not-has_pathway
unfolding record_refusal
returns-then-not-has_pathway c =
    let house = sym (ap₂ ◌||◌ c.lacks_house.ensures c.mixed.ensures) ∙ c.if-lacks_house-mixed.false in
    let pathway = pathway_is c.requires (sym c.of-medium.ensures) (sym c.of-class.ensures) c.has_pathway.ensures in
    rw (house, sym pathway ∙ c.if-not-has_pathway.true)

pub returns : goal.returns
unfolding record_refusal
returns c =
    let house = sym (ap₂ ◌||◌ c.lacks_house.ensures c.mixed.ensures) ∙ c.if-lacks_house-mixed.false in
    let pathway = pathway_is c.requires (sym c.of-medium.ensures) (sym c.of-class.ensures) c.has_pathway.ensures in
    rw (house, sym pathway ∙ c.if-not-has_pathway.false)
