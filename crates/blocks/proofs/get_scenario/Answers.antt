-- `blocks::get_scenario`: each group is the one of its place.
use Rattle.std.proofs.Common.{ap, ◌∙◌}
use native.Mathlib.Nat.{add_assoc}
use Rattle.inputs.specs.Inputs.{scenario_of, exposure_of, contact_of, targets_of, house_of, ages_of, age_of}
use Rattle.fields.specs.Fields.{decimals_at}
use Rattle.block_rules.specs.Pieces.{decimals_in}
use Rattle.block_rules.specs.Reading.{scenario_at}
use Rattle.blocks.proofs.get_scenario.Goals as goal

pub returns : goal.returns
unfolding scenario_at scenario_of exposure_of contact_of targets_of house_of ages_of age_of decimals_in decimals_at
returns c =
    let exposure = ap exposure_of (c.into.ensures ∙ c.read_all.ensures) in
    let contact = ap contact_of (c.into-2.ensures ∙ c.read_all-2.ensures) in
    let targets = ap targets_of (c.into-3.ensures ∙ c.read_all-3.ensures) in
    let house = ap house_of (c.into-4.ensures ∙ c.read_all-4.ensures) in
    let ages = ap ages_of (c.into-5.ensures ∙ c.read_all-5.ensures) in
    simp (add_assoc, exposure, contact, targets, house, c.read.ensures, ages)
