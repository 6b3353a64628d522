-- `blocks::get_contaminant`: each word and each decimal is the one of its place.
use Rattle.std.proofs.Common.{ap, ◌∙◌}
use native.Mathlib.Nat.{add_assoc}
use Rattle.inputs.specs.Inputs.{contaminant_of, toxicity_of, transfer_of, air_of}
use Rattle.fields.specs.Fields.{decimals_at}
use Rattle.block_rules.specs.Pieces.{decimals_in}
use Rattle.block_rules.specs.Reading.{contaminant_at}
use Rattle.blocks.proofs.get_contaminant.Goals as goal

pub returns : goal.returns
unfolding contaminant_at contaminant_of toxicity_of transfer_of air_of decimals_in decimals_at
returns c =
    let toxicity = ap toxicity_of (c.into.ensures ∙ c.read_all.ensures) in
    let transfer = ap transfer_of (c.into-2.ensures ∙ c.read_all-2.ensures) in
    let in_air = ap air_of (c.into-3.ensures ∙ c.read_all-3.ensures) in
    simp (add_assoc, c.word.ensures, c.word-2.ensures, toxicity, transfer, c.read.ensures, c.read-2.ensures, in_air, c.read-3.ensures)
