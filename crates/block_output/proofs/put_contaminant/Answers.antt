-- `block_output::put_contaminant`: the steps one behind the other make the block.
use Rattle.std.proofs.Common.{[], ◌∷◌, ◌++◌, refl, append_assoc, append-nil}
use Rattle.words.proofs.Written.{wrote_next}
use Rattle.fields.specs.Fields.{field_bytes}
use Rattle.fields.proofs.ReadBack.{field_bytes_length}
use Rattle.inputs.specs.Inputs.{toxicity_decimals, transfer_decimals, contaminant_decimals}
use Rattle.block_rules.specs.Pieces.{contaminant_pieces, bytes_of}
use Rattle.block_rules.specs.Layouts.{body_of, contaminant_block}
use Rattle.block_output.proofs.Blocks.{first_words, wrote_first, wrote_group, wrote_fields, wrote_gap, wrote_block}
use Rattle.block_output.proofs.put_contaminant.Goals as goal

pub returns : goal.returns
unfolding contaminant_block body_of bytes_of
returns c =
    let p = c.args.place in
    let r = c.args.r in
    let first = first_words 2 p r.class r.id in
    let x = toxicity_decimals r.toxicity in
    let y = transfer_decimals r.transfer in
    let w₁ = wrote_first 2 p r.class r.id c.put_first_words.ensures in
    let w₂ = wrote_next c.put_all.new.out (field_bytes x) _ w₁ (wrote_group _ _ c.put_all.ensures c.into.ensures) (field_bytes_length x) in
    let w₃ = wrote_fields first x y _ c.put_all-2.new.out w₂ (wrote_group _ _ c.put_all-2.ensures c.into-2.ensures) refl in
    let w₄ = wrote_fields first (x ++ y) (r.c ∷ (r.saturation ∷ [])) _ c.put_all-3.new.out w₃ c.put_all-3.ensures refl in
    let w₅ = wrote_gap 8 c.clear.new.out w₄ c.clear.ensures in
    let z = r.in_air.u ∷ (r.in_air.q ∷ (r.abs ∷ [])) in
    let w₆ = wrote_next c.put_all-4.new.out (field_bytes z) _ w₅ c.put_all-4.ensures (field_bytes_length z) in
    let w₇ = wrote_gap 388 c.clear-2.new.out w₆ c.clear-2.ensures in
    let ws = r.class ∷ r.id ∷ [] in
    wrote_block 2 p contaminant_pieces ws (contaminant_decimals r) c.put_last_word.new.out w₇ (simp (append_assoc, append-nil)) c.put_last_word.ensures
