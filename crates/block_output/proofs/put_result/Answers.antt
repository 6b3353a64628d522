-- `block_output::put_result`: the steps one behind the other make the block.
use Rattle.std.proofs.Common.{List, [], ◌∷◌, refl, append_assoc, append-nil}
use Rattle.words.proofs.Written.{wrote_next}
use Rattle.fields.specs.Fields.{field_bytes}
use Rattle.fields.proofs.ReadBack.{field_bytes_length}
use Rattle.decimal.specs.declared.Decimal.{Decimal}
use Rattle.guideline_rules.specs.Steps.{four_of}
use Rattle.block_rules.specs.Pieces.{result_pieces, bytes_of}
use Rattle.block_rules.specs.Layouts.{body_of, guideline_decimals, result_block}
use Rattle.block_output.proofs.Blocks.{first_words, wrote_first, wrote_fields, wrote_gap, wrote_block}
use Rattle.block_output.proofs.put_result.Goals as goal

pub returns : goal.returns
unfolding result_block body_of bytes_of
returns c =
    let v = c.args in
    let first = first_words 3 v.place v.class v.id in
    let x : List Decimal = four_of v.g.risk in
    let y : List Decimal = four_of v.g.hazard in
    let w₁ = wrote_first 3 v.place v.class v.id c.put_first_words.ensures in
    let w₂ = wrote_next c.put_all.new.out (field_bytes x) 32 w₁ c.put_all.ensures (field_bytes_length x) in
    let w₃ = wrote_fields first x y 32 c.put_all-2.new.out w₂ c.put_all-2.ensures refl in
    let w₄ = wrote_gap 428 c.clear.new.out w₃ c.clear.ensures in
    let ws = v.class ∷ v.id ∷ [] in
    wrote_block 3 v.place result_pieces ws (guideline_decimals v.g.risk v.g.hazard) c.put_last_word.new.out w₄ (simp (append_assoc, append-nil)) c.put_last_word.ensures
