-- `block_output::put_header`: the steps one behind the other make the block.
use Rattle.std.proofs.Common.{ℕ, [], ◌∷◌, ◌++◌, replicate, refl, ap, ◌∙◌, append_assoc, append-nil}
use Rattle.words.proofs.Written.{wrote_next}
use Rattle.fields.specs.Fields.{field_bytes}
use Rattle.fields.proofs.ReadBack.{field_bytes_length, one_field}
use Rattle.words.specs.Bytes.{placed}
use Rattle.inputs.specs.Kinds.{header_kind}
use Rattle.inputs.specs.Inputs.{exposure_decimals, contact_decimals, target_decimals, scenario_decimals, house_decimals, ages_decimals}
use Rattle.block_rules.specs.Pieces.{header_pieces, bytes_of}
use Rattle.block_rules.specs.Layouts.{body_of, header_block}
use Rattle.block_output.proofs.Blocks.{first_words, wrote_first, wrote_group, wrote_fields, wrote_gap, wrote_block}
use Rattle.block_output.proofs.put_header.Goals as goal

pub returns : goal.returns
unfolding header_block body_of bytes_of
returns c =
    let h = c.args.h in
    let s = h.scenario in
    let k = header_kind s.inhalation in
    let first = first_words k 0 h.medium h.count in
    let x = exposure_decimals s.exposure in
    let y = contact_decimals s.contact in
    let z = target_decimals s.targets in
    let u = house_decimals s.house in
    let w₁ = wrote_first k 0 h.medium h.count (c.put_first_words.ensures ∙ ap (λ (n : ℕ). placed c.args.out.now 0 (first_words n 0 h.medium h.count)) c.kind.ensures) in
    let w₂ = wrote_next c.put_all.new.out (field_bytes x) _ w₁ (wrote_group _ _ c.put_all.ensures c.into.ensures) (field_bytes_length x) in
    let w₃ = wrote_fields first x y _ c.put_all-2.new.out w₂ (wrote_group _ _ c.put_all-2.ensures c.into-2.ensures) refl in
    let w₄ = wrote_fields first (x ++ y) z _ c.put_all-3.new.out w₃ (wrote_group _ _ c.put_all-3.ensures c.into-3.ensures) refl in
    let w₅ = wrote_fields first (x ++ (y ++ z)) u _ c.put_all-4.new.out w₄ (wrote_group _ _ c.put_all-4.ensures c.into-4.ensures) refl in
    let a = s.air_hours ∷ [] in
    let v = ages_decimals s.ages in
    let gap = first ++ field_bytes (x ++ (y ++ (z ++ u))) ++ replicate {A = ℕ} 16 0 in
    let w₆ = wrote_gap 16 c.clear.new.out w₅ c.clear.ensures in
    let w₇ = wrote_next c.put.new.out (field_bytes a) 8 w₆ (c.put.ensures ∙ ap (placed c.clear.new.out 192) (one_field s.air_hours)) (field_bytes_length a) in
    let w₈ = wrote_fields gap a v _ c.put_all-5.new.out w₇ (wrote_group _ _ c.put_all-5.ensures c.into-5.ensures) refl in
    let w₉ = wrote_gap 236 c.clear-2.new.out w₈ c.clear-2.ensures in
    let ws = h.medium ∷ h.count ∷ [] in
    wrote_block k 0 header_pieces ws (scenario_decimals s) c.put_last_word.new.out w₉ (simp (append_assoc, append-nil)) c.put_last_word.ensures
