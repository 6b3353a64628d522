-- `c_structs::put_guidelines`: the guidelines of hazard behind those of risk.
use Rattle.std.proofs.Common.{ℕ, List, [], ◌∷◌, sym, ap, ◌∙◌}
use Rattle.words.specs.Bytes.{over}
use Rattle.words.proofs.Written.{wrote_none, wrote_next}
use Rattle.decimal.specs.declared.Decimal.{Decimal}
use Rattle.fields.specs.Fields.{field_bytes}
use Rattle.fields.proofs.ReadBack.{field_bytes_length, field_bytes_append}
use Rattle.c_structs.proofs.put_guidelines.Goals as goal

pub returns : goal.returns
returns c =
    let r = c.args.g.risk in
    let h = c.args.g.hazard in
    let d = c.args.out.now in
    let x : List Decimal = r.first ∷ (r.second ∷ (r.third ∷ (r.total ∷ []))) in
    let y : List Decimal = h.first ∷ (h.second ∷ (h.third ∷ (h.total ∷ []))) in
    let w₁ = wrote_next c.put_all.new.out (field_bytes x) 32 (wrote_none d) c.put_all.ensures (field_bytes_length x) in
    let w₂ = wrote_next c.put_all-2.new.out (field_bytes y) 32 w₁ c.put_all-2.ensures (field_bytes_length y) in
    w₂.now ∙ ap (λ (l : List ℕ). over l d) (sym (field_bytes_append x y))
