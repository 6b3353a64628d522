-- `block_output::put_summary`: the steps one behind the other make the block; each verdict is a word that is another's result.
use Rattle.std.proofs.Common.{◌≡◌, ℕ, ◌+◌, List, ◌++◌, ap, ◌∙◌, append_assoc, append-nil}
use Rattle.words.specs.Bytes.{le4, placed}
use Rattle.words.proofs.Words.{le4_length}
use Rattle.words.proofs.Written.{Wrote, wrote_next}
use Rattle.fields.specs.Fields.{field_bytes}
use Rattle.fields.proofs.ReadBack.{field_bytes_length}
use Rattle.decimal.specs.declared.Decimal.{Decimal}
use Rattle.sum_rules.specs.Verdict.{verdict_number}
use Rattle.block_rules.specs.Pieces.{summary_pieces, bytes_of}
use Rattle.block_rules.specs.Layouts.{body_of, summary_block, summary_words, summary_decimals}
use Rattle.block_output.proofs.Blocks.{wrote_first, wrote_gap, wrote_block}
use Rattle.block_output.proofs.put_summary.Goals as goal

-- a word that is another's result
wrote_word : {l p d : List ℕ} {at m : ℕ} (n : ℕ) (l' : List ℕ) → Wrote l p d at → l' ≡ placed l at (le4 m) → m ≡ n → Wrote l' (p ++ le4 n) d (at + 4)
wrote_word {l} {p} {d} {at} n l' w e q = wrote_next l' (le4 n) 4 w (e ∙ ap (λ (k : ℕ). placed l at (le4 k)) q) (le4_length n)

pub returns : goal.returns
unfolding summary_block body_of bytes_of
returns c =
    let r = c.args.a.risk in
    let h = c.args.a.hazard in
    let x : List Decimal = summary_decimals r h in
    let w₁ = wrote_first 4 0 0 0 c.put_first_words.ensures in
    let w₂ = wrote_next c.put_all.new.out (field_bytes x) _ w₁ c.put_all.ensures (field_bytes_length x) in
    let w₃ = wrote_word (verdict_number r.verdict) c.put.new.out w₂ c.put.ensures c.verdict_number.ensures in
    let w₄ = wrote_word (verdict_number h.verdict) c.put-2.new.out w₃ c.put-2.ensures c.verdict_number-2.ensures in
    let w₅ = wrote_gap 452 c.clear.new.out w₄ c.clear.ensures in
    wrote_block 4 0 summary_pieces (summary_words r h) x c.put_last_word.new.out w₅ (simp (append_assoc, append-nil)) c.put_last_word.ensures
