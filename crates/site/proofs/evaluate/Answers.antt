-- `site::evaluate`: a refusal of the length or the header leaves the output as it was; past them the blocks are evaluated.
use Rattle.std.proofs.Common.{length, sym, ap, ◌∙◌, arith}
use Rattle.std.specs.Prelude.{Result, Err}
use Rattle.outcome.specs.declared.Refusal.{Refusal}
use Rattle.outcome.specs.Outcome.{located}
use Rattle.outcome.proofs.Tests.{handed_back, reader_value}
use Rattle.block_rules.specs.declared.Header.{Header}
use Rattle.site_rules.specs.Blocks.{block_at}
use Rattle.site_rules.proofs.RightLength.{right_length}
use Rattle.site_rules.proofs.Opened.{answer_length, answer_header, left_refused}
use Rattle.site.proofs.evaluate.Goals as goal

pub returns-then-not-length_ok : goal.returns-then-not-length_ok
returns-then-not-length_ok c =
    let site = c.args.site.now in
    let out = c.args.out.now in
    let e = answer_length site (length out) (sym c.length_ok.ensures ∙ c.if-not-length_ok.true) in
    (ap Err c.in_block.ensures ∙ sym e, sym (left_refused site out e))

pub overflow_cast-blocks : goal.overflow_cast-blocks
overflow_cast-blocks c =
    let w = (right_length (length c.args.site.now) (sym c.length_ok.ensures ∙ c.if-not-length_ok.false)).most in
    omega (arith, w)

pub returns-in_err-h : goal.returns-in_err-h
unfolding block_at
returns-in_err-h c =
    let site = c.args.site.now in
    let out = c.args.out.now in
    let f = ap (λ (x : Result Header Refusal). located x 0) (sym c.read_header.ensures) ∙ sym c.in_err-h.ensures in
    let e = answer_header site (length out) (sym c.length_ok.ensures ∙ c.if-not-length_ok.false) f in
    (handed_back c.from_residual.result c.from_residual.ensures.1 ∙ sym e, sym (left_refused site out e))

pub evaluate_blocks-requires : goal.evaluate_blocks-requires
unfolding block_at
evaluate_blocks-requires c = record {
  right = sym c.length_ok.ensures ∙ c.if-not-length_ok.false;
  header = sym c.read_header.ensures ∙ reader_value c.read_header.result 0 (sym c.in_ok-h.ensures);
}
