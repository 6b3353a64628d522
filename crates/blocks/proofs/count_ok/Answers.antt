-- `blocks::count_ok`: a count out of range is refused; one in range is at most 120, so the sum fits.
use Rattle.std.proofs.Common.{sym, ◌∙◌, arith}
use Rattle.block_rules.specs.Rules.{count_ok}
use Rattle.block_rules.proofs.Rules.{in_file_lem}
use Rattle.blocks.proofs.count_ok.Goals as goal

pub returns-then-not-in_file : goal.returns-then-not-in_file
unfolding count_ok
returns-then-not-in_file c = rw (sym c.in_file.ensures ∙ c.if-not-in_file.true)

pub overflow_add-result : goal.overflow_add-result
overflow_add-result c = omega (arith, in_file_lem c.args.count (sym c.in_file.ensures ∙ c.if-not-in_file.false))

pub returns : goal.returns
unfolding count_ok
returns c = rw (sym c.in_file.ensures ∙ c.if-not-in_file.false)
