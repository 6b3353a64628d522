-- `blocks::header_unused`: where all bytes behind the first decimals are zero, so are the unused ones among them.
use Rattle.std.proofs.Common.{sym, ap₂, ◌∙◌, Bool}
use mathlib.Core.Bool.{◌&&◌}
use Rattle.block_rules.specs.Pieces.{behind_gap}
use Rattle.block_rules.specs.Reading.{header_unused}
use Rattle.block_rules.proofs.Pieces.{behind_first, zeros_behind}
use Rattle.blocks.proofs.header_unused.Goals as goal

pub returns-then-all_zero : goal.returns-then-all_zero
unfolding header_unused
returns-then-all_zero c =
    let zero = sym c.all_zero.ensures ∙ c.if-all_zero.true in
    c.unused_zero-before.ensures ∙ sym (zeros_behind 20 (behind_gap 16 10 236) c.args.part.now c.args.at zero)

pub returns : goal.returns
unfolding header_unused
returns c =
    ap₂ (λ (x y : Bool). x && y) c.unused_zero-before.ensures c.gap_unused.ensures ∙ sym (behind_first 20 (behind_gap 16 10 236) c.args.part.now c.args.at)
