-- `blocks::contaminant_unused`: where all bytes behind the first decimals are zero, so are the unused ones among them.
use Rattle.std.proofs.Common.{sym, ap₂, ◌∙◌, Bool}
use mathlib.Core.Bool.{◌&&◌}
use Rattle.block_rules.specs.Pieces.{behind_gap}
use Rattle.block_rules.specs.Reading.{contaminant_unused}
use Rattle.block_rules.proofs.Pieces.{behind_first, zeros_behind}
use Rattle.blocks.proofs.contaminant_unused.Goals as goal

pub returns-then-all_zero : goal.returns-then-all_zero
unfolding contaminant_unused
returns-then-all_zero c =
    let zero = sym c.all_zero.ensures ∙ c.if-all_zero.true in
    c.unused_zero-before.ensures ∙ sym (zeros_behind 9 (behind_gap 8 3 388) c.args.part.now c.args.at zero)

pub returns : goal.returns
unfolding contaminant_unused
returns c =
    ap₂ (λ (x y : Bool). x && y) c.unused_zero-before.ensures c.gap_unused.ensures ∙ sym (behind_first 9 (behind_gap 8 3 388) c.args.part.now c.args.at)
