-- `blocks::gap_unused`: each test is that of a piece.
use mathlib.Core.Bool.{and-true, and_assoc}
use native.Mathlib.Nat.{add_assoc}
use Rattle.block_rules.specs.Pieces.{unused_in}
use Rattle.blocks.proofs.gap_unused.Goals as goal

pub returns : goal.returns
unfolding unused_in
returns c = simp (add_assoc, and-true, and_assoc, c.all_zero-before.ensures, c.unused_zero-later.ensures, c.all_zero.ensures)
