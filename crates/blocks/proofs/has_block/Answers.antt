-- `blocks::has_block`: too few bytes in all, or the test of `at`.
use Rattle.std.proofs.Common.{sym, arith}
use Rattle.blocks.proofs.Parts.{no_block, block_test}
use Rattle.blocks.proofs.has_block.Goals as goal

pub returns-then-n-lt-BLOCK_SIZE : goal.returns-then-n-lt-BLOCK_SIZE
returns-then-n-lt-BLOCK_SIZE c = sym (no_block c.args.site.now c.args.at (omega arith))

pub returns : goal.returns
returns c = block_test c.args.site.now c.args.at (omega arith)
