-- `block_output::put_last_word`: what is put is the number that added to the sum gives zero.
use Rattle.std.proofs.Common.{ℕ, ◌-◌, ◌%◌, ap, ◌∙◌, arith}
use Rattle.words.specs.Bytes.{placed, le4}
use Rattle.block_rules.specs.Layouts.{last_word}
use Rattle.block_output.proofs.Blocks.{negate, sum_of_first}
use Rattle.block_output.proofs.put_last_word.Goals as goal

pub returns : goal.returns
unfolding last_word
returns c =
    c.put.ensures ∙ ap (λ (n : ℕ). placed c.args.out.now 508 (le4 n))
    (negate c.wrapping_neg.result c.sum-sum.result (omega arith) (omega arith) c.wrapping_neg.ensures
    ∙ ap (λ (n : ℕ). (4294967296 - n) % 4294967296) c.sum-sum.ensures
    ∙ ap (λ (n : ℕ). (4294967296 - n % 4294967296) % 4294967296) (sum_of_first c.args.out.now c.args.n c.requires.1 c.requires.2))
