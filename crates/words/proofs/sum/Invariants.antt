-- `words::sum`: the words added so far.
use Rattle.std.proofs.Common.{◌≡◌, ◌%◌}
use Rattle.words.specs.Words.{word_sum}
use Rattle.words.proofs.sum.Given as goal

abbrev pub invariant-loop-i : goal.invariant-loop-i
invariant-loop-i l = l.t ≡ word_sum l.s l.i % 4294967296
