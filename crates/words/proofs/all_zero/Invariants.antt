-- `words::all_zero`: the bytes looked at so far.
use Rattle.std.proofs.Common.{◌≡◌}
use Rattle.words.specs.Words.{zeros}
use Rattle.words.proofs.all_zero.Given as goal

abbrev pub invariant-loop-b : goal.invariant-loop-b
invariant-loop-b l = l.ok ≡ zeros l.s l.at l.b-index
