-- What is printed so far is the text of the decimals so far.
use Rattle.std.proofs.Common.{take}
use Rattle.std.specs.Io.KnownBytes.{Appends}
use Rattle.case_output.specs.Printed.{all_text}
use Rattle.case_output.proofs.print_all.Given as goal

abbrev pub invariant-loop-d : goal.invariant-loop-d
invariant-loop-d g l = Appends (g.W.Write.contents l.initial.output) (g.W.Write.contents l.output) (all_text (take l.d-index l.ds))
