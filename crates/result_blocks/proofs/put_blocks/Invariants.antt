-- `result_blocks::put_blocks`: the blocks written so far, and the sums that they and the records left come to.
use Rattle.std.proofs.Common.{◌≡◌, ◌++◌, take}
use Rattle.words.specs.Bytes.{over}
use Rattle.site_rules.specs.Results.{results_to}
use Rattle.result_blocks.proofs.Running.{Along}
use Rattle.result_blocks.proofs.put_blocks.Given as goal

abbrev pub invariant-loop-k : goal.invariant-loop-k
invariant-loop-k l = record {
  sums : Along l.p l.site l.count l.k l.runs;
  written : l.out ≡ over (take 512 l.initial.out ++ results_to l.p.scenario l.p.medium l.site l.k) l.initial.out;
}
