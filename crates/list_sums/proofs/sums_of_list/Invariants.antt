-- `list_sums::sums_of_list`: the state after some records is good, has room for the rest, and with the rest gives the answer of the list.
use Rattle.std.proofs.Common.{◌≡◌, drop}
use Rattle.sum_rules.specs.ListCall.{sums_of}
use Rattle.sums.specs.State.{Good, Room, answer_from}
use Rattle.list_sums.proofs.sums_of_list.Given as goal

abbrev pub invariant-loop-r : goal.invariant-loop-r
invariant-loop-r l = record {
  good : Good l.p l.t;
  room : Room l.t (drop l.r-index l.list);
  left : answer_from l.p l.t (drop l.r-index l.list) ≡ sums_of l.fn.s l.medium l.list;
}
