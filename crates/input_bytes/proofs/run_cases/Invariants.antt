-- Where the calls from here on run out, so do those from the first one on.
use Rattle.std.proofs.Common.{Ok}
use Rattle.input_bytes.specs.Reading.{RunsOut}
use Rattle.input_bytes.proofs.run_cases.Given as goal

abbrev pub invariant-loop : goal.invariant-loop
invariant-loop g l =
    goal.F-IsAlwaysCallable g l.next_case
    × (RunsOut (λ f more h. goal.F-step g f (Ok more) h) l.next_case → RunsOut (λ f more h. goal.F-step g f (Ok more) h) l.fn.next_case)
