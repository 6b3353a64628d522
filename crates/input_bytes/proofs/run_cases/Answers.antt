-- A call that answers true comes before those that follow, and one that answers false is the last.
use Rattle.std.proofs.Common.{of_calls, suc, Ok, refl, subst}
use Rattle.input_bytes.proofs.run_cases.Goals as goal

pub returns-then-not-branch : goal.returns-then-not-branch
returns-then-not-branch g c =
    let step = subst (λ b. goal.F-step g c.loop.next_case (Ok b) c.next_case.new.self) c.if-not-branch.true c.in_ok-next_case.ensures in
    c.loop.invariant.1 (0, c.next_case.new.self, (c.next_case.new.self, step, refl))

pub loop-preserved : goal.loop-preserved
loop-preserved g c =
    let step = subst (λ b. goal.F-step g c.loop.next_case (Ok b) c.next_case.new.self) c.if-not-branch.false c.in_ok-next_case.ensures in
    (search of_calls, λ rest. c.loop.invariant.1 (suc rest.0, rest.1, (c.next_case.new.self, step, rest.2)))
