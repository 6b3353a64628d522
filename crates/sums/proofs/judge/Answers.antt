-- `sums::judge`: the two comparisons of the verdict, made by numbers.
use Rattle.std.proofs.Common.{sym, ◌∙◌}
use Rattle.sum_rules.specs.Verdict.{verdict_of}
use Rattle.sums.proofs.Comparisons.{compared}
use Rattle.sums.proofs.judge.Goals as goal

pub returns-then-at_most : goal.returns-then-at_most
unfolding verdict_of
returns-then-at_most c =
    let p = c.requires in
    rw (c.if-any.true, compared p.1.0 p.1.1 ∙ sym c.at_most.ensures ∙ c.if-at_most.true)

pub returns-then-at_most-2 : goal.returns-then-at_most-2
unfolding verdict_of
returns-then-at_most-2 c =
    let p = c.requires in
    rw (
      c.if-any.true,
      compared p.1.0 p.1.1 ∙ sym c.at_most.ensures ∙ c.if-at_most.false,
      compared p.0 p.1.1 ∙ sym c.at_most-then-any.ensures ∙ c.if-at_most-2.true,
    )

pub returns-then-any : goal.returns-then-any
unfolding verdict_of
returns-then-any c =
    let p = c.requires in
    rw (
      c.if-any.true,
      compared p.1.0 p.1.1 ∙ sym c.at_most.ensures ∙ c.if-at_most.false,
      compared p.0 p.1.1 ∙ sym c.at_most-then-any.ensures ∙ c.if-at_most-2.false,
    )

pub returns : goal.returns
unfolding verdict_of
returns c = rw c.if-any.false
