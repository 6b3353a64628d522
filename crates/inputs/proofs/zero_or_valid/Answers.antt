-- `inputs::zero_or_valid`: four times (0, 0), or each as it is.
use mathlib.Core.Bool.{and-true, and_assoc}
use Rattle.inputs.proofs.Tests.{and_split}
use Rattle.inputs.proofs.zero_or_valid.Goals as goal

pub returns-then-is_zero : goal.returns-then-is_zero
returns-then-is_zero c =
    let three = and_split _ _ c.if-is_zero.true in
    let two = and_split _ _ three.0 in
    let one = and_split _ _ two.0 in
    rw (c.is_zero.ensures one.0, c.is_zero-2.ensures one.1, c.is_zero-3.ensures two.1, c.is_zero-4.ensures three.1)

pub returns : goal.returns
returns c = simp (c.valid.ensures, c.valid-2.ensures, c.valid-3.ensures, c.valid-4.ensures, and-true, and_assoc)
