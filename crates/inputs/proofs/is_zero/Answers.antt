-- `inputs::is_zero`: (0, 0) keeps its rule.
use Rattle.std.proofs.Common.{◌≡◌, arith, refl}
use lib.Dec.{eqb}
use mir.Syntax.{w32}
use mir.Val.{of_z}
use borrow.Author.Tests.{eqb-true}
use Rattle.decimal.proofs.Bias.{zero_passed}
use Rattle.inputs.specs.Valid.{valid_of}
use Rattle.inputs.proofs.Tests.{and_split}
use Rattle.inputs.proofs.is_zero.Goals as goal

pub returns : goal.returns
unfolding valid_of
returns c h =
    let d = c.args.d in
    let both = and_split (eqb d.m 0) _ h in
    let e : of_z w32 d.e ≡ 0 = eqb-true (of_z w32 d.e) 0 both.1 in
    rw (eqb-true d.m 0 both.0, zero_passed d.e (omega arith) e) refl
