-- `fields::unused_zero`: one more field is looked at.
use Rattle.std.proofs.Common.{◌≡◌, ℕ, ◌+◌, ◌*◌, ◌-◌, ◌&&◌, eqb, sym, ap, ◌∙◌, arith}
use mathlib.Core.Bool.{and-true}
use Rattle.fields.specs.Fields.{unused_zero}
use Rattle.fields.proofs.Fields.{unused_step}
use Rattle.fields.proofs.unused_zero.Goals as goal

pub loop-i-preserved : goal.loop-i-preserved
loop-i-preserved c =
    let s = c.args.s.now in
    let at = c.args.at in
    let n = c.args.n in
    let i = c.loop-i.i in
    let ok = c.loop-i.ok in
    ap (λ (h : ℕ). (ok && eqb h 0) && unused_zero s (at + 8 * (i + 1)) (n - (i + 1))) c.half.ensures
    ∙ unused_step s at n i ok c.loop-i-test.true ∙ c.loop-i.invariant

pub returns : goal.returns
unfolding unused_zero
returns c =
    let i = c.loop-i.i in
    let ok = c.loop-i.ok in
    let left : c.args.n - i ≡ 0 = omega arith in
    sym (and-true ok) ∙ ap (λ (k : ℕ). ok && unused_zero c.args.s.now (c.args.at + 8 * i) k) (sym left) ∙ c.loop-i.invariant
