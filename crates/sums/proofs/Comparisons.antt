-- Numbers compared by worth: the same as their decimals. Assumes nothing.
use mathlib.Core.Path.{◌≡◌}
use Prim.Native.Nat.{ℕ, ◌≤◌}
use native.Mathlib.Omega.{arith}
use lib.Dec.{lit≤}
use Rattle.rounding.specs.declared.Number.{Number}
use Rattle.rounding.specs.Number.{at_most_of as numbers_at_most}
use Rattle.decimal.specs.Decimal.{decimal_of, Printable, at_most_of}
use Rattle.decimal.proofs.Laws.{decimal_worth, decimal_operable}
use Rattle.factors.specs.Widths.{sum_width}
use Rattle.factors.proofs.StandsLaws.{stands_operand, stands_most}
use Rattle.shares.specs.Runs.{Runs}
use Rattle.sums.specs.State.{Comparable, RunsReady}

pub printable : {r : Number} → Comparable r → Printable r
printable s = record { digits = s.most; exponent = omega (arith, s.high) }

pub compared : {p q : Number} → Comparable p → Comparable q → at_most_of (decimal_of p) (decimal_of q) ≡ numbers_at_most p q
unfolding at_most_of
compared {p} {q} s t =
    let a = decimal_operable p s.working (stands_operand (lit≤ tt) s).range in
    let b = decimal_operable q t.working (stands_operand (lit≤ tt) t).range in
    rw (a.tested, b.tested, (decimal_worth p s.working).0, (decimal_worth q t.working).0)

-- sums after at most 120 records
pub runs_comparable : {w : ℕ} {x : Runs} → w ≤ sum_width → RunsReady w x → RunsReady sum_width x
runs_comparable h x = record {
  risk = record { lower = stands_most h x.risk.lower; upper = stands_most h x.risk.upper };
  hazard = record { lower = stands_most h x.hazard.lower; upper = stands_most h x.hazard.upper };
}
