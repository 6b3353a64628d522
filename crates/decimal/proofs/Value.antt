-- A decimal that is zero or has nine digits, with the range of its exponent. Assumes nothing.
use mathlib.Core.Path.{◌≡◌, refl}
use mathlib.Core.Bool.{Bool, true, false, cond}
use Prim.Native.Nat.{ℕ, ◌<◌}
use native.Mathlib.Omega.{arith}
use lib.Dec.{eqb}
use borrow.Author.Tests.{eqb-true, ne_eqb}
use Rattle.rounding.specs.declared.Direction.{Direction}
use Rattle.decimal.specs.declared.Decimal.{Decimal}
use Rattle.decimal.specs.Exponent.{raised, raise, in_range}
use Rattle.decimal.specs.Range.{Range, Covers}
use Rattle.decimal.specs.Decimal.{zero_of, add_of}
use Rattle.decimal.proofs.Approximation.{Sized, add_zero_left, add_zero_right, add_zeros, sized_most, Fair}
use lib.IntN.{ℤ}
use Rattle.decimal.specs.Fraction.{Fraction}
use Rattle.decimal.proofs.Approximation.Fair.{none, some}

-- ---- zero, or nine digits
pub data Value (w : Range) (d : Decimal) : Type 0 where
  absent : d ≡ zero_of → Value w d
  known : Sized w d → Value w d

pub value_most : {v w : Range} {d : Decimal} → Covers w v → Value v d → Value w d
value_most h (absent e) = absent e
value_most h (known s) = known (sized_most h s)

pub value_zero : {w : Range} {d : Decimal} → Value w d → eqb d.m 0 ≡ true → d ≡ zero_of
value_zero (absent e) h = e
value_zero {w} {d} (known s) h = absurd (let z = eqb-true d.m 0 h in omega (arith, z, s.nine.least))

pub fair_value : {dir : Direction} {k : ℕ} {w : Range} {d : Decimal} {q : Fraction} → Fair dir k w d q → Value w d
fair_value (none e z b) = absent e
fair_value (some f) = known f.sized

-- ---- a sum that skips zeros
pub skip_first : (dir : Direction) {w : Range} {d : Decimal} → Value w d → cond (eqb d.m 0) zero_of (add_of zero_of d dir) ≡ d
skip_first dir {w} {d} (absent e) = rw e
skip_first dir {w} {d} (known s) = rw (ne_eqb d.m 0 (omega (arith, s.nine.least)), add_zero_left dir s)

pub skip_next : (dir : Direction) {v w : Range} {a d : Decimal} → Value v a → Value w d → cond (eqb d.m 0) a (add_of a d dir) ≡ add_of a d dir
skip_next dir {v} {w} {a} {d} (absent e) (absent f) = rw (e, f, add_zeros dir)
skip_next dir {v} {w} {a} {d} (known s) (absent f) = rw (f, add_zero_right dir s)
skip_next dir {v} {w} {a} {d} f (known s) = rw (ne_eqb d.m 0 (omega (arith, s.nine.least)))

-- ---- an exponent with a biased form is from -999 to 999
pub raised_inside : (e : ℤ) → 0 < raised e → in_range e ≡ true
raised_inside e = cases (in_range e)
  where
    cases : (b : Bool) → 0 < cond b (raise e) 0 → b ≡ true
    cases true h = refl
    cases false h = absurd (omega (arith, h))
