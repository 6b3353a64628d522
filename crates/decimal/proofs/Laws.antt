-- What the operations on decimals come to: each result is the greatest working decimal not above the exact result, or the
-- least not below it, zero included. Assumes nothing.
use mathlib.Core.Path.{◌≡◌, refl, sym, ap, subst, ◌∙◌}
use mathlib.Core.Bool.{Bool, true, false, cond, ◌&&◌}
use mathlib.Core.Logic.{◌⊎◌, inl, inr}
use Prim.Native.Nat.{ℕ, ◌+◌, ◌*◌, ◌^◌, ◌<◌}
use native.Mathlib.Nat.{zero-mul, mul-zero}
use native.Mathlib.Omega.{arith}
use lib.IntN.{sub_ℕ}
use lib.Dec.{eqb, leb}
use borrow.Author.Tests.{eqb-true, eqb-false, eq-eqb, ne_eqb, le-leb}
use Rattle.rounding.specs.declared.Direction.{Direction}
use Rattle.rounding.specs.declared.Number.{Number}
use Rattle.rounding.specs.Number.{worth, one, Nine, Working, InRange}
use Rattle.rounding.specs.Round.{Rounds}
use Rattle.rounding.specs.Operations.{product_of, quotient_of}
use Rattle.rounding.specs.WorkingForm.{nine_of}
use Rattle.rounding.proofs.Greatest.{rounds_worth}
use Rattle.rounding.proofs.ExactResults.{product_zero, product_rounds, quotient_zero, quotient_nothing, quotient_rounds, sum_rounds}
use Rattle.rounding.proofs.Exponents.{worth_same}
use Rattle.rounding.proofs.NineDigits.{nine_worth, nine_nine, nine_zero}
use Rattle.decimal.specs.declared.Decimal.{Decimal}
use Rattle.decimal.specs.Exponent.{raised}
use Rattle.decimal.specs.Decimal.{zero_of, biased_of, decimal_of, plain_of, value_of, is_operand, are_operands, mul_of, div_of, add_of, working_of, at_most_of}
use Rattle.decimal.proofs.Bias.{raised_bounds, raised_is, raise_lower, raised_lower}
use Rattle.decimal.proofs.OperandFacts.{Operand, operand_is, is_operand_lem, exponent_is}

-- d can be an operand
pub record Operable (d : Decimal) : Type 0 where
  pub tested : is_operand (biased_of d) ≡ true

pub operable_zero : Operable zero_of
unfolding is_operand
operable_zero = record { tested = refl }

-- ---- numbers and their decimals
pub decimal_zero : (r : Number) → r.m ≡ 0 → decimal_of r ≡ zero_of
decimal_zero r z = rw (eq-eqb r.m 0 z)

pub decimal_nine : (r : Number) → Nine r → decimal_of r ≡ record { m = r.m; e = sub_ℕ r.x 3000 }
decimal_nine r n = rw (ne_eqb r.m 0 (omega (arith, n.least)))

-- the decimal is worth what the number is
pub decimal_worth : (r : Number) → Working r → (worth (plain_of (decimal_of r)) ≡ worth r) × Working (plain_of (decimal_of r))
decimal_worth r (inl z) = (ap value_of (decimal_zero r z) ∙ zero-mul (10 ^ 3000) ∙ sym (ap (λ (m : ℕ). m * 10 ^ r.x) z ∙ zero-mul (10 ^ r.x)), inl (ap (λ (d : Decimal). d.m) (decimal_zero r z)))
decimal_worth r (inr n) =
    let e : plain_of (decimal_of r) ≡ r = ap plain_of (decimal_nine r n) ∙ ap (λ (x : ℕ). record { m = r.m; x = x }) (raise_lower r.x) in
    (ap worth e, inr (subst Nine (sym e) n))

-- a number of nine digits in range comes back
pub biased_nine : (r : Number) → Nine r → InRange r → biased_of (decimal_of r) ≡ r
biased_nine r n g = ap biased_of (decimal_nine r n) ∙ ap (λ (x : ℕ). record { m = r.m; x = x }) (raised_lower r.x g.low g.high)

pub decimal_operable : (r : Number) → Working r → InRange r → Operable (decimal_of r)
decimal_operable r (inl z) g = subst Operable (sym (decimal_zero r z)) operable_zero
decimal_operable r (inr n) g = record { tested = ap is_operand (biased_nine r n g) ∙ is_operand_lem r n (omega (arith, g.low)) }

-- ---- the results as roundings
module _ (dir : Direction) (a b : Decimal) (f : Operable a) (g : Operable b) where
  abbrev p : Number
  p = biased_of a

  abbrev q : Number
  q = biased_of b

  pa : Operand p
  pa = operand_is a f.tested

  qb : Operand q
  qb = operand_is b g.tested

  both : are_operands a b ≡ true
  both = rw f.tested g.tested

  -- what an operand is worth, with either exponent
  a_worth : value_of a ≡ worth p
  a_worth = ap (λ (x : ℕ). a.m * 10 ^ x) (exponent_is a f.tested)

  b_worth : value_of b ≡ worth q
  b_worth = ap (λ (x : ℕ). b.m * 10 ^ x) (exponent_is b g.tested)

  as_decimal : (n d : ℕ) (r : Number) (v : Decimal) → v ≡ decimal_of r → Rounds dir n d r → Rounds dir n d (plain_of v)
  as_decimal n d r v e h = let w = decimal_worth r h.working in subst (λ (v : Decimal). Rounds dir n d (plain_of v)) (sym e) (rounds_worth dir n d r (plain_of (decimal_of r)) w.0 w.1 h)

  pub mul_rounds : Rounds dir (value_of a * value_of b) one (plain_of (mul_of a b dir))
  unfolding mul_of
  mul_rounds =
      subst (λ (v : ℕ). Rounds dir v one (plain_of (mul_of a b dir))) (sym (ap (λ (v : ℕ). v * value_of b) a_worth ∙ ap (λ (v : ℕ). worth p * v) b_worth))
      (as_decimal _ one _ (mul_of a b dir) (rw both) (product_rounds dir p q pa.range qb.range pa.working qb.working))

  pub div_rounds : 0 < b.m → Rounds dir (value_of a * one) (value_of b) (plain_of (div_of a b dir))
  unfolding div_of
  div_rounds h =
      subst (λ (v : ℕ). Rounds dir (v * one) (value_of b) (plain_of (div_of a b dir))) (sym a_worth)
      (subst (λ (v : ℕ). Rounds dir (worth p * one) v (plain_of (div_of a b dir))) (sym b_worth)
      (as_decimal _ (worth q) _ (div_of a b dir) (rw both) (quotient_rounds dir p q pa.range qb.range pa.working (nine qb.working))))
    where
      nine : Working q → Nine q
      nine (inl z) = absurd (omega (arith, z, h))
      nine (inr n) = n

  pub add_rounds : Rounds dir (value_of a + value_of b) 1 (plain_of (add_of a b dir))
  unfolding add_of
  add_rounds =
      subst (λ (v : ℕ). Rounds dir v 1 (plain_of (add_of a b dir))) (sym (ap (λ (v : ℕ). v + value_of b) a_worth ∙ ap (λ (v : ℕ). worth p + v) b_worth))
      (as_decimal _ 1 _ (add_of a b dir) (rw both) (sum_rounds dir p q pa.range qb.range pa.working qb.working))

-- a zero divisor gives (0, 0), and so does an operand that is none
pub div_zero : (dir : Direction) (a : Decimal) → div_of a zero_of dir ≡ zero_of
unfolding div_of
div_zero dir a = cases (is_operand (biased_of a)) refl
  where
    cases : (t : Bool) → is_operand (biased_of a) ≡ t → cond (t && is_operand (biased_of zero_of)) (decimal_of (quotient_of dir (biased_of a) (biased_of zero_of))) zero_of ≡ zero_of
    cases true e = rw operable_zero.tested
        (decimal_zero (quotient_of dir (biased_of a) (biased_of zero_of))
        (quotient_zero dir (biased_of a) (biased_of zero_of) (operand_is a e).range (operand_is zero_of operable_zero.tested).range refl))
    cases false e = refl

-- a zero factor, and a zero dividend, give (0, 0)
tested : (t : Bool) (r : Number) → r.m ≡ 0 → cond t (decimal_of r) zero_of ≡ zero_of
tested true r z = decimal_zero r z
tested false r z = refl

pub mul_zero_left : (dir : Direction) (b : Decimal) → mul_of zero_of b dir ≡ zero_of
unfolding mul_of
mul_zero_left dir b = tested (are_operands zero_of b) (product_of dir (biased_of zero_of) (biased_of b)) (product_zero dir (biased_of zero_of) (biased_of b) (zero-mul b.m))

pub mul_zero_right : (dir : Direction) (a : Decimal) → mul_of a zero_of dir ≡ zero_of
unfolding mul_of
mul_zero_right dir a = tested (are_operands a zero_of) (product_of dir (biased_of a) (biased_of zero_of)) (product_zero dir (biased_of a) (biased_of zero_of) (mul-zero a.m))

pub div_zero_left : (dir : Direction) (b : Decimal) → div_of zero_of b dir ≡ zero_of
unfolding div_of
div_zero_left dir b = tested (are_operands zero_of b) (quotient_of dir (biased_of zero_of) (biased_of b)) (quotient_nothing dir (biased_of zero_of) (biased_of b) refl)

module _ (dir : Direction) (a b : Decimal) (h : are_operands a b ≡ false) where
  pub mul_bad : mul_of a b dir ≡ zero_of
  unfolding mul_of
  mul_bad = rw h

  pub div_bad : div_of a b dir ≡ zero_of
  unfolding div_of
  div_bad = rw h

  pub add_bad : add_of a b dir ≡ zero_of
  unfolding add_of
  add_bad = rw h

-- ---- there is one such result: of two working decimals that round the same fraction the pairs are the same
pub same_decimal : (p q : Number) → Working p → Working q → worth p ≡ worth q → decimal_of p ≡ decimal_of q
same_decimal p q f g e = cases (worth_same p q f g e)
  where
    cases : ((p.m ≡ 0) × (q.m ≡ 0)) ⊎ (p ≡ q) → decimal_of p ≡ decimal_of q
    cases (inl z) = decimal_zero p z.0 ∙ sym (decimal_zero q z.1)
    cases (inr s) = ap decimal_of s

-- ---- the comparison of two operands is that of what they are worth
pub at_most_is : (a b : Decimal) → Operable a → Operable b → at_most_of a b ≡ leb (value_of a) (value_of b)
unfolding at_most_of
at_most_is a b f g = rw (f.tested, g.tested)

-- ---- the working form of an input decimal is worth the same, and is an operand
module _ (d : Decimal) (u : d.m < 1000000000) (h : 0 < raised d.e) where
  pub working_is : working_of d ≡ decimal_of (nine_of (biased_of d))
  unfolding working_of
  working_is = rw (le-leb d.m 999999999 (omega arith), ne_eqb (raised d.e) 0 (omega arith))

  bounds : (2000 < raised d.e) × (raised d.e < 4000)
  bounds = raised_bounds d.e (λ e. let z : raised d.e ≡ 0 = e in omega (arith, h))

  pub nine_working : Working (nine_of (biased_of d))
  nine_working = cases (eqb d.m 0) refl
    where
      cases : (t : Bool) → eqb d.m 0 ≡ t → Working (nine_of (biased_of d))
      cases true e = inl (nine_zero (biased_of d) u (eqb-true d.m 0 e))
      cases false e = let z = eqb-false d.m 0 e in inr (nine_nine (biased_of d) u (omega (arith, z)))

  pub working_value : value_of (working_of d) ≡ value_of d
  working_value =
      ap value_of working_is ∙ (decimal_worth (nine_of (biased_of d)) nine_working).0 ∙ nine_worth (biased_of d) u (omega (arith, bounds.0)) ∙
      ap (λ (x : ℕ). d.m * 10 ^ x) (sym (raised_is d.e h))
