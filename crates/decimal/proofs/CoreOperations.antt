-- Where the operands are in range, the tested operations on decimals are the operations on numbers: the tests change nothing. Assumes nothing.
use mathlib.Core.Path.{◌≡◌, sym, ap, subst, ◌∙◌}
use mathlib.Core.Bool.{Bool, true, cond}
use mathlib.Core.Logic.{inl, inr}
use Prim.Native.Nat.{ℕ, ◌+◌, ◌*◌, ◌^◌, ◌<◌}
use native.Mathlib.Nat.{mul-pos}
use native.Mathlib.Omega.{arith}
use lib.Dec.{lit<}
use Rattle.rounding.specs.declared.Direction.{Direction}
use Rattle.rounding.specs.declared.Number.{Number}
use Rattle.rounding.specs.Number.{worth, one, Nine, Working}
use Rattle.rounding.specs.Round.{Rounds}
use Rattle.rounding.specs.Operations.{product_of, quotient_of, sum_of}
use Rattle.rounding.proofs.Greatest.{pow_ten_pos, rounds_unique}
use Rattle.rounding.proofs.ExactResults.{one_pos, product_rounds, quotient_zero, quotient_rounds, sum_rounds}
use Rattle.decimal.specs.declared.Decimal.{Decimal}
use Rattle.decimal.specs.Decimal.{zero_of, biased_of, decimal_of, are_operands, mul_of, div_of, add_of}
use Rattle.decimal.proofs.OperandFacts.{Operand, operand_is, exponent_is}
use Rattle.decimal.proofs.Laws.{decimal_zero, decimal_worth, decimal_operable, biased_nine, div_zero, same_decimal}

-- two numbers that round the same fraction are the same decimal
same_rounding : (dir : Direction) (n d : ℕ) (r s : Number) → 0 < d → Rounds dir n d r → Rounds dir n d s → decimal_of r ≡ decimal_of s
same_rounding dir n d r s h f g = same_decimal r s f.working g.working (rounds_unique dir n d r s h f g)

module _ (p : Number) (a : Operand p) where
  -- the number of the decimal of a number
  abbrev again : Number
  again = biased_of (decimal_of p)

  again_operand : Operand again
  again_operand = operand_is (decimal_of p) (decimal_operable p a.working a.range).tested

  again_worth : worth again ≡ worth p
  again_worth = sym (ap (λ (x : ℕ). (decimal_of p).m * 10 ^ x) (exponent_is (decimal_of p) (decimal_operable p a.working a.range).tested)) ∙ (decimal_worth p a.working).0

module _ (dir : Direction) (p q : Number) (a : Operand p) (b : Operand q) where
  both : are_operands (decimal_of p) (decimal_of q) ≡ true
  both = rw (decimal_operable p a.working a.range).tested (decimal_operable q b.working b.range).tested

  pub mul_core : mul_of (decimal_of p) (decimal_of q) dir ≡ decimal_of (product_of dir p q)
  unfolding mul_of
  mul_core =
      let c = again_operand p a in
      let d = again_operand q b in
      ap (λ (t : Bool). cond t (decimal_of (product_of dir (again p a) (again q b))) zero_of) both ∙
      same_rounding dir (worth p * worth q) one _ _ one_pos
      (subst (λ (v : ℕ). Rounds dir v one (product_of dir (again p a) (again q b)))
      (ap (λ (v : ℕ). v * worth (again q b)) (again_worth p a) ∙ ap (λ (v : ℕ). worth p * v) (again_worth q b))
      (product_rounds dir (again p a) (again q b) c.range d.range c.working d.working))
      (product_rounds dir p q a.range b.range a.working b.working)

  pub add_core : add_of (decimal_of p) (decimal_of q) dir ≡ decimal_of (sum_of dir p q)
  unfolding add_of
  add_core =
      let c = again_operand p a in
      let d = again_operand q b in
      ap (λ (t : Bool). cond t (decimal_of (sum_of dir (again p a) (again q b))) zero_of) both ∙
      same_rounding dir (worth p + worth q) 1 _ _ (lit< tt)
      (subst (λ (v : ℕ). Rounds dir v 1 (sum_of dir (again p a) (again q b)))
      (ap (λ (v : ℕ). v + worth (again q b)) (again_worth p a) ∙ ap (λ (v : ℕ). worth p + v) (again_worth q b))
      (sum_rounds dir (again p a) (again q b) c.range d.range c.working d.working))
      (sum_rounds dir p q a.range b.range a.working b.working)

  nine_core : Nine q → div_of (decimal_of p) (decimal_of q) dir ≡ decimal_of (quotient_of dir p q)
  unfolding div_of
  nine_core n =
      let c = again_operand p a in
      let d = again_operand q b in
      let e = biased_nine q n b.range in
      ap (λ (t : Bool). cond t (decimal_of (quotient_of dir (again p a) (again q b))) zero_of) both ∙
      ap (λ (r : Number). decimal_of (quotient_of dir (again p a) r)) e ∙
      same_rounding dir (worth p * one) (worth q) _ _ (mul-pos (omega (arith, n.least)) (pow_ten_pos q.x))
      (subst (λ (v : ℕ). Rounds dir v (worth q) (quotient_of dir (again p a) q)) (ap (λ (v : ℕ). v * one) (again_worth p a)) (quotient_rounds dir (again p a) q c.range b.range c.working n))
      (quotient_rounds dir p q a.range b.range a.working n)

  pub div_core : div_of (decimal_of p) (decimal_of q) dir ≡ decimal_of (quotient_of dir p q)
  div_core = cases b.working
    where
      cases : Working q → div_of (decimal_of p) (decimal_of q) dir ≡ decimal_of (quotient_of dir p q)
      cases (inl z) =
          ap (λ (d : Decimal). div_of (decimal_of p) d dir) (decimal_zero q z) ∙ div_zero dir (decimal_of p) ∙
          sym (decimal_zero (quotient_of dir p q) (quotient_zero dir p q a.range b.range z))
      cases (inr n) = nine_core n
