-- The exponent of a result, from the operands' exponents, and the order of two numbers by exponent and digits. Assumes nothing.
use mathlib.Core.Path.{◌≡◌, refl, sym, ap, ◌∙◌}
use mathlib.Core.Bool.{Bool, true, false, cond}
use mathlib.Core.Logic.{◌⊎◌, inl, inr}
use Prim.Native.Nat.{ℕ, ◌+◌, ◌-◌, ◌*◌, ◌^◌, ◌≤◌, ◌<◌}
use native.Mathlib.Nat.{mul-le-mul_right, mul-lt-mul_of_pos_right, lt_of_lt_of_le, mul-pos, le_of_lt, le_antisymm, eq_of_mul-eq-mul_right}
use native.Mathlib.Omega.{arith}
use lib.Dec.{eqb, ltb, leb, lit<}
use borrow.Author.Tests.{eqb-true, eqb-false, eq-eqb, ne_eqb, le-leb, lt-leb, lt-ltb, ltb-true, ltb-false, leb-true, leb-false}
use Rattle.std.proofs.Common.{Some}
use Rattle.std.proofs.lemmas.Bool.Decides.{nat_tests}
use Rattle.std.specs.Ordering.{nat_cmp, partial_ordering_then, partial_le}
use Rattle.rounding.specs.declared.Direction.{Direction}
use Rattle.rounding.specs.declared.Direction.TheVariants.{Down, Up}
use Rattle.rounding.specs.declared.Number.{Number}
use Rattle.rounding.specs.Number.{worth, Nine, Working, InRange, Result, SumResult, rank_of, at_most_of}
use Rattle.rounding.specs.Round.{divide_of, cut_of, round_of}
use Rattle.rounding.specs.Operations.{product_of, dividend_of, divisor_of, quotient_of, gap_of, aligned_of, sum_of}
use Rattle.rounding.proofs.WholeQuotients.{divide_most}
use Rattle.rounding.proofs.Greatest.{pow_ten_pos, small}
use Rattle.rounding.proofs.ExactResults.{below}
use Rattle.rounding.proofs.CodeFacts.{quotient_sizes}

pub cut_result : (dir : Direction) (q x : ℕ) → q ≤ 9999999990 → Result x (cut_of dir q x)
unfolding cut_of
cut_result dir q x h = cases (ltb q 1000000000) refl
  where
    cases : (b : Bool) → ltb q 1000000000 ≡ b → Result x (cond b (record { m = q; x = x }) (record { m = divide_of dir q 10; x = x + 1 }))
    cases true e = record { most = ltb-true q 1000000000 e; low = omega arith; high = omega arith }
    cases false e = record { most = omega (arith, divide_most q 10 (lit< tt) dir 999999999 (omega (arith, h))); low = omega arith; high = omega arith }

-- ---- the exponents of the operations' results
round_result : (dir : Direction) (n d x : ℕ) → 0 < d → n ≤ 9999999990 * d → Result x (round_of dir n d x)
unfolding round_of
round_result dir n d x h l = cut_result dir (divide_of dir n d) x (divide_most n d h dir 9999999990 l)

module _ (dir : Direction) (p q : Number) (a : InRange p) (b : InRange q) where
  pub product_result : Result (p.x + q.x - 2992) (product_of dir p q)
  unfolding product_of
  product_result = round_result dir (p.m * q.m) 100000000 (p.x + q.x - 2992) (lit< tt) (omega (arith, below p.m q.m a.most b.most))

  pub quotient_result : Result (p.x + 2991 - q.x) (quotient_of dir p q)
  unfolding quotient_of
  quotient_result = let z = quotient_sizes p q a b in round_result dir (dividend_of p q) (divisor_of q) (p.x + 2991 - q.x) z.some z.most

-- ---- the product with a power of ten
whole_product : (dir : Direction) (n : ℕ) → divide_of dir (n * 100000000) 100000000 ≡ n
whole_product Down n = omega arith
whole_product Up n = omega arith

pub power_product : (dir : Direction) (p q : Number) → p.m < 1000000000 → q.m ≡ 100000000 → record { m = p.m; x = p.x + q.x - 2992 } ≡ product_of dir p q
unfolding product_of round_of cut_of
power_product dir p q h e = sym (rw (e, whole_product dir p.m, lt-ltb p.m 1000000000 h) refl)

pub power_result : (p q : Number) → InRange p → Result (p.x + q.x - 2992) (record { m = p.m; x = p.x + q.x - 2992 })
power_result p q a = record { most = a.most; low = omega arith; high = omega arith }

aligned_result : (dir : Direction) (p q : Number) → InRange p → InRange q → Result p.x (aligned_of dir p q)
unfolding aligned_of
aligned_result dir p q a b = round_result dir (p.m * 10 ^ gap_of p q + q.m) (10 ^ gap_of p q) p.x (pow_ten_pos (gap_of p q)) (most (10 ^ gap_of p q) (pow_ten_pos (gap_of p q)))
  where
    most : (g : ℕ) → 0 < g → p.m * g + q.m ≤ 9999999990 * g
    most g h = omega (arith, mul-le-mul_right g a.most, b.most, mul-le-mul_right 1000000000 h)

pub sum_result : (dir : Direction) (p q : Number) → InRange p → InRange q → SumResult p q (sum_of dir p q)
unfolding sum_of
sum_result dir p q a b = cases (leb (rank_of q) (rank_of p))
  where
    cases : (t : Bool) → SumResult p q (cond t (aligned_of dir p q) (aligned_of dir q p))
    cases true = let f = aligned_result dir p q a b in record { most = f.most; low = omega (arith, f.low); high = omega (arith, f.high) }
    cases false = let f = aligned_result dir q p b a in record { most = f.most; low = omega (arith, f.low); high = omega (arith, f.high) }

-- ---- a lower rank is worth less; at the same rank the digits decide
rank_lt : (p q : Number) → Working p → Working q → rank_of p < rank_of q → worth p < worth q
rank_lt p q f (inl z) h = absurd (let e : rank_of q ≡ 0 = rw (eq-eqb q.m 0 z) in omega (arith, h, e))
rank_lt p q (inl y) (inr g) h = omega (arith, ap (λ (v : ℕ). v * 10 ^ p.x) y, mul-pos {m = q.m} {n = 10 ^ q.x} (omega (arith, g.least)) (pow_ten_pos q.x))
rank_lt p q (inr f) (inr g) h =
    let i : rank_of p ≡ p.x = rw (ne_eqb p.m 0 (omega (arith, f.least))) in
    let j : rank_of q ≡ q.x = rw (ne_eqb q.m 0 (omega (arith, g.least))) in
    lt_of_lt_of_le (small p.m p.x q.x f.most (omega (arith, h, i, j))) (mul-le-mul_right (10 ^ q.x) g.least)

module _ (p q : Number) (f : Working p) (g : Working q) where
  pub rank_order : (rank_of p ≡ rank_of q → ⊥) → ltb (rank_of p) (rank_of q) ≡ at_most_of p q
  rank_order d = cases (ltb (rank_of p) (rank_of q)) refl
    where
      cases : (b : Bool) → ltb (rank_of p) (rank_of q) ≡ b → b ≡ at_most_of p q
      cases true e = sym (le-leb (worth p) (worth q) (le_of_lt (rank_lt p q f g (ltb-true (rank_of p) (rank_of q) e))))
      cases false e = sym (lt-leb (worth p) (worth q) (rank_lt q p g f (let h = ltb-false (rank_of p) (rank_of q) e in omega (arith, d, h))))

  pub rank_same : 0 < p.x → 0 < q.x → rank_of p ≡ rank_of q → leb p.m q.m ≡ at_most_of p q
  rank_same k l e = cases f g
    where
      digits : p.x ≡ q.x → (b : Bool) → leb p.m q.m ≡ b → b ≡ at_most_of p q
      digits e true t = sym (le-leb (worth p) (worth q) (rw e (mul-le-mul_right (10 ^ q.x) (leb-true p.m q.m t))))
      digits e false t = sym (lt-leb (worth p) (worth q) (rw e (mul-lt-mul_of_pos_right (leb-false p.m q.m t) (pow_ten_pos q.x))))

      zero : (r : Number) → r.m ≡ 0 → rank_of r ≡ 0
      zero r z = rw (eq-eqb r.m 0 z)

      nine : (r : Number) → Nine r → rank_of r ≡ r.x
      nine r n = rw (ne_eqb r.m 0 (omega (arith, n.least)))

      cases : Working p → Working q → leb p.m q.m ≡ at_most_of p q
      cases (inl y) (inl z) = rw (y, z) (sym (le-leb (0 * 10 ^ p.x) (0 * 10 ^ q.x) (omega arith)))
      cases (inl y) (inr n) = absurd (omega (arith, zero p y, nine q n, e, l))
      cases (inr n) (inl z) = absurd (omega (arith, nine p n, zero q z, e, k))
      cases (inr n) (inr o) = digits (sym (nine p n) ∙ e ∙ nine q o) (leb p.m q.m) refl

  -- the pairs of rank and digits, compared in that order
  pub ranks_decide : 0 < p.x → 0 < q.x → cond (eqb (rank_of p) (rank_of q)) (leb p.m q.m) (ltb (rank_of p) (rank_of q)) ≡ at_most_of p q
  ranks_decide k l = cases (eqb (rank_of p) (rank_of q)) refl
    where
      cases : (b : Bool) → eqb (rank_of p) (rank_of q) ≡ b → cond b (leb p.m q.m) (ltb (rank_of p) (rank_of q)) ≡ at_most_of p q
      cases true e = rank_same k l (eqb-true (rank_of p) (rank_of q) e)
      cases false e = rank_order (eqb-false (rank_of p) (rank_of q) e)

-- what `<=` answers at two pairs of numbers
pub pair_order : (k a l b : ℕ) → partial_le {X = ℕ × ℕ} (λ x y. partial_ordering_then (Some (nat_cmp x.0 y.0)) (Some (nat_cmp x.1 y.1))) (k, a) (l, b) ≡ cond (eqb k l) (leb a b) (ltb k l)
pair_order k a l b = grind (arith, nat_tests)

-- ---- two working decimals of the same worth are the same
nine_same : (p q : Number) → Nine p → Nine q → worth p ≡ worth q → p ≡ q
nine_same p q f g e = ap (λ (x : ℕ). record { m = p.m; x = x }) x_same ∙ ap (λ (m : ℕ). record { m = m; x = q.x }) m_same
  where
    not_lt : {a b : ℕ} → (a < b → ⊥) → b ≤ a
    not_lt h = omega (arith, h)

    not_less : (p q : Number) → Nine p → Nine q → worth p ≡ worth q → q.x ≤ p.x
    not_less p q f g e = not_lt (λ h. let l = lt_of_lt_of_le (small p.m p.x q.x f.most h) (mul-le-mul_right (10 ^ q.x) g.least) in omega (arith, l, e))

    x_same : p.x ≡ q.x
    x_same = le_antisymm (not_less q p g f (sym e)) (not_less p q f g e)

    m_same : p.m ≡ q.m
    m_same = eq_of_mul-eq-mul_right (10 ^ q.x) (pow_ten_pos q.x) p.m q.m (ap (λ (x : ℕ). p.m * 10 ^ x) (sym x_same) ∙ e)

pub worth_same : (p q : Number) → Working p → Working q → worth p ≡ worth q → ((p.m ≡ 0) × (q.m ≡ 0)) ⊎ (p ≡ q)
worth_same p q (inl y) (inl z) e = inl (y, z)
worth_same p q (inl y) (inr g) e = absurd (positive q g (sym e ∙ ap (λ (m : ℕ). m * 10 ^ p.x) y))
  where
    positive : (q : Number) → Nine q → worth q ≡ 0 * 10 ^ p.x → ⊥
    positive q g e = let h = mul-pos {m = q.m} {n = 10 ^ q.x} (omega (arith, g.least)) (pow_ten_pos q.x) in omega (arith, h, e)
worth_same p q (inr f) (inl z) e = absurd (positive p f (e ∙ ap (λ (m : ℕ). m * 10 ^ q.x) z))
  where
    positive : (p : Number) → Nine p → worth p ≡ 0 * 10 ^ q.x → ⊥
    positive p f e = let h = mul-pos {m = p.m} {n = 10 ^ p.x} (omega (arith, f.least)) (pow_ten_pos p.x) in omega (arith, h, e)
worth_same p q (inr f) (inr g) e = inr (nine_same p q f g e)
