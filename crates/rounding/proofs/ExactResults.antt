-- Each operation is the directed rounding of the exact result, zero included. Assumes nothing.
use mathlib.Core.Path.{◌≡◌, refl, sym, ap, ◌∙◌}
use mathlib.Core.Bool.{Bool, true, false, cond}
use mathlib.Core.Logic.{inl, inr}
use Prim.Native.Nat.{ℕ, ◌+◌, ◌-◌, ◌*◌, ◌^◌, ◌≤◌, ◌<◌}
use native.Mathlib.Nat.{mul-le-mul, mul-le-mul_right, mul-pos, zero-mul, mul-zero, add-zero, add_comm}
use native.Mathlib.Omega.{arith}
use lib.Pow.{pow-add}
use lib.Dec.{leb, lit<}
use borrow.Author.Tests.{eq-eqb, ne_eqb, le-leb, lt-leb, lt-ltb, leb-true, leb-false}
use Rattle.rounding.specs.declared.Direction.{Direction}
use Rattle.rounding.specs.declared.Number.{Number}
use Rattle.rounding.specs.Number.{worth, one, Nine, Working, InRange, rank_of}
use Rattle.rounding.specs.Round.{Rounds, divide_of, cut_of, round_of}
use Rattle.rounding.specs.Operations.{product_of, quotient_of, gap_of, aligned_of, sum_of}
use Rattle.rounding.proofs.WholeQuotients.{divide_beside, divide_zero}
use Rattle.rounding.proofs.Greatest.{pow_ten_pos, rounds_same, round_rounds, zero_rounds, round_zero}

pub one_pos : 0 < one
unfolding one
one_pos = pow_ten_pos 3000

one_8 : one ≡ 10 ^ 2992 * 100000000
unfolding one
one_8 = refl

one_9 : one ≡ 10 ^ 2991 * 1000000000
unfolding one
one_9 = refl

-- 10^i * 10^j = 10^k * 10^l
powers : (i j k l : ℕ) → i + j ≡ k + l → 10 ^ i * 10 ^ j ≡ 10 ^ k * 10 ^ l
powers i j k l e = sym (pow-add 10 i j) ∙ ap (λ (v : ℕ). 10 ^ v) e ∙ pow-add 10 k l

-- the fractions as they are rounded against the exact results
product_cross : (m n c p o s t : ℕ) → c * p ≡ s * t → o ≡ p * 100000000 → m * n * c * o ≡ m * s * (n * t) * 100000000
product_cross m n c p o s t e f = rw f (omega (arith, ap (λ (v : ℕ). m * n * v) e))

quotient_cross : (m n c p o s t : ℕ) → c * t ≡ s * p → o ≡ p * 1000000000 → m * 1000000000 * c * (n * t) ≡ m * s * o * n
quotient_cross m n c p o s t e f = rw f (omega (arith, ap (λ (v : ℕ). m * n * v) e))

sum_cross : (m n g s t : ℕ) → s ≡ t * g → (m * g + n) * s * 1 ≡ (m * s + n * t) * g
sum_cross m n g s t e = rw e (omega arith)

pub below : (a b : ℕ) → a < 1000000000 → b < 1000000000 → a * b ≤ 999999999 * 1000000000
below a b h k = omega (arith, mul-le-mul {n₁ = a} {m₁ = b} {n₂ = 999999999} {m₂ = 1000000000} (omega arith) (omega arith))

-- what is zero has no worth
pub worth_zero : (r : Number) → r.m ≡ 0 → worth r ≡ 0
worth_zero r e = rw e (zero-mul (10 ^ r.x))

-- a zero factor, or a zero dividend
pub product_zero : (dir : Direction) (p q : Number) → p.m * q.m ≡ 0 → (product_of dir p q).m ≡ 0
unfolding product_of
product_zero dir p q z = ap (λ (r : Number). r.m) (ap (λ (n : ℕ). round_of dir n 100000000 (p.x + q.x - 2992)) z ∙ round_zero dir 100000000 _ (lit< tt))

pub quotient_nothing : (dir : Direction) (p q : Number) → p.m ≡ 0 → (quotient_of dir p q).m ≡ 0
unfolding quotient_of
quotient_nothing dir p q z = cases (leb 100000000 q.m) refl
  where
    cases : (t : Bool) → leb 100000000 q.m ≡ t → (round_of dir (cond t (p.m * 1000000000) 0) (cond t q.m 1) (p.x + 2991 - q.x)).m ≡ 0
    cases true e = ap (λ (r : Number). r.m) (ap (λ (n : ℕ). round_of dir n q.m (p.x + 2991 - q.x)) (rw z (zero-mul 1000000000)) ∙ round_zero dir q.m _ (omega (arith, leb-true 100000000 q.m e)))
    cases false e = ap (λ (r : Number). r.m) (round_zero dir 1 (p.x + 2991 - q.x) (lit< tt))

module _ (dir : Direction) (p q : Number) (a : InRange p) (b : InRange q) where
  -- ---- the product
  nothing_times : p.m * q.m ≡ 0 → Rounds dir (worth p * worth q) one (product_of dir p q)
  nothing_times z = zero_rounds dir _ one _ (omega (arith, ap (λ (v : ℕ). v * (10 ^ p.x * 10 ^ q.x)) z)) (product_zero dir p q z) one_pos

  pub product_rounds : Working p → Working q → Rounds dir (worth p * worth q) one (product_of dir p q)
  unfolding product_of
  product_rounds (inl z) f = nothing_times (rw z (zero-mul q.m))
  product_rounds (inr f) (inl z) = nothing_times (rw z (mul-zero p.m))
  product_rounds (inr f) (inr g) =
      rounds_same dir (p.m * q.m * 10 ^ (p.x + q.x - 2992)) 100000000 (worth p * worth q) one _
      (product_cross p.m q.m _ (10 ^ 2992) one (10 ^ p.x) (10 ^ q.x) (powers (p.x + q.x - 2992) 2992 p.x q.x (omega (arith, a.low, b.low))) one_8) (lit< tt) one_pos
      (round_rounds dir (p.m * q.m) 100000000 (p.x + q.x - 2992) (lit< tt) (mul-le-mul f.least g.least) (omega (arith, below p.m q.m f.most g.most)))

  -- ---- the quotient
  pub quotient_zero : q.m ≡ 0 → (quotient_of dir p q).m ≡ 0
  unfolding quotient_of
  quotient_zero z = rw (lt-leb 100000000 q.m (omega (arith, z)), round_zero dir 1 (p.x + 2991 - q.x) (lit< tt))

  divided : Nine q → quotient_of dir p q ≡ round_of dir (p.m * 1000000000) q.m (p.x + 2991 - q.x)
  unfolding quotient_of
  divided g = rw (le-leb 100000000 q.m g.least)

  pub quotient_rounds : Working p → Nine q → Rounds dir (worth p * one) (worth q) (quotient_of dir p q)
  quotient_rounds (inl z) g =
      zero_rounds dir _ (worth q) _ (rw (worth_zero p z) (zero-mul one)) (quotient_nothing dir p q z) (mul-pos (omega (arith, g.least)) (pow_ten_pos q.x))
  quotient_rounds (inr f) g =
      let positive : 0 < q.m = omega (arith, g.least) in
      rw (divided g)
      (rounds_same dir (p.m * 1000000000 * 10 ^ (p.x + 2991 - q.x)) q.m (worth p * one) (worth q) _
      (quotient_cross p.m q.m _ (10 ^ 2991) one (10 ^ p.x) (10 ^ q.x) (powers (p.x + 2991 - q.x) q.x p.x 2991 (omega (arith, a.low, b.high))) one_9) positive (mul-pos positive (pow_ten_pos q.x))
      (round_rounds dir (p.m * 1000000000) q.m (p.x + 2991 - q.x) positive (omega (arith, f.least, g.most)) (omega (arith, f.most, g.least))))

-- ---- the sum
pub rank_zero : (r : Number) → r.m ≡ 0 → rank_of r ≡ 0
rank_zero r z = rw (eq-eqb r.m 0 z)

pub rank_nine : (r : Number) → Nine r → rank_of r ≡ r.x
rank_nine r g = rw (ne_eqb r.m 0 (omega (arith, g.least)))

module _ (dir : Direction) (p q : Number) where
  -- a summand of nine digits with one that does not come after it
  aligned_nine : Nine p → q.m < 1000000000 → q.m * 10 ^ p.x ≡ worth q * 10 ^ gap_of p q → Rounds dir (worth p + worth q) 1 (aligned_of dir p q)
  unfolding aligned_of
  aligned_nine f u e =
      let g = gap_of p q in
      rounds_same dir ((p.m * 10 ^ g + q.m) * 10 ^ p.x) (10 ^ g) (worth p + worth q) 1 _
      (cross (10 ^ g) (10 ^ p.x) e) (pow_ten_pos g) (lit< tt)
      (round_rounds dir (p.m * 10 ^ g + q.m) (10 ^ g) p.x (pow_ten_pos g)
      (omega (arith, mul-le-mul_right (10 ^ g) f.least))
      (most (10 ^ g) (pow_ten_pos g)))
    where
      cross : (g s : ℕ) → q.m * s ≡ worth q * g → (p.m * g + q.m) * s * 1 ≡ (p.m * s + worth q) * g
      cross g s e = omega (arith, e)

      most : (g : ℕ) → 0 < g → p.m * g + q.m ≤ 9999999990 * g
      most g h = omega (arith, mul-le-mul_right g f.most, u, mul-le-mul_right 1000000000 h)

  zero_summand : q.m ≡ 0 → (g : ℕ) → q.m * 10 ^ p.x ≡ worth q * 10 ^ g
  zero_summand z g = rw (z, zero-mul (10 ^ p.x), zero-mul (10 ^ q.x)) (sym (zero-mul (10 ^ g)))

  nine_summand : Nine p → Nine q → rank_of q ≤ rank_of p → q.m * 10 ^ p.x ≡ worth q * 10 ^ gap_of p q
  nine_summand f g h = rw (rank_nine p f, rank_nine q g) (ap (λ (v : ℕ). q.m * v) (ap (λ (v : ℕ). 10 ^ v) e ∙ pow-add 10 q.x (p.x - q.x)) ∙ grouped q.m (10 ^ q.x) (10 ^ (p.x - q.x)))
    where
      e : p.x ≡ q.x + (p.x - q.x)
      e = let i = rank_nine p f in let j = rank_nine q g in omega arith

      grouped : (a b c : ℕ) → a * (b * c) ≡ a * b * c
      grouped a b c = omega arith

  -- both zero
  aligned_zero : p.m ≡ 0 → q.m ≡ 0 → Rounds dir (worth p + worth q) 1 (aligned_of dir p q)
  unfolding aligned_of
  aligned_zero y z =
      zero_rounds dir _ 1 _ (rw (worth_zero p y, worth_zero q z) (add-zero 0))
      (ap (λ (r : Number). r.m) (ap (λ (n : ℕ). round_of dir n (10 ^ gap_of p q) p.x) (none p.m q.m (10 ^ gap_of p q) y z) ∙ round_zero dir (10 ^ gap_of p q) p.x (pow_ten_pos (gap_of p q)))) (lit< tt)
    where
      none : (m n g : ℕ) → m ≡ 0 → n ≡ 0 → m * g + n ≡ 0
      none m n g y z = omega (arith, ap (λ (v : ℕ). v * g) y)

  pub aligned_rounds : Working p → Working q → (0 < q.x) → rank_of q ≤ rank_of p → Rounds dir (worth p + worth q) 1 (aligned_of dir p q)
  aligned_rounds (inl y) (inl z) o h = aligned_zero y z
  aligned_rounds (inl y) (inr g) o h = absurd (let i = rank_zero p y in let j = rank_nine q g in omega (arith, i, j, h))
  aligned_rounds (inr f) (inl z) o h = aligned_nine f (omega (arith, z)) (zero_summand z (gap_of p q))
  aligned_rounds (inr f) (inr g) o h = aligned_nine f g.most (nine_summand f g h)

pub sum_rounds : (dir : Direction) (p q : Number) → InRange p → InRange q → Working p → Working q → Rounds dir (worth p + worth q) 1 (sum_of dir p q)
unfolding sum_of
sum_rounds dir p q a b f g = cases (leb (rank_of q) (rank_of p)) refl
  where
    cases : (t : Bool) → leb (rank_of q) (rank_of p) ≡ t → Rounds dir (worth p + worth q) 1 (cond t (aligned_of dir p q) (aligned_of dir q p))
    cases true e = aligned_rounds dir p q f g (omega (arith, b.low)) (leb-true (rank_of q) (rank_of p) e)
    cases false e = rw (add_comm (worth p) (worth q)) (aligned_rounds dir q p g f (omega (arith, a.low)) (omega (arith, leb-false (rank_of q) (rank_of p) e)))

-- ---- zero and another number: the other number
aligned_alone : (dir : Direction) (p q : Number) → p.m < 1000000000 → q.m ≡ 0 → aligned_of dir p q ≡ p
unfolding aligned_of round_of cut_of
aligned_alone dir p q f z = rw (quotient, lt-ltb p.m 1000000000 f)
  where
    quotient : divide_of dir (p.m * 10 ^ gap_of p q + q.m) (10 ^ gap_of p q) ≡ p.m
    quotient =
        divide_beside q.m (10 ^ gap_of p q) (pow_ten_pos (gap_of p q)) dir p.m ∙ ap (λ (v : ℕ). p.m + divide_of dir v (10 ^ gap_of p q)) z ∙
        ap (λ (v : ℕ). p.m + v) (divide_zero dir (10 ^ gap_of p q) (pow_ten_pos (gap_of p q))) ∙ add-zero p.m

pub sum_zero_right : (dir : Direction) (p q : Number) → p.m < 1000000000 → q.m ≡ 0 → sum_of dir p q ≡ p
unfolding sum_of
sum_zero_right dir p q f z =
    ap (λ (t : Bool). cond t (aligned_of dir p q) (aligned_of dir q p)) (le-leb (rank_of q) (rank_of p) (let e = rank_zero q z in omega (arith, e))) ∙
    aligned_alone dir p q f z

pub sum_zero_left : (dir : Direction) (p q : Number) → p.m ≡ 0 → Nine q → 0 < q.x → sum_of dir p q ≡ q
unfolding sum_of
sum_zero_left dir p q z g h =
    ap (λ (t : Bool). cond t (aligned_of dir p q) (aligned_of dir q p))
    (lt-leb (rank_of q) (rank_of p) (let e = rank_zero p z in let f = rank_nine q g in omega (arith, e, f))) ∙
    aligned_alone dir q p g.most z

pub sum_zero_both : (dir : Direction) (p q : Number) → p.m ≡ 0 → q.m ≡ 0 → (sum_of dir p q).m ≡ 0
unfolding sum_of aligned_of
sum_zero_both dir p q y z =
    ap (λ (t : Bool). (cond t (aligned_of dir p q) (aligned_of dir q p)).m) (le-leb (rank_of q) (rank_of p) (let e = rank_zero q z in omega (arith, e))) ∙
    ap (λ (r : Number). r.m) (ap (λ (n : ℕ). round_of dir n (10 ^ gap_of p q) p.x) (none p.m q.m (10 ^ gap_of p q) y z) ∙ round_zero dir (10 ^ gap_of p q) p.x (pow_ten_pos (gap_of p q)))
  where
    none : (m n g : ℕ) → m ≡ 0 → n ≡ 0 → m * g + n ≡ 0
    none m n g y z = omega (arith, ap (λ (v : ℕ). v * g) y)
