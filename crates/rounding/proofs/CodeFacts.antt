-- What the code of the operations needs: sizes that keep every sum and product inside 64 bits, and the shorter forms it computes. Assumes nothing.
use mathlib.Core.Path.{◌≡◌, refl, sym, ap, ◌∙◌}
use mathlib.Core.Bool.{Bool, true, false, cond}
use Prim.Native.Nat.{ℕ, ◌+◌, ◌*◌, ◌^◌, ◌≤◌, ◌<◌}
use native.Mathlib.Nat.{pow-le-pow_right, lt_of_lt_of_le}
use native.Mathlib.Omega.{arith}
use lib.Dec.{ltb, leb, lit<, lit≤}
use borrow.Author.Tests.{ltb-true, ltb-false, leb-true, leb-false}
use Rattle.rounding.specs.declared.Direction.{Direction}
use Rattle.rounding.specs.declared.Number.{Number}
use Rattle.rounding.specs.Number.{InRange, rank_of, Result, SumResult}
use Rattle.rounding.specs.Round.{divide_of, cut_of, round_of}
use Rattle.rounding.specs.Operations.{dividend_of, divisor_of, gap_of, aligned_of, sum_of}
use Rattle.rounding.proofs.WholeQuotients.{divide_beside, divide_small}
use Rattle.rounding.proofs.Greatest.{pow_ten_pos}

-- ---- the shorter quotient is picked field by field
pub cut_is : (dir : Direction) (q x : ℕ) {tenth m y : ℕ} → tenth ≡ divide_of dir q 10 → m ≡ cond (ltb q 1000000000) q tenth → y ≡ cond (ltb q 1000000000) x (x + 1) →
    record { m = m; x = y } ≡ cut_of dir q x
unfolding cut_of
cut_is dir q x {tenth} {m} {y} e = cases (ltb q 1000000000)
  where
    cases : (b : Bool) → m ≡ cond b q tenth → y ≡ cond b x (x + 1) → ◌≡◌ {A = Number} (record { m = m; x = y }) (cond b (record { m = q; x = x }) (record { m = divide_of dir q 10; x = x + 1 }))
    cases true f g = rw (f, g) refl
    cases false f g = rw (f, g, e) refl

pub power_most : (k j : ℕ) → k ≤ j → 10 ^ k ≤ 10 ^ j
power_most k j h = pow-le-pow_right {n = 10} (lit< tt) {i = k} {j = j} h

-- ---- the two sides of a division
pub record Sizes (n d : ℕ) : Type 0 where
  pub some : 0 < d
  pub most : n ≤ 9999999990 * d
  pub fits : n + d ≤ 18446744073709551615

pub quotient_sizes : (p q : Number) → InRange p → InRange q → Sizes (dividend_of p q) (divisor_of q)
quotient_sizes p q a b = cases (leb 100000000 q.m) refl
  where
    cases : (t : Bool) → leb 100000000 q.m ≡ t → Sizes (cond t (p.m * 1000000000) 0) (cond t q.m 1)
    cases true e = let h = leb-true 100000000 q.m e in record { some = omega arith; most = omega (arith, a.most); fits = omega (arith, a.most, b.most) }
    cases false e = record { some = lit< tt; most = lit≤ tt; fits = lit≤ tt }

-- ---- the gap between two exponents, cut at nine places
abbrev pub places_of : ℕ → ℕ
places_of g = cond (ltb g 9) g 9

pub places_most : (g : ℕ) → places_of g ≤ 9
places_most g = cases (ltb g 9) refl
  where
    cases : (t : Bool) → ltb g 9 ≡ t → cond t g 9 ≤ 9
    cases true e = omega (arith, ltb-true g 9 e)
    cases false e = lit≤ tt

places_same : (dir : Direction) (n g : ℕ) → n < 1000000000 → divide_of dir n (10 ^ places_of g) ≡ divide_of dir n (10 ^ g)
places_same dir n g h = cases (ltb g 9) refl
  where
    cases : (t : Bool) → ltb g 9 ≡ t → divide_of dir n (10 ^ cond t g 9) ≡ divide_of dir n (10 ^ g)
    cases true e = refl
    cases false e = divide_small dir n 1000000000 (10 ^ g) h (lt_of_lt_of_le h (power_most 9 g (ltb-false g 9 e)))

pub aligned_is : (dir : Direction) (p q : Number) → q.m < 1000000000 → cut_of dir (p.m + divide_of dir q.m (10 ^ places_of (gap_of p q))) p.x ≡ aligned_of dir p q
unfolding aligned_of round_of
aligned_is dir p q h =
    ap (λ (v : ℕ). cut_of dir v p.x)
    (ap (λ (v : ℕ). p.m + v) (places_same dir q.m (gap_of p q) h) ∙ sym (divide_beside q.m (10 ^ gap_of p q) (pow_ten_pos (gap_of p q)) dir p.m))

-- ---- whether the first of two summands comes first in the sum
abbrev pub comes_first : Number → Number → Bool
comes_first p q = leb (rank_of q) (rank_of p)

pub picked_first : (p q v w : Number) {k l : ℕ} {r : Number} → l ≡ rank_of q → k ≡ rank_of p → r ≡ cond (leb l k) v w → r ≡ cond (comes_first p q) v w
picked_first p q v w e f h = h ∙ rw (e, f)

-- ---- the summand that comes first, and the other
module _ (p q : Number) (a : InRange p) (b : InRange q) where
  abbrev Ordered : Number → Number → Type 0
  Ordered r s = InRange r × (InRange s × (rank_of s ≤ rank_of r))

  pub ordered : {g s : Number} → g ≡ cond (comes_first p q) p q → s ≡ cond (comes_first p q) q p → Ordered g s
  ordered {g} {s} = cases (comes_first p q) refl
    where
      cases : (t : Bool) → comes_first p q ≡ t → g ≡ cond t p q → s ≡ cond t q p → Ordered g s
      cases true n e f = rw (e, f) (a, (b, leb-true (rank_of q) (rank_of p) n))
      cases false n e f = rw (e, f) (b, (a, omega (arith, leb-false (rank_of q) (rank_of p) n)))

  abbrev AlignedTo : Direction → Number → Number → Number → Type 0
  AlignedTo dir g s r = (r ≡ aligned_of dir g s) × Result g.x r

  pub ordered_sum : (dir : Direction) {g s r : Number} → g ≡ cond (comes_first p q) p q → s ≡ cond (comes_first p q) q p → AlignedTo dir g s r → (r ≡ sum_of dir p q) × SumResult p q r
  unfolding sum_of
  ordered_sum dir {g} {s} {r} = cases (comes_first p q)
    where
      cases : (t : Bool) → g ≡ cond t p q → s ≡ cond t q p → AlignedTo dir g s r → (r ≡ cond t (aligned_of dir p q) (aligned_of dir q p)) × SumResult p q r
      cases true e f h = let k : g.x ≡ p.x = ap (λ (v : Number). v.x) e in (cc, record { most = h.1.most; low = omega (arith, h.1.low); high = omega (arith, h.1.high) })
      cases false e f h = let k : g.x ≡ q.x = ap (λ (v : Number). v.x) e in (cc, record { most = h.1.most; low = omega (arith, h.1.low); high = omega (arith, h.1.high) })
