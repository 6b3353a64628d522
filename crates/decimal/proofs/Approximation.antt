-- A decimal that stands for a fraction: on the side dir of it, within k roundings, its exponent in the range w.
-- Products, quotients and sums of such decimals stand for the products, quotients and sums: of two, and of lists. Assumes nothing.
use mathlib.Core.Path.{◌≡◌, refl, sym, ap, subst, ◌∙◌}
use mathlib.Core.Bool.{Bool, true, false, cond}
use mathlib.Core.Logic.{inr}
use mathlib.Core.List.{List, [], ◌∷◌}
use Prim.Native.Nat.{ℕ, ◌+◌, ◌-◌, ◌*◌, ◌^◌, ◌≤◌, ◌<◌, suc}
use native.Mathlib.Nat.{mul-pos, zero-mul}
use native.Mathlib.Omega.{arith}
use lib.Dec.{eqb}
use lib.IntN.{ℤ}
use lib.ListN.{length}
use borrow.Author.Tests.{eqb-true, eqb-false, ne_eqb}
use Rattle.rounding.specs.declared.Direction.{Direction}
use Rattle.rounding.specs.declared.Number.{Number}
use Rattle.rounding.specs.Direction.{opposite}
use Rattle.rounding.specs.Within.{Directed}
use Rattle.rounding.specs.Number.{worth, one, Nine, InRange}
use Rattle.rounding.specs.Operations.{product_of, quotient_of, sum_of}
use Rattle.rounding.proofs.Distances.{opposed, directed_refl, directed_more, directed_trans, directed_mul, directed_scale, directed_cancel, directed_add, directed_is}
use Rattle.rounding.proofs.Greatest.{pow_ten_pos}
use Rattle.rounding.proofs.Near.{rounds_nine, rounds_near}
use Rattle.rounding.proofs.ExactResults.{one_pos, product_rounds, quotient_rounds, sum_rounds, sum_zero_right, sum_zero_left, sum_zero_both}
use Rattle.rounding.specs.WorkingForm.{nine_of}
use Rattle.rounding.proofs.NineDigits.{nine_nine, nine_zero, nine_low, nine_result}
use Rattle.rounding.proofs.Exponents.{product_result, quotient_result, sum_result}
use Rattle.decimal.specs.declared.Decimal.{Decimal}
use Rattle.decimal.specs.Exponent.{raise, raised}
use Rattle.decimal.specs.Range.{Range, ends, operand_range, product_range, quotient_range, joined_range, added_range, Covers}
use Rattle.decimal.specs.Decimal.{zero_of, biased_of, decimal_of, value_of, are_operands, mul_of, div_of, add_of, working_of}
use Rattle.decimal.specs.Fraction.{Fraction, given, times, over, plus}
use Rattle.decimal.specs.Lists.{multiplied, summed, added, times_all, plus_all}
use Rattle.decimal.proofs.Bias.{raised_bounds, lower_raised}
use Rattle.decimal.proofs.OperandFacts.{is_operand_lem}
use Rattle.decimal.proofs.Ranges.{covers, covers_self}
use Rattle.decimal.proofs.Laws.{Operable, operable_zero, decimal_zero, decimal_nine, biased_nine, mul_rounds, div_rounds, add_rounds, working_is, working_value}

-- ---- an operand that is not zero, with the range of its exponent
pub record Sized (w : Range) (d : Decimal) : Type 0 where
  pub nine : Nine (biased_of d)
  pub some : 0 < raised d.e
  pub low : 2992 ≤ raised d.e + w.below
  pub high : raised d.e ≤ 2992 + w.above

pub sized_operable : {w : Range} {d : Decimal} → Sized w d → Operable d
sized_operable {w} {d} s = record { tested = is_operand_lem (biased_of d) s.nine s.some }

pub sized_range : {w : Range} {d : Decimal} → Sized w d → InRange (biased_of d)
sized_range {w} {d} s = let b = raised_bounds d.e (λ h. let z : raised d.e ≡ 0 = h in omega (arith, s.some)) in record { most = s.nine.most; low = b.0; high = b.1 }

pub sized_most : {v w : Range} {d : Decimal} → Covers w v → Sized v d → Sized w d
sized_most h s = record { nine = s.nine; some = s.some; low = omega (arith, s.low, h.low); high = omega (arith, s.high, h.high) }

-- a number of nine digits, made a decimal
pub sized_of : (w : Range) (r : Number) → Nine r → 2992 ≤ r.x + w.below → r.x ≤ 2992 + w.above → Covers operand_range w → Sized w (decimal_of r)
sized_of w r n l u h =
    let e = biased_nine r n (record { most = n.most; low = omega (arith, h.low); high = omega (arith, h.high) }) in
    let x : raised (decimal_of r).e ≡ r.x = ap (λ (b : Number). b.x) e in
    record { nine = subst Nine (sym e) n; some = omega (arith, h.low); low = omega arith; high = omega arith }

worth_pos : (r : Number) → Nine r → 0 < worth r
worth_pos r n = mul-pos (omega (arith, n.least)) (pow_ten_pos r.x)

module _ (dir : Direction) {v w : Range} {a b : Decimal} (s : Sized v a) (t : Sized w b) where
  both : are_operands a b ≡ true
  both = rw (sized_operable s).tested (sized_operable t).tested

  mul_is : mul_of a b dir ≡ decimal_of (product_of dir (biased_of a) (biased_of b))
  unfolding mul_of
  mul_is = rw both

  div_is : div_of a b dir ≡ decimal_of (quotient_of dir (biased_of a) (biased_of b))
  unfolding div_of
  div_is = rw both

  add_is : add_of a b dir ≡ decimal_of (sum_of dir (biased_of a) (biased_of b))
  unfolding add_of
  add_is = rw both

  pub sized_mul : Covers operand_range (product_range v w) → Sized (product_range v w) (mul_of a b dir)
  sized_mul h =
      let p = biased_of a in
      let q = biased_of b in
      let e = product_result dir p q (sized_range s) (sized_range t) in
      let n = rounds_nine dir _ one _ (mul-pos (worth_pos p s.nine) (worth_pos q t.nine)) (product_rounds dir p q (sized_range s) (sized_range t) (inr s.nine) (inr t.nine)) in
      rw mul_is (sized_of (product_range v w) (product_of dir p q) n (omega (arith, e.low, s.low, t.low)) (omega (arith, e.high, s.high, t.high)) h)

  pub sized_div : Covers operand_range (quotient_range v w) → Sized (quotient_range v w) (div_of a b dir)
  sized_div h =
      let p = biased_of a in
      let q = biased_of b in
      let e = quotient_result dir p q (sized_range s) (sized_range t) in
      let n = rounds_nine dir _ (worth q) _ (mul-pos (worth_pos p s.nine) one_pos) (quotient_rounds dir p q (sized_range s) (sized_range t) (inr s.nine) t.nine) in
      rw div_is (sized_of (quotient_range v w) (quotient_of dir p q) n (omega (arith, e.low, s.low, t.high)) (omega (arith, e.high, s.high, t.low)) h)

  pub sized_add : Covers operand_range (added_range 1 v) → Covers v w → Sized (added_range 1 v) (add_of a b dir)
  sized_add h k =
      let p = biased_of a in
      let q = biased_of b in
      let e = sum_result dir p q (sized_range s) (sized_range t) in
      let n = rounds_nine dir _ 1 _ (sum_pos (worth q) (worth_pos p s.nine)) (sum_rounds dir p q (sized_range s) (sized_range t) (inr s.nine) (inr t.nine)) in
      rw add_is (sized_of (added_range 1 v) (sum_of dir p q) n (omega (arith, e.low, s.low, t.low, k.low)) (omega (arith, e.high, s.high, t.high, k.high)) h)
    where
      sum_pos : {x : ℕ} (y : ℕ) → 0 < x → 0 < x + y
      sum_pos y h = omega arith

-- ---- d stands for q
pub record Approx (dir : Direction) (k : ℕ) (w : Range) (d : Decimal) (q : Fraction) : Type 0 where
  pub sized : Sized w d
  pub top : 0 < q.top
  pub bottom : 0 < q.bottom
  pub near : Directed dir k (value_of d * q.bottom) (q.top * one)

directed_most : (dir : Direction) {j k a b : ℕ} → j ≤ k → Directed dir j a b → Directed dir k a b
directed_most dir {j} {k} {a} {b} h f = subst (λ (i : ℕ). Directed dir i a b) e (directed_more dir (k - j) f)
  where
    e : j + (k - j) ≡ k
    e = omega arith

pub approx_most : (dir : Direction) {j k : ℕ} {v w : Range} {d : Decimal} {q : Fraction} → j ≤ k → Covers w v → Approx dir j v d q → Approx dir k w d q
approx_most dir h l f = record { sized = sized_most l f.sized; top = f.top; bottom = f.bottom; near = directed_most dir h f.near }

-- the nearness of the results, over plain numbers
mul_near : (dir : Direction) (j k o a b c pt pb qt qb : ℕ) → 0 < o → Directed dir 1 (c * o) (a * b) → Directed dir j (a * pb) (pt * o) → Directed dir k (b * qb) (qt * o) →
    Directed dir (1 + (j + k)) (c * (pb * qb)) (pt * qt * o)
mul_near dir j k o a b c pt pb qt qb z h f g =
    directed_cancel dir o z
    (directed_trans dir
    (directed_is dir (directed_scale dir (pb * qb) h) (omega arith) refl)
    (directed_is dir (directed_mul dir f g) (omega arith) (omega arith)))

div_near : (dir : Direction) (j k o a b c pt pb qt qb : ℕ) → 0 < o → Directed dir 1 (c * b) (a * o) → Directed dir j (a * pb) (pt * o) → Directed (opposite dir) k (b * qb) (qt * o) →
    Directed dir (k + (1 + j)) (c * (pb * qt)) (pt * qb * o)
div_near dir j k o a b c pt pb qt qb z h f g =
    directed_cancel dir o z
    (directed_trans dir
    (directed_is dir (directed_scale dir (c * pb) (opposed dir g)) (omega arith) refl)
    (directed_trans dir
    (directed_is dir (directed_scale dir (pb * qb) h) (omega arith) refl)
    (directed_is dir (directed_scale dir (qb * o) f) (omega arith) (omega arith))))

add_near : (dir : Direction) (k o a b c pt pb qt qb : ℕ) → Directed dir 1 (c * 1) (a + b) → Directed dir k (a * pb) (pt * o) → Directed dir k (b * qb) (qt * o) →
    Directed dir (1 + k) (c * (pb * qb)) ((pt * qb + qt * pb) * o)
add_near dir k o a b c pt pb qt qb h f g =
    directed_trans dir
    (directed_is dir (directed_scale dir (pb * qb) h) (omega arith) refl)
    (directed_is dir (directed_add dir (directed_scale dir qb f) (directed_scale dir pb g)) (omega arith) (omega arith))

module _ (dir : Direction) {a b : Decimal} {p q : Fraction} {j k : ℕ} {v w : Range} where
  pub approx_mul : Approx dir j v a p → Approx dir k w b q → Covers operand_range (product_range v w) →
      Approx dir (1 + (j + k)) (product_range v w) (mul_of a b dir) (times p q)
  approx_mul f g h = record {
    sized = sized_mul dir f.sized g.sized h;
    top = mul-pos f.top g.top;
    bottom = mul-pos f.bottom g.bottom;
    near =
        mul_near dir j k one (value_of a) (value_of b) (value_of (mul_of a b dir)) p.top p.bottom q.top q.bottom one_pos
        (rounds_near (mul_rounds dir a b (sized_operable f.sized) (sized_operable g.sized))) f.near g.near;
  }

  pub approx_div : Approx dir j v a p → Approx (opposite dir) k w b q → Covers operand_range (quotient_range v w) →
      Approx dir (k + (1 + j)) (quotient_range v w) (div_of a b dir) (over p q)
  approx_div f g h = record {
    sized = sized_div dir f.sized g.sized h;
    top = mul-pos f.top g.bottom;
    bottom = mul-pos f.bottom g.top;
    near =
        div_near dir j k one (value_of a) (value_of b) (value_of (div_of a b dir)) p.top p.bottom q.top q.bottom one_pos
        (rounds_near (div_rounds dir a b (sized_operable f.sized) (sized_operable g.sized) (omega (arith, g.sized.nine.least)))) f.near g.near;
  }

module _ (dir : Direction) {a b : Decimal} {p q : Fraction} {k : ℕ} {w : Range} where
  pub approx_add : Approx dir k w a p → Approx dir k w b q → Covers operand_range (added_range 1 w) →
      Approx dir (1 + k) (added_range 1 w) (add_of a b dir) (plus p q)
  approx_add f g h = record {
    sized = sized_add dir f.sized g.sized h covers_self;
    top = omega (arith, mul-pos f.top g.bottom);
    bottom = mul-pos f.bottom g.bottom;
    near =
        add_near dir k one (value_of a) (value_of b) (value_of (add_of a b dir)) p.top p.bottom q.top q.bottom
        (rounds_near (add_rounds dir a b (sized_operable f.sized) (sized_operable g.sized))) f.near g.near;
  }

-- with one addition more the range still covers what it covered
pub more_covered : {w v : Range} → Covers v w → Covers (added_range 1 v) w
more_covered h = record { low = omega (arith, h.low); high = omega (arith, h.high) }

-- ---- d stands for q, which may be zero
pub data Fair (dir : Direction) (k : ℕ) (w : Range) (d : Decimal) (q : Fraction) : Type 0 where
  none : d ≡ zero_of → q.top ≡ 0 → 0 < q.bottom → Fair dir k w d q
  some : Approx dir k w d q → Fair dir k w d q

pub fair_most : (dir : Direction) {j k : ℕ} {v w : Range} {d : Decimal} {q : Fraction} → j ≤ k → Covers w v → Fair dir j v d q → Fair dir k w d q
fair_most dir h l (none e t b) = none e t b
fair_most dir h l (some f) = some (approx_most dir h l f)

pub fair_operable : {dir : Direction} {k : ℕ} {w : Range} {d : Decimal} {q : Fraction} → Fair dir k w d q → Operable d
fair_operable (none e t b) = subst Operable (sym e) operable_zero
fair_operable (some f) = sized_operable f.sized

-- the decimal is zero exactly when the fraction is
pub fair_zero : {dir : Direction} {k : ℕ} {w : Range} {d : Decimal} {q : Fraction} → Fair dir k w d q → eqb d.m 0 ≡ eqb q.top 0
fair_zero {dir} {k} {w} {d} {q} (none e t b) = rw (e, t)
fair_zero {dir} {k} {w} {d} {q} (some f) = ne_eqb d.m 0 (omega (arith, f.sized.nine.least)) ∙ sym (ne_eqb q.top 0 (omega (arith, f.top)))

pub fair_there : {dir : Direction} {k : ℕ} {w : Range} {d : Decimal} {q : Fraction} → Fair dir k w d q → eqb q.top 0 ≡ false → Approx dir k w d q
fair_there {dir} {k} {w} {d} {q} (none e t b) h = absurd (eqb-false q.top 0 h t)
fair_there (some f) h = f

right_near : (dir : Direction) (k o b pb qt qb : ℕ) → Directed dir k (b * qb) (qt * o) → Directed dir k (b * (pb * qb)) ((0 * qb + qt * pb) * o)
right_near dir k o b pb qt qb g = directed_is dir (directed_scale dir pb g) (omega arith) (omega arith)

left_near : (dir : Direction) (k o b pt pb qb : ℕ) → Directed dir k (b * pb) (pt * o) → Directed dir k (b * (pb * qb)) ((pt * qb + 0 * pb) * o)
left_near dir k o b pt pb qb g = directed_is dir (directed_scale dir qb g) (omega arith) (omega arith)

-- a decimal in range comes back from its number
pub sized_back : {w : Range} {d : Decimal} → Sized w d → decimal_of (biased_of d) ≡ d
sized_back {w} {d} s = decimal_nine (biased_of d) s.nine ∙ ap (λ (e : ℤ). record { m = d.m; e = e }) (lower_raised d.e s.some)

module _ (dir : Direction) {w : Range} {d : Decimal} (s : Sized w d) where
  pub add_zero_right : add_of d zero_of dir ≡ d
  unfolding add_of
  add_zero_right = rw ((sized_operable s).tested, operable_zero.tested, sum_zero_right dir (biased_of d) (biased_of zero_of) s.nine.most refl) (sized_back s)

  pub add_zero_left : add_of zero_of d dir ≡ d
  unfolding add_of
  add_zero_left = rw ((sized_operable s).tested, operable_zero.tested, sum_zero_left dir (biased_of zero_of) (biased_of d) refl s.nine s.some) (sized_back s)

pub add_zeros : (dir : Direction) → add_of zero_of zero_of dir ≡ zero_of
unfolding add_of
add_zeros dir = rw operable_zero.tested (decimal_zero (sum_of dir (biased_of zero_of) (biased_of zero_of)) (sum_zero_both dir (biased_of zero_of) (biased_of zero_of) refl refl))

module _ (dir : Direction) {a b : Decimal} {p q : Fraction} {k : ℕ} {w : Range} where
  fair_add : Covers operand_range (added_range 1 w) → Fair dir k w a p → Fair dir k w b q → Fair dir (1 + k) (added_range 1 w) (add_of a b dir) (plus p q)
  fair_add h (none e t n) (none f u m) = none (rw (e, f) (add_zeros dir)) (rw (t, u) (omega arith)) (mul-pos n m)
  fair_add h (none e t n) (some g) =
      fair_most dir {j = k} {v = w} (omega arith) (more_covered covers_self) (some (record {
        sized = rw (e, add_zero_left dir g.sized) g.sized;
        top = omega (arith, mul-pos g.top n);
        bottom = mul-pos n g.bottom;
        near = rw (e, add_zero_left dir g.sized, t) (right_near dir k one (value_of b) p.bottom q.top q.bottom g.near);
      }))
  fair_add h (some f) (none e t m) =
      fair_most dir {j = k} {v = w} (omega arith) (more_covered covers_self) (some (record {
        sized = rw (e, add_zero_right dir f.sized) f.sized;
        top = omega (arith, mul-pos f.top m);
        bottom = mul-pos f.bottom m;
        near = rw (e, add_zero_right dir f.sized, t) (left_near dir k one (value_of a) p.top p.bottom q.bottom f.near);
      }))
  fair_add h (some f) (some g) = some (approx_add dir f g h)

-- ---- a list of further factors: k roundings in all, and what they add to the range of what they are multiplied with
pub data Factors (dir : Direction) : ℕ → Range → List Decimal → List Fraction → Type 0 where
  end : Factors dir 0 (ends 0 0) [] []
  next : {j k : ℕ} {v w : Range} {d : Decimal} {q : Fraction} {ds : List Decimal} {qs : List Fraction} → Approx dir j v d q → Factors dir k w ds qs →
      Factors dir (1 + j + k) (product_range v w) (d ∷ ds) (q ∷ qs)

pub product_approx : (dir : Direction) {i l : ℕ} {u z : Range} {d : Decimal} {q : Fraction} {ds : List Decimal} {qs : List Fraction} →
    Covers operand_range (joined_range u z) → Approx dir i u d q → Factors dir l z ds qs → Approx dir (i + l) (joined_range u z) (multiplied dir d ds) (times_all q qs)
product_approx dir h f end = approx_most dir (omega arith) (record { low = omega arith; high = omega arith }) f
product_approx dir {i} {l} {u} {z} h f (next {j} {k} {v} {w} g gs) =
    approx_most dir {j = 1 + (i + j) + k} {v = joined_range (product_range u v) w} (omega arith) (record { low = omega arith; high = omega arith })
    (product_approx dir {i = 1 + (i + j)} {l = k} {u = product_range u v} {z = w} (record { low = omega (arith, h.low); high = omega (arith, h.high) })
    (approx_mul dir f g (record { low = omega (arith, h.low); high = omega (arith, h.high) })) gs)

-- ---- a list of summands, each within k roundings and the range w
pub data Summands (dir : Direction) (k : ℕ) (w : Range) : List Decimal → List Fraction → Type 0 where
  end : Summands dir k w [] []
  next : {d : Decimal} {q : Fraction} {ds : List Decimal} {qs : List Fraction} → Fair dir k w d q → Summands dir k w ds qs → Summands dir k w (d ∷ ds) (q ∷ qs)

-- the range of one addition, and of those after it, in the range of all of them
pub first_covered : (v : Range) (n : ℕ) → Covers operand_range (added_range (suc n) v) → Covers operand_range (added_range 1 v)
first_covered v n h = record { low = h.low; high = omega (arith, h.high) }

pub rest_covered : (v : Range) (n : ℕ) → Covers operand_range (added_range (suc n) v) → Covers operand_range (added_range n (added_range 1 v))
rest_covered v n h = record { low = h.low; high = omega (arith, h.high) }

all_covered : (v : Range) (n : ℕ) → Covers (added_range (suc n) v) (added_range n (added_range 1 v))
all_covered v n = record { low = omega arith; high = omega arith }

pub sum_fair : (dir : Direction) {k : ℕ} {w : Range} {j : ℕ} {v : Range} {a : Decimal} {p : Fraction} {bs : List Decimal} {ps : List Fraction} → k ≤ j → Covers v w →
    Covers operand_range (added_range (length bs) v) → Fair dir j v a p → Summands dir k w bs ps →
    Fair dir (j + length bs) (added_range (length bs) v) (added dir a bs) (plus_all p ps)
sum_fair dir h l u f end = fair_most dir (omega arith) (record { low = omega arith; high = omega arith }) f
sum_fair dir {k} {w} {j} {v} h l u f (next {d} {q} {ds} g gs) =
    fair_most dir {j = 1 + j + length ds} (omega arith) (all_covered v (length ds))
    (sum_fair dir {j = 1 + j} {v = added_range 1 v} (omega arith) (more_covered l) (rest_covered v (length ds) u)
    (fair_add dir (first_covered v (length ds) u) f (fair_most dir h l g)) gs)

-- the same where zeros are skipped
pub fair_skip : (dir : Direction) {a b : Decimal} {p q : Fraction} {k : ℕ} {w : Range} → Covers operand_range (added_range 1 w) → Fair dir k w a p → Fair dir k w b q →
    Fair dir (1 + k) (added_range 1 w) (cond (eqb b.m 0) a (add_of a b dir)) (plus p q)
fair_skip dir {a} {b} {p} {q} {k} {w} h f (none e t m) = rw e (fair_most dir {j = k} {v = w} (omega arith) (more_covered covers_self) (kept f))
  where
    kept : Fair dir k w a p → Fair dir k w a (plus p q)
    kept (none e u n) = none e (rw (u, t) (omega arith)) (mul-pos n m)
    kept (some g) = some (record {
      sized = g.sized;
      top = omega (arith, mul-pos g.top m);
      bottom = mul-pos g.bottom m;
      near = rw t (left_near dir k one (value_of a) p.top p.bottom q.bottom g.near);
    })
fair_skip dir {a} {b} h f (some g) = rw (ne_eqb b.m 0 (omega (arith, g.sized.nine.least))) (fair_add dir h f (some g))

pub skip_fair : (dir : Direction) {k : ℕ} {w : Range} {j : ℕ} {v : Range} {a : Decimal} {p : Fraction} {bs : List Decimal} {ps : List Fraction} → k ≤ j → Covers v w →
    Covers operand_range (added_range (length bs) v) → Fair dir j v a p → Summands dir k w bs ps →
    Fair dir (j + length bs) (added_range (length bs) v) (summed dir a bs) (plus_all p ps)
skip_fair dir h l u f end = fair_most dir (omega arith) (record { low = omega arith; high = omega arith }) f
skip_fair dir {k} {w} {j} {v} h l u f (next {d} {q} {ds} g gs) =
    fair_most dir {j = 1 + j + length ds} (omega arith) (all_covered v (length ds))
    (skip_fair dir {j = 1 + j} {v = added_range 1 v} (omega arith) (more_covered l) (rest_covered v (length ds) u)
    (fair_skip dir (first_covered v (length ds) u) f (fair_most dir h l g)) gs)

-- ---- a decimal is worth nothing exactly when its m is zero
pub given_zero : (d : Decimal) → eqb (given d).top 0 ≡ eqb d.m 0
unfolding given
given_zero d = cases (eqb d.m 0) refl
  where
    cases : (t : Bool) → eqb d.m 0 ≡ t → eqb (d.m * 10 ^ raise d.e) 0 ≡ t
    cases true e = rw (eqb-true d.m 0 e, zero-mul (10 ^ raise d.e))
    cases false e =
        let z = eqb-false d.m 0 e in
        let p = mul-pos {m = d.m} {n = 10 ^ raise d.e} (omega (arith, z)) (pow_ten_pos (raise d.e)) in
        ne_eqb (d.m * 10 ^ raise d.e) 0 (omega arith)

-- ---- an input decimal's working form stands for it, with no rounding: m below 10^9 and e from -20 to 20
pub working_fair : (dir : Direction) (d : Decimal) → d.m < 1000000000 → 2980 ≤ raised d.e → raised d.e ≤ 3020 → Fair dir 0 (ends 20 28) (working_of d) (given d)
unfolding given
working_fair dir d u l h = cases (eqb d.m 0) refl
  where
    is : working_of d ≡ decimal_of (nine_of (biased_of d))
    is = working_is d u (omega arith)

    cases : (t : Bool) → eqb d.m 0 ≡ t → Fair dir 0 (ends 20 28) (working_of d) (record { top = value_of d; bottom = one })
    cases true e =
        let z = eqb-true d.m 0 e in
        none (is ∙ decimal_zero (nine_of (biased_of d)) (nine_zero (biased_of d) u z)) (ap (λ (m : ℕ). m * 10 ^ raise d.e) z ∙ zero-mul (10 ^ raise d.e)) one_pos
    cases false e =
        let z = eqb-false d.m 0 e in
        let n = nine_nine (biased_of d) u (omega (arith, z)) in
        let r = nine_result (biased_of d) u in
        some (record {
          sized = rw is (sized_of (ends 20 28) (nine_of (biased_of d)) n (omega (arith, nine_low (biased_of d) u (omega (arith, z)) (omega arith))) (omega (arith, r.high)) (covers refl));
          top = mul-pos (omega (arith, z)) (pow_ten_pos (raise d.e));
          bottom = one_pos;
          near = rw (working_value d u (omega arith)) (directed_refl dir (value_of d * one));
        })
