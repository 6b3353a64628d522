-- The rounded number is the greatest working decimal not above the fraction, or the least not below it;
-- it is the only one, and a larger fraction is not rounded to less. Assumes nothing.
use mathlib.Core.Path.{◌≡◌, refl, sym, ap, subst, subst⁻¹, ◌∙◌}
use mathlib.Core.Bool.{Bool, true, false, cond}
use mathlib.Core.Logic.{inl, inr}
use Prim.Native.Nat.{ℕ, ◌+◌, ◌-◌, ◌*◌, ◌^◌, ◌≤◌, ◌<◌}
use native.Mathlib.Nat.{mul_right_comm, mul_assoc, mul-one, zero-mul, mul-lt-mul_of_pos_right, le_refl, le_trans, le_antisymm, le_of_lt}
use native.Mathlib.Nat.{mul-le-mul_right, le_of_mul-le-mul_right, pow-le-pow_right, one-le-pow, pow-suc}
use native.Mathlib.Decide.{dec_lt}
use native.Mathlib.Omega.{arith}
use lib.Pow.{pow-add}
use lib.Dec.{ltb, lit<}
use borrow.Author.Tests.{ltb-true, ltb-false}
use Rattle.rounding.specs.declared.Direction.{Direction}
use Rattle.rounding.specs.declared.Direction.TheVariants.{Down, Up}
use Rattle.rounding.specs.declared.Number.{Number}
use Rattle.rounding.specs.Direction.{Side}
use Rattle.rounding.specs.Number.{worth, Nine, Working}
use Rattle.rounding.specs.Round.{Rounds, divide_of, cut_of, round_of}
use Rattle.rounding.proofs.WholeQuotients.{divide_side, divide_best, divide_least, divide_most, divide_divide, divide_zero, up_lt}

pub pow_ten_pos : (x : ℕ) → 0 < 10 ^ x
pow_ten_pos x = one-le-pow x 10 (lit< tt)

-- ---- sides
pub side_scale : (dir : Direction) {r v : ℕ} (z : ℕ) → Side dir r v → Side dir (r * z) (v * z)
side_scale Down z s = record { side = mul-le-mul_right z s.side }
side_scale Up z s = record { side = mul-le-mul_right z s.side }

pub side_cancel : (dir : Direction) {r v : ℕ} (z : ℕ) → 0 < z → Side dir (r * z) (v * z) → Side dir r v
side_cancel Down z h s = record { side = le_of_mul-le-mul_right s.side h }
side_cancel Up z h s = record { side = le_of_mul-le-mul_right s.side h }

-- a value beside one that is beside a third
pub side_trans : (dir : Direction) {a b c : ℕ} → Side dir a b → Side dir b c → Side dir a c
side_trans Down s t = record { side = le_trans s.side t.side }
side_trans Up s t = record { side = le_trans t.side s.side }

-- nine digits at a lower exponent are less
pub small : (k y x : ℕ) → k < 1000000000 → y < x → k * 10 ^ y < 100000000 * 10 ^ x
small k y x h l = omega (arith, mul_lt k (10 ^ y) h (pow_ten_pos y), rw pow-suc at (pow-le-pow_right {n = 10} (lit< tt) l))
  where
    mul_lt : (k p : ℕ) → k < 1000000000 → 0 < p → k * p < 1000000000 * p
    mul_lt k p h q = mul-lt-mul_of_pos_right h q

-- ---- n / d * 10^x, where n / d is at least 10^8: any number of nine digits that is worth the whole quotient
module _ (dir : Direction) (n d : ℕ) (h : 0 < d) (l : 100000000 * d ≤ n) where
  best_above : (x k j : ℕ) → Side dir (k * 10 ^ (x + j) * d) (n * 10 ^ x) → Side dir (k * 10 ^ (x + j)) (divide_of dir n d * 10 ^ x)
  best_above x k j s =
      subst (λ (v : ℕ). Side dir v (divide_of dir n d * 10 ^ x)) again
      (side_scale dir (10 ^ x) (divide_best n d h dir (k * 10 ^ j) (side_cancel dir (10 ^ x) (pow_ten_pos x) (subst (λ (v : ℕ). Side dir v (n * 10 ^ x)) moved s))))
    where
      again : k * 10 ^ j * 10 ^ x ≡ k * 10 ^ (x + j)
      again = rw (pow-add 10 x j) (omega arith)

      moved : k * 10 ^ (x + j) * d ≡ k * 10 ^ j * d * 10 ^ x
      moved = rw (pow-add 10 x j) (omega arith)

best_below : (dir : Direction) (n d x k y : ℕ) → 0 < d → 100000000 * d ≤ n → k < 1000000000 → y < x → Side dir (k * 10 ^ y * d) (n * 10 ^ x) → Side dir (k * 10 ^ y) (divide_of dir n d * 10 ^ x)
best_below Down n d x k y h l q p s = record { side = le_trans (le_of_lt (small k y x q p)) (mul-le-mul_right (10 ^ x) (divide_least n d h Down 100000000 l)) }
best_below Up n d x k y h l q p s = absurd (clash (mul-lt-mul_of_pos_right (small k y x q p) h) (mul-le-mul_right (10 ^ x) l) s.side)
  where
    clash : k * 10 ^ y * d < 100000000 * 10 ^ x * d → 100000000 * d * 10 ^ x ≤ n * 10 ^ x → n * 10 ^ x ≤ k * 10 ^ y * d → ⊥
    clash a b c = omega (arith, a, b, c)

module _ (dir : Direction) (n d : ℕ) (h : 0 < d) (l : 100000000 * d ≤ n) where
  best_nine : (x k y : ℕ) → k < 1000000000 → Dec (y < x) → Side dir (k * 10 ^ y * d) (n * 10 ^ x) → Side dir (k * 10 ^ y) (divide_of dir n d * 10 ^ x)
  best_nine x k y q (yes p) s = best_below dir n d x k y h l q p s
  best_nine x k y q (no p) s =
      subst (λ (v : ℕ). Side dir (k * 10 ^ v) (divide_of dir n d * 10 ^ x)) e
      (best_above dir n d h l x k (y - x) (subst⁻¹ (λ (v : ℕ). Side dir (k * 10 ^ v * d) (n * 10 ^ x)) e s))
    where
      e : x + (y - x) ≡ y
      e = omega (arith, p)

  -- a working decimal has at most nine digits, so zero needs no case of its own
  most : (w : Number) → Working w → w.m < 1000000000
  most w (inl z) = omega arith
  most w (inr g) = g.most

  rounds_at : (x : ℕ) (r : Number) → Nine r → worth r ≡ divide_of dir n d * 10 ^ x → Rounds dir (n * 10 ^ x) d r
  rounds_at x r g e = record {
    working = inr g;
    side = rw e (subst (λ (v : ℕ). Side dir v (n * 10 ^ x)) (mul_right_comm (divide_of dir n d) d (10 ^ x)) (side_scale dir (10 ^ x) (divide_side n d h dir)));
    best = λ w j f s. rw e (shifted j (w.m * 10 ^ w.x) (best_nine (x + j) w.m w.x (most w f) (dec_lt w.x (x + j)) (moved j (w.m * 10 ^ w.x * d) s)));
  }
    where
      moved : (j v : ℕ) → Side dir v (n * 10 ^ x * 10 ^ j) → Side dir v (n * 10 ^ (x + j))
      moved j v s = rw (pow-add 10 x j, ← (mul_assoc n (10 ^ x) (10 ^ j))) s

      shifted : (j v : ℕ) → Side dir v (divide_of dir n d * 10 ^ (x + j)) → Side dir v (divide_of dir n d * 10 ^ x * 10 ^ j)
      shifted j v s = rw (pow-add 10 x j, ← (mul_assoc (divide_of dir n d) (10 ^ x) (10 ^ j))) at s

-- ---- the same fraction written otherwise
module _ (dir : Direction) (n d n' d' : ℕ) (same : n * d' ≡ n' * d) where
  side_same : (r : ℕ) → 0 < d → Side dir (r * d) n → Side dir (r * d') n'
  side_same r h s = side_cancel dir d h (subst (λ (v : ℕ). Side dir (r * d' * d) v) same (subst (λ (v : ℕ). Side dir v (n * d')) (mul_right_comm r d d') (side_scale dir d' s)))

pub rounds_same : (dir : Direction) (n d n' d' : ℕ) (r : Number) → n * d' ≡ n' * d → 0 < d → 0 < d' → Rounds dir n d r → Rounds dir n' d' r
rounds_same dir n d n' d' r same h h' f = record {
  working = f.working;
  side = side_same dir n d n' d' same (worth r) h f.side;
  best = λ w j g s. f.best w j g (side_same dir (n' * 10 ^ j) d' (n * 10 ^ j) d (scaled (10 ^ j)) (worth w) h' s);
}
  where
    scaled : (p : ℕ) → n' * p * d ≡ n * p * d'
    scaled p = omega (arith, ap (λ (v : ℕ). v * p) same)

-- another working decimal of the same worth
pub rounds_worth : (dir : Direction) (n d : ℕ) (r r' : Number) → worth r' ≡ worth r → Working r' → Rounds dir n d r → Rounds dir n d r'
rounds_worth dir n d r r' e g f = record {
  working = g;
  side = rw e f.side;
  best = λ w j h s. rw e (f.best w j h s);
}

-- ---- the rounding of a fraction from 10^8 to 9,999,999,990. A quotient that is 10^9 after rounding up is 10^8 at the next exponent
module _ (dir : Direction) (n d x : ℕ) (h : 0 < d) (l : 100000000 * d ≤ n) (u : n ≤ 9999999990 * d) where
  abbrev q : ℕ
  q = divide_of dir n d

  q_least : 100000000 ≤ q
  q_least = divide_least n d h dir 100000000 l

  q_most : q ≤ 9999999990
  q_most = divide_most n d h dir 9999999990 u

  tenth_least : 1000000000 ≤ q → 100000000 ≤ divide_of dir q 10
  tenth_least g = divide_least q 10 (lit< tt) dir 100000000 (omega (arith, g))

  tenth_most : divide_of dir q 10 ≤ 999999999
  tenth_most = divide_most q 10 (lit< tt) dir 999999999 (omega (arith, q_most))

  ten : (m : ℕ) → m * 10 ^ (x + 1) ≡ m * 10 * 10 ^ x
  ten m = rw (pow-add 10 x 1) (omega arith)

  -- past 10^9 the fraction itself is above 10^9
  above : 1000000000 < q → 100000000 * (10 * d) ≤ n
  above g = omega (arith, over dir g)
    where
      over : (dir : Direction) → 1000000000 < divide_of dir n d → 1000000000 * d ≤ n
      over Down g = omega (arith, (divide_side n d h Down).side, mul-le-mul_right d g)
      over Up g = omega (arith, up_lt n d h, mul-le-mul_right d g)

  carried : 1000000000 ≡ q → worth (record { m = divide_of dir q 10; x = x + 1 }) ≡ q * 10 ^ x
  carried e = ap (λ (v : ℕ). divide_of dir v 10 * 10 ^ (x + 1)) (sym e) ∙ full dir ∙ ap (λ (v : ℕ). v * 10 ^ x) e
    where
      full : (dir : Direction) → divide_of dir 1000000000 10 * 10 ^ (x + 1) ≡ 1000000000 * 10 ^ x
      full Down = ten 100000000
      full Up = ten 100000000

  cut_cases : (b : Bool) → ltb q 1000000000 ≡ b → Rounds dir (n * 10 ^ x) d (cond b (record { m = q; x = x }) (record { m = divide_of dir q 10; x = x + 1 }))
  cut_cases true e = rounds_at dir n d h l x _ (record { least = q_least; most = ltb-true q 1000000000 e }) refl
  cut_cases false e = beyond (dec_lt 1000000000 q)
    where
      g : 1000000000 ≤ q
      g = ltb-false q 1000000000 e

      nine : Nine (record { m = divide_of dir q 10; x = x + 1 })
      nine = record { least = tenth_least g; most = omega (arith, tenth_most) }

      beyond : Dec (1000000000 < q) → Rounds dir (n * 10 ^ x) d (record { m = divide_of dir q 10; x = x + 1 })
      beyond (yes p) =
          rounds_same dir (n * 10 ^ (x + 1)) (10 * d) (n * 10 ^ x) d _ (rw (pow-add 10 x 1) (omega arith)) (omega (arith, h)) h
          (rounds_at dir n (10 * d) (omega (arith, h)) (above p) (x + 1) _ nine (ap (λ (v : ℕ). v * 10 ^ (x + 1)) (divide_divide n d h dir)))
      beyond (no p) = rounds_at dir n d h l x _ nine (carried (le_antisymm g (omega (arith, p))))

  pub round_rounds : Rounds dir (n * 10 ^ x) d (round_of dir n d x)
  unfolding round_of cut_of
  round_rounds = cut_cases (ltb q 1000000000) refl

-- ---- zero
pub zero_rounds : (dir : Direction) (n d : ℕ) (r : Number) → n ≡ 0 → r.m ≡ 0 → 0 < d → Rounds dir n d r
zero_rounds dir n d r z e h = record {
  working = inl e;
  side = both dir (worth r * d) n nothing z;
  best = λ w j f s. least dir (worth w) (n * 10 ^ j) (worth r * 10 ^ j) d h s (rw z (zero-mul (10 ^ j))) (rw e (omega arith));
}
  where
    nothing : worth r * d ≡ 0
    nothing = rw e (omega arith)

    both : (dir : Direction) (a b : ℕ) → a ≡ 0 → b ≡ 0 → Side dir a b
    both Down a b p q = record { side = omega arith }
    both Up a b p q = record { side = omega arith }

    least : (dir : Direction) (a b c d : ℕ) → 0 < d → Side dir (a * d) b → b ≡ 0 → c ≡ 0 → Side dir a c
    least Down a b c d h s p q = record { side = le_of_mul-le-mul_right {k = d} (omega (arith, s.side)) h }
    least Up a b c d h s p q = record { side = omega arith }

pub round_zero : (dir : Direction) (d x : ℕ) → 0 < d → round_of dir 0 d x ≡ record { m = 0; x = x }
unfolding round_of cut_of
round_zero dir d x h = rw (divide_zero dir d h)

-- ---- a larger fraction is not rounded to less, and so a fraction is rounded to one value only
pub rounds_mono : (dir : Direction) (n d n' d' : ℕ) (r r' : Number) → 0 < d → 0 < d' → n * d' ≤ n' * d → Rounds dir n d r → Rounds dir n' d' r' → worth r ≤ worth r'
rounds_mono Down n d n' d' r r' h h' l f g = rw mul-one at (g.best r 0 f.working (record { side = rw mul-one fits })).side
  where
    fits : worth r * d' ≤ n'
    fits = le_of_mul-le-mul_right {k = d} (omega (arith, mul-le-mul_right d' f.side.side, l)) h
rounds_mono Up n d n' d' r r' h h' l f g = rw mul-one at (f.best r' 0 g.working (record { side = rw mul-one fits })).side
  where
    fits : n ≤ worth r' * d
    fits = le_of_mul-le-mul_right {k = d'} (omega (arith, mul-le-mul_right d g.side.side, l)) h'

pub rounds_unique : (dir : Direction) (n d : ℕ) (r r' : Number) → 0 < d → Rounds dir n d r → Rounds dir n d r' → worth r ≡ worth r'
rounds_unique dir n d r r' h f g = le_antisymm (rounds_mono dir n d n d r r' h h (le_refl _) f g) (rounds_mono dir n d n d r' r h h (le_refl _) g f)
