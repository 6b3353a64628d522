-- Whole quotients rounded in a direction: the greatest not above, the least not below. Assumes nothing.
use mathlib.Core.Path.{◌≡◌, sym, ap, ◌∙◌}
use mathlib.Core.Logic.{⊎_elim}
use Prim.Native.Nat.{ℕ, ◌+◌, ◌-◌, ◌*◌, ◌/◌, ◌≤◌, ◌<◌}
use native.Mathlib.Nat.{add-zero, add_comm, le_of_mul-le-mul_right, lt_of_mul-lt-mul_right, div-add-mod', mod-lt, le-div_iff_mul-le}
use native.Mathlib.Nat.{add-mul-div_right, div-div-eq-div-mul, mul_comm, div-eq_of_lt, div-eq_of_lt-le, eq-zero-or-pos}
use native.Mathlib.Omega.{arith}
use Rattle.rounding.specs.declared.Direction.{Direction}
use Rattle.rounding.specs.declared.Direction.TheVariants.{Down, Up}
use Rattle.rounding.specs.Direction.{Side}
use Rattle.rounding.specs.Round.{extra_of, divide_of}

module _ (n d : ℕ) (h : 0 < d) where
  pub divide_side : (dir : Direction) → Side dir (divide_of dir n d * d) n
  divide_side Down = record { side = omega (arith, div-add-mod' (n + 0) d) }
  divide_side Up = record { side = omega (arith, div-add-mod' (n + (d - 1)) d, mod-lt (n + (d - 1)) h) }

  -- less than one divisor away
  pub up_lt : divide_of Up n d * d < n + d
  up_lt = omega (arith, div-add-mod' (n + (d - 1)) d)

  pub divide_best : (dir : Direction) (k : ℕ) → Side dir (k * d) n → Side dir k (divide_of dir n d)
  divide_best Down k s = record { side = (le-div_iff_mul-le h).1 (omega (arith, s.side)) }
  divide_best Up k s = record { side = below (lt_of_mul-lt-mul_right d {m = divide_of Up n d} {n = k + 1} (omega (arith, up_lt, s.side))) }
    where
      below : divide_of Up n d < k + 1 → divide_of Up n d ≤ k
      below l = omega (arith, l)

  -- bounds of the quotient by whole numbers
  pub divide_least : (dir : Direction) (c : ℕ) → c * d ≤ n → c ≤ divide_of dir n d
  divide_least dir c l = (le-div_iff_mul-le h).1 (omega (arith, l))

  pub divide_most : (dir : Direction) (c : ℕ) → n ≤ c * d → divide_of dir n d ≤ c
  divide_most Down c l = le_of_mul-le-mul_right {k = d} (omega (arith, l, div-add-mod' (n + 0) d)) h
  divide_most Up c l = (divide_best Up c (record { side = l })).side

  -- a quotient divided again
  pub divide_divide : (dir : Direction) → divide_of dir (divide_of dir n d) 10 ≡ divide_of dir n (10 * d)
  divide_divide Down = rw (add-zero, add-zero, div-div-eq-div-mul, mul_comm d 10)
  divide_divide Up =
      ap (λ (v : ℕ). v / 10) (sym (add-mul-div_right (n + (d - 1)) 9 h)) ∙ div-div-eq-div-mul (n + (d - 1) + 9 * d) d 10 ∙ ap (λ (v : ℕ). v / (d * 10)) lines ∙
      ap (λ (v : ℕ). (n + (10 * d - 1)) / v) (mul_comm d 10)
    where
      lines : n + (d - 1) + 9 * d ≡ n + (10 * d - 1)
      lines = omega arith

  -- a whole number beside the fraction
  pub divide_beside : (dir : Direction) (m : ℕ) → divide_of dir (m * d + n) d ≡ m + divide_of dir n d
  divide_beside dir m = ap (λ (v : ℕ). v / d) turned ∙ add-mul-div_right (n + extra_of dir d) m h ∙ add_comm _ _
    where
      turned : m * d + n + extra_of dir d ≡ n + extra_of dir d + m * d
      turned = omega arith

-- nothing divided is nothing
pub divide_zero : (dir : Direction) (d : ℕ) → 0 < d → divide_of dir 0 d ≡ 0
divide_zero Down d h = div-eq_of_lt (omega arith)
divide_zero Up d h = div-eq_of_lt (omega arith)

-- a number over a greater one: how much greater does not matter
pub divide_small : (dir : Direction) (n d e : ℕ) → n < d → n < e → divide_of dir n d ≡ divide_of dir n e
divide_small Down n d e h k = div-eq_of_lt {n = n + 0} {m = d} (omega arith) ∙ sym (div-eq_of_lt {n = n + 0} {m = e} (omega arith))
divide_small Up n d e h k = ⊎_elim (λ z. none d h z ∙ sym (none e k z)) (λ p. one d h p ∙ sym (one e k p)) (eq-zero-or-pos n)
  where
    none : (d : ℕ) → n < d → n ≡ 0 → (n + (d - 1)) / d ≡ 0
    none d h z = div-eq_of_lt (omega arith)

    one : (d : ℕ) → n < d → 0 < n → (n + (d - 1)) / d ≡ 1
    one d h p = div-eq_of_lt-le {k = 1} d (omega arith) (omega arith)
