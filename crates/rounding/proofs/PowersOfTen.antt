-- A power of ten from the binary digits of its exponent, 0 to 9, as `rounding::power` makes it. Assumes nothing.
use mathlib.Core.Path.{◌≡◌, refl}
use mathlib.Core.Bool.{Bool, true, false, cond, ◌&&◌, and-eq-true_iff}
use mathlib.Core.Logic.{◌⊎◌, inl, inr}
use Prim.Native.Nat.{ℕ, zero, suc, ◌*◌, ◌/◌, ◌%◌, ◌^◌, ◌≤◌, ◌<◌}
use native.Mathlib.Nat.{mul-le-mul, le_of_suc-le-suc, not-suc-le-zero, eq-or-lt_of_le}
use native.Mathlib.Omega.{arith}
use lib.Dec.{eqb}
use borrow.Author.Tests.{eqb-true}
use Rattle.rounding.specs.Sizes.{nine_digits, ten_digits}
use Rattle.rounding.proofs.Greatest.{pow_ten_pos}

-- ---- the factor that a binary digit of the exponent chooses: 10^j where it is 1, else 1
abbrev pub factor : ℕ → ℕ → ℕ
factor digit j = cond (eqb digit 1) (10 ^ j) 1

factor_most : (digit j : ℕ) → factor digit j ≤ 10 ^ j
factor_most digit j = cases (eqb digit 1)
  where
    cases : (t : Bool) → cond t (10 ^ j) 1 ≤ 10 ^ j
    cases true = omega arith
    cases false = pow_ten_pos j

abbrev power_of : ℕ → ℕ
power_of k = factor (k % 2) 1 * factor (k / 2 % 2) 2 * (factor (k / 4 % 2) 4 * factor (k / 8) 8)

-- ---- their product is the power: one test that antt computes for the ten exponents
-- the test passes at each number below n
abbrev all_below : ℕ → (ℕ → Bool) → Bool
all_below zero f = true
all_below (suc n) f = f n && all_below n f

last_or_below : (n : ℕ) (f : ℕ → Bool) (k : ℕ) → f n ≡ true → (k < n → f k ≡ true) → (k ≡ n) ⊎ (k < n) → f k ≡ true
last_or_below n f k last below (inl s) = rw s last
last_or_below n f k last below (inr s) = below s

at_below : (n : ℕ) (f : ℕ → Bool) → all_below n f ≡ true → (k : ℕ) → k < n → f k ≡ true
at_below zero f h k l = absurd (not-suc-le-zero l)
at_below (suc n) f h k l =
    let both = (and-eq-true_iff (f n) (all_below n f)).0 h in
    last_or_below n f k both.0 (λ s. at_below n f both.1 k s) (eq-or-lt_of_le (le_of_suc-le-suc l))

power_is : (k : ℕ) → k ≤ 9 → power_of k ≡ 10 ^ k
power_is k h = eqb-true (power_of k) (10 ^ k) (at_below 10 (λ k. eqb (power_of k) (10 ^ k)) refl k (omega arith))

-- ---- the two powers that products and quotients are scaled by
pub nine_digits_lem : nine_digits ≡ 10 ^ 8
nine_digits_lem = refl

pub ten_digits_lem : ten_digits ≡ 10 ^ 9
ten_digits_lem = refl

-- ---- what is known of the four chosen factors: their products fit, and the last is the power
pub record Chosen (k a b c d : ℕ) : Type 0 where
  pub low : a * b ≤ 1000
  pub high : c * d ≤ 1000000000000
  pub all : a * b * (c * d) ≤ 1000000000000000
  pub power : a * b * (c * d) ≡ 10 ^ k

pub chosen : (k : ℕ) → k ≤ 9 → {a b c d : ℕ} → a ≡ factor (k % 2) 1 → b ≡ factor (k / 2 % 2) 2 → c ≡ factor (k / 4 % 2) 4 → d ≡ factor (k / 8) 8 → Chosen k a b c d
chosen k most {a} {b} {c} {d} e f g h =
    let p : a ≤ 10 ^ 1 = rw e (factor_most (k % 2) 1) in
    let q : b ≤ 10 ^ 2 = rw f (factor_most (k / 2 % 2) 2) in
    let r : c ≤ 10 ^ 4 = rw g (factor_most (k / 4 % 2) 4) in
    let s : d ≤ 10 ^ 8 = rw h (factor_most (k / 8) 8) in
    record { low = mul-le-mul p q; high = mul-le-mul r s; all = mul-le-mul (mul-le-mul p q) (mul-le-mul r s); power = rw (e, f, g, h) (power_is k most) }
