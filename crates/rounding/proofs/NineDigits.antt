-- The working form is worth the same, and has nine digits. Assumes nothing.
use mathlib.Core.Path.{◌≡◌, refl, sym, ap, ◌∙◌}
use mathlib.Core.Bool.{Bool, true, false, cond}
use Prim.Native.Nat.{ℕ, ◌+◌, ◌-◌, ◌*◌, ◌^◌, ◌≤◌, ◌<◌}
use native.Mathlib.Nat.{le_trans, mul-le-mul_right, mul-lt-mul_of_pos_right, le_of_mul-le-mul_right, mul_assoc, zero-mul, pow-le-pow_right}
use native.Mathlib.Decide.{dec_lt}
use native.Mathlib.Omega.{arith}
use lib.Pow.{pow-add}
use lib.Dec.{ltb, lit<, lit≤}
use borrow.Author.Tests.{ltb-true, ltb-false}
use Rattle.rounding.specs.declared.Number.{Number}
use Rattle.rounding.specs.Number.{worth, Nine}
use Rattle.rounding.specs.WorkingForm.{raise_by, nine_of, NineResult}
use Rattle.rounding.proofs.Greatest.{pow_ten_pos}

module _ (k : ℕ) (r : Number) where
  raise_worth : k ≤ r.x → worth (raise_by k r) ≡ worth r
  raise_worth h = cases (ltb (r.m * 10 ^ k) 1000000000)
    where
      moved : r.m * 10 ^ k * 10 ^ (r.x - k) ≡ r.m * 10 ^ r.x
      moved = mul_assoc r.m (10 ^ k) (10 ^ (r.x - k)) ∙ ap (λ (v : ℕ). r.m * v) (sym (pow-add 10 k (r.x - k)) ∙ ap (λ (v : ℕ). 10 ^ v) (omega (arith, h)))

      cases : (b : Bool) → worth (cond b (record { m = r.m * 10 ^ k; x = r.x - k }) r) ≡ worth r
      cases true = moved
      cases false = refl

  pub raise_bounds : r.m < 1000000000 → ((raise_by k r).m < 1000000000) × (r.x ≤ (raise_by k r).x + k) × ((raise_by k r).x ≤ r.x)
  raise_bounds h = cases (ltb (r.m * 10 ^ k) 1000000000) refl
    where
      cases : (b : Bool) → ltb (r.m * 10 ^ k) 1000000000 ≡ b →
          let q = cond b (record { m = r.m * 10 ^ k; x = r.x - k }) r in
          (q.m < 1000000000) × (r.x ≤ q.x + k) × (q.x ≤ r.x)
      cases true e = (ltb-true (r.m * 10 ^ k) 1000000000 e, omega arith, omega arith)
      cases false e = (h, omega arith, omega arith)

  raise_least : (a b : ℕ) → a ≤ r.m → b ≤ a * 10 ^ k → b * 10 ^ k ≤ 1000000000 → b ≤ (raise_by k r).m
  raise_least a b h p q = cases (ltb (r.m * 10 ^ k) 1000000000) refl
    where
      cases : (t : Bool) → ltb (r.m * 10 ^ k) 1000000000 ≡ t → b ≤ (cond t (record { m = r.m * 10 ^ k; x = r.x - k }) r).m
      cases true e = le_trans p (mul-le-mul_right (10 ^ k) h)
      cases false e = le_of_mul-le-mul_right {k = 10 ^ k} (le_trans q (ltb-false (r.m * 10 ^ k) 1000000000 e)) (pow_ten_pos k)

  raise_zero : r.m ≡ 0 → (raise_by k r).m ≡ 0
  raise_zero z = cases (ltb (r.m * 10 ^ k) 1000000000)
    where
      cases : (b : Bool) → (cond b (record { m = r.m * 10 ^ k; x = r.x - k }) r).m ≡ 0
      cases true = rw z (zero-mul (10 ^ k))
      cases false = z

module _ (r : Number) (h : r.m < 1000000000) where
  -- after 4, 4 and 2
  r₁ : Number
  r₁ = raise_by 4 r

  r₂ : Number
  r₂ = raise_by 4 r₁

  r₃ : Number
  r₃ = raise_by 2 r₂

  most₁ : r₁.m < 1000000000
  unfolding r₁
  most₁ = (raise_bounds 4 r h).0

  most₂ : r₂.m < 1000000000
  unfolding r₂
  most₂ = (raise_bounds 4 r₁ most₁).0

  most₃ : r₃.m < 1000000000
  unfolding r₃
  most₃ = (raise_bounds 2 r₂ most₂).0

  pub nine_result : NineResult r (nine_of r)
  unfolding nine_of r₁ r₂ r₃
  nine_result =
      let a = raise_bounds 4 r h in
      let b = raise_bounds 4 r₁ most₁ in
      let c = raise_bounds 2 r₂ most₂ in
      let d = raise_bounds 1 r₃ most₃ in
      record { most = d.0; low = omega (arith, a.1, b.1, c.1, d.1); high = omega (arith, a.2, b.2, c.2, d.2) }

  pub nine_nine : 0 < r.m → Nine (nine_of r)
  unfolding nine_of r₁ r₂ r₃
  nine_nine p = record {
    least =
        let a = raise_least 4 r 1 10000 p (lit≤ tt) (lit≤ tt) in
        let b = raise_least 4 r₁ 10000 100000 a (lit≤ tt) (lit≤ tt) in
        let c = raise_least 2 r₂ 100000 10000000 b (lit≤ tt) (lit≤ tt) in
        raise_least 1 r₃ 10000000 100000000 c (lit≤ tt) (lit≤ tt);
    most = (raise_bounds 1 r₃ most₃).0;
  }

  pub nine_worth : 11 ≤ r.x → worth (nine_of r) ≡ worth r
  unfolding nine_of r₁ r₂ r₃
  nine_worth l =
      let a = raise_bounds 4 r h in
      let b = raise_bounds 4 r₁ most₁ in
      let c = raise_bounds 2 r₂ most₂ in
      raise_worth 1 r₃ (omega (arith, a.1, b.1, c.1)) ∙ raise_worth 2 r₂ (omega (arith, a.1, b.1)) ∙ raise_worth 4 r₁ (omega (arith, a.1)) ∙ raise_worth 4 r (omega arith)

  pub nine_zero : r.m ≡ 0 → (nine_of r).m ≡ 0
  unfolding nine_of
  nine_zero z = raise_zero 1 _ (raise_zero 2 _ (raise_zero 4 _ (raise_zero 4 r z)))

-- nine digits of the same worth stand at most eight places lower
pub nine_low : (r : Number) → r.m < 1000000000 → 0 < r.m → 11 ≤ r.x → r.x ≤ (nine_of r).x + 8
nine_low r u p x = cases (dec_lt ((nine_of r).x + 8) r.x)
  where
    clash : (k m y z : ℕ) → k < 1000000000 → 0 < m → y + 9 ≤ z → k * 10 ^ y ≡ m * 10 ^ z → ⊥
    clash k m y z l g h e =
        let a = rw (pow-add 10 y 9) at (pow-le-pow_right {n = 10} (lit< tt) {i = y + 9} {j = z} h) in
        let b = mul-le-mul_right (10 ^ z) g in
        let c = mul-lt-mul_of_pos_right {k = 10 ^ y} l (pow_ten_pos y) in
        omega (arith, a, b, c, e)

    cases : Dec ((nine_of r).x + 8 < r.x) → r.x ≤ (nine_of r).x + 8
    cases (yes l) = absurd (clash (nine_of r).m r.m (nine_of r).x r.x (nine_result r u).most p (omega (arith, l)) (nine_worth r u x))
    cases (no n) = omega (arith, n)
