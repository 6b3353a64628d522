-- Signed exponents against e + 3000: all that is known of ℤ in the crate. Assumes nothing.
use mathlib.Core.Path.{◌≡◌, refl, sym, ap, ◌∙◌}
use mathlib.Core.Bool.{Bool, true, false, cond}
use Prim.Native.Nat.{ℕ, suc, ◌+◌, ◌-◌, ◌<◌}
use native.Mathlib.Omega.{arith}
use lib.IntN.{ℤ, pos, negsuc, sub_ℕ}
use lib.Signed.{mag}
use lib.Dec.{leb, ltb}
use mir.Syntax.{w32}
use mir.Val.{to_z, of_z}
use mir.Facts.{to_z-of_z}
use borrow.Author.Tests.{ltb-true, ltb-false, leb-true, le-leb, lt-ltb, le-ltb}
use Rattle.decimal.specs.Exponent.{raised, raise, in_range}

-- ---- a raised exponent is 0, or lies from 2001 to 3999
pub raised_bounds : (e : ℤ) → (raised e ≡ 0 → ⊥) → (2000 < raised e) × (raised e < 4000)
raised_bounds (pos n) h = cases (leb n 999) refl h
  where
    cases : (b : Bool) → leb n 999 ≡ b → (cond b (3000 + n) 0 ≡ 0 → ⊥) → (2000 < cond b (3000 + n) 0) × (cond b (3000 + n) 0 < 4000)
    cases true p h = omega (arith, leb-true n 999 p)
    cases false p h = absurd (h refl)
raised_bounds (negsuc n) h = cases (ltb n 999) refl h
  where
    cases : (b : Bool) → ltb n 999 ≡ b → (cond b (2999 - n) 0 ≡ 0 → ⊥) → (2000 < cond b (2999 - n) 0) × (cond b (2999 - n) 0 < 4000)
    cases true p h = omega (arith, ltb-true n 999 p)
    cases false p h = absurd (h refl)

-- where it is not 0, it is the exponent
pub raised_is : (e : ℤ) → 0 < raised e → raise e ≡ raised e
raised_is e = cases (in_range e)
  where
    cases : (b : Bool) → 0 < cond b (raise e) 0 → raise e ≡ cond b (raise e) 0
    cases true p = refl
    cases false p = absurd (omega (arith, p))

-- a signed field that was read and passed on is the field
pub passed : (e : ℤ) {x : ℕ} → mag e < 2147483648 → x ≡ raised (to_z w32 (of_z w32 e)) → x ≡ raised e
passed e fits h = rw (to_z-of_z {w = w32} {z = e} (record { sfits = fits })) at h

-- and where its test against zero held, it is zero
pub zero_passed : (e : ℤ) → mag e < 2147483648 → of_z w32 e ≡ 0 → raised e ≡ 3000
zero_passed e fits h = ap raised (sym (to_z-of_z {w = w32} {z = e} (record { sfits = fits })) ∙ ap (to_z w32) h)

-- ---- there and back again
pub raise_lower : (x : ℕ) → raise (sub_ℕ x 3000) ≡ x
raise_lower x = cases (ltb x 3000) refl
  where
    cases : (b : Bool) → ltb x 3000 ≡ b → raise (cond b (negsuc (3000 - suc x)) (pos (x - 3000))) ≡ x
    cases true e = omega (arith, ltb-true x 3000 e)
    cases false e = omega (arith, ltb-false x 3000 e)

pub raised_lower : (x : ℕ) → 2000 < x → x < 4000 → raised (sub_ℕ x 3000) ≡ x
raised_lower x l u = cases (ltb x 3000) refl
  where
    cases : (b : Bool) → ltb x 3000 ≡ b → raised (cond b (negsuc (3000 - suc x)) (pos (x - 3000))) ≡ x
    cases true e = let h = ltb-true x 3000 e in rw (lt-ltb (3000 - suc x) 999 (omega arith)) (omega arith)
    cases false e = let h = ltb-false x 3000 e in rw (le-leb (x - 3000) 999 (omega arith)) (omega arith)

pub lower_raised : (e : ℤ) → 0 < raised e → sub_ℕ (raised e) 3000 ≡ e
lower_raised (pos n) = cases (leb n 999)
  where
    cases : (b : Bool) → 0 < cond b (3000 + n) 0 → sub_ℕ (cond b (3000 + n) 0) 3000 ≡ pos n
    cases true p = rw (le-ltb (3000 + n) 3000 (omega arith)) (ap pos (omega arith))
    cases false p = absurd (omega (arith, p))
lower_raised (negsuc n) = cases (ltb n 999) refl
  where
    cases : (b : Bool) → ltb n 999 ≡ b → 0 < cond b (2999 - n) 0 → sub_ℕ (cond b (2999 - n) 0) 3000 ≡ negsuc n
    cases true e p = let h = ltb-true n 999 e in rw (lt-ltb (2999 - n) 3000 (omega arith)) (ap negsuc (omega arith))
    cases false e p = absurd (omega (arith, p))
