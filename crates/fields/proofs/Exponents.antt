-- Exponents as 16 bits in two's complement: all that is known of ℤ in the crate. Assumes nothing.
use mathlib.Core.Path.{◌≡◌, refl, ap, ◌∙◌}
use mathlib.Core.List.{[], ◌∷◌}
use mathlib.Core.Bool.{true, cond}
use Prim.Native.Nat.{ℕ, suc, ◌-◌, ◌≤◌, ◌<◌, ◌%◌, ◌/◌}
use native.Mathlib.Omega.{arith}
use lib.IntN.{ℤ, pos, negsuc}
use mir.Syntax.{w16, w32}
use mir.Val.{to_z, of_z, SFits}
use lib.Dec.{ltb}
use borrow.Author.Tests.{ltb-true, leb-true, lt-ltb, le-ltb}
use Rattle.words.specs.Bytes.{le4}
use Rattle.decimal.specs.Exponent.{in_range}
use Rattle.fields.specs.Fields.{signed_of, code_of}

-- ---- from 16 bits
pub signed_pos : (h : ℕ) → h < 32768 → signed_of h ≡ pos h
unfolding signed_of
signed_pos h l = simp (lt-ltb h 32768 l)

pub signed_neg : (h : ℕ) → 32768 ≤ h → signed_of h ≡ negsuc (65535 - h)
unfolding signed_of
signed_neg h l = simp (le-ltb h 32768 l)

-- the library's reading of 16 bits is the definition's
pub signed_is : (h : ℕ) → to_z w16 h ≡ signed_of h
unfolding signed_of
signed_is h = let e : 65536 - suc h ≡ 65535 - h = omega arith in ap (λ (n : ℕ). cond (ltb h 32768) (pos h) (negsuc n)) e

-- ---- to 16 bits
pub code_lt : (e : ℤ) → code_of e < 65536
unfolding code_of
code_lt (pos n) = omega arith
code_lt (negsuc n) = omega arith

-- as a word: two bytes, and two zeros
pub le4_code : (k : ℕ) → k < 65536 → le4 k ≡ k % 256 ∷ k / 256 ∷ 0 ∷ 0 ∷ []
unfolding le4
le4_code k h =
    let a : k / 256 % 256 ≡ k / 256 = omega arith in
    let b : k / 65536 % 256 ≡ 0 = omega arith in
    let d : k / 16777216 % 256 ≡ 0 = omega arith in
    λ i. k % 256 ∷ a i ∷ b i ∷ d i ∷ []

-- the low 16 of the 32 bits
pub code_is : (e : ℤ) → SFits w32 e → of_z w32 e % 65536 ≡ code_of e
unfolding code_of
code_is (pos n) f = refl
code_is (negsuc n) f = let l : n < 2147483648 = f.sfits in omega arith

-- ---- there and back: e from -999 to 999
pub code_back : (e : ℤ) → in_range e ≡ true → signed_of (code_of e) ≡ e
unfolding code_of
code_back (pos n) h =
    let l : n ≤ 999 = leb-true n 999 h in
    let c : n % 65536 ≡ n = omega arith in
    signed_pos (n % 65536) (omega arith) ∙ ap pos c
code_back (negsuc n) h =
    let l : n < 999 = ltb-true n 999 h in
    let c : 65535 - (65535 - n % 65536) ≡ n = omega arith in
    signed_neg (65535 - n % 65536) (omega arith) ∙ ap negsuc c
