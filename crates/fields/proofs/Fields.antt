-- Fields in a part are those of the whole, and what the rule of several fields says. Assumes nothing.
use mathlib.Core.Path.{◌≡◌, refl, sym, ap, ap₂, ◌∙◌}
use mathlib.Core.List.{List, [], ◌∷◌, ◌++◌}
use mathlib.Core.Bool.{Bool, true, false, ◌&&◌, and_assoc}
use Prim.Native.Nat.{ℕ, zero, suc, ◌+◌, ◌*◌, ◌-◌, ◌≤◌, ◌<◌}
use native.Mathlib.Nat.{add_assoc, add-zero}
use native.Mathlib.Omega.{arith}
use lib.Dec.{eqb}
use Rattle.words.specs.Words.{part_of}
use lib.ListN.{get_or}
use borrow.Author.Tests.{eq-eqb}
use Rattle.words.proofs.Parts.{get_or_part, get_or_part_add, word_part, ZeroBytes, zero_later}
use Rattle.decimal.specs.declared.Decimal.{Decimal}
use Rattle.inputs.specs.Valid.{valid_of, all_valid}
use Rattle.fields.specs.Fields.{half_at, signed_of, decimal_at, decimals_at, field_ok, fields_ok, unused_zero}

-- ---- what stands in a part stands in the whole
half_part : (s : List ℕ) (a n k : ℕ) → k + 2 ≤ n → half_at (part_of s a n) k ≡ half_at s (a + k)
unfolding half_at
half_part s a n k h = omega (arith, get_or_part s a n k (omega arith), get_or_part_add s a n k 1 (omega arith))

-- the same where the place in the part is a sum
half_part_add : (s : List ℕ) (a n k j : ℕ) → k + j + 2 ≤ n → half_at (part_of s a n) (k + j) ≡ half_at s (a + k + j)
half_part_add s a n k j h = half_part s a n (k + j) h ∙ ap (half_at s) (sym (add_assoc a k j))

pub decimal_part : (s : List ℕ) (a n k : ℕ) → k + 8 ≤ n → decimal_at (part_of s a n) k ≡ decimal_at s (a + k)
unfolding decimal_at
decimal_part s a n k h = λ i. record { m = word_part s a n k (omega arith) i; e = signed_of (half_part_add s a n k 4 (omega arith) i) }

pub decimals_part : (s : List ℕ) (a n k m : ℕ) → k + 8 * m ≤ n → decimals_at (part_of s a n) k m ≡ decimals_at s (a + k) m
unfolding decimals_at
decimals_part s a n k zero h = refl
decimals_part s a n k (suc m) h =
    ap₂ (λ (d : Decimal) (ds : List Decimal). d ∷ ds) (decimal_part s a n k (omega arith))
    (decimals_part s a n (k + 8) m (omega arith) ∙ ap (λ (i : ℕ). decimals_at s i m) (sym (add_assoc a k 8)))

pub unused_part : (s : List ℕ) (a n k m : ℕ) → k + 8 * m ≤ n → unused_zero (part_of s a n) k m ≡ unused_zero s (a + k) m
unfolding unused_zero
unused_part s a n k zero h = refl
unused_part s a n k (suc m) h =
    ap₂ (λ (x : ℕ) (y : Bool). eqb x 0 && y) (half_part_add s a n k 6 (omega arith))
    (unused_part s a n (k + 8) m (omega arith) ∙ ap (λ (i : ℕ). unused_zero s i m) (sym (add_assoc a k 8)))

-- ---- the last bytes of n fields, where all of their bytes are zero
pub zero_fields : (s : List ℕ) (at n : ℕ) → ZeroBytes s at (8 * n) → unused_zero s at n ≡ true
unfolding unused_zero half_at
zero_fields s at zero z = refl
zero_fields s at (suc n) z =
    let byte : get_or s (at + 7) 0 ≡ 0 = z 7 (omega arith) in
    let place : at + 7 ≡ at + 6 + 1 = omega arith in
    let half : get_or s (at + 6) 0 + 256 * get_or s (at + 6 + 1) 0 ≡ 0 = omega (arith, z 6 (omega arith), sym (ap (λ (i : ℕ). get_or s i 0) place) ∙ byte) in
    rw (eq-eqb _ 0 half, zero_fields s (at + 8) n (zero_later s at 8 (8 * n) (λ i l. z i (omega (arith, l)))))

-- ---- n fields keep their rule where their decimals are valid and their last bytes zero
and_swap : (a b x y : Bool) → (a && b) && (x && y) ≡ (a && x) && (b && y)
and_swap true true x y = refl
and_swap true false true y = refl
and_swap true false false y = refl
and_swap false b x y = refl

pub fields_split : (s : List ℕ) (at n : ℕ) → fields_ok s at n ≡ all_valid (decimals_at s at n) && unused_zero s at n
unfolding fields_ok field_ok decimals_at unused_zero
fields_split s at zero = refl
fields_split s at (suc n) =
    ap (λ (x : Bool). (valid_of (decimal_at s at) && eqb (half_at s (at + 6)) 0) && x) (fields_split s (at + 8) n)
    ∙ and_swap (valid_of (decimal_at s at)) (eqb (half_at s (at + 6)) 0) (all_valid (decimals_at s (at + 8) n)) (unused_zero s (at + 8) n)

-- ---- one field more
pub decimals_more : (s : List ℕ) (at n : ℕ) → decimals_at s at (n + 1) ≡ decimals_at s at n ++ decimal_at s (at + 8 * n) ∷ []
unfolding decimals_at
decimals_more s at zero = ap (λ (k : ℕ). decimal_at s k ∷ []) (sym (add-zero at))
decimals_more s at (suc n) =
    let place : at + 8 + 8 * n ≡ at + 8 * suc n = omega arith in
    let count : suc n + 1 ≡ suc (n + 1) = omega arith in
    ap (decimals_at s at) count
    ∙ ap (λ (ds : List Decimal). decimal_at s at ∷ ds) (decimals_more s (at + 8) n)
    ∙ ap (λ (k : ℕ). decimal_at s at ∷ (decimals_at s (at + 8) n ++ decimal_at s k ∷ [])) place

-- ---- the loop over n fields: field i is done, and those from i + 1 on are left
pub unused_step : (s : List ℕ) (at n i : ℕ) (ok : Bool) → i < n
    → (ok && eqb (half_at s (at + 8 * i + 6)) 0) && unused_zero s (at + 8 * (i + 1)) (n - (i + 1)) ≡ ok && unused_zero s (at + 8 * i) (n - i)
unfolding unused_zero
unused_step s at n i ok h =
    let left : n - i ≡ suc (n - (i + 1)) = omega arith in
    let place : at + 8 * (i + 1) ≡ at + 8 * i + 8 = omega arith in
    ap (λ (k : ℕ). (ok && eqb (half_at s (at + 8 * i + 6)) 0) && unused_zero s k (n - (i + 1))) place
    ∙ and_assoc ok (eqb (half_at s (at + 8 * i + 6)) 0) (unused_zero s (at + 8 * i + 8) (n - (i + 1)))
    ∙ ap (λ (k : ℕ). ok && unused_zero s (at + 8 * i) k) (sym left)
