-- Sums of words, one more at a time; the words of a front; words of zero bytes; the four bytes of a word. Assumes nothing.
use Rattle.std.proofs.Common.{◌≡◌, ℕ, zero, suc, ◌+◌, ◌*◌, ◌/◌, ◌%◌, ◌<◌, ◌≤◌, true, List, ◌++◌, length, get_or, eqb, sym, refl, ap, ◌∙◌, ap₂, mod-eq_of_lt, add-zero, add-one, arith, eqb-true}
use Rattle.std.proofs.lemmas.Bool.{and_parts}
use native.Mathlib.Nat.{mod-add-mod, div-div-eq-div-mul, div-add-mod}
use lib.ListN.{get_or-append}
use Rattle.words.specs.Words.{word_at, word_sum, zeros}
use Rattle.words.specs.Bytes.{le4}

pub le4_length : (v : ℕ) → length (le4 v) ≡ 4
unfolding le4
le4_length v = refl

-- ---- one word more
pub word_sum_suc : (s : List ℕ) (n : ℕ) → word_sum s (suc n) ≡ word_sum s n + word_at s (4 * n)
unfolding word_sum
word_sum_suc s n = refl

pub word_sum_next : (s : List ℕ) (t i : ℕ) → t ≡ word_sum s i % 4294967296 → (t + word_at s (4 * i)) % 4294967296 ≡ word_sum s (i + 1) % 4294967296
unfolding word_sum
word_sum_next s t i e =
    ap (λ (k : ℕ). (k + word_at s (4 * i)) % 4294967296) e ∙ mod-add-mod (word_sum s i) 4294967296 (word_at s (4 * i))
    ∙ ap (λ (k : ℕ). word_sum s k % 4294967296) (sym (add-one i))

-- ---- the words of a front are the words of the whole
pub word_front : (p t : List ℕ) (k : ℕ) → k + 4 ≤ length p → word_at (p ++ t) k ≡ word_at p k
unfolding word_at
word_front p t k h =
    let at : (j : ℕ) → j < 4 → get_or (p ++ t) (k + j) 0 ≡ get_or p (k + j) 0 = λ j l. get_or-append p t 0 (k + j) (omega arith) in
    omega (arith, get_or-append p t 0 k (omega arith), at 1 (omega arith), at 2 (omega arith), at 3 (omega arith))

pub word_sum_front : (p t : List ℕ) (n : ℕ) → 4 * n ≤ length p → word_sum (p ++ t) n ≡ word_sum p n
unfolding word_sum
word_sum_front p t zero h = refl
word_sum_front p t (suc n) h = ap₂ (λ (x y : ℕ). x + y) (word_sum_front p t n (omega arith)) (word_front p t (4 * n) (omega arith))

-- ---- words of zero bytes add nothing to a sum
byte_zero : (s : List ℕ) (i j : ℕ) → i ≡ j → eqb (get_or s i 0) 0 ≡ true → get_or s j 0 ≡ 0
byte_zero s i j e h = ap (λ (k : ℕ). get_or s k 0) (sym e) ∙ eqb-true (get_or s i 0) 0 h

-- four zero bytes behind n others are a word that is zero
four_zeros : (s : List ℕ) (at n : ℕ) → zeros s at (suc (suc (suc (suc n)))) ≡ true → (zeros s at n ≡ true) × (word_at s (at + n) ≡ 0)
unfolding zeros word_at
four_zeros s at n h =
    let d = and_parts _ _ h in
    let c = and_parts _ _ d.0 in
    let b = and_parts _ _ c.0 in
    let a = and_parts _ _ b.0 in (
      a.0,
      omega (
        arith,
        byte_zero s (at + n) (at + n) refl a.1,
        byte_zero s (at + suc n) (at + n + 1) (omega arith) b.1,
        byte_zero s (at + suc (suc n)) (at + n + 2) (omega arith) c.1,
        byte_zero s (at + suc (suc (suc n))) (at + n + 3) (omega arith) d.1,
      ),
    )

pub word_sum_zeros : (s : List ℕ) (n k : ℕ) → zeros s (4 * n) (4 * k) ≡ true → word_sum s (n + k) ≡ word_sum s n
word_sum_zeros s n zero h = ap (word_sum s) (add-zero n)
word_sum_zeros s n (suc k) h =
    let e : suc (suc (suc (suc (4 * k)))) ≡ 4 * suc k = omega arith in
    let z = four_zeros s (4 * n) (4 * k) (ap (zeros s (4 * n)) e ∙ h) in
    let w : word_at s (4 * (n + k)) ≡ word_at s (4 * n + 4 * k) = ap (word_at s) (omega arith) in
    let next : n + suc k ≡ suc (n + k) = omega arith in
    ap (word_sum s) next ∙ word_sum_suc s (n + k) ∙ omega (arith, w, z.1, word_sum_zeros s n k z.0)

-- ---- a word is spelt by its four bytes
digits : (v q₁ q₂ q₃ r₁ r₂ r₃ r₄ : ℕ) → 256 * q₁ + r₁ ≡ v → 256 * q₂ + r₂ ≡ q₁ → 256 * q₃ + r₃ ≡ q₂ → r₄ ≡ q₃
    → r₁ + 256 * r₂ + 65536 * r₃ + 16777216 * r₄ ≡ v
digits v q₁ q₂ q₃ r₁ r₂ r₃ r₄ a b c d = omega arith

pub four_bytes : (v : ℕ) → v < 4294967296 → v % 256 + 256 * (v / 256 % 256) + 65536 * (v / 65536 % 256) + 16777216 * (v / 16777216 % 256) ≡ v
four_bytes v h =
    digits v (v / 256) (v / 65536) (v / 16777216) (v % 256) (v / 256 % 256) (v / 65536 % 256) (v / 16777216 % 256)
    (div-add-mod v 256)
    (ap (λ (q : ℕ). 256 * q + v / 256 % 256) (sym (div-div-eq-div-mul v 256 256)) ∙ div-add-mod (v / 256) 256)
    (ap (λ (q : ℕ). 256 * q + v / 65536 % 256) (sym (div-div-eq-div-mul v 65536 256)) ∙ div-add-mod (v / 65536) 256)
    (mod-eq_of_lt (omega arith))

-- ---- a word of bytes is below 2^32
pub word_most : (l : List ℕ) → ((i : ℕ) → get_or l i 0 < 256) → (at : ℕ) → word_at l at < 4294967296
unfolding word_at
word_most l byte at = omega (arith, byte at, byte (at + 1), byte (at + 2), byte (at + 3))
