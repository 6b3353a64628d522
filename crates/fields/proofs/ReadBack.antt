-- Decimals that were written are read back with the same m and the same e. Assumes nothing.
-- `drop at b ≡ w ++ r` says that the bytes w stand in b at `at`, and r after them.
use mathlib.Core.Path.{◌≡◌, refl, ap, ap₂, ◌∙◌, sym}
use mathlib.Core.List.{List, [], ◌∷◌, ◌++◌, append_assoc, append-nil}
use mathlib.Core.Bool.{Bool, true, ◌&&◌}
use Prim.Native.Nat.{ℕ, suc, ◌+◌, ◌*◌, ◌≤◌, ◌<◌, ◌%◌, ◌/◌}
use native.Mathlib.Nat.{add_assoc}
use native.Mathlib.Omega.{arith}
use lib.ListN.{length, get_or, drop, take, length-append}
use Rattle.std.proofs.lemmas.List.{take_more, length-take-le}
use borrow.Author.Tests.{eq-eqb}
use Rattle.words.specs.Bytes.{le4, placed}
use Rattle.words.proofs.Written.{placed_placed}
use Rattle.words.proofs.ReadBack.{rest_next, get_or_rest, word_rest}
use Rattle.decimal.specs.declared.Decimal.{Decimal}
use Rattle.decimal.specs.Decimal.{zero_of}
use Rattle.inputs.specs.Valid.{valid_of, all_valid}
use Rattle.inputs.proofs.Tests.{valid_small, valid_at}
use Rattle.fields.specs.Fields.{half_at, signed_of, code_of, decimal_at, decimals_at, unused_zero, field, field_bytes, InField}
use Rattle.decimal.proofs.Value.{raised_inside}
use Rattle.fields.proofs.Exponents.{code_back}

-- ---- lengths
pub field_length : (d : Decimal) → length (field d) ≡ 8
unfolding field le4
field_length d = refl

pub field_bytes_length : (ds : List Decimal) → length (field_bytes ds) ≡ 8 * length ds
unfolding field_bytes
field_bytes_length [] = refl
field_bytes_length (d ∷ ds) = length-append (field d) (field_bytes ds) ∙ omega (arith, field_length d, field_bytes_length ds)

-- the fields of y behind those of x
pub field_bytes_append : (x y : List Decimal) → field_bytes (x ++ y) ≡ field_bytes x ++ field_bytes y
unfolding field_bytes
field_bytes_append [] y = refl
field_bytes_append (d ∷ x) y = ap (λ (t : List ℕ). field d ++ t) (field_bytes_append x y) ∙ sym (append_assoc (field d) (field_bytes x) (field_bytes y))

pub one_field : (d : Decimal) → field d ≡ field_bytes (d ∷ [])
unfolding field_bytes
one_field d = sym (append-nil (field d))

-- ---- fields written behind fields just written
placed_fields : (d l l' : List ℕ) (at to : ℕ) (x y : List Decimal) → l ≡ placed d at (field_bytes x) → at + 8 * length x ≡ to → at ≤ length d
    → l' ≡ placed l to (field_bytes y) → l' ≡ placed d at (field_bytes (x ++ y))
placed_fields d l l' at to x y e n h g =
    g ∙ ap (λ (t : List ℕ). placed t to (field_bytes y)) e
    ∙ placed_placed d (field_bytes x) (field_bytes y) at to (omega (arith, field_bytes_length x)) h
    ∙ ap (placed d at) (sym (field_bytes_append x y))

-- one field behind the first n of ds
pub placed_more : (d l l' : List ℕ) (at n : ℕ) (ds : List Decimal) → n < length ds → l ≡ placed d at (field_bytes (take n ds)) → at ≤ length d
    → l' ≡ placed l (at + 8 * n) (field (get_or ds n zero_of)) → l' ≡ placed d at (field_bytes (take (n + 1) ds))
placed_more d l l' at n ds k e h g =
    let last = get_or ds n zero_of in
    placed_fields d l l' at (at + 8 * n) (take n ds) (last ∷ []) e (omega (arith, length-take-le n ds (omega arith))) h (g ∙ ap (placed l (at + 8 * n)) (one_field last))
    ∙ ap (λ (x : List Decimal). placed d at (field_bytes x)) (sym (take_more ds n zero_of k))

-- ---- a valid decimal fits a field
pub valid_fits : (d : Decimal) → valid_of d ≡ true → InField d
valid_fits d v = let s = valid_small d v in record { word = omega (arith, s.digits); exponent = raised_inside d.e (omega (arith, s.low)) }

pub all_fit : (ds : List Decimal) → all_valid ds ≡ true → (n : ℕ) → InField (get_or ds n zero_of)
all_fit ds v n = valid_fits (get_or ds n zero_of) (valid_at ds v n)

-- ---- one field
two_bytes : (k : ℕ) → k % 256 + 256 * (k / 256) ≡ k
two_bytes k = omega arith

module _ (b r : List ℕ) (at : ℕ) (d : Decimal) (e : drop at b ≡ field d ++ r) where
  byte : (j k : ℕ) → get_or b (at + j + k) 0 ≡ get_or (field d ++ r) (j + k) 0
  byte j k = ap (λ (i : ℕ). get_or b i 0) (add_assoc at j k) ∙ get_or_rest b (field d ++ r) at (j + k) e

  half_rest : half_at b (at + 4) ≡ code_of d.e
  unfolding half_at field le4
  half_rest = (λ i. get_or_rest b (field d ++ r) at 4 e i + 256 * byte 4 1 i) ∙ two_bytes (code_of d.e)

  pub unused_rest : half_at b (at + 6) ≡ 0
  unfolding half_at field le4
  unused_rest = λ i. get_or_rest b (field d ++ r) at 6 e i + 256 * byte 6 1 i

  pub decimal_rest : InField d → decimal_at b at ≡ d
  unfolding decimal_at field
  decimal_rest f = λ i. record {
    m = word_rest b (code_of d.e % 256 ∷ code_of d.e / 256 ∷ 0 ∷ 0 ∷ r) at d.m (e ∙ append_assoc (le4 d.m) (code_of d.e % 256 ∷ code_of d.e / 256 ∷ 0 ∷ 0 ∷ []) r) f.word i;
    e = (ap signed_of half_rest ∙ code_back d.e f.exponent) i;
  }

-- ---- several fields
next_field : (b r : List ℕ) (at : ℕ) (d : Decimal) (ds : List Decimal) → drop at b ≡ field_bytes (d ∷ ds) ++ r → drop at b ≡ field d ++ (field_bytes ds ++ r)
unfolding field_bytes
next_field b r at d ds e = e ∙ append_assoc (field d) (field_bytes ds) r

pub decimals_rest : (ds : List Decimal) (b r : List ℕ) (at : ℕ) → drop at b ≡ field_bytes ds ++ r → ((n : ℕ) → InField (get_or ds n zero_of)) → decimals_at b at (length ds) ≡ ds
unfolding decimals_at
decimals_rest [] b r at e f = refl
decimals_rest (d ∷ ds) b r at e f =
    let g = next_field b r at d ds e in
    ap₂ (λ (x : Decimal) (y : List Decimal). x ∷ y) (decimal_rest b (field_bytes ds ++ r) at d g (f 0))
    (decimals_rest ds b r (at + 8) (rest_next b (field d) (field_bytes ds ++ r) at 8 g (field_length d)) (λ n. f (suc n)))

pub all_unused_rest : (ds : List Decimal) (b r : List ℕ) (at : ℕ) → drop at b ≡ field_bytes ds ++ r → unused_zero b at (length ds) ≡ true
unfolding unused_zero
all_unused_rest [] b r at e = refl
all_unused_rest (d ∷ ds) b r at e =
    let g = next_field b r at d ds e in
    ap₂ (λ (x y : Bool). x && y) (eq-eqb (half_at b (at + 6)) 0 (unused_rest b (field_bytes ds ++ r) at d g))
    (all_unused_rest ds b r (at + 8) (rest_next b (field d) (field_bytes ds ++ r) at 8 g (field_length d)))
