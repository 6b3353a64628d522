-- The decimals and the unused bytes of a layout, piece by piece, in a part that was lent, and field by field. Assumes nothing.
use mathlib.Core.Path.{◌≡◌, refl, sym, ap, ap₂, ◌∙◌}
use mathlib.Core.List.{List, [], ◌∷◌, ◌++◌}
use mathlib.Core.Bool.{Bool, true, ◌&&◌, and_assoc, and_comm, and-true}
use Prim.Native.Nat.{ℕ, ◌+◌, ◌*◌, ◌≤◌}
use native.Mathlib.Nat.{add_assoc}
use native.Mathlib.Omega.{arith}
use Rattle.words.specs.Words.{zeros, part_of}
use Rattle.words.proofs.Parts.{zeros_part, ZeroBytes, zero_bytes, zeros_of_bytes, zero_later}
use Rattle.decimal.specs.declared.Decimal.{Decimal}
use Rattle.inputs.specs.Valid.{all_valid}
use Rattle.inputs.proofs.Tests.{valid_join}
use Rattle.fields.specs.Fields.{unused_zero, decimals_at}
use Rattle.fields.proofs.Fields.{unused_part, decimals_part, fields_split, zero_fields}
use Rattle.block_rules.specs.Pieces.{Piece, Word, Decimals, Unused, pieces_size, unused_in, decimals_in, pieces_keep}

-- ---- the pieces that stand in a part stand in the whole
pub unused_in_part : (ps : List Piece) (s : List ℕ) (a n k : ℕ) → k + pieces_size ps ≤ n → unused_in ps (part_of s a n) k ≡ unused_in ps s (a + k)
unfolding unused_in
unused_in_part [] s a n k h = refl
unused_in_part (Word ∷ ps) s a n k h = unused_in_part ps s a n (k + 4) (omega arith) ∙ ap (unused_in ps s) (sym (add_assoc a k 4))
unused_in_part (Decimals m ∷ ps) s a n k h =
    ap₂ (λ (x y : Bool). x && y) (unused_part s a n k m (omega arith))
    (unused_in_part ps s a n (k + 8 * m) (omega arith) ∙ ap (unused_in ps s) (sym (add_assoc a k (8 * m))))
unused_in_part (Unused m ∷ ps) s a n k h =
    ap₂ (λ (x y : Bool). x && y) (zeros_part s a n k m (omega arith))
    (unused_in_part ps s a n (k + m) (omega arith) ∙ ap (unused_in ps s) (sym (add_assoc a k m)))

pub decimals_in_part : (ps : List Piece) (s : List ℕ) (a n k : ℕ) → k + pieces_size ps ≤ n → decimals_in ps (part_of s a n) k ≡ decimals_in ps s (a + k)
unfolding decimals_in
decimals_in_part [] s a n k h = refl
decimals_in_part (Word ∷ ps) s a n k h = decimals_in_part ps s a n (k + 4) (omega arith) ∙ ap (decimals_in ps s) (sym (add_assoc a k 4))
decimals_in_part (Decimals m ∷ ps) s a n k h =
    ap₂ (λ (x y : List Decimal). x ++ y) (decimals_part s a n k m (omega arith))
    (decimals_in_part ps s a n (k + 8 * m) (omega arith) ∙ ap (decimals_in ps s) (sym (add_assoc a k (8 * m))))
decimals_in_part (Unused m ∷ ps) s a n k h = decimals_in_part ps s a n (k + m) (omega arith) ∙ ap (decimals_in ps s) (sym (add_assoc a k m))

-- ---- where all bytes are zero, the unused ones among them are
pub zero_pieces : (ps : List Piece) (s : List ℕ) (at : ℕ) → ZeroBytes s at (pieces_size ps) → unused_in ps s at ≡ true
unfolding unused_in
zero_pieces [] s at z = refl
zero_pieces (Word ∷ ps) s at z = zero_pieces ps s (at + 4) (zero_later s at 4 (pieces_size ps) z)
zero_pieces (Decimals n ∷ ps) s at z =
    rw (zero_fields s at n (λ i l. z i (omega (arith, l))), zero_pieces ps s (at + 8 * n) (zero_later s at (8 * n) (pieces_size ps) z))
zero_pieces (Unused n ∷ ps) s at z =
    rw (zeros_of_bytes s at n (λ i l. z i (omega (arith, l))), zero_pieces ps s (at + n) (zero_later s at n (pieces_size ps) z))

-- two words, n decimals, and what stands behind them; and where that is nothing but zeros
pub behind_first : (n : ℕ) (ps : List Piece) (s : List ℕ) (at : ℕ) →
    unused_in (Word ∷ Word ∷ Decimals n ∷ ps) s at ≡ unused_zero s (at + 8) n && unused_in ps s (at + (8 + 8 * n))
unfolding unused_in
behind_first n ps s at =
    let fields : at + 4 + 4 ≡ at + 8 = omega arith in
    let behind : at + 4 + 4 + 8 * n ≡ at + (8 + 8 * n) = omega arith in
    λ i. unused_zero s (fields i) n && unused_in ps s (behind i)

pub zeros_behind : (n : ℕ) (ps : List Piece) (s : List ℕ) (at : ℕ) → zeros s (at + (8 + 8 * n)) (pieces_size ps) ≡ true →
    unused_in (Word ∷ Word ∷ Decimals n ∷ ps) s at ≡ unused_zero s (at + 8) n
zeros_behind n ps s at h =
    behind_first n ps s at ∙ ap (λ (x : Bool). unused_zero s (at + 8) n && x) (zero_pieces ps s _ (zero_bytes s _ _ h)) ∙ and-true (unused_zero s (at + 8) n)

-- ---- valid decimals and zeros in the unused bytes are the rule of each field and of each unused byte, one by one
and_swap : (a b x y : Bool) → (a && b) && (x && y) ≡ (a && x) && (b && y)
and_swap a b x y = and_assoc a b (x && y) ∙ ap (λ (t : Bool). a && t) (sym (and_assoc b x y) ∙ ap (λ (t : Bool). t && y) (and_comm b x) ∙ and_assoc x b y) ∙ sym (and_assoc a x (b && y))

and_later : (a z b : Bool) → a && (z && b) ≡ z && (a && b)
and_later a z b = sym (and_assoc a z b) ∙ ap (λ (t : Bool). t && b) (and_comm a z) ∙ and_assoc z a b

pub pieces_split : (ps : List Piece) (s : List ℕ) (at : ℕ) → pieces_keep ps s at ≡ all_valid (decimals_in ps s at) && unused_in ps s at
unfolding pieces_keep decimals_in unused_in
pieces_split [] s at = refl
pieces_split (Word ∷ ps) s at = pieces_split ps s (at + 4)
pieces_split (Decimals n ∷ ps) s at =
    let v = all_valid (decimals_at s at n) in
    let w = all_valid (decimals_in ps s (at + 8 * n)) in
    let u = unused_in ps s (at + 8 * n) in
    ap₂ (λ (x y : Bool). x && y) (fields_split s at n) (pieces_split ps s (at + 8 * n))
    ∙ and_swap v (unused_zero s at n) w u
    ∙ ap (λ (x : Bool). x && (unused_zero s at n && u)) (sym (valid_join (decimals_at s at n) (decimals_in ps s (at + 8 * n))))
pieces_split (Unused n ∷ ps) s at =
    ap (λ (x : Bool). zeros s at n && x) (pieces_split ps s (at + n))
    ∙ sym (and_later (all_valid (decimals_in ps s (at + n))) (zeros s at n) (unused_in ps s (at + n)))
