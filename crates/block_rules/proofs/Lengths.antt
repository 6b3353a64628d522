-- How long the parts of a block are. Assumes nothing.
use mathlib.Core.Path.{◌≡◌, refl, ap, ap₂, ◌∙◌}
use mathlib.Core.List.{List, [], ◌∷◌}
use Prim.Native.Nat.{ℕ, ◌+◌, ◌*◌, ◌≤◌}
use native.Mathlib.Omega.{arith}
use lib.ListN.{length, take, drop, replicate, get_or, length-append, length-drop, length-replicate}
use Rattle.std.proofs.lemmas.List.{length-take-le}
use Rattle.words.specs.Bytes.{le4}
use Rattle.words.proofs.Words.{le4_length}
use Rattle.decimal.specs.declared.Decimal.{Decimal}
use Rattle.fields.specs.Fields.{field_bytes}
use Rattle.fields.proofs.ReadBack.{field_bytes_length}
use Rattle.block_rules.specs.Pieces.{Piece, Word, Decimals, Unused, pieces_size, decimals_held, bytes_of}
use Rattle.block_rules.specs.Layouts.{body_of}

-- the first n of at least as many decimals take 8 n bytes
pub first_length : (n : ℕ) (ds : List Decimal) → n ≤ length ds → length (field_bytes (take n ds)) ≡ 8 * n
first_length n ds h = field_bytes_length (take n ds) ∙ ap (λ (k : ℕ). 8 * k) (length-take-le n ds h)

-- the pieces that hold all of the decimals
pub bytes_length : (ps : List Piece) (ws : List ℕ) (ds : List Decimal) → decimals_held ps ≡ length ds → length (bytes_of ps ws ds) ≡ pieces_size ps
unfolding bytes_of
bytes_length [] ws ds h = refl
bytes_length (Word ∷ ps) ws ds h =
    length-append (le4 (get_or ws 0 0)) (bytes_of ps (drop 1 ws) ds) ∙ ap₂ (λ (x y : ℕ). x + y) (le4_length (get_or ws 0 0)) (bytes_length ps (drop 1 ws) ds h)
bytes_length (Decimals n ∷ ps) ws ds h =
    length-append (field_bytes (take n ds)) (bytes_of ps ws (drop n ds))
    ∙ ap₂ (λ (x y : ℕ). x + y) (first_length n ds (omega (arith, h))) (bytes_length ps ws (drop n ds) (omega (arith, h, length-drop n ds)))
bytes_length (Unused n ∷ ps) ws ds h =
    length-append (replicate {A = ℕ} n 0) (bytes_of ps ws ds) ∙ ap₂ (λ (x y : ℕ). x + y) (length-replicate {A = ℕ} n 0) (bytes_length ps ws ds h)

pub body_length : (kind place : ℕ) (ps : List Piece) (ws : List ℕ) (ds : List Decimal) → decimals_held ps ≡ length ds → length (body_of kind place ps ws ds) ≡ 8 + pieces_size ps
unfolding body_of
body_length kind place ps ws ds h = simp (length-append, le4_length, bytes_length ps ws ds h) (omega arith)
