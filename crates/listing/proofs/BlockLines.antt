-- The lines that result blocks spell: their length, and one block after another. Assumes nothing.
use mathlib.Core.Path.{◌≡◌, refl, sym, ap, ◌∙◌}
use mathlib.Core.List.{List, [], ◌++◌}
use Prim.Native.Nat.{ℕ, zero, suc, ◌+◌, ◌*◌, ◌≤◌}
use native.Mathlib.Omega.{arith}
use native.Mathlib.Numerals.{add-one}
use lib.ListN.{length, take, drop, length-append}
use Rattle.std.proofs.lemmas.List.{take_at, drop_at, drop-drop}
use Rattle.words.specs.Words.{word_at, part_of}
use Rattle.site_rules.specs.Blocks.{block_at}
use Rattle.listing_rules.proofs.Lengths.{lines_most}
use Rattle.listing.specs.Asked.{side_read, block_lines, block_lines_to}

-- and for each result block
pub blocks_most : (results : List ℕ) (n : ℕ) → length (block_lines_to results n) ≤ 192 * n
unfolding block_lines_to block_lines
blocks_most results zero = omega arith
blocks_most results (suc n) =
    let b = block_at results (suc n) in
    simp length-append (omega (arith, blocks_most results n, lines_most (word_at b 8) (word_at b 12) (side_read b 16) (side_read b 48)))

pub blocks_none : (results : List ℕ) → block_lines_to results 0 ≡ []
unfolding block_lines_to
blocks_none results = refl

pub blocks_next : (results : List ℕ) (k : ℕ) → block_lines_to results k ++ block_lines (block_at results (k + 1)) ≡ block_lines_to results (k + 1)
unfolding block_lines_to
blocks_next results k = sym (ap (block_lines_to results) (add-one k) ∙ ap (λ (j : ℕ). block_lines_to results k ++ block_lines (block_at results j)) (sym (add-one k)))

-- the first part of what is left behind k blocks is the next one
module _ (results : List ℕ) (k : ℕ) {left : List ℕ} (block more : List ℕ) (is : left ≡ drop (512 * (k + 1)) results) (parts : left ≡ block ++ more) (long : length block ≡ 512) where
  pub next_block : block ≡ block_at results (k + 1)
  unfolding block_at part_of
  next_block = sym (take_at block more 512 long) ∙ ap (take 512) (sym parts ∙ is)

  pub left_more : more ≡ drop (512 * (k + 1 + 1)) results
  left_more =
      sym (drop_at block more 512 long)
      ∙ ap (drop 512) (sym parts ∙ is)
      ∙ drop-drop 512 (512 * (k + 1)) results
      ∙ ap (λ (n : ℕ). drop n results) (omega arith)
