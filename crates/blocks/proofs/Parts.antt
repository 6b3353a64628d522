-- What the 504 bytes between kind and last word hold is what the block holds. Assumes nothing.
use mathlib.Core.Path.{◌≡◌, refl, sym, ap, ◌∙◌}
use mathlib.Core.List.{List}
use mathlib.Core.Bool.{Bool, true, false}
use Prim.Native.Nat.{ℕ, ◌+◌, ◌-◌, ◌≤◌, ◌<◌}
use native.Mathlib.Omega.{arith}
use lib.ListN.{length, take, drop, length-take, length-drop}
use lib.Dec.{eqb, leb}
use borrow.Author.Tests.{ne_eqb, eqb-true, leb-true, leb-false}
use Rattle.words.specs.Words.{part_of}
use Rattle.words.proofs.Parts.{word_part, part_part}
use Rattle.inputs.specs.declared.kind.Inhalation.{Inhalation}
use Rattle.inputs.specs.Inputs.{scenario_of, contaminant_of}
use Rattle.block_rules.specs.Pieces.{scenario_pieces, value_pieces, header_pieces, contaminant_pieces}
use Rattle.block_rules.specs.Reading.{scenario_at, header_at, header_unused, contaminant_at, contaminant_unused}
use Rattle.block_rules.proofs.Pieces.{unused_in_part, decimals_in_part}
use Rattle.block_rules.proofs.Rules.{is_block}

module _ (b : List ℕ) where
  scenario_part : (i : Inhalation) → scenario_at i (part_of b 4 504) 12 ≡ scenario_at i b 16
  unfolding scenario_at
  scenario_part i = ap (scenario_of i) (decimals_in_part scenario_pieces b 4 504 12 (omega arith))

  pub header_part : (i : Inhalation) → header_at i (part_of b 4 504) 4 ≡ header_at i b 8
  unfolding header_at
  header_part i = λ k. record { medium = word_part b 4 504 4 (omega arith) k; count = word_part b 4 504 8 (omega arith) k; scenario = scenario_part i k }

  pub header_unused_part : header_unused (part_of b 4 504) 4 ≡ header_unused b 8
  unfolding header_unused
  header_unused_part = unused_in_part header_pieces b 4 504 4 (omega arith)

  pub contaminant_part : contaminant_at (part_of b 4 504) 4 ≡ contaminant_at b 8
  unfolding contaminant_at
  contaminant_part = λ i. contaminant_of (word_part b 4 504 4 (omega arith) i) (word_part b 4 504 8 (omega arith) i) (decimals_in_part value_pieces b 4 504 12 (omega arith) i)

  pub contaminant_unused_part : contaminant_unused (part_of b 4 504) 4 ≡ contaminant_unused b 8
  unfolding contaminant_unused
  contaminant_unused_part = unused_in_part contaminant_pieces b 4 504 4 (omega arith)

-- ---- parts of a site
-- from kind to last word of the block at `at`
pub inner : (s : List ℕ) (at : ℕ) → take (at + 508 - (at + 4)) (drop (at + 4) s) ≡ part_of (part_of s at 512) 4 504
unfolding part_of
inner s at =
    let e : at + 508 - (at + 4) ≡ 504 = omega arith in
    ap (λ (n : ℕ). take n (drop (at + 4) s)) e ∙ sym (part_part s at 512 4 504 (omega arith))

-- the same of the first block
pub inner_first : (s : List ℕ) → take 504 (drop 4 s) ≡ part_of (part_of s 0 512) 4 504
unfolding part_of
inner_first s = sym (part_part s 0 512 4 504 (omega arith))

-- the block at `at`
pub whole : (s : List ℕ) (at : ℕ) → take (at + 512 - at) (drop at s) ≡ part_of s at 512
unfolding part_of
whole s at =
    let e : at + 512 - at ≡ 512 = omega arith in
    ap (λ (n : ℕ). take n (drop at s)) e

-- ---- there is a whole block at `at`, or there is not
pub block_fits : (s : List ℕ) (at : ℕ) → eqb (length (part_of s at 512)) 512 ≡ true → at + 512 ≤ length s
unfolding part_of
block_fits s at e = omega (arith, simp (length-take, length-drop) at (eqb-true (length (take 512 (drop at s))) 512 e))

pub no_block : (s : List ℕ) (at : ℕ) → length s < at + 512 → eqb (length (part_of s at 512)) 512 ≡ false
unfolding part_of
no_block s at h = ne_eqb (length (take 512 (drop at s))) 512 (λ e. omega (arith, simp (length-take, length-drop) at e))

pub block_test : (s : List ℕ) (at : ℕ) → 512 ≤ length s → leb at (length s - 512) ≡ eqb (length (part_of s at 512)) 512
block_test s at h = cases (leb at (length s - 512)) refl
  where
    cases : (t : Bool) → leb at (length s - 512) ≡ t → t ≡ eqb (length (part_of s at 512)) 512
    cases true e = sym (is_block s at (omega (arith, leb-true at (length s - 512) e)))
    cases false e = sym (no_block s at (omega (arith, leb-false at (length s - 512) e)))
