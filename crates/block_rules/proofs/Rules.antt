-- What a rule that is kept says of the numbers it is about. Assumes nothing.
use mathlib.Core.Path.{◌≡◌}
use mathlib.Core.Bool.{true}
use Prim.Native.Nat.{ℕ, ◌≤◌, ◌+◌}
use lib.Dec.{eqb}
use borrow.Author.Tests.{eq-eqb}
use Rattle.inputs.proofs.Tests.{one_to_lem}
use Rattle.block_rules.specs.Rules.{in_file}
use mathlib.Core.List.{List}
use lib.ListN.{length}
use Rattle.words.specs.Words.{part_of}
use Rattle.words.proofs.Parts.{part_length}

pub in_file_lem : (n : ℕ) → in_file n ≡ true → (1 ≤ n) × (n ≤ 120)
unfolding in_file
in_file_lem = one_to_lem 120

pub is_block : (s : List ℕ) (at : ℕ) → at + 512 ≤ length s → eqb (length (part_of s at 512)) 512 ≡ true
is_block s at h = eq-eqb (length (part_of s at 512)) 512 (part_length s at 512 h)
