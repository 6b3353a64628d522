-- A site of the right length has 2 to 121 whole blocks. Assumes nothing.
use mathlib.Core.Path.{◌≡◌}
use mathlib.Core.Bool.{true, ◌&&◌}
use Prim.Native.Nat.{ℕ, ◌%◌, ◌≤◌}
use lib.Dec.{eqb, leb}
use borrow.Author.Tests.{eqb-true, leb-true}
use Rattle.inputs.proofs.Tests.{and_split}
use Rattle.site_rules.specs.Blocks.{length_ok}

pub record RightLength (n : ℕ) : Type 0 where
  pub least : 1024 ≤ n
  pub most : n ≤ 61952
  pub whole : n % 512 ≡ 0

pub right_length : (n : ℕ) → length_ok n ≡ true → RightLength n
unfolding length_ok
right_length n h =
    let a = and_split (leb 1024 n) (leb n 61952 && eqb (n % 512) 0) h in
    let b = and_split (leb n 61952) (eqb (n % 512) 0) a.1 in
    record { least = leb-true 1024 n a.0; most = leb-true n 61952 b.0; whole = eqb-true (n % 512) 0 b.1 }
