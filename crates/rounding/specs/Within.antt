-- How far a rounded value may lie from the exact one: each rounding is a factor of at most 1 + 10^-8.
use Rattle.std.specs.Prelude.{ℕ, ◌*◌, ◌^◌, ◌≤◌}
use Rattle.rounding.specs.declared.Direction.{Direction}
use Rattle.rounding.specs.Direction.{lower, upper}

-- lo ≤ hi ≤ lo * (1 + 10^-8)^k
pub record Within (k lo hi : ℕ) : Type 0 where
  pub low : lo ≤ hi
  pub high : hi * 100000000 ^ k ≤ lo * 100000001 ^ k

-- r lies on the side dir of v, within k roundings
pub record Directed (dir : Direction) (k r v : ℕ) : Type 0 where
  pub within : Within k (lower dir r v) (upper dir r v)
