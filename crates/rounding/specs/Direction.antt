-- The two directions of rounding: "down" and "up".
use Rattle.std.specs.Prelude.{ℕ, ◌≤◌}
use Rattle.rounding.specs.declared.Direction.{Direction}
use Rattle.rounding.specs.declared.Direction.TheVariants.{Down, Up}

abbrev pub opposite : Direction → Direction
opposite Down = Up
opposite Up = Down

-- of a rounded value r and an exact value v: the one that has to be the lower, and the other
abbrev pub lower : Direction → ℕ → ℕ → ℕ
lower Down r v = r
lower Up r v = v

abbrev pub upper : Direction → ℕ → ℕ → ℕ
upper Down r v = v
upper Up r v = r

-- r is not above v (down), or not below it (up)
pub record Side (dir : Direction) (r v : ℕ) : Type 0 where
  pub side : lower dir r v ≤ upper dir r v
