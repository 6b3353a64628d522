-- Fractions of whole numbers: the exact values of the specification. No step is rounded.
use Rattle.std.specs.Prelude.{ℕ, ◌+◌, ◌*◌, ◌≤◌}
use Rattle.rounding.specs.Number.{one}
use Rattle.decimal.specs.declared.Decimal.{Decimal}
use Rattle.decimal.specs.Decimal.{value_of}

pub record Fraction : Type 0 where
  pub top : ℕ
  pub bottom : ℕ

-- m * 10^e, as given
unfoldable pub given : Decimal → Fraction
given d = record { top = value_of d; bottom = one }

abbrev pub nothing : Fraction
nothing = record { top = 0; bottom = 1 }

abbrev pub times : Fraction → Fraction → Fraction
times p q = record { top = p.top * q.top; bottom = p.bottom * q.bottom }

abbrev pub over : Fraction → Fraction → Fraction
over p q = record { top = p.top * q.bottom; bottom = p.bottom * q.top }

abbrev pub plus : Fraction → Fraction → Fraction
plus p q = record { top = p.top * q.bottom + q.top * p.bottom; bottom = p.bottom * q.bottom }

-- p is at most q
abbrev pub AtMost : Fraction → Fraction → Type 0
AtMost p q = p.top * q.bottom ≤ q.top * p.bottom
