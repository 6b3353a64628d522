-- The text of a number and of decimals, a space before each, and the weight of an output.
use Rattle.std.specs.Prelude.{ℕ, ◌+◌, ◌*◌, ◌%◌, ◌^◌, List, [], ◌∷◌, ◌++◌}
use Rattle.std.specs.List.{flat_map}
use Rattle.std.specs.Fmt.{decimal, signed_decimal}
use Rattle.decimal.specs.declared.Decimal.{Decimal}

-- a space, then the digits
unfoldable pub next_text : ℕ → List ℕ
next_text n = 32 ∷ decimal n

-- a space, m, a space and e
unfoldable pub pair_text : Decimal → List ℕ
pair_text d = next_text d.m ++ 32 ∷ signed_decimal d.e

-- decimals, one after the other
abbrev pub all_text : List Decimal → List ℕ
all_text = flat_map pair_text

abbrev pub four_text : Decimal → Decimal → Decimal → Decimal → List ℕ
four_text a b c d = all_text (a ∷ b ∷ c ∷ d ∷ [])

-- each byte times its place, where the first one stands at place k
unfoldable pub weight_from : ℕ → List ℕ → ℕ
weight_from k [] = 0
weight_from k (x ∷ xs) = k * x + weight_from (k + 1) xs

-- the bytes, each times its place from 1, added modulo 4,294,967,296
abbrev pub weight : List ℕ → ℕ
weight xs = weight_from 1 xs % 2 ^ 32
