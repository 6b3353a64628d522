-- Decimal fields (docs/FORMAT.md): m (4 bytes), e (2, two's complement), two zero bytes.
use Rattle.std.specs.Prelude.{ℕ, zero, suc, ◌+◌, ◌*◌, ◌-◌, ◌<◌, ◌%◌, ◌/◌, ◌≡◌, List, [], ◌∷◌, ◌++◌, Bool, true, ◌&&◌, cond, get_or, eqb, ltb, ℤ, pos, negsuc}
use Rattle.words.specs.Words.{word_at}
use Rattle.words.specs.Bytes.{le4}
use Rattle.decimal.specs.declared.Decimal.{Decimal}
use Rattle.decimal.specs.Exponent.{in_range}
use Rattle.inputs.specs.Valid.{valid_of}

-- two bytes, lowest first
unfoldable pub half_at : List ℕ → ℕ → ℕ
half_at s at = get_or s at 0 + 256 * get_or s (at + 1) 0

-- two's complement of 16 bits: what a number below 65536 stands for, and back
unfoldable pub signed_of : ℕ → ℤ
signed_of h = cond (ltb h 32768) (pos h) (negsuc (65535 - h))

unfoldable pub code_of : ℤ → ℕ
code_of (pos n) = n % 65536
code_of (negsuc n) = 65535 - n % 65536

-- the decimal in the field at `at`
unfoldable pub decimal_at : List ℕ → ℕ → Decimal
decimal_at s at = record { m = word_at s at; e = signed_of (half_at s (at + 4)) }

-- the field at `at` keeps its rule: a valid decimal, and two zero bytes
unfoldable pub field_ok : List ℕ → ℕ → Bool
field_ok s at = valid_of (decimal_at s at) && eqb (half_at s (at + 6)) 0

-- ---- n fields from `at` on
unfoldable pub decimals_at : List ℕ → ℕ → ℕ → List Decimal
decimals_at s at zero = []
decimals_at s at (suc n) = decimal_at s at ∷ decimals_at s (at + 8) n

unfoldable pub fields_ok : List ℕ → ℕ → ℕ → Bool
fields_ok s at zero = true
fields_ok s at (suc n) = field_ok s at && fields_ok s (at + 8) n

-- their last two bytes are zero
unfoldable pub unused_zero : List ℕ → ℕ → ℕ → Bool
unused_zero s at zero = true
unused_zero s at (suc n) = eqb (half_at s (at + 6)) 0 && unused_zero s (at + 8) n

-- ---- the eight bytes of a decimal, and the bytes of several
unfoldable pub field : Decimal → List ℕ
field d = le4 d.m ++ (code_of d.e % 256 ∷ code_of d.e / 256 ∷ 0 ∷ 0 ∷ [])

unfoldable pub field_bytes : List Decimal → List ℕ
field_bytes [] = []
field_bytes (d ∷ ds) = field d ++ field_bytes ds

-- a decimal that a field holds: m a word, e from -999 to 999
pub record InField (d : Decimal) : Type 0 where
  pub word : d.m < 4294967296
  pub exponent : in_range d.e ≡ true
