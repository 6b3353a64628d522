-- Words of four bytes, lowest first, read from a list of bytes: one word, the sum of the first ones, zero bytes, a part.
use Rattle.std.specs.Prelude.{ℕ, zero, suc, ◌+◌, ◌*◌, Bool, true, ◌&&◌, List, take, drop, ◌==◌, slice_index}

-- the number that the four bytes from `at` spell, lowest first
unfoldable pub word_at : List ℕ → ℕ → ℕ
word_at s at = slice_index s at + 256 * slice_index s (at + 1) + 65536 * slice_index s (at + 2) + 16777216 * slice_index s (at + 3)

-- the first n words of s, added up
unfoldable pub word_sum : List ℕ → ℕ → ℕ
word_sum s zero = 0
word_sum s (suc n) = word_sum s n + word_at s (4 * n)

-- the n bytes of s from `at` on are zero
unfoldable pub zeros : List ℕ → ℕ → ℕ → Bool
zeros s at zero = true
zeros s at (suc n) = zeros s at n && slice_index s (at + n) == 0

-- the n bytes of s from `at` on
unfoldable pub part_of : List ℕ → ℕ → ℕ → List ℕ
part_of s at n = take n (drop at s)
