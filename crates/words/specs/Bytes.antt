-- Bytes written over a list: the bytes of a word, some bytes replaced, the first bytes replaced.
use Rattle.std.specs.Prelude.{ℕ, ◌+◌, ◌/◌, ◌%◌, List, [], ◌∷◌, ◌++◌, length, take, drop}

-- the four bytes of a word, lowest first
unfoldable pub le4 : ℕ → List ℕ
le4 v = v % 256 ∷ v / 256 % 256 ∷ v / 65536 % 256 ∷ v / 16777216 % 256 ∷ []

-- l with the bytes w in the place of those from `at` on
unfoldable pub placed : List ℕ → ℕ → List ℕ → List ℕ
placed l at w = take at l ++ (w ++ drop (at + length w) l)

-- the bytes p, and after them those of d that stand there
unfoldable pub over : List ℕ → List ℕ → List ℕ
over p d = p ++ drop (length p) d
