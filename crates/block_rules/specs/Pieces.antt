-- What stands in bytes 8 to 507 of each kind of block, in order: words, decimals and unused bytes (docs/FORMAT.md). Which bytes a reader takes the
-- decimals from, which bytes must be zero, and what a writer puts, follow from these lists.
use Rattle.std.specs.Prelude.{ℕ, ◌+◌, ◌*◌, List, [], ◌∷◌, ◌++◌, Bool, true, ◌&&◌, take, drop, replicate, get_or}
use Rattle.words.specs.Words.{word_at, zeros}
use Rattle.words.specs.Bytes.{le4}
use Rattle.decimal.specs.declared.Decimal.{Decimal}
use Rattle.fields.specs.Fields.{unused_zero, decimals_at, fields_ok, field_bytes}

-- a word, so many decimals, so many bytes that are zero
pub data Piece : Type 0 where
  Word : Piece
  Decimals : ℕ → Piece
  Unused : ℕ → Piece

-- a gap of so many bytes, n decimals behind it, and so many unused bytes
abbrev pub behind_gap : ℕ → ℕ → ℕ → List Piece
behind_gap gap n rest = Unused gap ∷ Decimals n ∷ Unused rest ∷ []

-- a scenario, from byte 16 on of a header, kind 1 or 6, and a contaminant's decimals, from byte 16 on of kind 2
abbrev pub scenario_pieces : List Piece
scenario_pieces = Decimals 20 ∷ behind_gap 16 10 236

abbrev pub value_pieces : List Piece
value_pieces = Decimals 9 ∷ behind_gap 8 3 388

-- a header, kind 1 or 6: medium, count, the scenario
abbrev pub header_pieces : List Piece
header_pieces = Word ∷ Word ∷ scenario_pieces

-- kind 2: class, id, the contaminant's decimals
abbrev pub contaminant_pieces : List Piece
contaminant_pieces = Word ∷ Word ∷ value_pieces

-- kind 3: class, id, eight guidelines
abbrev pub result_pieces : List Piece
result_pieces = Word ∷ Word ∷ Decimals 8 ∷ Unused 428 ∷ []

-- kind 4: two words that are zero, four sums, the verdicts of risk and hazard
abbrev pub summary_pieces : List Piece
summary_pieces = Word ∷ Word ∷ Decimals 4 ∷ Word ∷ Word ∷ Unused 452 ∷ []

-- ---- how many bytes, words and decimals they are
abbrev pub pieces_size : List Piece → ℕ
pieces_size [] = 0
pieces_size (Word ∷ ps) = 4 + pieces_size ps
pieces_size (Decimals n ∷ ps) = 8 * n + pieces_size ps
pieces_size (Unused n ∷ ps) = n + pieces_size ps

abbrev pub words_held : List Piece → ℕ
words_held [] = 0
words_held (Word ∷ ps) = 1 + words_held ps
words_held (Decimals n ∷ ps) = words_held ps
words_held (Unused n ∷ ps) = words_held ps

abbrev pub decimals_held : List Piece → ℕ
decimals_held [] = 0
decimals_held (Word ∷ ps) = decimals_held ps
decimals_held (Decimals n ∷ ps) = n + decimals_held ps
decimals_held (Unused n ∷ ps) = decimals_held ps

-- ---- read, where the first piece stands at `at`: the words, the decimals, and that the last two bytes of every decimal and every unused byte are zero
unfoldable pub words_in : List Piece → List ℕ → ℕ → List ℕ
words_in [] s at = []
words_in (Word ∷ ps) s at = word_at s at ∷ words_in ps s (at + 4)
words_in (Decimals n ∷ ps) s at = words_in ps s (at + 8 * n)
words_in (Unused n ∷ ps) s at = words_in ps s (at + n)

unfoldable pub decimals_in : List Piece → List ℕ → ℕ → List Decimal
decimals_in [] s at = []
decimals_in (Word ∷ ps) s at = decimals_in ps s (at + 4)
decimals_in (Decimals n ∷ ps) s at = decimals_at s at n ++ decimals_in ps s (at + 8 * n)
decimals_in (Unused n ∷ ps) s at = decimals_in ps s (at + n)

unfoldable pub unused_in : List Piece → List ℕ → ℕ → Bool
unused_in [] s at = true
unused_in (Word ∷ ps) s at = unused_in ps s (at + 4)
unused_in (Decimals n ∷ ps) s at = unused_zero s at n && unused_in ps s (at + 8 * n)
unused_in (Unused n ∷ ps) s at = zeros s at n && unused_in ps s (at + n)

-- the rule of each field and of each unused byte
unfoldable pub pieces_keep : List Piece → List ℕ → ℕ → Bool
pieces_keep [] s at = true
pieces_keep (Word ∷ ps) s at = pieces_keep ps s (at + 4)
pieces_keep (Decimals n ∷ ps) s at = fields_ok s at n && pieces_keep ps s (at + 8 * n)
pieces_keep (Unused n ∷ ps) s at = zeros s at n && pieces_keep ps s (at + n)

-- ---- written: these words and these decimals in their order, and zeros
unfoldable pub bytes_of : List Piece → List ℕ → List Decimal → List ℕ
bytes_of [] ws ds = []
bytes_of (Word ∷ ps) ws ds = le4 (get_or ws 0 0) ++ bytes_of ps (drop 1 ws) ds
bytes_of (Decimals n ∷ ps) ws ds = field_bytes (take n ds) ++ bytes_of ps ws (drop n ds)
bytes_of (Unused n ∷ ps) ws ds = replicate n 0 ++ bytes_of ps ws ds
