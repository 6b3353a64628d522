-- The blocks as 512 bytes (docs/FORMAT.md).
use Rattle.std.specs.Prelude.{ℕ, ◌-◌, ◌%◌, List, [], ◌∷◌, ◌++◌}
use Rattle.words.specs.Words.{word_sum}
use Rattle.words.specs.Bytes.{le4}
use Rattle.decimal.specs.declared.Decimal.{Decimal}
use Rattle.inputs.specs.declared.Contaminant.{Contaminant}
use Rattle.inputs.specs.Kinds.{header_kind}
use Rattle.inputs.specs.Inputs.{scenario_decimals, contaminant_decimals}
use Rattle.block_rules.specs.declared.Header.{Header}
use Rattle.block_rules.specs.Pieces.{Piece, bytes_of, header_pieces, contaminant_pieces, result_pieces, summary_pieces}
use Rattle.guideline_rules.specs.declared.SideGuidelines.{SideGuidelines}
use Rattle.guideline_rules.specs.Steps.{four_of}
use Rattle.sum_rules.specs.declared.SideSums.{SideSums}
use Rattle.sum_rules.specs.Verdict.{verdict_number}

-- the word that added to the first 127 of l gives zero modulo 4,294,967,296
unfoldable pub last_word : List ℕ → ℕ
last_word l = (4294967296 - word_sum l 127 % 4294967296) % 4294967296

-- 508 bytes: kind, place, and the pieces, with these words and decimals
unfoldable pub body_of : ℕ → ℕ → List Piece → List ℕ → List Decimal → List ℕ
body_of kind place ps ws ds = le4 kind ++ (le4 place ++ bytes_of ps ws ds)

-- and the last word
unfoldable pub block_of : ℕ → ℕ → List Piece → List ℕ → List Decimal → List ℕ
block_of kind place ps ws ds = body_of kind place ps ws ds ++ le4 (last_word (body_of kind place ps ws ds))

-- a header, place 0: kind 1 where inhalation is by intake, 6 by concentration
unfoldable pub header_block : Header → List ℕ
header_block h = block_of (header_kind h.scenario.inhalation) 0 header_pieces (h.medium ∷ h.count ∷ []) (scenario_decimals h.scenario)

-- kind 2, contaminant
unfoldable pub contaminant_block : ℕ → Contaminant → List ℕ
contaminant_block place r = block_of 2 place contaminant_pieces (r.class ∷ r.id ∷ []) (contaminant_decimals r)

-- kind 3, result: risk 1, 2, 3, total, then hazard likewise
abbrev pub guideline_decimals : SideGuidelines → SideGuidelines → List Decimal
guideline_decimals r h = four_of r ++ four_of h

unfoldable pub result_block : ℕ → ℕ → ℕ → SideGuidelines → SideGuidelines → List ℕ
result_block place class id risk hazard = block_of 3 place result_pieces (class ∷ id ∷ []) (guideline_decimals risk hazard)

-- kind 4, summary, place 0: lower and upper sums, then the verdicts
abbrev pub summary_decimals : SideSums → SideSums → List Decimal
summary_decimals r h = r.lower ∷ (r.upper ∷ (h.lower ∷ (h.upper ∷ [])))

abbrev pub summary_words : SideSums → SideSums → List ℕ
summary_words r h = 0 ∷ (0 ∷ (verdict_number r.verdict ∷ (verdict_number h.verdict ∷ [])))

unfoldable pub summary_block : SideSums → SideSums → List ℕ
summary_block risk hazard = block_of 4 0 summary_pieces (summary_words risk hazard) (summary_decimals risk hazard)
