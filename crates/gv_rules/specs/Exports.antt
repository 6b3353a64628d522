-- What the functions of the C library return and leave, over the definitions of the calls behind them.
use Rattle.std.specs.Prelude.{ℕ, ◌+◌, ◌*◌, ◌/◌, ◌%◌, ◌≡◌, List, Bool, cond, ◌&&◌, eqb, ltb, length, Result, Ok, Err, ⊤}
use Rattle.outcome.specs.declared.Refused.{Refused}
use Rattle.outcome.specs.declared.Refusal.TheVariants.{Room}
use Rattle.outcome.specs.Outcome.{refused, number_of, block_of}
use Rattle.words.specs.Bytes.{over}
use Rattle.inputs.specs.Kinds.{is_header_kind, inhalation_of}
use Rattle.inputs.specs.declared.Scenario.{Scenario}
use Rattle.inputs.specs.declared.Contaminant.{Contaminant}
use Rattle.inputs.specs.BuiltIn.{no_contaminant, built_in_of}
use Rattle.fields.specs.Fields.{field_bytes}
use Rattle.block_rules.specs.declared.Header.{Header}
use Rattle.block_rules.specs.Rules.{struct_size}
use Rattle.block_rules.specs.Reading.{no_header, header_at, header_unused, contaminant_at, contaminant_unused}
use Rattle.block_rules.specs.Layouts.{guideline_decimals}
use Rattle.block_rules.specs.Answers.{header_answer, header_left}
use Rattle.formulas.specs.Side.{Risk, Hazard}
use Rattle.guideline_rules.specs.Answer.{Guidelines}
use Rattle.guideline_rules.specs.Guideline.{guideline_of}
use Rattle.sum_rules.specs.Answer.{Sums}
use Rattle.sum_rules.specs.Promise.{side_sent}

-- ---- the word that comes back
-- the refusal number in bits 0 to 7, the block in 8 to 15, the verdicts of risk and hazard in 16 to 23 and 24 to 31
unfoldable pub word_of : ℕ → ℕ → ℕ → ℕ → ℕ
word_of number block risk hazard = number + 256 * block + 65536 * risk + 16777216 * hazard

unfoldable pub packed : Result Sums Refused → ℕ
packed a = word_of (number_of a) (block_of a) (side_sent a Risk).verdict (side_sent a Hazard).verdict

-- the four parts come back out of the word
pub record Unpacked (word number block risk hazard : ℕ) : Type 0 where
  pub number_part : word % 256 ≡ number
  pub block_part : word / 256 % 256 ≡ block
  pub risk_part : word / 65536 % 256 ≡ risk
  pub hazard_part : word / 16777216 % 256 ≡ hazard

-- ---- structs of C: bytes 8 to 507 of a block. A struct of another length, or with an unused byte that is not zero, stands for a record that keeps
-- no rule, so that refusal 4 is sent back in its turn. The kind of a header, which is not in its struct, is given beside it; so does any but 1 and 6
unfoldable pub header_form : ℕ → List ℕ → Bool
header_form kind l = is_header_kind kind && (eqb (length l) struct_size && header_unused l 0)

unfoldable pub header_from : ℕ → List ℕ → Header
header_from kind l = cond (header_form kind l) (header_at (inhalation_of kind) l 0) no_header

unfoldable pub contaminant_form : List ℕ → Bool
contaminant_form l = eqb (length l) struct_size && contaminant_unused l 0

unfoldable pub contaminant_from : List ℕ → Contaminant
contaminant_from l = cond (contaminant_form l) (contaminant_at l 0) no_contaminant

-- ---- the single guideline: the refusals of the call, and last 10 where fewer than 64 bytes are lent
abbrev pub with_room : ℕ → Result Guidelines Refused → Result Guidelines Refused
with_room room (Ok g) = cond (ltb room 64) (refused Room 0) (Ok g)
with_room room (Err r) = Err r

unfoldable pub guideline_sent : ℕ → List ℕ → List ℕ → ℕ → Result Guidelines Refused
guideline_sent kind header contaminant room =
    let h = header_from kind header in
    with_room room (guideline_of h.scenario h.medium (contaminant_from contaminant))

unfoldable pub guideline_word : Result Guidelines Refused → ℕ
guideline_word a = word_of (number_of a) (block_of a) 0 0

-- the eight decimals in the first 64 bytes, or nothing
unfoldable pub guideline_put : Result Guidelines Refused → List ℕ → List ℕ
guideline_put (Ok g) out = over (field_bytes (guideline_decimals g.risk g.hazard)) out
guideline_put (Err r) out = out

-- ---- the header of a built-in scenario: refusal 11, then the writer's own
abbrev pub header_with : ℕ → ℕ → Scenario → Header
header_with medium count s = record { medium = medium; count = count; scenario = s }

abbrev pub sent_with : ℕ → ℕ → ℕ → Result Scenario Refused → Result ⊤ Refused
sent_with room medium count (Ok s) = header_answer room (header_with medium count s)
sent_with room medium count (Err r) = Err r

abbrev pub put_with : List ℕ → ℕ → ℕ → Result Scenario Refused → List ℕ
put_with out medium count (Ok s) = header_left out (header_with medium count s)
put_with out medium count (Err r) = out

unfoldable pub built_in_sent : ℕ → ℕ → ℕ → ℕ → Result ⊤ Refused
built_in_sent room number medium count = sent_with room medium count (built_in_of number)

unfoldable pub built_in_put : List ℕ → ℕ → ℕ → ℕ → List ℕ
built_in_put out number medium count = put_with out medium count (built_in_of number)
