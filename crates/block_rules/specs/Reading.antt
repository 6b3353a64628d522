-- What a header block and a contaminant block hold, and what is sent back of one that breaks a rule, in the order of the specification.
use Rattle.std.specs.Prelude.{ℕ, ◌+◌, ◌%◌, List, Bool, ◌&&◌, not, cond, length, eqb, leb, Result, Ok, Err}
use Rattle.outcome.specs.declared.Refusal.TheVariants.{Length, Check, Kind, Field, Count, Factor, Order}
use Rattle.outcome.specs.declared.Refusal.{Refusal}
use Rattle.words.specs.Words.{word_at, word_sum}
use Rattle.inputs.specs.declared.kind.Inhalation.{Inhalation}
use Rattle.inputs.specs.Kinds.{is_header_kind, inhalation_of}
use Rattle.inputs.specs.declared.Scenario.{Scenario}
use Rattle.inputs.specs.declared.Contaminant.{Contaminant}
use Rattle.inputs.specs.Inputs.{scenario_of, contaminant_of}
use Rattle.inputs.specs.BuiltIn.{blank, no_contaminant}
use Rattle.inputs.specs.Rules.{scenario_fits, contaminant_fits, lacks_factor}
use Rattle.block_rules.specs.declared.Header.{Header}
use Rattle.block_rules.specs.Rules.{count_ok, block_size}
use Rattle.block_rules.specs.Pieces.{scenario_pieces, value_pieces, header_pieces, contaminant_pieces, decimals_in, unused_in}

-- the scenario whose first decimal stands at `at`, with inhalation worked out so
unfoldable pub scenario_at : Inhalation → List ℕ → ℕ → Scenario
scenario_at i s at = scenario_of i (decimals_in scenario_pieces s at)

-- a header whose medium stands at `at`: in a block at 8
unfoldable pub header_at : Inhalation → List ℕ → ℕ → Header
header_at i s at = record { medium = word_at s at; count = word_at s (at + 4); scenario = scenario_at i s (at + 8) }

-- how it is worked out, which the kind of the header block b tells
abbrev pub inhalation_in : List ℕ → Inhalation
inhalation_in b = inhalation_of (word_at b 0)

-- and what the header block b holds
abbrev pub header_in : List ℕ → Header
header_in b = header_at (inhalation_in b) b 8

-- its unused bytes are zero
unfoldable pub header_unused : List ℕ → ℕ → Bool
header_unused s at = unused_in header_pieces s at

-- a contaminant whose class stands at `at`: in a block at 8
unfoldable pub contaminant_at : List ℕ → ℕ → Contaminant
contaminant_at s at = contaminant_of (word_at s at) (word_at s (at + 4)) (decimals_in value_pieces s (at + 8))

-- the kind of its block
abbrev pub is_contaminant_kind : ℕ → Bool
is_contaminant_kind n = eqb n 2

-- its unused bytes are zero
unfoldable pub contaminant_unused : List ℕ → ℕ → Bool
contaminant_unused s at = unused_in contaminant_pieces s at

-- the 128 words of a block add to zero, and its place is right
unfoldable pub sound_at : List ℕ → ℕ → Bool
sound_at b place = eqb (word_sum b 128 % 4294967296) 0 && eqb (word_at b 4) place

-- the header block b of a site of so many blocks: what it holds, or 2 to 6. What is no block of 512 bytes is refused by 1
unfoldable pub header_read : List ℕ → ℕ → Result Header Refusal
header_read b blocks =
    cond (not (eqb (length b) block_size)) (Err Length)
    (cond (not (sound_at b 0)) (Err Check)
    (cond (not (is_header_kind (word_at b 0))) (Err Kind)
    (cond (not (scenario_fits (scenario_at (inhalation_in b) b 16) (word_at b 8) && header_unused b 8)) (Err Field)
    (cond (not (count_ok (word_at b 12) blocks)) (Err Count)
    (cond (lacks_factor (scenario_at (inhalation_in b) b 16)) (Err Factor)
    (Ok (header_in b)))))))

-- the contaminant block b at a place, after the previous id: what it holds, or 2, 3, 4, 7
unfoldable pub contaminant_read : List ℕ → ℕ → ℕ → Result Contaminant Refusal
contaminant_read b place previous =
    cond (not (eqb (length b) block_size)) (Err Length)
    (cond (not (sound_at b place)) (Err Check)
    (cond (not (is_contaminant_kind (word_at b 0))) (Err Kind)
    (cond (not (contaminant_fits (contaminant_at b 8) && contaminant_unused b 8)) (Err Field)
    (cond (leb (word_at b 12) previous) (Err Order)
    (Ok (contaminant_at b 8))))))

-- ---- the value of each case, whose number is `tests_number`: number 0 with what the block holds, or a refusal's number with zeros
abbrev pub no_header : Header
no_header = record { medium = 0; count = 0; scenario = blank }

abbrev pub header_value : Result Header Refusal → Header
header_value (Ok h) = h
header_value (Err n) = no_header

abbrev pub contaminant_value : Result Contaminant Refusal → Contaminant
contaminant_value (Ok r) = r
contaminant_value (Err n) = no_contaminant
