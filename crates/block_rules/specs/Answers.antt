-- What the writers of kinds 1 and 2 send back and leave: 10, then 4, then (header) 6; a refused writer writes nothing.
use Rattle.std.specs.Prelude.{ℕ, List, [], ◌∷◌, Bool, ◌&&◌, not, length, ltb, Result, Ok, Err, ⊤}
use Rattle.outcome.specs.declared.Refusal.{Refusal}
use Rattle.outcome.specs.declared.Refusal.TheVariants.{Field, Room}
use Rattle.outcome.specs.declared.Refused.{Refused}
use Rattle.outcome.specs.Outcome.{located, Test, test, refused_by}
use Rattle.words.specs.Bytes.{over}
use Rattle.inputs.specs.declared.Contaminant.{Contaminant}
use Rattle.inputs.specs.Rules.{scenario_fits, scenario_tests, contaminant_fits}
use Rattle.block_rules.specs.declared.Header.{Header}
use Rattle.block_rules.specs.Rules.{in_file, block_size}
use Rattle.block_rules.specs.Layouts.{header_block, contaminant_block}

-- the count is 1 to 120, the medium and the decimals keep their rule
unfoldable pub header_fit : Header → Bool
header_fit h = in_file h.count && scenario_fits h.scenario h.medium

-- the place is 1 to 120, the class, the id and the decimals keep their rule
unfoldable pub contaminant_fit : ℕ → Contaminant → Bool
contaminant_fit place r = in_file place && contaminant_fits r

-- what they send back where so many bytes are lent: 10, then 4 for the count and the tests of the scenario; 10, then 4
abbrev pub header_tests : ℕ → Header → List Test
header_tests room h = test Room (ltb room block_size) ∷ test Field (not (in_file h.count)) ∷ scenario_tests h.scenario h.medium

unfoldable pub header_refusal : ℕ → Header → Result ⊤ Refusal
header_refusal room h = refused_by (header_tests room h)

abbrev pub contaminant_tests : ℕ → ℕ → Contaminant → List Test
contaminant_tests room place r = test Room (ltb room block_size) ∷ test Field (not (contaminant_fit place r)) ∷ []

unfoldable pub contaminant_refusal : ℕ → ℕ → Contaminant → Result ⊤ Refusal
contaminant_refusal room place r = refused_by (contaminant_tests room place r)

-- a writer's block is always 0
abbrev pub header_answer : ℕ → Header → Result ⊤ Refused
header_answer room h = located (header_refusal room h) 0

abbrev pub contaminant_answer : ℕ → ℕ → Contaminant → Result ⊤ Refused
contaminant_answer room place r = located (contaminant_refusal room place r) 0

-- what is left where a block was to be written over the first bytes of `out`
unfoldable pub left_by : {E : Type 0} → Result ⊤ E → List ℕ → List ℕ → List ℕ
left_by (Ok x) block out = over block out
left_by (Err e) block out = out

unfoldable pub header_left : List ℕ → Header → List ℕ
header_left out h = left_by (header_refusal (length out) h) (header_block h) out

unfoldable pub contaminant_left : List ℕ → ℕ → Contaminant → List ℕ
contaminant_left out place r = left_by (contaminant_refusal (length out) place r) (contaminant_block place r) out
