-- A site as blocks: its length, the block at a place, and what the header and each record hold.
use Rattle.std.specs.Prelude.{ℕ, zero, suc, ◌+◌, ◌*◌, ◌%◌, List, [], ◌∷◌, Bool, ◌&&◌, eqb, leb, Result}
use Rattle.outcome.specs.declared.Refused.{Refused}
use Rattle.inputs.specs.declared.Scenario.{Scenario}
use Rattle.inputs.specs.declared.Contaminant.{Contaminant}
use Rattle.inputs.specs.Rules.{most_contaminants}
use Rattle.words.specs.Words.{part_of}
use Rattle.block_rules.specs.declared.Header.{Header}
use Rattle.block_rules.specs.Rules.{block_size}
use Rattle.block_rules.specs.Reading.{header_in, contaminant_at}
use Rattle.formulas.specs.Side.{Risk, Hazard}
use Rattle.sum_rules.specs.Answer.{Sums}
use Rattle.sum_rules.specs.Share.{start, run_all}
use Rattle.sum_rules.specs.ListCall.{accepted}

-- 1: at least 1,024 and at most 61,952 bytes, and a multiple of 512
unfoldable pub length_ok : ℕ → Bool
length_ok n = leb (2 * block_size) n && (leb n ((most_contaminants + 1) * block_size) && eqb (n % block_size) 0)

-- the block at a place
unfoldable pub block_at : List ℕ → ℕ → List ℕ
block_at site k = part_of site (block_size * k) block_size

-- what the block at place 0 and the one at place k hold
unfoldable pub header_of : List ℕ → Header
header_of site = header_in (block_at site 0)

unfoldable pub record_at : List ℕ → ℕ → Contaminant
record_at site k = contaminant_at (block_at site k) 8

-- the records of n blocks, the first at place k
unfoldable pub records_from : List ℕ → ℕ → ℕ → List Contaminant
records_from site zero k = []
records_from site (suc n) k = record_at site k ∷ records_from site n (k + 1)

-- those of the site
abbrev pub site_records : List ℕ → List Contaminant
site_records site = records_from site (header_of site).count 1

-- the answer that reports the sums of a list
abbrev pub all_sums : Scenario → ℕ → List Contaminant → Result Sums Refused
all_sums s medium rs = accepted s (run_all s medium Risk start rs) (run_all s medium Hazard start rs)
