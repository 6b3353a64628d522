-- What an accepted site has passed: its length and header, and every record.
use Rattle.std.specs.Prelude.{◌≡◌, true, List, ℕ, ◌/◌, length, Ok}
use Rattle.block_rules.specs.Rules.{block_size}
use Rattle.inputs.specs.declared.Scenario.{Scenario}
use Rattle.inputs.specs.Earlier.{none_before}
use Rattle.inputs.specs.declared.Contaminant.{Contaminant}
use Rattle.inputs.specs.Rules.{contaminant_fits}
use Rattle.block_rules.specs.declared.Header.{Header}
use Rattle.block_rules.specs.Reading.{header_read}
use Rattle.guideline_rules.specs.Pathway.{record_refusal}
use Rattle.site_rules.specs.Blocks.{block_at, length_ok}

-- ---- what the functions ask
-- a site whose header was found
pub record Opened (site : List ℕ) (h : Header) : Type 0 where
  pub right : length_ok (length site) ≡ true
  pub header : header_read (block_at site 0) (length site / block_size) ≡ Ok h

-- a record that keeps its rules and passes its tests standing alone
pub record RecordOk (s : Scenario) (medium : ℕ) (r : Contaminant) : Type 0 where
  pub fits : contaminant_fits r ≡ true
  pub passed : record_refusal s medium none_before r ≡ Ok tt
