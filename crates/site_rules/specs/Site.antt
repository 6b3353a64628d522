-- The site call of the specification: what is sent back of the bytes of a site and an output of so many bytes.
use Rattle.std.specs.Prelude.{ℕ, List, Result}
use Rattle.outcome.specs.declared.Refused.{Refused}
use Rattle.sum_rules.specs.Answer.{Sums}
use Rattle.site_rules.specs.Blocks.{header_of, all_sums, site_records}
use Rattle.site_rules.specs.Refusals.{site_conditions, first_holding}

-- the first condition of the table that holds, or else the sums over all records
unfoldable pub site_answer : List ℕ → ℕ → Result Sums Refused
site_answer site out = first_holding (site_conditions site out) (all_sums (header_of site).scenario (header_of site).medium (site_records site))
