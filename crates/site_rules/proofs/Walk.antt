-- The answer of the site call by a walk, block after block, as the code goes: the blocks are checked, and then there are the sums over all
-- records. That it is the same is shown in WalkTable.antt. Assumes nothing.
use Prim.Native.Nat.{ℕ, zero, suc, ◌+◌, ◌/◌}
use mathlib.Core.List.{List}
use mathlib.Core.Bool.{cond}
use lib.ListN.{length}
use lib.Dec.{ltb}
use Rattle.outcome.specs.declared.Refusal.{Refusal}
use Rattle.outcome.specs.declared.Refusal.TheVariants.{Length, Room}
use Rattle.std.specs.Prelude.{Result, Ok, Err, ⊤}
use Rattle.std.specs.Result.{result_and}
use Rattle.outcome.specs.declared.Refused.{Refused}
use Rattle.outcome.specs.Outcome.{refused, on_read, passing}
use Rattle.inputs.specs.declared.Scenario.{Scenario}
use Rattle.inputs.specs.declared.earlier.Earlier.{Earlier}
use Rattle.inputs.specs.Earlier.{none_before, before_next}
use Rattle.inputs.specs.declared.Contaminant.{Contaminant}
use Rattle.block_rules.specs.declared.Header.{Header}
use Rattle.block_rules.specs.Rules.{block_size}
use Rattle.block_rules.specs.Reading.{header_read, contaminant_read}
use Rattle.guideline_rules.specs.Pathway.{record_refusal}
use Rattle.sum_rules.specs.Answer.{Sums}
use Rattle.site_rules.specs.Blocks.{length_ok, block_at, records_from, all_sums}

-- n blocks, the first at place k, with what stands before its record: 2, 3, 4 and 7 by `contaminant_read`, then the tests of a record
unfoldable pub check_blocks : Scenario → ℕ → List ℕ → ℕ → ℕ → Earlier → Result ⊤ Refused
check_blocks s medium site zero k before = Ok tt
check_blocks s medium site (suc n) k before =
    on_read (contaminant_read (block_at site k) k before.id) (λ (m : Refusal). refused m k)
    (λ (r : Contaminant). passing (record_refusal s medium before r) k (check_blocks s medium site n (k + 1) (before_next before r)))

-- what is found from the record at place k on, n blocks behind it
abbrev pub check_found : Scenario → ℕ → List ℕ → ℕ → ℕ → Earlier → Contaminant → Result ⊤ Refused
check_found s medium site n k before r = passing (record_refusal s medium before r) k (check_blocks s medium site n (k + 1) (before_next before r))

-- last 10: the output is shorter than the site
unfoldable pub with_room : ℕ → ℕ → Result Sums Refused → Result Sums Refused
with_room site out (Ok a) = cond (ltb out site) (refused Room 0) (Ok a)
with_room site out (Err r) = Err r

-- what is found in the blocks behind a header, and the sums over all records
abbrev pub checked_from : List ℕ → Header → Result ⊤ Refused
checked_from site h = check_blocks h.scenario h.medium site h.count 1 none_before

abbrev pub sums_from : List ℕ → Header → Result Sums Refused
sums_from site h = all_sums h.scenario h.medium (records_from site h.count 1)

-- 1; the header 2 to 6; each later block; last 10
unfoldable pub walked_answer : List ℕ → ℕ → Result Sums Refused
walked_answer site out =
    cond (length_ok (length site))
    (on_read (header_read (block_at site 0) (length site / block_size)) (λ (m : Refusal). refused m 0)
    (λ (h : Header). with_room (length site) out (result_and (checked_from site h) (sums_from site h))))
    (refused Length 0)
