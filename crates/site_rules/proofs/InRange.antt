-- Every decimal on the way to the results of an accepted site is a working decimal with an e from -999 to 999, on each side and in each
-- direction. Assumes nothing.
use mathlib.Core.Path.{◌≡◌}
use mathlib.Core.Bool.{true}
use mathlib.Core.List.{List}
use Prim.Native.Nat.{ℕ}
use Rattle.rounding.specs.declared.Direction.{Direction}
use Rattle.decimal.specs.declared.Decimal.{Decimal}
use Rattle.decimal.specs.Decimal.{all_operands}
use Rattle.std.specs.List.{flat_map}
use Rattle.decimal.proofs.Steps.{operands_append}
use Rattle.outcome.specs.Outcome.{number_of}
use Rattle.inputs.specs.declared.Contaminant.{Contaminant}
use Rattle.formulas.specs.Side.{Side}
use Rattle.guideline_rules.specs.Steps.{guideline_steps}
use Rattle.guideline_rules.proofs.InRange.{worked_in_range}
use Rattle.sum_rules.specs.Steps.{list_steps}
use Rattle.sum_rules.proofs.Runs.{accepted_list}
use Rattle.sum_rules.proofs.InRange.{accepted_operands, list_in_range}
use Rattle.site_rules.specs.Blocks.{header_of, site_records}
use Rattle.site_rules.specs.Site.{site_answer}
use Rattle.site_rules.specs.Steps.{site_steps}
use Rattle.site_rules.proofs.Passed.{accepted_as}
use Rattle.site_rules.proofs.SameSums.{site_sums}

-- THE SITE
pub site_in_range : (site : List ℕ) (out : ℕ) → number_of (site_answer site out) ≡ 0 → (dir : Direction) (side : Side) → all_operands (site_steps dir side site) ≡ true
unfolding site_steps
site_in_range site out z dir side =
    let s = (header_of site).scenario in
    let medium = (header_of site).medium in
    let rs = site_records site in
    let listed = accepted_as (site_sums site out z) z in
    let own : Contaminant → List Decimal = λ r. guideline_steps s medium r side in
    operands_append (list_steps dir s medium side rs) (flat_map own rs) (list_in_range s medium rs listed dir side)
    (accepted_operands s medium own (λ r a. worked_in_range s medium r a side) rs (accepted_list s medium rs listed).all)
