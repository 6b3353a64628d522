-- Every decimal on the way to the results of a site, on a side and in a direction: those of the list call over its records, and those of the
-- single guideline of each.
use Rattle.std.specs.Prelude.{List, ◌++◌, ℕ}
use Rattle.rounding.specs.declared.Direction.{Direction}
use Rattle.decimal.specs.declared.Decimal.{Decimal}
use Rattle.std.specs.List.{flat_map}
use Rattle.inputs.specs.declared.Contaminant.{Contaminant}
use Rattle.formulas.specs.Side.{Side}
use Rattle.guideline_rules.specs.Steps.{guideline_steps}
use Rattle.sum_rules.specs.Steps.{list_steps}
use Rattle.site_rules.specs.Blocks.{header_of, site_records}

unfoldable pub site_steps : Direction → Side → List ℕ → List Decimal
site_steps dir side site =
    list_steps dir (header_of site).scenario (header_of site).medium side (site_records site) ++
    flat_map (λ (r : Contaminant). guideline_steps (header_of site).scenario (header_of site).medium r side) (site_records site)
