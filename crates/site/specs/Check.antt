-- What the checking walk asks: a site of so many contaminants whose scenario and medium passed.
use Rattle.std.specs.Prelude.{◌≡◌, true, false, List, ℕ, ◌+◌, ◌*◌, ◌≤◌, length}
use Rattle.inputs.specs.declared.Scenario.{Scenario}
use Rattle.inputs.specs.Rules.{scenario_fits, lacks_factor, most_contaminants}
use Rattle.block_rules.specs.Rules.{block_size}

pub record Checking (s : Scenario) (medium : ℕ) (site : List ℕ) (count : ℕ) : Type 0 where
  pub fits : scenario_fits s medium ≡ true
  pub known : lacks_factor s ≡ false
  pub long : block_size * count + block_size ≤ length site
  pub most : count ≤ most_contaminants
