-- Every decimal on the way to the sums of a list, on a side and in a direction.
use Rattle.std.specs.Prelude.{List, [], ◌∷◌, ◌++◌, ℕ}
use Rattle.rounding.specs.declared.Direction.{Direction}
use Rattle.rounding.specs.declared.Direction.TheVariants.{Down, Up}
use Rattle.decimal.specs.declared.Decimal.{Decimal}
use Rattle.std.specs.List.{flat_map}
use Rattle.inputs.specs.declared.Scenario.{Scenario}
use Rattle.inputs.specs.declared.Contaminant.{Contaminant}
use Rattle.formulas.specs.Side.{Side}
use Rattle.formulas.specs.Target.{working_target}
use Rattle.formulas.specs.Steps.{steps_for}
use Rattle.sum_rules.specs.Promise.{SideSent}
use Rattle.sum_rules.specs.Share.{used_of, share_of, Running, run_sum, start, next}

-- a record: those of its terms and their sum, the concentration used, the share
abbrev pub share_steps : Direction → Scenario → ℕ → Side → Contaminant → List Decimal
share_steps dir s medium side r = steps_for dir s medium r side ++ used_of r dir ∷ share_of s medium r dir side ∷ []

-- the running sum before each record, and after the last
abbrev pub run_steps : Direction → Scenario → ℕ → Side → Running → List Contaminant → List Decimal
run_steps dir s medium side t [] = run_sum dir t ∷ []
run_steps dir s medium side t (r ∷ rs) = run_sum dir t ∷ run_steps dir s medium side (next s medium side t r) rs

-- the reported sum of a direction, which is the last of them
abbrev pub reported_sum : Direction → SideSent → Decimal
reported_sum Down t = t.lower
reported_sum Up t = t.upper

-- the whole list, with the target that the sums are compared with
unfoldable pub list_steps : Direction → Scenario → ℕ → Side → List Contaminant → List Decimal
list_steps dir s medium side rs = working_target s side ∷ flat_map (share_steps dir s medium side) rs ++ run_steps dir s medium side start rs
