-- The scenario of zeros, which stands for that of a refused call, keeps the rule of decimals. Assumes nothing.
use mathlib.Core.Path.{◌≡◌, refl}
use mathlib.Core.Bool.{true}
use Rattle.inputs.specs.BuiltIn.{blank}
use Rattle.inputs.specs.Inputs.{scenario_decimals, scenario_of, exposure_of, contact_of, targets_of, house_of, age_of, ages_of}
use Rattle.inputs.specs.Valid.{valid_of, all_valid}

pub blank_valid : all_valid (scenario_decimals blank) ≡ true
unfolding valid_of scenario_of exposure_of contact_of targets_of house_of age_of ages_of
blank_valid = refl
