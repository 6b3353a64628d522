-- Each record of a list passes a test: the words of the theorems about decimals that a list's answer does not look at.
use Rattle.std.specs.Prelude.{Bool, true, not, ◌&&◌, List, [], ◌∷◌}
use Rattle.inputs.specs.declared.Contaminant.{Contaminant}
use Rattle.inputs.specs.declared.kind.Class.TheVariants.{Chemical}
use Rattle.inputs.specs.Valid.{valid_of}
use Rattle.inputs.specs.Rules.{is_class}

-- each record passes the test
abbrev pub each_passes : (Contaminant → Bool) → List Contaminant → Bool
each_passes test [] = true
each_passes test (r ∷ rs) = test r && each_passes test rs

-- a chemical whose SFi and RfDi keep their rule
abbrev pub valid_chemical : Contaminant → Bool
valid_chemical r = is_class Chemical r && (valid_of r.toxicity.sfi && valid_of r.toxicity.rfdi)

-- a radionuclide, tritium, or what has no class
abbrev pub other_class : Contaminant → Bool
other_class r = not (is_class Chemical r)
