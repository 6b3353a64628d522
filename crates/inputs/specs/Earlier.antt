-- What stands before a record in its list, as far as its tests look at it: the id of the record before it, and whether a chemical, and whether
-- tritium, stands anywhere before it.
use Rattle.std.specs.Prelude.{Bool, false, ◌&&◌, ◌||◌, List, [], ◌∷◌}
use Rattle.inputs.specs.declared.Contaminant.{Contaminant}
use Rattle.inputs.specs.declared.kind.Class.{Class}
use Rattle.inputs.specs.declared.kind.Class.TheVariants.{Chemical, Tritium}
use Rattle.inputs.specs.declared.earlier.Earlier.{Earlier}
use Rattle.inputs.specs.Rules.{is_class}

abbrev pub none_before : Earlier
none_before = record { id = 0; chemical = false; tritium = false }

-- what stands before the next record: this one too
abbrev pub before_next : Earlier → Contaminant → Earlier
before_next e r = record { id = r.id; chemical = e.chemical || is_class Chemical r; tritium = e.tritium || is_class Tritium r }

-- and after several records
abbrev pub before_rest : Earlier → List Contaminant → Earlier
before_rest e [] = e
before_rest e (r ∷ rs) = before_rest (before_next e r) rs

-- 12: a chemical after tritium, or tritium after a chemical, whatever stands between them
abbrev pub mixed : Earlier → Contaminant → Bool
mixed e r = is_class Chemical r && e.tritium || is_class Tritium r && e.chemical

-- a list has a record of the class
abbrev pub has_class : Class → List Contaminant → Bool
has_class k [] = false
has_class k (r ∷ rs) = is_class k r || has_class k rs
