-- What stands before a record looks at all earlier records: a chemical, or tritium, is among them exactly when one of them has that class.
-- Assumes nothing.
use mathlib.Core.Path.{◌≡◌, refl, sym, ap, ◌∙◌}
use mathlib.Core.Bool.{Bool, ◌||◌, or_assoc, or-false}
use mathlib.Core.List.{List, [], ◌∷◌}
use Rattle.inputs.specs.declared.Contaminant.{Contaminant}
use Rattle.inputs.specs.declared.earlier.Earlier.{Earlier}
use Rattle.inputs.specs.declared.kind.Class.{Class}
use Rattle.inputs.specs.declared.kind.Class.TheVariants.{Chemical, Tritium}
use Rattle.inputs.specs.Rules.{is_class}
use Rattle.inputs.specs.Earlier.{before_next, before_rest, has_class}

-- a mark that is set where it was set before the record, or where the record has the class
marked_before : (k : Class) (mark : Earlier → Bool) → ((e : Earlier) (r : Contaminant) → mark (before_next e r) ≡ mark e || is_class k r) →
    (e : Earlier) (rs : List Contaminant) → mark (before_rest e rs) ≡ mark e || has_class k rs
marked_before k mark step e [] = sym (or-false (mark e))
marked_before k mark step e (r ∷ rs) =
    marked_before k mark step (before_next e r) rs ∙ ap (λ (b : Bool). b || has_class k rs) (step e r) ∙ or_assoc (mark e) (is_class k r) (has_class k rs)

pub chemical_before : (e : Earlier) (rs : List Contaminant) → (before_rest e rs).chemical ≡ e.chemical || has_class Chemical rs
chemical_before = marked_before Chemical (λ (e : Earlier). e.chemical) (λ e r. refl)

pub tritium_before : (e : Earlier) (rs : List Contaminant) → (before_rest e rs).tritium ≡ e.tritium || has_class Tritium rs
tritium_before = marked_before Tritium (λ (e : Earlier). e.tritium) (λ e r. refl)
