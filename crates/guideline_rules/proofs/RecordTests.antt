-- What the tests of a record say: 12 before 8; and where none of them holds, it is not mixed with what stands before it, and standing alone it passes too.
-- Assumes nothing.
use mathlib.Core.Path.{◌≡◌, refl, sym, ap₂}
use mathlib.Core.Bool.{Bool, true, false, false≢true, not, ◌||◌, and-false}
use mathlib.Core.List.{[], ◌∷◌}
use Prim.Native.Nat.{ℕ}
use Rattle.outcome.specs.declared.Refusal.TheVariants.{House, Pathway}
use Rattle.outcome.specs.Outcome.{test, refused_by}
use Rattle.outcome.proofs.Numbers.{not_both}
use Rattle.std.specs.Prelude.{Ok, Err}
use Rattle.inputs.specs.declared.Scenario.{Scenario}
use Rattle.inputs.specs.declared.Contaminant.{Contaminant}
use Rattle.inputs.specs.declared.earlier.Earlier.{Earlier}
use Rattle.inputs.specs.declared.kind.Class.TheVariants.{Chemical, Tritium}
use Rattle.inputs.specs.Rules.{is_class, lacks_house}
use Rattle.inputs.specs.Earlier.{none_before, mixed}
use Rattle.guideline_rules.specs.Pathway.{either_side, record_refusal}

-- 12 comes before 8: of a record that is mixed, or is tritium without a house or in soil, whatever its pathways
pub house_refused : (s : Scenario) (medium : ℕ) (before : Earlier) (r : Contaminant) → lacks_house s medium r || mixed before r ≡ true →
    record_refusal s medium before r ≡ Err House
unfolding record_refusal
house_refused s medium before r = cases (lacks_house s medium r || mixed before r)
  where
    cases : (a : Bool) → a ≡ true → refused_by (test House a ∷ test Pathway (not (either_side s medium r)) ∷ []) ≡ Err House
    cases true e = refl
    cases false e = absurd (false≢true e)

pub passed_unmixed : (s : Scenario) (medium : ℕ) (before : Earlier) (r : Contaminant) → record_refusal s medium before r ≡ Ok tt → mixed before r ≡ false
unfolding record_refusal
passed_unmixed s medium before r = cases (lacks_house s medium r) (mixed before r)
  where
    cases : (a b : Bool) → refused_by (test House (a || b) ∷ test Pathway (not (either_side s medium r)) ∷ []) ≡ Ok tt → b ≡ false
    cases true b h = absurd (not_both (sym h))
    cases false true h = absurd (not_both (sym h))
    cases false false h = refl

-- ---- a record that stands alone
alone : (r : Contaminant) → mixed none_before r ≡ false
alone r = ap₂ ◌||◌ (and-false (is_class Chemical r)) (and-false (is_class Tritium r))

pub alone_passed : (s : Scenario) (medium : ℕ) (before : Earlier) (r : Contaminant) → record_refusal s medium before r ≡ Ok tt → record_refusal s medium none_before r ≡ Ok tt
unfolding record_refusal
alone_passed s medium before r = cases (lacks_house s medium r) (mixed before r) (mixed none_before r) (alone r)
  where
    cases : (a b n : Bool) → n ≡ false → refused_by (test House (a || b) ∷ test Pathway (not (either_side s medium r)) ∷ []) ≡ Ok tt →
        refused_by (test House (a || n) ∷ test Pathway (not (either_side s medium r)) ∷ []) ≡ Ok tt
    cases true b n e h = absurd (not_both (sym h))
    cases false true n e h = absurd (not_both (sym h))
    cases false false n e h = rw e h
