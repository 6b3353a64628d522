-- A chemical and tritium never stand in one accepted list, wherever they stand in it and whatever stands between them. Assumes nothing.
use mathlib.Core.Path.{◌≡◌, refl, sym, ap₂, ◌∙◌}
use mathlib.Core.Bool.{Bool, true, false, false≢true, cond, ◌&&◌, ◌||◌}
use mathlib.Core.List.{List, [], ◌∷◌}
use Prim.Native.Nat.{ℕ, ◌+◌}
use native.Mathlib.Omega.{arith}
use lib.Dec.{leb}
use lib.ListN.{length}
use borrow.Author.Tests.{eqb-true}
use Rattle.outcome.specs.declared.Refusal.TheVariants.{Field, Order}
use Rattle.outcome.specs.declared.Refused.{Refused}
use Rattle.outcome.specs.Outcome.{number_of, refused, passing}
use Rattle.outcome.proofs.Tests.{passing_ok}
use Rattle.std.specs.Prelude.{Result}
use Rattle.inputs.specs.declared.Scenario.{Scenario}
use Rattle.inputs.specs.declared.Contaminant.{Contaminant}
use Rattle.inputs.specs.declared.earlier.Earlier.{Earlier}
use Rattle.inputs.specs.declared.kind.Class.TheVariants.{Chemical, Tritium}
use Rattle.inputs.specs.Rules.{is_class, contaminant_fits}
use Rattle.inputs.specs.Earlier.{none_before, before_next, before_rest, has_class}
use Rattle.inputs.proofs.AllEarlier.{chemical_before, tritium_before}
use Rattle.guideline_rules.specs.Pathway.{record_refusal}
use Rattle.guideline_rules.proofs.RecordTests.{passed_unmixed}
use Rattle.sum_rules.specs.Answer.{Sums}
use Rattle.formulas.specs.Side.{Risk, Hazard}
use Rattle.sum_rules.specs.Share.{Running, start, next}
use Rattle.sum_rules.specs.ListCall.{first_refusal, walk, sums_of}

-- no class is both
not_two : (r : Contaminant) → is_class Chemical r && is_class Tritium r ≡ false
not_two r = cases (is_class Chemical r) (is_class Tritium r) refl refl
  where
    cases : (a b : Bool) → is_class Chemical r ≡ a → is_class Tritium r ≡ b → a && b ≡ false
    cases true true e f = absurd (omega (arith, eqb-true r.class 1 e, eqb-true r.class 3 f))
    cases true false e f = refl
    cases false b e f = refl

-- what stands before the next record is not mixed either
still_apart : (c t a b : Bool) → c && t ≡ false → a && b ≡ false → a && t || b && c ≡ false → (c || a) && (t || b) ≡ false
still_apart true true a b d e m = absurd (false≢true (sym d))
still_apart false false a b d e m = e
still_apart true false a false d e m = refl
still_apart true false true true d e m = absurd (false≢true (sym e))
still_apart true false false true d e m = absurd (false≢true (sym m))
still_apart false true true b d e m = absurd (false≢true (sym m))
still_apart false true false b d e m = refl

-- not both a chemical and tritium
abbrev Apart : Earlier → Type 0
Apart e = e.chemical && e.tritium ≡ false

module _ (s : Scenario) (medium : ℕ) where
  step_apart : (r : Contaminant) (n : ℕ) (before after : Earlier) (w : Result Sums Refused) (a b : Bool) → Apart before →
      (Apart (before_next before r) → number_of w ≡ 0 → Apart after) →
      number_of (cond a (cond b (refused Order n) (passing (record_refusal s medium before r) n w)) (refused Field n)) ≡ 0 → Apart after
  step_apart r n before after w true true d again z = absurd (omega (arith, z))
  step_apart r n before after w false b d again z = absurd (omega (arith, z))
  step_apart r n before after w true false d again z =
      let p = passing_ok (record_refusal s medium before r) n w z in
      again (still_apart before.chemical before.tritium (is_class Chemical r) (is_class Tritium r) d (not_two r) (passed_unmixed s medium before r p.0)) p.1

  -- from before a record to after the last
  walk_apart : (rs : List Contaminant) (n : ℕ) (before : Earlier) (risk hazard : Running) → Apart before →
      number_of (walk s medium rs n before risk hazard) ≡ 0 → Apart (before_rest before rs)
  unfolding walk
  walk_apart [] n before risk hazard d z = d
  walk_apart (r ∷ rs) n before risk hazard d z =
      let e = before_next before r in
      let x = next s medium Risk risk r in
      let y = next s medium Hazard hazard r in
      step_apart r n before (before_rest e rs) (walk s medium rs (n + 1) e x y) (contaminant_fits r) (leb r.id before.id) d (walk_apart rs (n + 1) e x y) z

-- NO ACCEPTED LIST HAS BOTH a chemical and tritium
pub accepted_apart : (s : Scenario) (medium : ℕ) (rs : List Contaminant) → number_of (sums_of s medium rs) ≡ 0 → has_class Chemical rs && has_class Tritium rs ≡ false
unfolding sums_of
accepted_apart s medium rs z =
    sym (ap₂ ◌&&◌ (chemical_before none_before rs) (tritium_before none_before rs)) ∙
    walk_apart s medium rs 1 none_before start start refl (passing_ok (first_refusal s medium (length rs)) 0 (walk s medium rs 1 none_before start start) z).1
