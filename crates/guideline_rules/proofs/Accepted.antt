-- Inputs that passed conditions 4 and 6: what they keep, and that their values stand for their exact fractions. Assumes nothing.
use mathlib.Core.Path.{◌≡◌, refl, sym}
use mathlib.Core.Bool.{Bool, true, false, ◌&&◌, not}
use Prim.Native.Nat.{ℕ}
use lib.Dec.{eqb}
use Rattle.inputs.specs.declared.Scenario.{Scenario}
use Rattle.inputs.specs.declared.Contaminant.{Contaminant}
use Rattle.inputs.specs.Inputs.{scenario_decimals, formula_decimals, contaminant_decimals}
use Rattle.inputs.specs.Valid.{all_valid, valid_of}
use Rattle.inputs.specs.Rules.{OneTo, one_to, most_medium, most_class, scenario_fits, lacks_factor, scenario_refusal, contaminant_fits}
use mathlib.Core.List.{[], ◌∷◌, ◌++◌}
use borrow.Author.Tests.{not-true, not-false}
use Rattle.rounding.specs.declared.Direction.{Direction}
use Rattle.inputs.proofs.Tests.{and_split, valid_append, contaminant_parts, one_to_lem}
use Rattle.formulas.specs.Side.{Side, Risk, Hazard}
use Rattle.formulas.specs.Target.{target_of}
use Rattle.formulas.specs.Term.{constants, inputs_of, values_for}
use Rattle.formulas.specs.ExactTerm.{exact_for}
use Rattle.formulas.proofs.TermBounds.{Represents}
use Rattle.formulas.proofs.ValueBounds.{values_stand}
use Rattle.outcome.specs.declared.Refusal.TheVariants.{Field, Factor}
use Rattle.outcome.specs.Outcome.{test, refused_by}
use Rattle.outcome.proofs.Numbers.{not_both}
use Rattle.std.specs.Prelude.{Ok}

-- inputs that passed conditions 4 and 6
pub record Accepted (s : Scenario) (medium : ℕ) (r : Contaminant) : Type 0 where
  pub scenario : all_valid (scenario_decimals s) ≡ true
  pub contaminant : all_valid (contaminant_decimals r) ≡ true
  pub media : OneTo most_medium medium
  pub class : OneTo most_class r.class
  pub risk_target : eqb s.targets.tr.m 0 ≡ false
  pub hazard_target : eqb s.targets.thi.m 0 ≡ false

-- the target of each side is known
pub target_known : {s : Scenario} {medium : ℕ} {r : Contaminant} → Accepted s medium r → (side : Side) → eqb (target_of s side).m 0 ≡ false
target_known a Risk = a.risk_target
target_known a Hazard = a.hazard_target

-- ---- the inputs of an accepted call keep their rule, with the constants
constants_valid : all_valid constants ≡ true
unfolding valid_of
constants_valid = refl

pub inputs_valid : (s : Scenario) (r : Contaminant) → all_valid (scenario_decimals s) ≡ true → all_valid (contaminant_decimals r) ≡ true → all_valid (inputs_of s r) ≡ true
inputs_valid s r h k =
    let named = formula_decimals s.inhalation r in
    valid_append constants (scenario_decimals s ++ named) constants_valid (valid_append (scenario_decimals s) named h ((contaminant_parts r k).formulas s.inhalation))

pub values_of_lem : (dir : Direction) (s : Scenario) (medium : ℕ) (r : Contaminant) → Accepted s medium r → Represents dir (values_for dir s r) (exact_for s r)
values_of_lem dir s medium r a = values_stand dir (inputs_of s r) (inputs_valid s r a.scenario a.contaminant)

-- the last two of six tests
targets : (a b c d e g : Bool) → not (not a && (not b && (not c && (not d && (not e && not g))))) ≡ false → (e ≡ false) × (g ≡ false)
targets a b c d e g h =
    let p = and_split (not a) _ (not-false _ h) in
    let q = and_split (not b) _ p.1 in
    let r = and_split (not c) _ q.1 in
    let s = and_split (not d) _ r.1 in
    let t = and_split (not e) (not g) s.1 in
    (not-true e t.0, not-true g t.1)

pub accepted_inputs : (s : Scenario) (medium : ℕ) (r : Contaminant) → scenario_fits s medium ≡ true → lacks_factor s ≡ false → contaminant_fits r ≡ true → Accepted s medium r
accepted_inputs s medium r h g k =
    let a = and_split (one_to most_medium medium) _ h in
    let b = and_split (one_to most_class r.class) _ k in
    let c = and_split (not (eqb r.id 0)) _ b.1 in
    let x = s.exposure in
    let t = targets (eqb x.ef.m 0) (eqb x.ed.m 0) (eqb x.bw.m 0) (eqb x.at.m 0) (eqb s.targets.tr.m 0) (eqb s.targets.thi.m 0) g in
    record {
      scenario = a.1;
      contaminant = c.1;
      media = one_to_lem most_medium medium a.0;
      class = one_to_lem most_class r.class b.0;
      risk_target = t.0;
      hazard_target = t.1;
    }

-- a scenario that is not refused keeps its rules and has its factors
pub record Fits (s : Scenario) (medium : ℕ) : Type 0 where
  pub fits : scenario_fits s medium ≡ true
  pub factors : lacks_factor s ≡ false

pub scenario_passed : (s : Scenario) (medium : ℕ) → scenario_refusal s medium ≡ Ok tt → Fits s medium
unfolding scenario_refusal
scenario_passed s medium = cases (scenario_fits s medium) (lacks_factor s) refl refl
  where
    cases : (a b : Bool) → scenario_fits s medium ≡ a → lacks_factor s ≡ b → refused_by (test Field (not a) ∷ test Factor b ∷ []) ≡ Ok tt → Fits s medium
    cases true false e f h = record { fits = e; factors = f }
    cases true true e f h = absurd (not_both (sym h))
    cases false b e f h = absurd (not_both (sym h))
