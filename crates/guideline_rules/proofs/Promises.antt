-- Demand 3, first sentence, for every accepted call and each side. Assumes nothing.
use mathlib.Core.Path.{◌≡◌, refl, sym, ap, ◌∙◌}
use mathlib.Core.Bool.{Bool, true, false, false≢true, cond, not}
use mathlib.Core.List.{List}
use Prim.Native.Nat.{ℕ, zero, suc, ◌+◌, ◌*◌, ◌≤◌, ◌<◌}
use native.Mathlib.Omega.{arith}
use lib.Dec.{eqb, lit≤}
use lib.ListN.{get_or}
use borrow.Author.Tests.{ne_eqb}
use Rattle.rounding.specs.declared.Direction.{Direction}
use Rattle.rounding.specs.declared.Direction.TheVariants.{Down, Up}
use Rattle.rounding.specs.Within.{Within}
use Rattle.rounding.specs.Number.{one}
use Rattle.rounding.proofs.Distances.{parts}
use Rattle.decimal.specs.declared.Decimal.{Decimal}
use Rattle.decimal.specs.Decimal.{zero_of, value_of, div_of}
use Rattle.decimal.specs.Fraction.{Fraction, given, over}
use Rattle.decimal.specs.Range.{Range}
use Rattle.decimal.proofs.Ranges.{covers}
use Rattle.decimal.proofs.Laws.{div_zero}
use Rattle.decimal.proofs.Approximation.{Approx, Fair, approx_div, fair_most, fair_zero, fair_there, given_zero}
use Rattle.decimal.proofs.Approximation.Fair.{none, some}
use Rattle.outcome.specs.declared.Refusal.TheVariants.{Field}
use Rattle.std.specs.Prelude.{Result, Ok}
use Rattle.outcome.specs.declared.Refused.{Refused}
use Rattle.outcome.specs.Outcome.{refused, number_of}
use Rattle.outcome.proofs.Tests.{passing_ok}
use Rattle.inputs.specs.declared.Scenario.{Scenario}
use Rattle.inputs.specs.declared.Contaminant.{Contaminant}
use Rattle.inputs.specs.Earlier.{none_before}
use Rattle.inputs.specs.Valid.{valid_of}
use Rattle.inputs.specs.Rules.{scenario_refusal, contaminant_fits}
use Rattle.inputs.proofs.Tests.{contaminant_parts}
use Rattle.formulas.specs.Limits.{input_range, formula_roundings, formula_range, total_roundings, total_range, guideline_roundings, guideline_range}
use Rattle.formulas.specs.Side.{Side, Risk, Hazard}
use Rattle.formulas.specs.Target.{target_of, working_target}
use Rattle.formulas.specs.Formula.{Formula, none as no_formula}
use Rattle.formulas.specs.Term.{term_of, total_of, formulas_for, values_for}
use Rattle.formulas.specs.ExactTerm.{exact_present, exact_term, exact_total, exact_for, any_present}
use Rattle.decimal.proofs.Value.{Value}
use Rattle.decimal.proofs.Steps.{value_operable}
use Rattle.decimal.proofs.Value.Value.{absent, known}
use Rattle.formulas.proofs.Sound.{table_sound, sound_at_lem, none_sound, three_pathways}
use Rattle.formulas.proofs.TermBounds.{Represents, term_fair, term_present}
use Rattle.formulas.proofs.ValueBounds.{target_fair}
use Rattle.formulas.specs.Sides.{side_at}
use Rattle.guideline_rules.specs.Answer.{Guidelines}
use Rattle.guideline_rules.proofs.Accepted.{Accepted, target_known, values_of_lem, accepted_inputs, scenario_passed}
use Rattle.guideline_rules.specs.Pathway.{record_refusal}
use Rattle.guideline_rules.specs.Guideline.{side_of, calculated_of, guidelines_of, is_capped, both_sides, guidelines_sent, guideline_of}
use Rattle.guideline_rules.specs.Promise.{pathway_at, Kept, Promised, PathwayPromised}
use Rattle.guideline_rules.proofs.Saturation.{as_calculated, capped_value, inhalation_promise}
use Rattle.guideline_rules.proofs.WorkedOut.{total_bounds, present_total}

-- ---- nineteen roundings are less than 2/10,000,000
kept_core : (a b : ℕ) → Within guideline_roundings a b → b * 9999998 ≤ a * 10000000
kept_core a b f = let h = parts guideline_roundings (guideline_roundings + 1) tt f in omega arith

kept_of : (g : Decimal) (t q : Fraction) {w : Range} → Approx Down guideline_roundings w g (over t q) → Kept g t q
unfolding given
kept_of g t q f = record {
  most = omega (arith, f.near.within.low);
  least = omega (arith, kept_core (value_of g * (t.bottom * q.top)) (t.top * q.bottom * one) f.near.within);
}

-- ---- a target over anything that stands for a fraction
module _ {target : Decimal} {t : Fraction} (h : Approx Down 0 input_range target t) where
  pub promised : {d : Decimal} {q : Fraction} (present : Bool) → Fair Up total_roundings total_range d q → not (eqb q.top 0) ≡ present →
      Promised (div_of target d Down) t present q
  promised {d} {q} present (none e z b) p =
      let zero_now : div_of target d Down ≡ zero_of = ap (λ (v : Decimal). div_of target v Down) e ∙ div_zero Down target in
      let off : false ≡ present = sym (ap (λ (n : ℕ). not (eqb n 0)) z) ∙ p in
      record { when = ap (λ (v : Decimal). not (eqb v.m 0)) zero_now ∙ off; kept = λ on. absurd (false≢true (off ∙ on)) }
  promised {d} {q} present (some f) p =
      let g = approx_div Down h f (covers refl) in
      record {
        when = ap not (ne_eqb (div_of target d Down).m 0 (omega (arith, g.sized.nine.least))) ∙ sym (ap not (ne_eqb q.top 0 (omega (arith, f.top)))) ∙ p;
        kept = λ on. kept_of (div_of target d Down) t q g;
      }

  pub guideline_value : {d : Decimal} {q : Fraction} → Fair Up total_roundings total_range d q → Value guideline_range (div_of target d Down)
  guideline_value {d} (none e z b) = absent (ap (λ (v : Decimal). div_of target v Down) e ∙ div_zero Down target)
  guideline_value (some f) = known (approx_div Down h f (covers refl)).sized

-- ---- a term of an accepted call, in either direction
pub term_bounds : (dir : Direction) (s : Scenario) (medium : ℕ) (r : Contaminant) → Accepted s medium r → (side : Side) (n : ℕ) →
    Fair dir total_roundings total_range (term_of (values_for dir s r) dir (get_or (formulas_for s medium r side) n no_formula))
    (exact_term (exact_for s r) (get_or (formulas_for s medium r side) n no_formula))
term_bounds dir s medium r a side n =
    fair_most dir (lit≤ tt) (covers refl)
    (term_fair dir _ _ (values_of_lem dir s medium r a) {K = formula_roundings} {W = formula_range} (covers refl) (get_or (formulas_for s medium r side) n no_formula)
    (sound_at_lem (table_sound s.inhalation medium r.class side) none_sound n))

-- ---- one side of an accepted call
module _ (s : Scenario) (medium : ℕ) (r : Contaminant) (a : Accepted s medium r) where
  abbrev vs : List Decimal
  vs = values_for Up s r

  abbrev qs : List Fraction
  qs = exact_for s r

  reps : Represents Up vs qs
  reps = values_of_lem Up s medium r a

  abbrev pathways : Side → List Formula
  pathways side = formulas_for s medium r side

  term_there : (side : Side) (n : ℕ) → not (eqb (exact_term qs (get_or (pathways side) n no_formula)).top 0) ≡ exact_present qs (get_or (pathways side) n no_formula)
  term_there side n =
      term_present Up vs qs reps {K = formula_roundings} {W = formula_range} (covers refl) (get_or (pathways side) n no_formula)
      (sound_at_lem (table_sound s.inhalation medium r.class side) none_sound n)

  pub total_fairly : (side : Side) → Fair Up total_roundings total_range (total_of vs Up (pathways side)) (exact_total qs (pathways side))
  total_fairly side = total_bounds Up vs qs reps (pathways side) (table_sound s.inhalation medium r.class side) (three_pathways s.inhalation medium r.class side)

  total_there : (side : Side) → not (eqb (exact_total qs (pathways side)).top 0) ≡ any_present qs (pathways side)
  total_there side =
      sym (ap not (fair_zero (total_fairly side))) ∙
      present_total Up vs qs reps (pathways side) (table_sound s.inhalation medium r.class side) (three_pathways s.inhalation medium r.class side)

  -- the targets
  pub target_bounds : (side : Side) → Approx Down 0 input_range (working_target s side) (given (target_of s side))
  target_bounds side = fair_there (target_fair Down s a.scenario side) (given_zero (target_of s side) ∙ target_known a side)

  -- what is calculated of inhalation, and the saturation
  pub inhalation : (side : Side) → Value guideline_range (calculated_of s medium r side).second
  unfolding side_of
  inhalation side = guideline_value (target_bounds side) (term_bounds Up s medium r a side 1)

  pub saturation_valid : valid_of r.saturation ≡ true
  saturation_valid = (contaminant_parts r a.contaminant).saturation

  pub inhalation_value : (side : Side) → Value guideline_range (guidelines_of s medium r side).second
  inhalation_value side =
      capped_value r saturation_valid medium (calculated_of s medium r side).second (value_operable (inhalation side)) (covers refl) (inhalation side)

  -- ---- the promise of the total and of each pathway
  total_promise : (side : Side) → Promised (guidelines_of s medium r side).total (given (target_of s side)) (any_present qs (pathways side)) (exact_total qs (pathways side))
  unfolding side_of
  total_promise side = promised (target_bounds side) (any_present qs (pathways side)) (total_fairly side) (total_there side)

  -- of the calculated guideline of any pathway
  calculated_promise : (side : Side) (n : ℕ) →
      Promised (div_of (working_target s side) (term_of vs Up (get_or (pathways side) n no_formula)) Down) (given (target_of s side))
      (exact_present qs (get_or (pathways side) n no_formula)) (exact_term qs (get_or (pathways side) n no_formula))
  calculated_promise side n = promised (target_bounds side) _ (term_bounds Up s medium r a side n) (term_there side n)

  pathway_promise : (side : Side) (n : ℕ) → n < 3 →
      PathwayPromised (pathway_at (guidelines_of s medium r side) n) (given (target_of s side)) (exact_present qs (get_or (pathways side) n no_formula))
      (exact_term qs (get_or (pathways side) n no_formula)) (is_capped s medium r side n)
  unfolding side_of
  pathway_promise side zero h = as_calculated (calculated_promise side 0)
  pathway_promise side (suc zero) h =
      inhalation_promise r saturation_valid medium _ (value_operable (inhalation side)) (calculated_promise side 1)
  pathway_promise side (suc (suc zero)) h = as_calculated (calculated_promise side 2)
  pathway_promise side (suc (suc (suc n))) h = absurd (omega (arith, h))

-- ---- from an accepted answer back to the conditions
field_passed : (b : Bool) (a : Result Guidelines Refused) → number_of (cond b a (refused Field 1)) ≡ 0 → (b ≡ true) × (number_of a ≡ 0)
field_passed true a e = (refl, e)
field_passed false a e = absurd (omega (arith, e))

module _ (s : Scenario) (medium : ℕ) (r : Contaminant) where
  abbrev answer : Result Guidelines Refused
  answer = guideline_of s medium r

  record Passed : Type 0 where
    inputs : Accepted s medium r
    is : answer ≡ Ok (both_sides s medium r)

  passed : number_of answer ≡ 0 → Passed
  unfolding guideline_of
  passed h =
      let a = passing_ok (scenario_refusal s medium) 0 _ h in
      let b = field_passed (contaminant_fits r) _ a.1 in
      let c = passing_ok (record_refusal s medium none_before r) 1 _ b.1 in
      let t = scenario_passed s medium a.0 in
      record { inputs = accepted_inputs s medium r t.fits t.factors b.0; is = rw (a.0, b.0, c.0) refl }

  -- an accepted answer holds the guidelines of both sides
  pub accepted_is : number_of answer ≡ 0 → answer ≡ Ok (both_sides s medium r)
  accepted_is h = (passed h).is

  -- and its inputs passed the tests of the fields
  pub accepted_of : number_of answer ≡ 0 → Accepted s medium r
  accepted_of h = (passed h).inputs

  pub side_is : number_of answer ≡ 0 → (side : Side) → side_at (guidelines_sent answer) side ≡ guidelines_of s medium r side
  side_is h Risk = ap (λ (g : Result Guidelines Refused). (guidelines_sent g).risk) (accepted_is h)
  side_is h Hazard = ap (λ (g : Result Guidelines Refused). (guidelines_sent g).hazard) (accepted_is h)

  -- DEMAND 3, first sentence: the total guideline is above zero exactly when there is a pathway on that side, and then the exact risk or
  -- hazard at it is at most the target and at least the target times (1 - 2/10,000,000)
  pub promise : number_of answer ≡ 0 → (side : Side) →
      Promised (side_at (guidelines_sent answer) side).total (given (target_of s side)) (any_present (exact_for s r) (formulas_for s medium r side))
      (exact_total (exact_for s r) (formulas_for s medium r side))
  promise h side = rw (side_is h side) (total_promise s medium r (accepted_of h) side)

  -- the same of each pathway's own guideline, without the lower bound where the saturation stands in the place of inhalation
  pub pathway_promises : number_of answer ≡ 0 → (side : Side) (n : ℕ) → n < 3 →
      PathwayPromised (pathway_at (side_at (guidelines_sent answer) side) n) (given (target_of s side))
      (exact_present (exact_for s r) (get_or (formulas_for s medium r side) n no_formula)) (exact_term (exact_for s r) (get_or (formulas_for s medium r side) n no_formula))
      (is_capped s medium r side n)
  pathway_promises h side n k = rw (side_is h side) (pathway_promise s medium r (accepted_of h) side n k)
