-- An accepted list call reports the running sums over the whole list, and every record of it was accepted. Assumes nothing.
use mathlib.Core.Path.{◌≡◌, refl, sym, ap, ◌∙◌}
use mathlib.Core.Bool.{Bool, true, false, cond, not, ◌&&◌, ◌||◌, or_assoc, or-false}
use mathlib.Core.List.{List, [], ◌∷◌, map}
use Prim.Native.Nat.{ℕ, ◌+◌, ◌≤◌}
use native.Mathlib.Omega.{arith}
use lib.Dec.{leb}
use lib.ListN.{length}
use borrow.Author.Tests.{leb-true}
use Rattle.rounding.specs.declared.Direction.{Direction}
use Rattle.rounding.specs.declared.Direction.TheVariants.{Down, Up}
use Rattle.decimal.specs.declared.Decimal.{Decimal}
use Rattle.decimal.specs.Decimal.{zero_of, add_of}
use Rattle.decimal.specs.Lists.{added}
use Rattle.outcome.specs.declared.Refusal.TheVariants.{Length, Field, Order}
use Rattle.outcome.specs.Outcome.{number_of, test, refused, refused_by, passing}
use Rattle.outcome.specs.declared.Refused.{Refused}
use Rattle.outcome.proofs.Numbers.{not_both}
use Rattle.outcome.proofs.Tests.{passing_ok}
use Rattle.std.specs.Prelude.{Result, Ok}
use Rattle.inputs.specs.declared.Scenario.{Scenario}
use Rattle.inputs.specs.declared.Contaminant.{Contaminant}
use Rattle.inputs.specs.declared.earlier.Earlier.{Earlier}
use Rattle.inputs.specs.Earlier.{none_before, before_next}
use Rattle.inputs.specs.Rules.{scenario_tests, scenario_refusal, contaminant_fits}
use Rattle.inputs.proofs.Tests.{and_split}
use Rattle.formulas.specs.Side.{Side, Risk, Hazard}
use Rattle.formulas.specs.Term.{formulas_for, values_for}
use Rattle.formulas.specs.ExactTerm.{exact_for, any_present}
use Rattle.guideline_rules.specs.Pathway.{has_pathway, record_refusal}
use Rattle.guideline_rules.proofs.Accepted.{Accepted, Fits, accepted_inputs, scenario_passed, values_of_lem}
use Rattle.guideline_rules.proofs.WorkedOut.{any_same}
use Rattle.sum_rules.specs.Answer.{Sums}
use Rattle.sum_rules.specs.Share.{Running, run_sum, start, next, run_all, share_of}
use Rattle.sum_rules.specs.ListCall.{side_sums, accepted, first_refusal, walk, sums_of}
use Rattle.sum_rules.specs.Promise.{some_pathway, sent_of, side_sent}
use Rattle.sum_rules.proofs.ShareBounds.{AllAccepted}
use Rattle.sum_rules.proofs.ShareBounds.AllAccepted.{nobody, also}

-- ---- the running sums of a side over a list: once for the lower sum, rounded down, and the upper sum, rounded up
-- a step adds the share of a record
pub next_sum : (dir : Direction) (s : Scenario) (medium : ℕ) (side : Side) (t : Running) (r : Contaminant) →
    run_sum dir (next s medium side t r) ≡ add_of (run_sum dir t) (share_of s medium r dir side) dir
next_sum Down s medium side t r = refl
next_sum Up s medium side t r = refl

-- a list adds the shares of its records in order
pub run_sum_lem : (dir : Direction) (s : Scenario) (medium : ℕ) (side : Side) (rs : List Contaminant) (t : Running) →
    run_sum dir (run_all s medium side t rs) ≡ added dir (run_sum dir t) (map (λ (r : Contaminant). share_of s medium r dir side) rs)
run_sum_lem dir s medium side [] t = refl
run_sum_lem dir s medium side (r ∷ rs) t =
    run_sum_lem dir s medium side rs (next s medium side t r) ∙
    ap (λ (d : Decimal). added dir d (map (λ (r : Contaminant). share_of s medium r dir side) rs)) (next_sum dir s medium side t r)

-- the same from the start
pub run_start : (dir : Direction) (s : Scenario) (medium : ℕ) (side : Side) (rs : List Contaminant) →
    run_sum dir (run_all s medium side start rs) ≡ added dir zero_of (map (λ (r : Contaminant). share_of s medium r dir side) rs)
run_start Down s medium side rs = run_sum_lem Down s medium side rs start
run_start Up s medium side rs = run_sum_lem Up s medium side rs start

-- whether a record has a pathway on the side, by the exact values
has_same : (s : Scenario) (medium : ℕ) (side : Side) (r : Contaminant) → Accepted s medium r → has_pathway s medium r side ≡ any_present (exact_for s r) (formulas_for s medium r side)
unfolding has_pathway
has_same s medium side r a = any_same (values_for Up s r) (exact_for s r) (values_of_lem Up s medium r a) (formulas_for s medium r side)

-- whether some record of the list has one
pub run_any : (s : Scenario) (medium : ℕ) (side : Side) (rs : List Contaminant) → AllAccepted s medium rs → (t : Running) →
    (run_all s medium side t rs).any ≡ t.any || some_pathway s medium side rs
run_any s medium side [] nobody t = sym (or-false t.any)
run_any s medium side (r ∷ rs) (also a as') t =
    run_any s medium side rs as' (next s medium side t r) ∙ or_assoc t.any (has_pathway s medium r side) (some_pathway s medium side rs) ∙
    ap (λ (b : Bool). t.any || (b || some_pathway s medium side rs)) (has_same s medium side r a)

-- ---- an accepted walk
record Walked (s : Scenario) (medium : ℕ) (rs : List Contaminant) (risk hazard : Running) (w : Result Sums Refused) : Type 0 where
  all : AllAccepted s medium rs
  is : w ≡ accepted s (run_all s medium Risk risk rs) (run_all s medium Hazard hazard rs)

-- a record that is taken in: it keeps its rules, and the rest was walked
step_cases : (s : Scenario) (medium : ℕ) (r : Contaminant) (rs : List Contaminant) (n : ℕ) (before : Earlier) (risk hazard : Running) (w : Result Sums Refused) (a b : Bool) →
    contaminant_fits r ≡ a → Fits s medium → (number_of w ≡ 0 → Walked s medium rs (next s medium Risk risk r) (next s medium Hazard hazard r) w) →
    let v = cond a (cond b (refused Order n) (passing (record_refusal s medium before r) n w)) (refused Field n) in
    number_of v ≡ 0 → Walked s medium (r ∷ rs) risk hazard v
step_cases s medium r rs n before risk hazard w true false e g again h =
    let t = passing_ok (record_refusal s medium before r) n w h in
    let p = again t.1 in
    record { all = also (accepted_inputs s medium r g.fits g.factors e) p.all; is = rw t.0 p.is }
step_cases s medium r rs n before risk hazard w true true e g again h = absurd (omega (arith, h))
step_cases s medium r rs n before risk hazard w false b e g again h = absurd (omega (arith, h))

walk_accepted : (s : Scenario) (medium : ℕ) → Fits s medium → (rs : List Contaminant) (n : ℕ) (before : Earlier) (risk hazard : Running) →
    number_of (walk s medium rs n before risk hazard) ≡ 0 → Walked s medium rs risk hazard (walk s medium rs n before risk hazard)
unfolding walk
walk_accepted s medium g [] n before risk hazard h = record { all = nobody; is = refl }
walk_accepted s medium g (r ∷ rs) n before risk hazard h =
    step_cases s medium r rs n before risk hazard (walk s medium rs (n + 1) (before_next before r) (next s medium Risk risk r) (next s medium Hazard hazard r))
    (contaminant_fits r) (leb r.id before.id) refl g
    (walk_accepted s medium g rs (n + 1) (before_next before r) (next s medium Risk risk r) (next s medium Hazard hazard r)) h

-- ---- an accepted list call
pub record AcceptedList (s : Scenario) (medium : ℕ) (rs : List Contaminant) : Type 0 where
  pub all : AllAccepted s medium rs
  pub some : 1 ≤ length rs
  pub most : length rs ≤ 120
  pub is : sums_of s medium rs ≡ accepted s (run_all s medium Risk start rs) (run_all s medium Hazard start rs)
  pub sides : (side : Side) → side_sent (sums_of s medium rs) side ≡ sent_of (side_sums s side (run_all s medium side start rs))

-- the tests before the first record
pub record FirstPassed (s : Scenario) (medium n : ℕ) : Type 0 where
  pub length_fits : leb 1 n && leb n 120 ≡ true
  pub scenario : Fits s medium

pub first_passed : (s : Scenario) (medium n : ℕ) → first_refusal s medium n ≡ Ok tt → FirstPassed s medium n
unfolding first_refusal scenario_refusal
first_passed s medium n = cases (leb 1 n && leb n 120) refl
  where
    cases : (b : Bool) → leb 1 n && leb n 120 ≡ b → refused_by (test Length (not b) ∷ scenario_tests s medium) ≡ Ok tt → FirstPassed s medium n
    cases true e h = record { length_fits = e; scenario = scenario_passed s medium h }
    cases false e h = absurd (not_both (sym h))

module _ (s : Scenario) (medium : ℕ) (rs : List Contaminant) (h : number_of (sums_of s medium rs) ≡ 0) where
  outside : (first_refusal s medium (length rs) ≡ Ok tt) × (number_of (walk s medium rs 1 none_before start start) ≡ 0)
  unfolding sums_of
  outside = passing_ok (first_refusal s medium (length rs)) 0 (walk s medium rs 1 none_before start start) h

  parts : FirstPassed s medium (length rs)
  parts = first_passed s medium (length rs) outside.0

  walked : Walked s medium rs start start (walk s medium rs 1 none_before start start)
  walked = walk_accepted s medium parts.scenario rs 1 none_before start start outside.1

  sums_is : sums_of s medium rs ≡ accepted s (run_all s medium Risk start rs) (run_all s medium Hazard start rs)
  unfolding sums_of
  sums_is = rw outside.0 walked.is

  side_is : (side : Side) → side_sent (sums_of s medium rs) side ≡ sent_of (side_sums s side (run_all s medium side start rs))
  side_is Risk = ap (λ (w : Result Sums Refused). side_sent w Risk) sums_is
  side_is Hazard = ap (λ (w : Result Sums Refused). side_sent w Hazard) sums_is

  pub accepted_list : AcceptedList s medium rs
  accepted_list =
      let p = and_split (leb 1 (length rs)) (leb (length rs) 120) parts.length_fits in
      record { all = walked.all; some = leb-true 1 (length rs) p.0; most = leb-true (length rs) 120 p.1; is = sums_is; sides = side_is }
