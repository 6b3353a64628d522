-- The first state of the list call gives the answer of the whole list. Assumes nothing.
use Rattle.std.proofs.Common.{◌≡◌, ℕ, ◌≤◌, List, length, refl, ap, ◌∙◌, arith}
use Rattle.std.specs.Prelude.{false, leb, Ok, Err}
use lib.Dec.{lit≤}
use borrow.Author.Tests.{leb-true}
use Rattle.outcome.specs.declared.Refused.{Refused}
use Rattle.outcome.specs.Outcome.{located}
use Rattle.outcome.proofs.Tests.{tests_refused}
use Rattle.inputs.specs.Earlier.{none_before}
use Rattle.inputs.specs.declared.Scenario.{Scenario}
use Rattle.inputs.specs.declared.Contaminant.{Contaminant}
use Rattle.inputs.specs.Rules.{lacks_factor}
use Rattle.inputs.proofs.Tests.{and_split}
use Rattle.shares.specs.declared.plan.Plan.{Plan}
use Rattle.sum_rules.specs.Share.{start}
use Rattle.sum_rules.specs.ListCall.{first_refusal, walk, sums_of}
use Rattle.shares.specs.Plan.{Planned}
use Rattle.sums.specs.State.{answer_from, Room, Good, first_of}
use Rattle.sum_rules.proofs.Runs.{FirstPassed, first_passed}
use Rattle.sums.proofs.States.{none_ready}

-- a list that is refused before its first record
pub refused_first : (s : Scenario) (medium : ℕ) (rs : List Contaminant) {r : Refused} → located (first_refusal s medium (length rs)) 0 ≡ Err r → sums_of s medium rs ≡ Err r
unfolding sums_of
refused_first s medium rs e = tests_refused {x = first_refusal s medium (length rs)} refl 0 (walk s medium rs 1 none_before start start) e

module _ {s : Scenario} {medium : ℕ} (n : ℕ) {p : Plan} (h : Planned s medium p) (z : first_refusal s medium n ≡ Ok tt) where
  tests : FirstPassed s medium n
  tests = first_passed s medium n z

  most_records : n ≤ 120
  most_records = leb-true n 120 (and_split (leb 1 n) (leb n 120) tests.length_fits).1

  pub plan_known : lacks_factor p.scenario ≡ false
  plan_known = rw h.scenario tests.scenario.factors

  pub started_good : Good p first_of
  started_good = record { known = plan_known; place = lit≤ tt; runs = none_ready }

  pub started_room : (rs : List Contaminant) → length rs ≡ n → Room first_of rs
  started_room rs e = record { room = omega (arith, most_records, e) }

  pub started_answer : (rs : List Contaminant) → length rs ≡ n → answer_from p first_of rs ≡ sums_of s medium rs
  unfolding answer_from sums_of
  started_answer rs e =
      let q : first_refusal s medium (length rs) ≡ Ok tt = ap (first_refusal s medium) e ∙ z in
      rw (h.scenario, h.media, q)
