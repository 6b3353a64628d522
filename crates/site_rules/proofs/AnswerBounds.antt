-- Every answer of the site call: its number is at most the greatest, its block at most 120, its verdicts at most 4. Assumes nothing.
use mathlib.Core.Path.{◌≡◌, refl, sym, ap, subst}
use mathlib.Core.Bool.{Bool, true, false, cond}
use mathlib.Core.List.{List}
use Prim.Native.Nat.{ℕ, zero, suc, ◌+◌, ◌/◌, ◌≤◌, ◌<◌}
use native.Mathlib.Omega.{arith}
use lib.Dec.{ltb}
use lib.ListN.{length}
use Rattle.outcome.specs.declared.Refusal.{Refusal}
use Rattle.outcome.specs.declared.Refusal.TheVariants.{Room}
use Rattle.std.specs.Prelude.{Result, Ok, Err}
use Rattle.outcome.specs.declared.Refused.{Refused}
use Rattle.outcome.specs.Outcome.{located, on_read, block_of, refused}
use Rattle.outcome.proofs.Numbers.{number_most}
use Rattle.outcome.proofs.Tests.{and_block, passing_block}
use Rattle.inputs.specs.Rules.{most_contaminants}
use Rattle.inputs.specs.declared.Scenario.{Scenario}
use Rattle.inputs.specs.declared.earlier.Earlier.{Earlier}
use Rattle.inputs.specs.Earlier.{none_before, before_next}
use Rattle.inputs.specs.declared.Contaminant.{Contaminant}
use Rattle.block_rules.specs.declared.Header.{Header}
use Rattle.block_rules.specs.Reading.{header_read, contaminant_read}
use Rattle.formulas.specs.Side.{Side, Risk, Hazard}
use Rattle.formulas.specs.Sides.{side_at}
use Rattle.guideline_rules.specs.Pathway.{record_refusal}
use Rattle.sum_rules.specs.Answer.{Sums}
use Rattle.sum_rules.specs.Promise.{side_sent}
use Rattle.sum_rules.proofs.AnswerBounds.{verdict_most}
use Rattle.site_rules.specs.Blocks.{length_ok, block_at}
use Rattle.site_rules.specs.Site.{site_answer}
use Rattle.site_rules.specs.Passed.{Opened}
use Rattle.site_rules.specs.Bounds.{Bounded}
use Rattle.site_rules.proofs.Walk.{check_blocks, check_found, with_room, checked_from, sums_from}
use Rattle.site_rules.proofs.Opened.{count_most, answer_length, answer_header, answer_walked}

-- ---- the block of what is found in n blocks, the first at place k
module _ (s : Scenario) (medium : ℕ) (site : List ℕ) where
  by_read : (n k : ℕ) (before : Earlier) → ((after : Earlier) → block_of (check_blocks s medium site n (k + 1) after) < k + 1 + n) → (x : Result Contaminant Refusal) →
      block_of (on_read x (λ (m : Refusal). refused m k) (check_found s medium site n k before)) < k + suc n
  by_read n k before again (Err m) = omega arith
  by_read n k before again (Ok r) =
      let b = passing_block (record_refusal s medium before r) k (check_blocks s medium site n (k + 1) (before_next before r)) {m = k + n} (omega arith)
      (omega (arith, again (before_next before r))) in
      omega (arith, b)

  check_block : (n k : ℕ) (before : Earlier) → 1 ≤ k → block_of (check_blocks s medium site n k before) < k + n
  unfolding check_blocks
  check_block zero k before o = omega arith
  check_block (suc n) k before o = by_read n k before (λ after. check_block n (k + 1) after (omega arith)) (contaminant_read (block_at site k) k before.id)

-- ---- the whole site
abbrev Small : {A : Type 0} → Result A Refused → Type 0
Small a = block_of a ≤ most_contaminants

room_small : (site out : ℕ) (a : Result Sums Refused) → Small a → Small (with_room site out a)
unfolding with_room
room_small site out (Ok a) h = cases (ltb out site)
  where
    cases : (c : Bool) → Small (cond c (refused Room 0) (Ok a))
    cases true = omega arith
    cases false = h
room_small site out (Err r) h = h

-- a verdict that is sent back
verdict_sent : (a : Result Sums Refused) (side : Side) → (side_sent a side).verdict ≤ 4
verdict_sent (Ok a) side = verdict_most (side_at a side).verdict
verdict_sent (Err r) side = omega arith

module _ (site : List ℕ) (out : ℕ) where
  opened_small : (h : Header) → Opened site h → Small (site_answer site out)
  opened_small h o =
      let b = check_block h.scenario h.medium site h.count 1 none_before (omega arith) in
      subst (Small {A = Sums}) (sym (answer_walked o out))
      (room_small (length site) out _ (and_block (checked_from site h) (sums_from site h) (omega (arith, b, count_most o)) (omega arith)))

  by_header : length_ok (length site) ≡ true → (x : Result Header Refusal) → header_read (block_at site 0) (length site / 512) ≡ x → Small (site_answer site out)
  by_header r (Err m) e = subst (Small {A = Sums}) (sym (answer_header site out r (ap (λ (x : Result Header Refusal). located x 0) e))) (omega arith)
  by_header r (Ok h) e = opened_small h (record { right = r; header = e })

  by_length : (b : Bool) → length_ok (length site) ≡ b → Small (site_answer site out)
  by_length true r = by_header r (header_read (block_at site 0) (length site / 512)) refl
  by_length false r = subst (Small {A = Sums}) (sym (answer_length site out r)) (omega arith)

  pub answer_bounded : Bounded (site_answer site out)
  answer_bounded = record {
    number = number_most (site_answer site out);
    block = by_length (length_ok (length site)) refl;
    risk = verdict_sent (site_answer site out) Risk;
    hazard = verdict_sent (site_answer site out) Hazard;
  }
