-- One turn of the checking walk: what is left from this place on stays the same. Assumes nothing.
use Rattle.std.proofs.Common.{◌≡◌, List, ℕ, suc, ◌+◌, ◌-◌, ◌≤◌, ◌<◌, refl, ap, ◌∙◌, arith}
use Rattle.std.specs.Prelude.{Result, Ok, Err, ⊤}
use Rattle.outcome.specs.declared.Refusal.{Refusal}
use Rattle.outcome.specs.declared.Refused.{Refused}
use Rattle.outcome.specs.Outcome.{refused, located, on_read, passing}
use Rattle.outcome.proofs.Tests.{tests_refused, reader_refused}
use Rattle.inputs.specs.declared.earlier.Earlier.{Earlier}
use Rattle.inputs.specs.Earlier.{before_next}
use Rattle.inputs.specs.declared.Scenario.{Scenario}
use Rattle.inputs.specs.declared.Contaminant.{Contaminant}
use Rattle.block_rules.specs.Reading.{contaminant_read}
use Rattle.guideline_rules.specs.Pathway.{record_refusal}
use Rattle.site_rules.specs.Blocks.{block_at}
use Rattle.site_rules.proofs.Walk.{check_blocks}

module _ (s : Scenario) (medium : ℕ) (site : List ℕ) where
  module _ (n k : ℕ) (before : Earlier) (l : k < n) where
    abbrev read : Result Contaminant Refusal
    read = contaminant_read (block_at site (k + 1)) (k + 1) before.id

    abbrev found : Contaminant → Result ⊤ Refused
    found r = passing (record_refusal s medium before r) (k + 1) (check_blocks s medium site (n - (k + 1)) (k + 1 + 1) (before_next before r))

    check_turn : check_blocks s medium site (n - k) (k + 1) before ≡ on_read read (λ (m : Refusal). refused m (k + 1)) found
    unfolding check_blocks
    check_turn =
        let e : n - k ≡ suc (n - (k + 1)) = omega arith in
        ap (λ (j : ℕ). check_blocks s medium site j (k + 1) before) e

    pub turn_refused : {e : Refused} → located read (k + 1) ≡ Err e → check_blocks s medium site (n - k) (k + 1) before ≡ Err e
    turn_refused h = check_turn ∙ reader_refused read (k + 1) found h

    module _ {r : Contaminant} (is : read ≡ Ok r) where
      by_tests : check_blocks s medium site (n - k) (k + 1) before ≡ found r
      by_tests = check_turn ∙ rw is refl

      pub turn_record : {y : Result ⊤ Refusal} {e : Refused} → y ≡ record_refusal s medium before r → located y (k + 1) ≡ Err e →
          check_blocks s medium site (n - k) (k + 1) before ≡ Err e
      turn_record q h = by_tests ∙ tests_refused q (k + 1) _ h

      pub turn_next : record_refusal s medium before r ≡ Ok tt →
          check_blocks s medium site (n - k) (k + 1) before ≡ check_blocks s medium site (n - (k + 1)) (k + 1 + 1) (before_next before r)
      turn_next z = by_tests ∙ rw z refl

  pub check_none : (n k : ℕ) (before : Earlier) → n ≤ k → check_blocks s medium site (n - k) (k + 1) before ≡ Ok tt
  unfolding check_blocks
  check_none n k before l =
      let e : n - k ≡ 0 = omega arith in
      ap (λ (j : ℕ). check_blocks s medium site j (k + 1) before) e
