-- The sums and verdicts of an accepted site are those of the list call over its records. Assumes nothing.
use mathlib.Core.Path.{◌≡◌, refl, sym, ap, subst, ◌∙◌}
use mathlib.Core.Bool.{true, false}
use mathlib.Core.List.{List, ◌∷◌}
use Prim.Native.Nat.{ℕ, zero, suc, ◌+◌, ◌≤◌}
use lib.ListN.{length}
use borrow.Author.Tests.{lt-leb, le-leb}
use Rattle.outcome.specs.declared.Refusal.{Refusal}
use Rattle.std.specs.Prelude.{Result, Ok, Err}
use Rattle.outcome.specs.declared.Refused.{Refused}
use Rattle.outcome.specs.Outcome.{on_read, refused, number_of}
use Rattle.outcome.proofs.Numbers.{not_both}
use Rattle.inputs.specs.declared.Scenario.{Scenario}
use Rattle.inputs.specs.declared.earlier.Earlier.{Earlier}
use Rattle.inputs.specs.Earlier.{none_before, before_next}
use Rattle.inputs.specs.declared.Contaminant.{Contaminant}
use Rattle.block_rules.specs.declared.Header.{Header}
use Rattle.block_rules.specs.Reading.{contaminant_read}
use Rattle.formulas.specs.Side.{Risk, Hazard}
use Rattle.sum_rules.specs.Answer.{Sums}
use Rattle.sum_rules.specs.Share.{Running, start, next, run_all}
use Rattle.sum_rules.specs.ListCall.{accepted, first_refusal, walk, sums_of}
use Rattle.site_rules.specs.Blocks.{block_at, header_of, record_at, records_from, site_records}
use Rattle.site_rules.specs.Site.{site_answer}
use Rattle.site_rules.proofs.Walk.{check_blocks, check_found}
use Rattle.site_rules.specs.Passed.{Opened}
use Rattle.site_rules.proofs.Opened.{found_record, found_is, opened_fits, opened_known, count_some, count_most}
use Rattle.site_rules.proofs.Passed.{found_passed, passed_site}
use Rattle.inputs.specs.Rules.{scenario_fits, lacks_factor}

-- the tests of the list call before its first record
pub first_accepted : (s : Scenario) (medium n : ℕ) → 1 ≤ n → n ≤ 120 → scenario_fits s medium ≡ true → lacks_factor s ≡ false →
    first_refusal s medium n ≡ Ok tt
unfolding first_refusal
first_accepted s medium n l u fits known = rw (le-leb 1 n l, le-leb n 120 u, fits, known)

pub records_long : (site : List ℕ) (n k : ℕ) → length (records_from site n k) ≡ n
unfolding records_from
records_long site zero k = refl
records_long site (suc n) k = ap suc (records_long site n (k + 1))

-- a list that passes the tests before its first record
pub sums_walked : (s : Scenario) (medium : ℕ) (rs : List Contaminant) → first_refusal s medium (length rs) ≡ Ok tt → sums_of s medium rs ≡ walk s medium rs 1 none_before start start
unfolding sums_of
sums_walked s medium rs e = rw e refl

-- the sums over the rest of a list, from running sums on
abbrev pub sums_after : Scenario → ℕ → Running → Running → List Contaminant → Result Sums Refused
sums_after s medium risk hazard rs = accepted s (run_all s medium Risk risk rs) (run_all s medium Hazard hazard rs)

module _ (s : Scenario) (medium : ℕ) (site : List ℕ) where
  -- a block, by what is read of it; `again` is the same of the blocks after it
  by_read : (n k : ℕ) (before : Earlier) (risk hazard : Running) →
      ((after : Earlier) (x y : Running) → check_blocks s medium site n (k + 1) after ≡ Ok tt →
      sums_after s medium x y (records_from site n (k + 1)) ≡ walk s medium (records_from site n (k + 1)) (k + 1) after x y) →
      (x : Result Contaminant Refusal) → contaminant_read (block_at site k) k before.id ≡ x →
      on_read x (λ (m : Refusal). refused m k) (check_found s medium site n k before) ≡ Ok tt →
      sums_after s medium risk hazard (record_at site k ∷ records_from site n (k + 1)) ≡ walk s medium (record_at site k ∷ records_from site n (k + 1)) k before risk hazard
  unfolding walk
  by_read n k before risk hazard again (Err m) e z = absurd (not_both (sym z))
  by_read n k before risk hazard again (Ok r) e z =
      let f = found_record site k before.id r e in
      let p = found_passed s medium site n k before r z in
      let rest = records_from site n (k + 1) in
      subst (λ (q : Contaminant). sums_after s medium risk hazard (q ∷ rest) ≡ walk s medium (q ∷ rest) k before risk hazard) (found_is site k before.id r e)
      (rw (f.valid, lt-leb r.id before.id f.above, p.0) (again (before_next before r) (next s medium Risk risk r) (next s medium Hazard hazard r) p.1))

  -- where nothing is found, the list call over the records reports their sums
  walk_same : (n k : ℕ) (before : Earlier) (risk hazard : Running) → check_blocks s medium site n k before ≡ Ok tt →
      sums_after s medium risk hazard (records_from site n k) ≡ walk s medium (records_from site n k) k before risk hazard
  unfolding check_blocks records_from walk
  walk_same zero k before risk hazard z = refl
  walk_same (suc n) k before risk hazard z = by_read n k before risk hazard (walk_same n (k + 1)) (contaminant_read (block_at site k) k before.id) refl z

first_passed : {site : List ℕ} {h : Header} → Opened site h → first_refusal h.scenario h.medium (length (records_from site h.count 1)) ≡ Ok tt
first_passed {site} {h} o =
    ap (first_refusal h.scenario h.medium) (records_long site h.count 1) ∙
    first_accepted h.scenario h.medium h.count (count_some o) (count_most o) (opened_fits o) (opened_known o)

-- THE SAME SUMS AND VERDICTS as the list call over the records of the site
pub site_sums : (site : List ℕ) (out : ℕ) → number_of (site_answer site out) ≡ 0 →
    site_answer site out ≡ sums_of (header_of site).scenario (header_of site).medium (site_records site)
site_sums site out z =
    let p = passed_site site out z in
    let h = header_of site in
    p.answer ∙ walk_same h.scenario h.medium site h.count 1 none_before start start p.checked ∙
    sym (sums_walked h.scenario h.medium (records_from site h.count 1) (first_passed p.opened))
