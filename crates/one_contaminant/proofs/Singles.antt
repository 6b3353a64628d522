-- The site of one contaminant as the writers leave it: its refusals are the first of the single guideline. Assumes nothing.
use mathlib.Core.Path.{◌≡◌, refl, sym, ap, ◌∙◌}
use mathlib.Core.Bool.{Bool, true, false, cond, not}
use mathlib.Core.List.{List, [], ◌∷◌, ◌++◌, append-nil}
use Prim.Native.Nat.{ℕ, ◌<◌}
use native.Mathlib.Omega.{arith}
use lib.ListN.{length, get_or, take, drop, length-append, length-drop}
use lib.Seq.{length-take-le}
use Rattle.outcome.specs.declared.Refusal.{Refusal}
use Rattle.outcome.specs.declared.Refusal.TheVariants.{Field}
use Rattle.decimal.specs.Decimal.{zero_of}
use Rattle.std.specs.Prelude.{Result, Ok, Err, ⊤}
use Rattle.outcome.specs.declared.Refused.{Refused}
use Rattle.outcome.specs.Outcome.{number_of, refused, located, answered}
use Rattle.outcome.proofs.Numbers.{not_both, same_error}
use Rattle.outcome.proofs.Tests.{tests_refused, reader_value}
use Rattle.inputs.specs.declared.Contaminant.{Contaminant}
use Rattle.inputs.specs.Rules.{lacks_factor, contaminant_fits, scenario_refusal}
use Rattle.words.specs.Bytes.{over}
use Rattle.words.proofs.Written.{over_length, over_all, lent_part}
use Rattle.fields.specs.Fields.{decimals_at}
use Rattle.words.specs.Words.{part_of}
use Rattle.guideline_rules.specs.declared.SideGuidelines.{SideGuidelines}
use Rattle.guideline_rules.specs.Answer.{Guidelines}
use Rattle.guideline_rules.specs.Guideline.{guideline_of, guidelines_sent}
use Rattle.guideline_rules.proofs.Accepted.{scenario_passed}
use Rattle.sum_rules.specs.Answer.{Sums}
use Rattle.block_rules.specs.declared.Header.{Header}
use Rattle.block_rules.specs.Rules.{in_file}
use Rattle.block_rules.specs.Layouts.{header_block, contaminant_block}
use Rattle.block_rules.specs.Answers.{header_fit, contaminant_fit, header_refusal, header_answer, header_left, contaminant_refusal, contaminant_answer, contaminant_left, left_by}
use Rattle.block_rules.proofs.HeaderBack.{header_length}
use Rattle.block_rules.proofs.ContaminantBack.{contaminant_length}
use Rattle.block_rules.proofs.ResultsBack.{ResultRead}
use Rattle.site_rules.specs.Blocks.{block_at}
use Rattle.site_rules.specs.Site.{site_answer}
use Rattle.site_rules.specs.Results.{site_left}
use Rattle.site_rules.proofs.SingleSite.{single_answer, single_result}
use Rattle.listing.specs.Asked.{side_read}
use Rattle.site_rules.specs.Written.{blocks_from, site_of}
use Rattle.one_contaminant.specs.Single.{one_of, Written}

module _ (h : Header) (r : Contaminant) where
  -- ---- the header: 4, then 6, in block 0
  header_tests_lem : header_refusal 1024 (one_of h) ≡ scenario_refusal h.scenario h.medium
  unfolding header_refusal in_file scenario_refusal
  header_tests_lem = refl

  header_sent : {e : Refused} → located (header_refusal 1024 (one_of h)) 0 ≡ Err e → guideline_of h.scenario h.medium r ≡ Err e
  unfolding guideline_of
  header_sent e = tests_refused header_tests_lem 0 _ e

  header_kept : header_refusal 1024 (one_of h) ≡ Ok tt → (header_fit (one_of h) ≡ true) × (lacks_factor h.scenario ≡ false)
  unfolding header_fit in_file
  header_kept e = let p = scenario_passed h.scenario h.medium (sym header_tests_lem ∙ e) in (p.fits, p.factors)

  -- ---- the contaminant: 4, in block 1
  abbrev tested : Bool → Result ⊤ Refusal
  tested b = cond (not b) (Err Field) (Ok tt)

  module _ (fit : header_fit (one_of h) ≡ true) (known : lacks_factor h.scenario ≡ false) where
    scenario_kept : scenario_refusal h.scenario h.medium ≡ Ok tt
    unfolding header_fit in_file scenario_refusal
    scenario_kept = simp (fit, known)

    record_cases : (b : Bool) → contaminant_fits r ≡ b → {n : Refusal} → tested b ≡ Err n → guideline_of h.scenario h.medium r ≡ refused n 1
    unfolding guideline_of
    record_cases false f {n} q = rw (scenario_kept, f) (ap (λ (m : Refusal). refused m 1) (same_error q))
    record_cases true f q = absurd (not_both q)

    record_sent : {n : Refusal} → contaminant_refusal 512 1 r ≡ Err n → guideline_of h.scenario h.medium r ≡ refused n 1
    unfolding contaminant_refusal contaminant_fit in_file
    record_sent = record_cases (contaminant_fits r) refl

  record_good : (b : Bool) → tested b ≡ Ok tt → b ≡ true
  record_good true q = refl
  record_good false q = absurd (not_both (sym q))

  record_kept : contaminant_refusal 512 1 r ≡ Ok tt → contaminant_fits r ≡ true
  unfolding contaminant_refusal contaminant_fit in_file
  record_kept = record_good (contaminant_fits r)

  -- ---- the bytes d, then l with the header, then those with the contaminant's y in its part
  module _ (d : List ℕ) (long : length d ≡ 1024) where
    first_is : (x : Result ⊤ Refused) → x ≡ header_answer (length d) (one_of h) → located (header_refusal 1024 (one_of h)) 0 ≡ x
    first_is x e = ap (λ (n : ℕ). located (header_refusal n (one_of h)) 0) (sym long) ∙ sym e

    -- the header is refused
    pub single_header : {e : Refused} → Err e ≡ header_answer (length d) (one_of h) → guideline_of h.scenario h.medium r ≡ Err e
    single_header {e} q = header_sent (first_is (Err e) q)

    -- or it was written
    module _ {u : ⊤} (q : Ok u ≡ header_answer (length d) (one_of h)) {l : List ℕ} (w : l ≡ header_left d (one_of h)) where
      passed : header_refusal 1024 (one_of h) ≡ Ok u
      passed = reader_value (header_refusal 1024 (one_of h)) 0 (first_is (Ok u) q)

      good : (header_fit (one_of h) ≡ true) × (lacks_factor h.scenario ≡ false)
      good = header_kept passed

      first_left : l ≡ over (header_block (one_of h)) d
      unfolding header_left left_by
      first_left = w ∙ rw (long, passed) refl

      part_long : length (take 512 (drop 512 l)) ≡ 512
      part_long =
          let n = ap length first_left ∙ over_length (header_block (one_of h)) d (omega (arith, header_length (one_of h))) in
          length-take-le 512 (drop 512 l) (simp length-drop (omega arith))

      second_is : (x : Result ⊤ Refused) → x ≡ contaminant_answer (length (take 512 (drop 512 l))) 1 r → located (contaminant_refusal 512 1 r) 0 ≡ x
      second_is x e = ap (λ (n : ℕ). located (contaminant_refusal n 1 r) 0) (sym part_long) ∙ sym e

      -- the contaminant is refused
      pub single_record : {e : Refused} → Err e ≡ contaminant_answer (length (take 512 (drop 512 l))) 1 r → guideline_of h.scenario h.medium r ≡ refused e.refusal 1
      single_record {e} g = by (contaminant_refusal 512 1 r) refl (second_is (Err e) g)
        where
          by : (x : Result ⊤ Refusal) → contaminant_refusal 512 1 r ≡ x → located x 0 ≡ Err e → guideline_of h.scenario h.medium r ≡ refused e.refusal 1
          by (Ok v) p q = absurd (not_both q)
          by (Err n) p q =
              record_sent good.0 good.1 p ∙ ap (λ (x : Refused). refused x.refusal 1) (same_error q)

      -- or both were
      pub single_both : {v : ⊤} → Ok v ≡ contaminant_answer (length (take 512 (drop 512 l))) 1 r → {y : List ℕ} → y ≡ contaminant_left (take 512 (drop 512 l)) 1 r →
          Written h r (take 512 l ++ (y ++ drop 512 (drop 512 l)))
      unfolding contaminant_left left_by site_of blocks_from
      single_both {v} g {y} m =
          let second = reader_value (contaminant_refusal 512 1 r) 0 (second_is (Ok v) g) in
          let p = header_block (one_of h) in
          let c = contaminant_block 1 r in
          let both : length (p ++ c) ≡ 1024 = length-append p c ∙ omega (arith, header_length (one_of h), contaminant_length 1 r) in
          let x : y ≡ over c (take 512 (drop 512 (over p d))) = m ∙ rw (part_long, second, first_left) refl in
          let is : take 512 l ++ (y ++ drop 512 (drop 512 l)) ≡ p ++ (c ++ []) =
          rw first_left (lent_part p c d y 512 1024 (header_length (one_of h)) (contaminant_length 1 r) (omega arith) (omega arith) x) ∙
          over_all (p ++ c) d (long ∙ sym both) ∙ ap (λ (q : List ℕ). p ++ q) (sym (append-nil c)) in
          record { is = is; header = good.0; known = good.1; fits = record_kept second }

-- ---- what the site call makes of it
module _ {h : Header} {r : Contaminant} {site : List ℕ} (w : Written h r site) (small : r.id < 4294967296) (d : List ℕ) (long : length d ≡ 1024)
    {b : Result Sums Refused} (e : b ≡ site_answer site (length d)) where
  abbrev own : Result Guidelines Refused
  own = guideline_of h.scenario h.medium r

  abbrev single : List ℕ
  single = site_of (one_of h) (r ∷ [])

  same : answered b ≡ answered own
  same =
      ap answered (e ∙ ap (λ (l : List ℕ). site_answer l (length d)) w.is) ∙
      single_answer (one_of h) r w.header w.known refl w.fits small (length d) (omega (arith, long))

  -- the same refusal
  pub evaluated_refused : {x : Refused} → b ≡ Err x → own ≡ Err x
  evaluated_refused {x} f = by own (sym same ∙ ap answered f)
    where
      by : (y : Result Guidelines Refused) → answered y ≡ Err x → y ≡ Err x
      by (Ok g) q = absurd (not_both q)
      by (Err n) q = ap Err (same_error q)

  module _ {a : Sums} (f : b ≡ Ok a) {results : List ℕ} (left : results ≡ site_left site d) where
    there : number_of (site_answer single (length d)) ≡ 0
    there = ap (λ (l : List ℕ). number_of (site_answer l (length d))) (sym w.is) ∙ ap number_of (sym e ∙ f)

    block : List ℕ
    block = take 512 (drop 512 results)

    read : ResultRead block 1 r.class r.id (guidelines_sent own).risk (guidelines_sent own).hazard
    unfolding block block_at part_of
    read = rw (left, w.is) (single_result (one_of h) r w.header w.known refl w.fits small d there)

    -- the single guideline is accepted too, with what stands in the result block
    own_kept : Ok (guidelines_sent own) ≡ own
    own_kept = by own (sym same ∙ ap answered f)
      where
        by : (y : Result Guidelines Refused) → answered y ≡ Ok tt → Ok (guidelines_sent y) ≡ y
        by (Ok g) q = refl
        by (Err n) q = absurd (not_both (sym q))

    pub evaluated_accepted : {risk hazard : SideGuidelines} → risk ≡ side_read (take 512 (drop 512 results)) 16 → hazard ≡ side_read (take 512 (drop 512 results)) 48 →
        Ok (record { risk = risk; hazard = hazard }) ≡ own
    unfolding block side_read decimals_at
    evaluated_accepted p q =
        let x = read.decimals in
        let first = p ∙ (λ i. record { first = get_or (x i) 0 zero_of; second = get_or (x i) 1 zero_of; third = get_or (x i) 2 zero_of; total = get_or (x i) 3 zero_of }) in
        let second = q ∙ (λ i. record { first = get_or (x i) 4 zero_of; second = get_or (x i) 5 zero_of; third = get_or (x i) 6 zero_of; total = get_or (x i) 7 zero_of }) in
        (λ i. Ok (record { risk = first i; hazard = second i })) ∙ own_kept
