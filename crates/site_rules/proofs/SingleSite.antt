-- A site of one contaminant: its number and block are those of the single guideline, and its result block holds the guideline's decimals.
-- Assumes nothing.
use mathlib.Core.Path.{◌≡◌, refl, sym, ap, subst, ◌∙◌}
use mathlib.Core.Bool.{true, false, not}
use mathlib.Core.List.{List, [], ◌∷◌, ◌++◌}
use Prim.Native.Nat.{ℕ, ◌≤◌, ◌<◌}
use native.Mathlib.Omega.{arith}
use lib.Dec.{eqb, lit≤}
use lib.ListN.{length, take}
use lib.Seq.{take_at, drop_at}
use borrow.Author.Tests.{eqb-false, lt-leb, not-true}
use Rattle.outcome.specs.declared.Refusal.{Refusal}
use Rattle.std.specs.Prelude.{Result, Ok, Err, ⊤}
use Rattle.outcome.specs.declared.Refused.{Refused}
use Rattle.outcome.specs.Outcome.{number_of, answered, passing}
use Rattle.inputs.specs.declared.Scenario.{Scenario}
use Rattle.inputs.specs.Earlier.{none_before}
use Rattle.inputs.specs.declared.Contaminant.{Contaminant}
use Rattle.inputs.specs.Rules.{one_to, most_class, lacks_factor, scenario_refusal, contaminant_fits}
use Rattle.inputs.proofs.Tests.{and_split}
use Rattle.words.specs.Words.{part_of}
use Rattle.block_rules.specs.declared.Header.{Header}
use Rattle.block_rules.specs.Reading.{contaminant_at}
use Rattle.block_rules.specs.Layouts.{header_block, contaminant_block}
use Rattle.block_rules.specs.Answers.{header_fit, contaminant_fit}
use Rattle.block_rules.specs.Rules.{in_file}
use Rattle.block_rules.proofs.Found.{contaminant_facts}
use Rattle.block_rules.proofs.HeaderBack.{header_length}
use Rattle.block_rules.proofs.ContaminantBack.{contaminant_length, contaminant_back}
use Rattle.block_rules.proofs.ResultsBack.{ResultRead}
use Rattle.guideline_rules.specs.Answer.{Guidelines}
use Rattle.formulas.specs.Side.{Risk, Hazard}
use Rattle.guideline_rules.specs.Pathway.{record_refusal}
use Rattle.guideline_rules.specs.Guideline.{guidelines_sent, both_sides, guideline_of}
use Rattle.sum_rules.specs.Answer.{Sums}
use Rattle.sum_rules.specs.Share.{start, next}
use Rattle.sum_rules.specs.ListCall.{walk, accepted}
use Rattle.site_rules.specs.Blocks.{block_at, header_of, record_at}
use Rattle.site_rules.specs.Site.{site_answer}
use Rattle.site_rules.specs.Results.{site_left}
use Rattle.site_rules.specs.Passed.{Opened}
use Rattle.site_rules.specs.Written.{blocks_from, site_of}
use Rattle.site_rules.specs.Written.Writable.{nobody, also}
use Rattle.site_rules.proofs.Opened.{header_is, opened_fits, opened_known}
use Rattle.site_rules.proofs.SameSums.{first_accepted, sums_walked}
use Rattle.site_rules.proofs.WrittenSite.{written_opened, written_answer}
use Rattle.site_rules.proofs.ReadBack.{site_result_back}

-- by the tests of the record
by_tests : (x : Result ⊤ Refusal) (w : Result Sums Refused) (g : Result Guidelines Refused) → answered w ≡ answered g → answered (passing x 1 w) ≡ answered (passing x 1 g)
by_tests (Ok u) w g e = e
by_tests (Err n) w g e = refl

module _ (h : Header) (r : Contaminant) (fit : header_fit h ≡ true) (known : lacks_factor h.scenario ≡ false) (one : h.count ≡ 1)
    (fits : contaminant_fits r ≡ true) (small : r.id < 4294967296) where
  abbrev s : Scenario
  s = h.scenario

  abbrev m : ℕ
  m = h.medium

  abbrev single : List ℕ
  single = site_of h (r ∷ [])

  opened : Opened single h
  opened = written_opened h (r ∷ []) fit known one

  -- ---- the answer
  id_some : 0 < r.id
  id_some =
      let a = and_split (one_to most_class r.class) _ fits in
      let b = and_split (not (eqb r.id 0)) _ a.1 in
      let n = eqb-false r.id 0 (not-true _ b.0) in
      omega (arith, n)

  walked : answered (walk s m (r ∷ []) 1 none_before start start) ≡ answered (guideline_of s m r)
  unfolding walk guideline_of scenario_refusal
  walked =
      rw (opened_fits opened, opened_known opened, fits, lt-leb r.id 0 id_some)
      (by_tests (record_refusal s m none_before r) (accepted s (next s m Risk start r) (next s m Hazard start r)) (Ok (both_sides s m r)) refl)

  -- THE SAME number and block
  pub single_answer : (out : ℕ) → 1024 ≤ out →
      answered (site_answer (site_of h (r ∷ [])) out) ≡ answered (guideline_of h.scenario h.medium r)
  single_answer out room =
      ap answered (written_answer h (r ∷ []) fit known one out (also fits small nobody) (omega arith) ∙
      sums_walked s m (r ∷ []) (first_accepted s m 1 (lit≤ tt) (lit≤ tt) (opened_fits opened) (opened_known opened))) ∙ walked

  -- ---- the result block
  block_is : block_at single 1 ≡ contaminant_block 1 r
  unfolding block_at part_of site_of blocks_from
  block_is =
      ap (take 512) (drop_at (header_block h) (contaminant_block 1 r ++ []) 512 (header_length h)) ∙
      take_at (contaminant_block 1 r) [] 512 (contaminant_length 1 r)

  record_is : record_at single 1 ≡ r
  unfolding record_at contaminant_fit in_file
  record_is =
      let b = contaminant_block 1 r in
      ap (λ (l : List ℕ). contaminant_at l 8) block_is ∙ sym (contaminant_facts b 1 0 r (contaminant_back 1 0 r fits small id_some)).is

  pub single_result : (out : List ℕ) → number_of (site_answer (site_of h (r ∷ [])) (length out)) ≡ 0 →
      ResultRead (block_at (site_left (site_of h (r ∷ [])) out) 1) 1 r.class r.id
      (guidelines_sent (guideline_of h.scenario h.medium r)).risk (guidelines_sent (guideline_of h.scenario h.medium r)).hazard
  single_result out z =
      let b = block_at (site_left single out) 1 in
      let found : Header → Contaminant → Type 0 = λ k q.
      ResultRead b 1 q.class q.id (guidelines_sent (guideline_of k.scenario k.medium q)).risk (guidelines_sent (guideline_of k.scenario k.medium q)).hazard in
      let last : 1 ≤ (header_of single).count = omega (arith, one, ap (λ (k : Header). k.count) (header_is opened)) in
      subst (λ (q : Contaminant). found h q) record_is
      (subst (λ (k : Header). found k (record_at single 1)) (header_is opened) (site_result_back single out z 1 (lit≤ tt) last))
