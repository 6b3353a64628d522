-- A site put together from the writers' blocks has the answer of the list call over the same records, accepted or refused. Assumes nothing.
use mathlib.Core.Path.{◌≡◌, refl, sym, ap, ◌∙◌}
use mathlib.Core.Bool.{Bool, true, false, cond}
use mathlib.Core.List.{List, [], ◌∷◌, ◌++◌}
use Prim.Native.Nat.{ℕ, ◌+◌, ◌*◌, ◌/◌, ◌%◌, ◌≤◌, ◌<◌}
use native.Mathlib.Omega.{arith}
use lib.Dec.{leb}
use lib.ListN.{length, take, drop, length-append}
use lib.Seq.{take_at, drop_at}
use borrow.Author.Tests.{le-leb, eq-eqb}
use Rattle.std.specs.Prelude.{Result, Ok, Err}
use Rattle.outcome.specs.declared.Refusal.{Refusal}
use Rattle.outcome.specs.Outcome.{located, on_read, passing, refused}
use Rattle.outcome.proofs.Tests.{and_after}
use Rattle.std.specs.Result.{result_and}
use Rattle.guideline_rules.specs.Pathway.{record_refusal}
use Rattle.outcome.specs.declared.Refusal.TheVariants.{Order}
use Rattle.inputs.specs.declared.Scenario.{Scenario}
use Rattle.inputs.specs.declared.earlier.Earlier.{Earlier}
use Rattle.inputs.specs.Earlier.{none_before, before_next}
use Rattle.inputs.specs.declared.Contaminant.{Contaminant}
use Rattle.inputs.specs.Rules.{scenario_fits, lacks_factor, contaminant_fits}
use Rattle.inputs.proofs.Tests.{and_split}
use Rattle.words.specs.Words.{part_of}
use Rattle.words.proofs.ReadBack.{rest_next}
use Rattle.block_rules.specs.declared.Header.{Header}
use Rattle.block_rules.specs.Rules.{in_file}
use Rattle.block_rules.specs.Reading.{header_read, contaminant_read}
use Rattle.block_rules.proofs.Rules.{in_file_lem}
use Rattle.block_rules.specs.Layouts.{header_block, contaminant_block}
use Rattle.block_rules.specs.Answers.{header_fit, contaminant_fit}
use Rattle.block_rules.proofs.HeaderBack.{header_length, header_back}
use Rattle.block_rules.proofs.ContaminantBack.{contaminant_length, contaminant_read_back}
use Rattle.sum_rules.specs.Share.{Running, start, next}
use Rattle.sum_rules.specs.ListCall.{first_refusal, walk, sums_of}
use Rattle.formulas.specs.Side.{Risk, Hazard}
use Rattle.site_rules.specs.Blocks.{length_ok, block_at, record_at, records_from}
use Rattle.site_rules.specs.Site.{site_answer}
use Rattle.site_rules.proofs.Walk.{check_blocks, check_found, checked_from, sums_from}
use Rattle.site_rules.specs.Passed.{Opened}
use Rattle.site_rules.specs.Written.{blocks_from, site_of, Writable}
use Rattle.site_rules.specs.Written.Writable.{nobody, also}
use Rattle.site_rules.proofs.Opened.{found_is, opened_fits, opened_known, count_some, count_most, answer_walked}
use Rattle.site_rules.proofs.SameSums.{first_accepted, sums_walked, sums_after}
use Rattle.site_rules.proofs.Passed.{room_kept}

-- ---- the walk over the blocks of a site that holds them from place k on
module _ (s : Scenario) (medium : ℕ) (site : List ℕ) where
  -- of the block at place k only the order is left to be tested
  block_read : (k before : ℕ) (r : Contaminant) (rest : List ℕ) → drop (512 * k) site ≡ contaminant_block k r ++ rest → 1 ≤ k → k ≤ 120 → contaminant_fits r ≡ true → r.id < 4294967296 →
      contaminant_read (block_at site k) k before ≡ cond (leb r.id before) (Err Order) (Ok r)
  unfolding block_at part_of contaminant_fit in_file
  block_read k before r rest e l u fits small =
      ap (λ (b : List ℕ). contaminant_read (take 512 b) k before) e ∙
      ap (λ (b : List ℕ). contaminant_read b k before) (take_at (contaminant_block k r) rest 512 (contaminant_length k r)) ∙
      contaminant_read_back k before r (rw (le-leb 1 k l, le-leb k 120 u, fits)) small

  -- what is found of such a block by its order, and from its record on
  by_order : (n k : ℕ) (before : Earlier) (risk hazard : Running) (r : Contaminant) (rs : List Contaminant) →
      let x = next s medium Risk risk r in
      let y = next s medium Hazard hazard r in
      let after = before_next before r in
      result_and (check_blocks s medium site n (k + 1) after) (sums_after s medium x y (records_from site n (k + 1))) ≡ walk s medium rs (k + 1) after x y →
      (b : Bool) → contaminant_read (block_at site k) k before.id ≡ cond b (Err Order) (Ok r) →
      result_and (on_read (cond b (Err Order) (Ok r)) (λ (m : Refusal). refused m k) (check_found s medium site n k before))
      (sums_after s medium risk hazard (record_at site k ∷ records_from site n (k + 1))) ≡
      cond b (refused Order k) (passing (record_refusal s medium before r) k (walk s medium rs (k + 1) after x y))
  by_order n k before risk hazard r rs again true e = refl
  by_order n k before risk hazard r rs again false e =
      let own = record_refusal s medium before r in
      let rest = records_from site n (k + 1) in
      let found = check_found s medium site n k before r in
      ap (λ (q : Contaminant). result_and found (sums_after s medium risk hazard (q ∷ rest))) (sym (found_is site k before.id r e)) ∙
      and_after (located own k) (check_blocks s medium site n (k + 1) (before_next before r)) (sums_after s medium risk hazard (r ∷ rest)) ∙ ap (passing own k) again

  walk_written : (rs : List Contaminant) (k : ℕ) (before : Earlier) (risk hazard : Running) → Writable rs → 1 ≤ k → k + length rs ≤ 121 → drop (512 * k) site ≡ blocks_from k rs →
      result_and (check_blocks s medium site (length rs) k before) (sums_after s medium risk hazard (records_from site (length rs) k)) ≡ walk s medium rs k before risk hazard
  unfolding check_blocks records_from walk blocks_from
  walk_written [] k before risk hazard nobody l u e = refl
  walk_written (r ∷ rs) k before risk hazard (also fits small all) l u e =
      let x = next s medium Risk risk r in
      let y = next s medium Hazard hazard r in
      let place : 512 * k + 512 ≡ 512 * (k + 1) = omega arith in
      let behind : drop (512 * (k + 1)) site ≡ blocks_from (k + 1) rs =
      ap (λ (n : ℕ). drop n site) (sym place) ∙ rest_next site (contaminant_block k r) (blocks_from (k + 1) rs) (512 * k) 512 e (contaminant_length k r) in
      let read = block_read k before.id r (blocks_from (k + 1) rs) e l (omega arith) fits small in
      let found = check_found s medium site (length rs) k before in
      let sums = sums_after s medium risk hazard (record_at site k ∷ records_from site (length rs) (k + 1)) in
      rw fits
      (ap (λ (q : Result Contaminant Refusal). result_and (on_read q (λ (m : Refusal). refused m k) found) sums) read ∙
      by_order (length rs) k before risk hazard r rs (walk_written rs (k + 1) (before_next before r) x y all (omega arith) (omega arith) behind) (leb r.id before.id) read)

-- ---- the site
blocks_long : (k : ℕ) (rs : List Contaminant) → length (blocks_from k rs) ≡ 512 * length rs
unfolding blocks_from
blocks_long k [] = refl
blocks_long k (r ∷ rs) = length-append (contaminant_block k r) (blocks_from (k + 1) rs) ∙ omega (arith, contaminant_length k r, blocks_long (k + 1) rs)

pub written_length : (h : Header) (rs : List Contaminant) → length (site_of h rs) ≡ 512 * length rs + 512
unfolding site_of
written_length h rs = length-append (header_block h) (blocks_from 1 rs) ∙ omega (arith, header_length h, blocks_long 1 rs)

right_long : (n m : ℕ) → n ≡ 512 * m + 512 → 1 ≤ m → m ≤ 120 → length_ok n ≡ true
unfolding length_ok
right_long n m e l u =
    let whole : n % 512 ≡ 0 = omega arith in
    rw (le-leb 1024 n (omega arith), le-leb n 61952 (omega arith), eq-eqb (n % 512) 0 whole)

module _ (h : Header) (rs : List Contaminant) (fit : header_fit h ≡ true) (known : lacks_factor h.scenario ≡ false) (counted : h.count ≡ length rs) where
  count_fits : (1 ≤ h.count) × (h.count ≤ 120)
  unfolding header_fit
  count_fits = in_file_lem h.count (and_split (in_file h.count) (scenario_fits h.scenario h.medium) fit).0

  first_block : block_at (site_of h rs) 0 ≡ header_block h
  unfolding block_at part_of site_of
  first_block = take_at (header_block h) (blocks_from 1 rs) 512 (header_length h)

  block_count : length (site_of h rs) / 512 ≡ h.count + 1
  block_count = omega (arith, written_length h rs, counted)

  -- its header is found
  pub written_opened : Opened (site_of h rs) h
  written_opened = record {
    right = right_long (length (site_of h rs)) (length rs) (written_length h rs) (omega (arith, count_fits)) (omega (arith, count_fits));
    header = ap (λ (b : List ℕ). header_read b (length (site_of h rs) / 512)) first_block ∙ ap (header_read (header_block h)) block_count ∙ header_back h fit known;
  }

  behind_header : drop 512 (site_of h rs) ≡ blocks_from 1 rs
  unfolding site_of
  behind_header = drop_at (header_block h) (blocks_from 1 rs) 512 (header_length h)

  -- THE SAME ANSWER as the list call, in every case
  pub written_answer : (out : ℕ) → Writable rs → 512 * length rs + 512 ≤ out → site_answer (site_of h rs) out ≡ sums_of h.scenario h.medium rs
  written_answer out all room =
      let s = h.scenario in
      let m = h.medium in
      let site = site_of h rs in
      let o = written_opened in
      answer_walked o out ∙ room_kept (length site) out (result_and (checked_from site h) (sums_from site h)) (omega (arith, written_length h rs)) ∙
      ap (λ (n : ℕ). result_and (check_blocks s m site n 1 none_before) (sums_after s m start start (records_from site n 1))) counted ∙
      walk_written s m site rs 1 none_before start start all (omega arith) (omega (arith, count_fits)) behind_header ∙
      sym (sums_walked s m rs (ap (first_refusal s m) (sym counted) ∙ first_accepted s m h.count (count_some o) (count_most o) (opened_fits o) (opened_known o)))
