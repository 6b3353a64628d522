-- The blocks that an accepted site leaves in the output: the summary at place 0, at each later place the result block of the record there,
-- and behind them the bytes that were there. No site changes the length of the output. Assumes nothing.
use mathlib.Core.Path.{◌≡◌, refl, sym, ap, ◌∙◌}
use mathlib.Core.Bool.{Bool, true, false}
use mathlib.Core.List.{List, ◌++◌, append_assoc}
use Prim.Native.Nat.{ℕ, zero, suc, ◌*◌, ◌≤◌}
use native.Mathlib.Omega.{arith}
use lib.Dec.{eqb}
use lib.ListN.{length, take, drop, length-append}
use lib.Seq.{take_at, drop_at}
use borrow.Author.Tests.{eqb-true, eqb-false}
use Rattle.std.specs.Prelude.{Result, Ok, Err}
use Rattle.outcome.specs.declared.Refused.{Refused}
use Rattle.outcome.specs.Outcome.{number_of}
use Rattle.outcome.proofs.Numbers.{accepted_value, same_value}
use Rattle.inputs.specs.declared.Scenario.{Scenario}
use Rattle.words.specs.Words.{part_of}
use Rattle.words.specs.Bytes.{over}
use Rattle.words.proofs.Written.{over_length}
use Rattle.sum_rules.specs.Answer.{Sums}
use Rattle.block_rules.specs.Layouts.{summary_block}
use Rattle.block_rules.proofs.ResultsBack.{result_length, summary_length}
use Rattle.site_rules.specs.Blocks.{block_at, header_of}
use Rattle.site_rules.specs.Site.{site_answer}
use Rattle.site_rules.specs.Results.{result_at, results_to, results_of, left_of, site_left}
use Rattle.site_rules.proofs.Opened.{site_long, left_refused}
use Rattle.site_rules.proofs.Passed.{passed_site}

-- what stands between p and q
part_between : (p w q : List ℕ) (at n : ℕ) → length p ≡ at → length w ≡ n → part_of (p ++ (w ++ q)) at n ≡ w
unfolding part_of
part_between p w q at n e f = ap (take n) (drop_at p (w ++ q) at e) ∙ take_at w q n f

-- ---- a result block in its place, with whatever behind the last
module _ (s : Scenario) (medium : ℕ) (site : List ℕ) where
  pub result_long : (k : ℕ) → length (result_at s medium site k) ≡ 512
  unfolding result_at
  result_long k = result_length _ _ _ _ _

  pub results_long : (n : ℕ) → length (results_to s medium site n) ≡ 512 * n
  unfolding results_to
  results_long zero = refl
  results_long (suc n) = length-append (results_to s medium site n) (result_at s medium site (suc n)) ∙ omega (arith, results_long n, result_long (suc n))

  -- it is the last, or by `again` one before
  last_or_before : (n k : ℕ) (p q : List ℕ) → length p ≡ 512 → k ≤ suc n →
      (k ≤ n → part_of ((p ++ results_to s medium site n) ++ (result_at s medium site (suc n) ++ q)) (512 * k) 512 ≡ result_at s medium site k) →
      (b : Bool) → eqb k (suc n) ≡ b → part_of ((p ++ results_to s medium site n) ++ (result_at s medium site (suc n) ++ q)) (512 * k) 512 ≡ result_at s medium site k
  last_or_before n k p q e u again true h =
      let t = eqb-true k (suc n) h in
      part_between (p ++ results_to s medium site n) (result_at s medium site (suc n)) q (512 * k) 512
      (length-append p (results_to s medium site n) ∙ omega (arith, results_long n)) (result_long (suc n)) ∙ ap (result_at s medium site) (sym t)
  last_or_before n k p q e u again false h = let t = eqb-false k (suc n) h in again (omega (arith, t))

  block_there : (n k : ℕ) → 1 ≤ k → k ≤ n → (p q : List ℕ) → length p ≡ 512 → part_of ((p ++ results_to s medium site n) ++ q) (512 * k) 512 ≡ result_at s medium site k
  unfolding results_to
  block_there zero k l u p q e = absurd (omega arith)
  block_there (suc n) k l u p q e =
      let r = results_to s medium site n in
      let w = result_at s medium site (suc n) in
      let regroup : (p ++ (r ++ w)) ++ q ≡ (p ++ r) ++ (w ++ q) = simp append_assoc in
      ap (λ (t : List ℕ). part_of t (512 * k) 512) regroup ∙
      last_or_before n k p q e u (λ v. block_there n k l v p (w ++ q) e) (eqb k (suc n)) refl

-- ---- an accepted site
module _ (site out : List ℕ) (z : number_of (site_answer site (length out)) ≡ 0) where
  found : (a : Sums) × (site_answer site (length out) ≡ Ok a)
  found = accepted_value (site_answer site (length out)) z

  a : Sums
  a = found.0

  abbrev s : Scenario
  s = (header_of site).scenario

  abbrev medium : ℕ
  medium = (header_of site).medium

  abbrev count : ℕ
  count = (header_of site).count

  left_is : site_left site out ≡ over (results_of site a) out
  unfolding site_left a
  left_is = ap (λ (x : Result Sums Refused). left_of site x out) found.1

  -- the blocks are as long as the site
  blocks_long : length (results_of site a) ≡ length site
  unfolding results_of
  blocks_long =
      length-append (summary_block a.risk a.hazard) (results_to s medium site count) ∙
      omega (arith, summary_length a.risk a.hazard, results_long s medium site count, site_long (passed_site site (length out) z).opened)

  first_block : block_at (site_left site out) 0 ≡ summary_block a.risk a.hazard
  unfolding block_at part_of over results_of
  first_block =
      ap (take 512) (left_is ∙ append_assoc (summary_block a.risk a.hazard) (results_to s medium site count) _) ∙
      take_at (summary_block a.risk a.hazard) _ 512 (summary_length a.risk a.hazard)

  pub result_block_lem : (k : ℕ) → 1 ≤ k → k ≤ (header_of site).count → block_at (site_left site out) k ≡ result_at (header_of site).scenario (header_of site).medium site k
  unfolding block_at over results_of
  result_block_lem k l u =
      ap (λ (t : List ℕ). part_of t (512 * k) 512) left_is ∙
      block_there s medium site count k l u (summary_block a.risk a.hazard) _ (summary_length a.risk a.hazard)

  pub after_blocks : drop (length site) (site_left site out) ≡ drop (length site) out
  unfolding over
  after_blocks =
      ap (drop (length site)) left_is ∙ drop_at (results_of site a) (drop (length (results_of site a)) out) (length site) blocks_long ∙
      ap (λ (n : ℕ). drop n out) blocks_long

  accepted_length : length (site_left site out) ≡ length out
  accepted_length = ap length left_is ∙ over_length (results_of site a) out (omega (arith, blocks_long, (passed_site site (length out) z).room))

  -- block 0 is the summary of the accepted sums
  pub summary_block_lem : {b : Sums} → site_answer site (length out) ≡ Ok b → block_at (site_left site out) 0 ≡ summary_block b.risk b.hazard
  unfolding a
  summary_block_lem e = first_block ∙ ap (λ (x : Sums). summary_block x.risk x.hazard) (same_value (sym found.1 ∙ e))

-- ---- accepted or refused, the output stays as long as it was
pub output_length : (site out : List ℕ) → length (site_left site out) ≡ length out
output_length site out = cases (site_answer site (length out)) refl
  where
    cases : (x : Result Sums Refused) → site_answer site (length out) ≡ x → length (site_left site out) ≡ length out
    cases (Ok a) e = accepted_length site out (ap number_of e)
    cases (Err r) e = ap length (left_refused site out e)
