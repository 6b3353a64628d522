-- A site of the right length whose header was found; what is sent back where it was not. Assumes nothing.
use mathlib.Core.Path.{◌≡◌, refl, sym, ◌∙◌}
use mathlib.Core.Bool.{true, false}
use mathlib.Core.List.{List}
use Prim.Native.Nat.{ℕ, ◌+◌, ◌*◌, ◌/◌, ◌≤◌}
use native.Mathlib.Omega.{arith}
use lib.Dec.{eqb}
use lib.ListN.{length}
use borrow.Author.Tests.{eqb-true}
use Rattle.outcome.specs.declared.Refusal.TheVariants.{Length}
use Rattle.std.specs.Prelude.{Ok, Err}
use Rattle.outcome.specs.declared.Refused.{Refused}
use Rattle.outcome.specs.Outcome.{refused, located}
use Rattle.outcome.proofs.Tests.{reader_refused}
use Rattle.inputs.specs.Rules.{scenario_fits, lacks_factor}
use Rattle.inputs.proofs.Tests.{and_split}
use Rattle.block_rules.specs.declared.Header.{Header}
use Rattle.block_rules.specs.Reading.{header_read, contaminant_read}
use Rattle.block_rules.specs.Rules.{in_file, count_ok}
use Rattle.block_rules.proofs.Found.{HeaderFacts, header_facts, ContaminantFacts, contaminant_facts}
use Rattle.block_rules.proofs.Rules.{in_file_lem}
use Rattle.std.specs.Result.{result_and}
use Rattle.site_rules.specs.Blocks.{length_ok, block_at, header_of, record_at}
use Rattle.site_rules.specs.Site.{site_answer}
use Rattle.site_rules.specs.Results.{site_left}
use Rattle.site_rules.proofs.Walk.{with_room, checked_from, sums_from, walked_answer}
use Rattle.site_rules.proofs.WalkTable.{walked}
use Rattle.site_rules.proofs.RightLength.{right_length}
use Rattle.site_rules.specs.Passed.{Opened}
use Rattle.inputs.specs.declared.Contaminant.{Contaminant}

-- ---- a refusal leaves the output as it was
pub left_refused : (site out : List ℕ) {r : Refused} → site_answer site (length out) ≡ Err r → site_left site out ≡ out
unfolding site_left
left_refused site out e = rw e refl

pub answer_length : (site : List ℕ) (out : ℕ) → length_ok (length site) ≡ false → site_answer site out ≡ refused Length 0
unfolding walked_answer
answer_length site out e = walked site out ∙ rw e

pub answer_header : (site : List ℕ) (out : ℕ) {r : Refused} → length_ok (length site) ≡ true →
    located (header_read (block_at site 0) (length site / 512)) 0 ≡ Err r → site_answer site out ≡ Err r
unfolding walked_answer
answer_header site out e h = walked site out ∙ rw e (reader_refused (header_read (block_at site 0) (length site / 512)) 0 _ h)

-- a contaminant that was found is the record of its block, and keeps its rules
pub found_record : (site : List ℕ) (k before : ℕ) (r : Contaminant) → contaminant_read (block_at site k) k before ≡ Ok r → ContaminantFacts (block_at site k) before r
found_record site k before r e = contaminant_facts (block_at site k) k before r e

pub found_is : (site : List ℕ) (k before : ℕ) (r : Contaminant) → contaminant_read (block_at site k) k before ≡ Ok r → r ≡ record_at site k
unfolding record_at
found_is site k before r e = (contaminant_facts (block_at site k) k before r e).is

-- ---- a site whose header was found
module _ {site : List ℕ} {h : Header} (o : Opened site h) where
  facts : HeaderFacts (block_at site 0) (length site / 512) h
  facts = header_facts (block_at site 0) (length site / 512) h o.header

  pub header_is : header_of site ≡ h
  unfolding header_of
  header_is = sym facts.is

  counted : (in_file h.count ≡ true) × (eqb (h.count + 1) (length site / 512) ≡ true)
  unfolding count_ok
  counted = and_split (in_file h.count) (eqb (h.count + 1) (length site / 512)) facts.count

  pub site_long : 512 * h.count + 512 ≡ length site
  site_long =
      let w = (right_length (length site) o.right).whole in
      let n : h.count + 1 ≡ length site / 512 = eqb-true (h.count + 1) (length site / 512) counted.1 in
      omega (arith, w, n)

  pub count_some : 1 ≤ h.count
  count_some = (in_file_lem h.count counted.0).0

  pub count_most : h.count ≤ 120
  count_most = (in_file_lem h.count counted.0).1

  pub opened_fits : scenario_fits h.scenario h.medium ≡ true
  opened_fits = facts.valid

  pub opened_known : lacks_factor h.scenario ≡ false
  opened_known = facts.factors

  -- the answer is what is found in its blocks, or else the sums, where there is room
  pub answer_walked : (out : ℕ) → site_answer site out ≡ with_room (length site) out (result_and (checked_from site h) (sums_from site h))
  unfolding walked_answer
  answer_walked out = walked site out ∙ rw (o.right, o.header)
