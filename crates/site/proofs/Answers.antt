-- The answer of a site and what is left in the output, by what was found: the length, the header, the blocks, the room. Assumes nothing.
use mathlib.Core.Path.{◌≡◌, refl, sym, ap, ◌∙◌}
use mathlib.Core.List.{List}
use Prim.Native.Nat.{ℕ, ◌+◌, ◌≤◌, ◌<◌}
use native.Mathlib.Omega.{arith}
use lib.ListN.{length}
use borrow.Author.Tests.{lt-ltb, le-ltb}
use Rattle.inputs.specs.Earlier.{none_before}
use Rattle.outcome.specs.declared.Refusal.TheVariants.{Room}
use Rattle.std.specs.Prelude.{Result, Ok, Err, ⊤}
use Rattle.std.specs.Result.{result_and}
use Rattle.outcome.specs.declared.Refused.{Refused}
use Rattle.outcome.specs.Outcome.{refused}
use Rattle.words.specs.Bytes.{over}
use Rattle.block_rules.specs.declared.Header.{Header}
use Rattle.sum_rules.specs.Answer.{Sums}
use Rattle.site_rules.specs.Blocks.{record_at}
use Rattle.site_rules.specs.Site.{site_answer}
use Rattle.site_rules.specs.Results.{results_of, left_of, site_left}
use Rattle.site_rules.proofs.Walk.{with_room, checked_from, sums_from}
use Rattle.site.specs.Check.{Checking}
use Rattle.result_blocks.specs.Writing.{blocks_of}
use Rattle.site_rules.specs.Passed.{Opened, RecordOk}
use Rattle.site_rules.proofs.Passed.{check_ok}
use Rattle.site_rules.proofs.Opened.{opened_fits, opened_known, header_is, site_long, count_most, answer_walked}

-- ---- a site whose header was found
module _ {site : List ℕ} {h : Header} (o : Opened site h) where
  pub checking : Checking h.scenario h.medium site h.count
  checking = record { fits = opened_fits o; known = opened_known o; long = omega (arith, site_long o); most = count_most o }

  abbrev found : Result ⊤ Refused
  found = checked_from site h

  abbrev sums : Result Sums Refused
  sums = sums_from site h

  pub answer_refused : (out : ℕ) {r : Refused} → found ≡ Err r → site_answer site out ≡ Err r
  unfolding with_room
  answer_refused out e = answer_walked o out ∙ rw e refl

  module _ (z : found ≡ Ok tt) where
    passed : result_and found sums ≡ sums
    passed = rw z refl

    -- every record keeps its rules and passes its tests standing alone
    pub checked_records : (k : ℕ) → 1 ≤ k → k < 1 + h.count → RecordOk h.scenario h.medium (record_at site k)
    checked_records = check_ok h.scenario h.medium site h.count 1 none_before z

    pub answer_room : (out : ℕ) → out < length site → site_answer site out ≡ refused Room 0
    unfolding with_room
    answer_room out l = answer_walked o out ∙ ap (with_room (length site) out) passed ∙ rw (lt-ltb out (length site) l)

    pub answer_sums : (out : ℕ) → length site ≤ out → site_answer site out ≡ sums
    unfolding with_room
    answer_sums out l = answer_walked o out ∙ ap (with_room (length site) out) passed ∙ rw (le-ltb out (length site) l)

    pub left_accepted : (out : List ℕ) (a : Sums) → Ok a ≡ sums → length site ≤ length out → site_left site out ≡ over (blocks_of h.scenario h.medium site h.count a) out
    unfolding site_left results_of
    left_accepted out a e l =
        ap (λ (x : Result Sums Refused). left_of site x out) (answer_sums (length out) l ∙ sym e) ∙
        ap (λ (k : Header). over (blocks_of k.scenario k.medium site k.count a) out) (header_is o)
