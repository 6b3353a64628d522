-- What a site that is accepted has passed: its length, its header, every block, the room for the output. Assumes nothing.
use mathlib.Core.Path.{◌≡◌, refl, sym, subst, ◌∙◌, ap}
use mathlib.Core.Bool.{Bool, true, false, cond}
use mathlib.Core.List.{List}
use Prim.Native.Nat.{ℕ, ◌/◌, ◌≤◌, zero, suc, ◌+◌, ◌<◌}
use native.Mathlib.Omega.{arith}
use lib.Dec.{eqb, ltb}
use lib.ListN.{length}
use borrow.Author.Tests.{eqb-true, eqb-false, ltb-false, le-ltb}
use Rattle.outcome.specs.declared.Refusal.TheVariants.{Room}
use Rattle.std.specs.Prelude.{Result, Ok, Err, ⊤}
use Rattle.outcome.specs.declared.Refused.{Refused}
use Rattle.outcome.specs.Outcome.{located, on_read, passing, refused, number_of}
use Rattle.outcome.proofs.Numbers.{not_both, refusal_numbered}
use Rattle.block_rules.specs.declared.Header.{Header}
use Rattle.block_rules.specs.Reading.{header_read, contaminant_read}
use Rattle.sum_rules.specs.Answer.{Sums}
use Rattle.guideline_rules.proofs.RecordTests.{alone_passed}
use Rattle.guideline_rules.specs.Pathway.{record_refusal}
use Rattle.std.specs.Result.{result_and}
use Rattle.outcome.proofs.Tests.{and_ok}
use Rattle.site_rules.specs.Blocks.{length_ok, block_at, header_of, record_at}
use Rattle.site_rules.specs.Site.{site_answer}
use Rattle.site_rules.proofs.Walk.{check_blocks, check_found, with_room, checked_from, sums_from}
use Rattle.inputs.specs.declared.Scenario.{Scenario}
use Rattle.inputs.specs.declared.earlier.Earlier.{Earlier}
use Rattle.inputs.specs.Earlier.{none_before, before_next}
use Rattle.inputs.specs.declared.Contaminant.{Contaminant}
use mathlib.Core.Logic.{◌⊎◌, inl, inr}
use Rattle.outcome.specs.declared.Refusal.{Refusal}
use Rattle.site_rules.specs.Passed.{RecordOk, Opened}
use Rattle.site_rules.proofs.Opened.{found_record, found_is, answer_length, answer_header, header_is, answer_walked}

-- an accepted site with the header h: nothing was found in its blocks, and the answer is the sums over all records
pub record PassedSite (site : List ℕ) (out : ℕ) (h : Header) : Type 0 where
  pub opened : Opened site h
  pub room : length site ≤ out
  pub checked : checked_from site h ≡ Ok tt
  pub answer : site_answer site out ≡ sums_from site h
  pub records : (k : ℕ) → 1 ≤ k → k ≤ h.count → RecordOk h.scenario h.medium (record_at site k)

-- an answer that is accepted, in another form
pub accepted_as : {a b : Result Sums Refused} → a ≡ b → number_of a ≡ 0 → number_of b ≡ 0
accepted_as e z = subst (λ (a : Result Sums Refused). number_of a ≡ 0) e z

-- ---- where nothing is found, every record keeps its rules and passed its tests
module _ (s : Scenario) (medium : ℕ) (site : List ℕ) where
  apart : (j k : ℕ) → k ≤ j → (b : Bool) → eqb j k ≡ b → (j ≡ k) ⊎ (k + 1 ≤ j)
  apart j k l true e = inl (eqb-true j k e)
  apart j k l false e = let q = eqb-false j k e in inr (omega (arith, l, q))

  -- behind a record that passed its tests nothing is found either
  pub found_passed : (n k : ℕ) (before : Earlier) (r : Contaminant) → check_found s medium site n k before r ≡ Ok tt →
      (record_refusal s medium before r ≡ Ok tt) × (check_blocks s medium site n (k + 1) (before_next before r) ≡ Ok tt)
  found_passed n k before r = cases (record_refusal s medium before r) (check_blocks s medium site n (k + 1) (before_next before r))
    where
      cases : (x : Result ⊤ Refusal) (c : Result ⊤ Refused) → passing x k c ≡ Ok tt → (x ≡ Ok tt) × (c ≡ Ok tt)
      cases (Ok tt) c e = (refl, e)
      cases (Err m) c e = absurd (not_both (sym e))

  -- of the block at place k, or of one after it, by `again`
  ok_found : (n k : ℕ) (before : Earlier) (j : ℕ) (r : Contaminant) → contaminant_read (block_at site k) k before.id ≡ Ok r → (j ≡ k) ⊎ (k + 1 ≤ j) →
      (check_blocks s medium site n (k + 1) (before_next before r) ≡ Ok tt → k + 1 ≤ j → RecordOk s medium (record_at site j)) →
      check_found s medium site n k before r ≡ Ok tt → RecordOk s medium (record_at site j)
  ok_found n k before j r e (inl q) again z =
      subst (RecordOk s medium) (found_is site k before.id r e ∙ ap (record_at site) (sym q))
      (record { fits = (found_record site k before.id r e).valid; passed = alone_passed s medium before r (found_passed n k before r z).0 })
  ok_found n k before j r e (inr q) again z = again (found_passed n k before r z).1 q

  ok_read : (n k : ℕ) (before : Earlier) (j : ℕ) → k ≤ j →
      ((after : Earlier) → check_blocks s medium site n (k + 1) after ≡ Ok tt → k + 1 ≤ j → RecordOk s medium (record_at site j)) →
      (x : Result Contaminant Refusal) → contaminant_read (block_at site k) k before.id ≡ x →
      on_read x (λ (m : Refusal). refused m k) (check_found s medium site n k before) ≡ Ok tt → RecordOk s medium (record_at site j)
  ok_read n k before j l again (Err m) e z = absurd (not_both (sym z))
  ok_read n k before j l again (Ok r) e z = ok_found n k before j r e (apart j k l (eqb j k) refl) (again (before_next before r)) z

  pub check_ok : (n k : ℕ) (before : Earlier) → check_blocks s medium site n k before ≡ Ok tt → (j : ℕ) → k ≤ j → j < k + n → RecordOk s medium (record_at site j)
  unfolding check_blocks
  check_ok zero k before h j l u = absurd (omega (arith, l, u))
  check_ok (suc n) k before h j l u =
      ok_read n k before j l (λ after z q. check_ok n (k + 1) after z j q (omega (arith, u))) (contaminant_read (block_at site k) k before.id) refl h

-- ---- the room
-- with enough room the answer stays as it is
pub room_kept : (site out : ℕ) (a : Result Sums Refused) → site ≤ out → with_room site out a ≡ a
unfolding with_room
room_kept site out (Ok a) l = rw (le-ltb out site l) refl
room_kept site out (Err r) l = refl

-- an answer that is accepted after this last test had room enough
room_cases : (site out : ℕ) (a : Result Sums Refused) (c : Bool) → ltb out site ≡ c → number_of (cond c (refused Room 0) a) ≡ 0 → site ≤ out
room_cases site out a false f z = ltb-false out site f
room_cases site out a true f z = absurd (omega (arith, z))

room_enough : (site out : ℕ) (a : Result Sums Refused) → number_of (with_room site out a) ≡ 0 → site ≤ out
unfolding with_room
room_enough site out (Ok a) z = room_cases site out (Ok a) (ltb out site) refl z
room_enough site out (Err r) z = absurd ((refusal_numbered r.refusal).some z)

module _ (site : List ℕ) (out : ℕ) (z : number_of (site_answer site out) ≡ 0) where
  with_header : (h : Header) → Opened site h → PassedSite site out h
  with_header h o =
      let w = result_and (checked_from site h) (sums_from site h) in
      let l = room_enough (length site) out w (accepted_as (answer_walked o out) z) in
      let e = answer_walked o out ∙ room_kept (length site) out w l in
      let p = (and_ok (checked_from site h) (sums_from site h) (accepted_as e z)).0 in
      record {
        opened = o;
        room = l;
        checked = p;
        answer = e ∙ rw p refl;
        records = λ k first last. check_ok h.scenario h.medium site h.count 1 none_before p k first (omega (arith, last));
      }

  -- ---- the header and the length
  by_header : length_ok (length site) ≡ true → (x : Result Header Refusal) → header_read (block_at site 0) (length site / 512) ≡ x → PassedSite site out (header_of site)
  by_header r (Err m) e = absurd ((refusal_numbered m).some (accepted_as (answer_header site out r (ap (λ (x : Result Header Refusal). located x 0) e)) z))
  by_header r (Ok h) e =
      let o : Opened site h = record { right = r; header = e } in
      subst (PassedSite site out) (sym (header_is o)) (with_header h o)

  by_length : (b : Bool) → length_ok (length site) ≡ b → PassedSite site out (header_of site)
  by_length true r = by_header r (header_read (block_at site 0) (length site / 512)) refl
  by_length false r = absurd (omega (arith, accepted_as (answer_length site out r) z))

  pub passed_site : PassedSite site out (header_of site)
  passed_site = by_length (length_ok (length site)) refl
