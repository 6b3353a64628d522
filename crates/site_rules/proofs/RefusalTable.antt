-- The site call follows the table of refusals: a number is sent back if and only if its condition is the first in the table that holds.
-- Assumes nothing.
use mathlib.Core.Path.{◌≡◌, refl, ap}
use mathlib.Core.Bool.{Bool, true, false, not, ◌&&◌, and-false}
use mathlib.Core.List.{List, [], ◌∷◌}
use mathlib.Core.Logic.{◌⊎◌, inl, inr, ◌↔◌}
use Prim.Native.Nat.{ℕ, ◌+◌, ◌/◌, ◌≤◌}
use native.Mathlib.Omega.{arith}
use lib.Dec.{eqb}
use lib.ListN.{length}
use borrow.Author.Tests.{eqb-true, le-leb}
use Rattle.std.specs.Prelude.{Result}
use Rattle.outcome.specs.declared.Refused.{Refused}
use Rattle.outcome.specs.Outcome.{refused, number_of}
use Rattle.outcome.proofs.Numbers.{refusal_numbered}
use Rattle.block_rules.specs.Rules.{in_file, count_ok}
use Rattle.sum_rules.specs.Answer.{Sums}
use Rattle.site_rules.specs.Blocks.{length_ok, header_of, all_sums, site_records}
use Rattle.site_rules.specs.Site.{site_answer}
use Rattle.site_rules.specs.Refusals.{Condition, count_condition, site_conditions, first_holding, FirstHolds, NoneHolds, FromTable}
use Rattle.site_rules.specs.Refusals.FirstHolds.{here, later}
use Rattle.site_rules.specs.Refusals.NoneHolds.{none, also}
use Rattle.site_rules.proofs.RightLength.{right_length}
use Rattle.site_rules.proofs.Passed.{accepted_as}

-- ---- the first that holds
first_sent : {cs : List Condition} {c : Condition} → FirstHolds cs c → (a : Result Sums Refused) → first_holding cs a ≡ refused c.refusal c.block
first_sent (here h) a = rw h
first_sent (later h f) a = rw h (first_sent f a)

none_sent : {cs : List Condition} → NoneHolds cs → (a : Result Sums Refused) → first_holding cs a ≡ a
none_sent none a = refl
none_sent (also h n) a = rw h (none_sent n a)

-- one is the first that holds, or none holds
find : (cs : List Condition) → ((c : Condition) × FirstHolds cs c) ⊎ NoneHolds cs
find [] = inr none
find (x ∷ xs) = by_test x.holds refl (find xs)
  where
    by_test : (t : Bool) → x.holds ≡ t → ((c : Condition) × FirstHolds xs c) ⊎ NoneHolds xs → ((c : Condition) × FirstHolds (x ∷ xs) c) ⊎ NoneHolds (x ∷ xs)
    by_test true h r = inl (x, here h)
    by_test false h (inl f) = inl (f.0, later h f.1)
    by_test false h (inr n) = inr (also h n)

-- ---- the count
-- where the blocks are 2 to 121, a count that is blocks less one is 1 to 120
count_is : (n blocks : ℕ) → 2 ≤ blocks → blocks ≤ 121 → (t : Bool) → eqb (n + 1) blocks ≡ t → in_file n && t ≡ t
unfolding in_file
count_is n blocks l u true e = let q = eqb-true (n + 1) blocks e in rw (le-leb 1 n (omega arith), le-leb n 120 (omega arith))
count_is n blocks l u false e = and-false (in_file n)

-- in a site that passed 1, condition 5 is the specification's: the count is not blocks less one
pub count_plain : (site : List ℕ) → length_ok (length site) ≡ true → (count_condition site).holds ≡ not (eqb ((header_of site).count + 1) (length site / 512))
unfolding count_ok
count_plain site r =
    let w = right_length (length site) r in
    ap not (count_is (header_of site).count (length site / 512) (omega arith) (omega arith) _ refl)

-- ---- the site
module _ (site : List ℕ) (out : ℕ) where
  abbrev sums : Result Sums Refused
  sums = all_sums (header_of site).scenario (header_of site).medium (site_records site)

  -- the first condition that holds is sent back
  pub sent_back : {c : Condition} → FirstHolds (site_conditions site out) c → site_answer site out ≡ refused c.refusal c.block
  unfolding site_answer
  sent_back f = first_sent f sums

  -- where none holds, the site is accepted
  pub none_accepted : NoneHolds (site_conditions site out) → site_answer site out ≡ sums
  unfolding site_answer
  none_accepted n = none_sent n sums

  -- and what is sent back is the first condition that holds
  pub first_of_all : (number_of (site_answer site out) ≡ 0 → ⊥) → FromTable site out (site_answer site out)
  first_of_all n = by_found (find (site_conditions site out))
    where
      by_found : ((c : Condition) × FirstHolds (site_conditions site out) c) ⊎ NoneHolds (site_conditions site out) → FromTable site out (site_answer site out)
      by_found (inl f) = record { line = f.0; first = f.1; is = sent_back f.1 }
      by_found (inr m) = absurd (n (ap number_of (none_accepted m)))

  -- an accepted call: none of the conditions holds
  pub accepted_iff : (number_of (site_answer site out) ≡ 0) ↔ NoneHolds (site_conditions site out)
  accepted_iff = (λ z. by_found z (find (site_conditions site out)), λ m. ap number_of (none_accepted m))
    where
      by_found : number_of (site_answer site out) ≡ 0 → ((c : Condition) × FirstHolds (site_conditions site out) c) ⊎ NoneHolds (site_conditions site out) → NoneHolds (site_conditions site out)
      by_found z (inl f) = absurd ((refusal_numbered f.0.refusal).some (accepted_as (sent_back f.1) z))
      by_found z (inr m) = m
