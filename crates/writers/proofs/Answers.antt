-- What a writer leaves, by whether it is accepted; and an accepted writer has room for a block. Assumes nothing.
use Rattle.std.proofs.Common.{◌≡◌, ℕ, ◌≤◌, List, refl, sym, ap, ◌∙◌}
use Rattle.std.specs.Prelude.{Bool, true, false, cond, ltb, Result, Ok, Err, ⊤}
use borrow.Author.Tests.{ltb-false}
use Rattle.outcome.specs.declared.Refusal.{Refusal}
use Rattle.outcome.specs.declared.Refused.{Refused}
use Rattle.outcome.specs.declared.Refusal.TheVariants.{Room}
use Rattle.outcome.specs.Outcome.{located}
use Rattle.outcome.proofs.Numbers.{not_both}
use Rattle.outcome.proofs.Tests.{tests_passed}
use Rattle.words.specs.Bytes.{over}
use Rattle.block_rules.specs.Answers.{left_by}

-- y is what the tests answered, and x what they are to answer
module _ {y x : Result ⊤ Refusal} (block out : List ℕ) (is : y ≡ x) where
  pub sent_refused : {r : Refused} → located y 0 ≡ Err r → (Err r ≡ located x 0) × (out ≡ left_by x block out)
  unfolding left_by
  sent_refused {r} e = by x (ap (λ (z : Result ⊤ Refusal). located z 0) (sym is) ∙ e)
    where
      by : (x : Result ⊤ Refusal) → located x 0 ≡ Err r → (Err r ≡ located x 0) × (out ≡ left_by x block out)
      by (Ok u) e = absurd (not_both e)
      by (Err n) e = (sym e, refl)

  pub sent_written : {u : ⊤} {left : List ℕ} → located y 0 ≡ Ok u → left ≡ over block out → (Ok tt ≡ located x 0) × (left ≡ left_by x block out)
  unfolding left_by
  sent_written e w = rw (tests_passed is 0 e) (refl, w)

-- the room is tested first
pub room_there : (room : ℕ) (rest : Result ⊤ Refusal) → cond (ltb room 512) (Err Room) rest ≡ Ok tt → 512 ≤ room
room_there room rest h = cases (ltb room 512) refl h
  where
    cases : (b : Bool) → ltb room 512 ≡ b → cond b (Err Room) rest ≡ Ok tt → 512 ≤ room
    cases false e f = ltb-false room 512 e
    cases true e f = absurd (not_both (sym f))
