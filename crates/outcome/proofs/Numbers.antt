-- The numbers of what is sent back: a refusal's is from 1 to the greatest and never 9, so that an answer with number 0 is accepted and any other is
-- refused. Assumes nothing.
use Rattle.std.proofs.Common.{◌≡◌, ℕ, ◌≤◌, refl, ap, subst, arith}
use Rattle.std.specs.Result.{result_unwrap_or}
use Rattle.std.specs.Prelude.{Result, Ok, Err, MatchResult, ⊤}
use Rattle.outcome.specs.declared.Refusal.{Refusal}
use Rattle.outcome.specs.declared.Refused.{Refused}
use Rattle.outcome.specs.declared.Refusal.TheVariants.{Length, Check, Kind, Field, Count, Factor, Order, Pathway, Room, Scenario, House}
use Rattle.outcome.specs.Outcome.{refusal_number, number_of, not_used, most_number}

-- no answer is both
pub not_both : {A E : Type 0} {a : A} {e : E} → Ok a ≡ Err e → ⊥
not_both {A} {E} h = subst (λ (x : Result A E). MatchResult x (λ _. ⊤) (λ _. ⊥)) h tt

pub same_value : {A E : Type 0} {a b : A} → ◌≡◌ {A = Result A E} (Ok a) (Ok b) → a ≡ b
same_value {A} {E} {a} h = ap (λ (x : Result A E). result_unwrap_or x a) h

pub same_error : {A E : Type 0} {e f : E} → ◌≡◌ {A = Result A E} (Err e) (Err f) → e ≡ f
same_error h = cc

pub record Numbered (n : ℕ) : Type 0 where
  pub some : n ≡ 0 → ⊥
  pub used : n ≡ not_used → ⊥
  pub most : n ≤ most_number

pub refusal_numbered : (n : Refusal) → Numbered (refusal_number n)
refusal_numbered Length = record { some = λ e. omega (arith, e); used = λ e. omega (arith, e); most = omega arith }
refusal_numbered Check = record { some = λ e. omega (arith, e); used = λ e. omega (arith, e); most = omega arith }
refusal_numbered Kind = record { some = λ e. omega (arith, e); used = λ e. omega (arith, e); most = omega arith }
refusal_numbered Field = record { some = λ e. omega (arith, e); used = λ e. omega (arith, e); most = omega arith }
refusal_numbered Count = record { some = λ e. omega (arith, e); used = λ e. omega (arith, e); most = omega arith }
refusal_numbered Factor = record { some = λ e. omega (arith, e); used = λ e. omega (arith, e); most = omega arith }
refusal_numbered Order = record { some = λ e. omega (arith, e); used = λ e. omega (arith, e); most = omega arith }
refusal_numbered Pathway = record { some = λ e. omega (arith, e); used = λ e. omega (arith, e); most = omega arith }
refusal_numbered Room = record { some = λ e. omega (arith, e); used = λ e. omega (arith, e); most = omega arith }
refusal_numbered Scenario = record { some = λ e. omega (arith, e); used = λ e. omega (arith, e); most = omega arith }
refusal_numbered House = record { some = λ e. omega (arith, e); used = λ e. omega (arith, e); most = omega arith }

-- an answer with number 0 is accepted
pub accepted_value : {A : Type 0} (x : Result A Refused) → number_of x ≡ 0 → (a : A) × (x ≡ Ok a)
accepted_value (Ok a) z = (a, refl)
accepted_value (Err r) z = absurd ((refusal_numbered r.refusal).some z)

-- and any other is refused
pub refused_value : {A : Type 0} (x : Result A Refused) → (number_of x ≡ 0 → ⊥) → (r : Refused) × (x ≡ Err r)
refused_value (Ok a) n = absurd (n refl)
refused_value (Err r) n = (r, refl)

pub number_most : {A : Type 0} (x : Result A Refused) → number_of x ≤ most_number
number_most (Ok a) = omega arith
number_most (Err r) = (refusal_numbered r.refusal).most

-- NINE is the number of no answer
pub nine_not_used : {A : Type 0} (x : Result A Refused) → number_of x ≡ not_used → ⊥
nine_not_used (Ok a) e = omega (arith, e)
nine_not_used (Err r) e = (refusal_numbered r.refusal).used e
