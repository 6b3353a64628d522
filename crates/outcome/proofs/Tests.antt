-- Answers behind tests: where a value is sent back the tests before it were passed, and what the code hands back by `?` is what they sent.
-- Assumes nothing.
use Rattle.std.proofs.Common.{◌≡◌, ◌≤◌, ℕ, refl, ap, sym, ◌∙◌, arith}
use native.Mathlib.Nat.{le_refl, le_trans}
use Rattle.std.specs.Prelude.{Bool, true, false, cond, Result, Ok, Err, ⊤, IsErrAnd}
use Rattle.std.specs.Result.{result_and}
use Rattle.outcome.specs.declared.Refusal.{Refusal}
use Rattle.outcome.specs.declared.Refused.{Refused}
use Rattle.outcome.specs.Outcome.{number_of, refused, located, on_read, passing, block_of}
use Rattle.outcome.proofs.Numbers.{not_both, same_value, same_error, refusal_numbered}

-- ---- where a value is sent back, no test before it held
pub passed : {A : Type 0} (t : Bool) (n : Refusal) {y : Result A Refusal} {a : A} → cond t (Err n) y ≡ Ok a → (t ≡ false) × (y ≡ Ok a)
passed true n e = absurd (not_both (sym e))
passed false n e = (refl, e)

-- ---- an answer behind tests that know their block
-- accepted, none of them sent anything back
pub and_ok : {A : Type 0} (x : Result ⊤ Refused) (a : Result A Refused) → number_of (result_and x a) ≡ 0 → (x ≡ Ok tt) × (number_of a ≡ 0)
and_ok (Ok tt) a z = (refl, z)
and_ok (Err r) a z = absurd ((refusal_numbered r.refusal).some z)

-- its block is theirs or its own
pub and_block : {A : Type 0} (x : Result ⊤ Refused) (a : Result A Refused) {m : ℕ} → block_of x ≤ m → block_of a ≤ m → block_of (result_and x a) ≤ m
and_block (Ok u) a h k = k
and_block (Err r) a h k = h

-- tests, further tests behind them, and then an answer
pub and_after : {A : Type 0} (x y : Result ⊤ Refused) (a : Result A Refused) → result_and (result_and x y) a ≡ result_and x (result_and y a)
and_after (Ok u) y a = refl
and_after (Err r) y a = refl

pub read_after : {A B : Type 0} (x : Result A Refusal) (k : ℕ) (g : A → Result ⊤ Refused) (b : Result B Refused) →
    result_and (on_read x (λ (n : Refusal). refused n k) g) b ≡ on_read x (λ (n : Refusal). refused n k) (λ (a : A). result_and (g a) b)
read_after (Ok a) k g b = refl
read_after (Err n) k g b = refl

-- ---- from the code's `?`: what it hands back is the refusal, and what goes on has passed
pub handed_back : {A : Type 0} (x : Result A Refused) {r : Refused} → IsErrAnd x (λ (e : Refused). e ≡ r) → x ≡ Err r
handed_back (Ok a) h = absurd h
handed_back (Err e) h = ap Err h

pub reader_value : {A : Type 0} (y : Result A Refusal) (k : ℕ) {a : A} → located y k ≡ Ok a → y ≡ Ok a
reader_value (Ok b) k e = ap Ok (same_value e)
reader_value (Err n) k e = absurd (not_both (sym e))

pub reader_refused : {A B : Type 0} (y : Result A Refusal) (k : ℕ) (g : A → Result B Refused) {r : Refused} → located y k ≡ Err r →
    on_read y (λ (n : Refusal). refused n k) g ≡ Err r
reader_refused (Ok a) k g e = absurd (not_both e)
reader_refused (Err n) k g e = ap Err (same_error e)

-- ---- an answer behind tests that are given their block
pub passing_ok : {A : Type 0} (x : Result ⊤ Refusal) (k : ℕ) (a : Result A Refused) → number_of (passing x k a) ≡ 0 → (x ≡ Ok tt) × (number_of a ≡ 0)
passing_ok x k a z = let p = and_ok (located x k) a z in (reader_value x k p.0, p.1)

located_block : (x : Result ⊤ Refusal) (k : ℕ) → block_of (located x k) ≤ k
located_block (Ok u) k = omega arith
located_block (Err n) k = le_refl k

pub passing_block : {A : Type 0} (x : Result ⊤ Refusal) (k : ℕ) (a : Result A Refused) {m : ℕ} → k ≤ m → block_of a ≤ m → block_of (passing x k a) ≤ m
passing_block x k a l h = and_block (located x k) a (le_trans (located_block x k) l) h

-- ---- the same of tests that have no value
module _ {y x : Result ⊤ Refusal} (is : y ≡ x) (k : ℕ) where
  pub tests_refused : {A : Type 0} (a : Result A Refused) {r : Refused} → located y k ≡ Err r → passing x k a ≡ Err r
  tests_refused a h = ap (λ (t : Result ⊤ Refused). result_and t a) (ap (λ (t : Result ⊤ Refusal). located t k) (sym is) ∙ h)

  pub tests_passed : {u : ⊤} → located y k ≡ Ok u → x ≡ Ok tt
  tests_passed h = sym is ∙ reader_value y k h
