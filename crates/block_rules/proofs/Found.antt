-- A header or a contaminant that is found has passed every test, and a refused block has a number from 1 to 7. Assumes nothing.
use mathlib.Core.Path.{◌≡◌, refl, sym, ap, ◌∙◌, subst}
use mathlib.Core.List.{List}
use mathlib.Core.Bool.{Bool, true, false, false≢true, ◌&&◌, ◌||◌, not, cond}
use Prim.Native.Nat.{ℕ, ◌≤◌, ◌<◌}
use native.Mathlib.Omega.{arith}
use lib.ListN.{length}
use lib.Dec.{eqb, leb}
use borrow.Author.Tests.{eqb-true, leb-false, not-false}
use Rattle.outcome.specs.declared.Refusal.{Refusal}
use Rattle.outcome.specs.declared.Refusal.TheVariants.{Length, Check, Kind, Field, Count, Factor, Order}
use Rattle.std.specs.Prelude.{Result, Ok, Err}
use Rattle.outcome.specs.Outcome.{refusal_number, tests_number}
use Rattle.outcome.proofs.Numbers.{not_both, same_error, refusal_numbered}
use Rattle.outcome.proofs.Tests.{passed}
use Rattle.words.specs.Words.{word_at}
use Rattle.inputs.specs.Kinds.{header_kind, is_header_kind, inhalation_of}
use Rattle.inputs.specs.declared.Contaminant.{Contaminant}
use Rattle.inputs.specs.declared.kind.Inhalation.TheVariants.{Intake, Concentration}
use Rattle.inputs.specs.Inputs.{contaminant_of, scenario_of}
use Rattle.inputs.specs.Rules.{scenario_fits, contaminant_fits, lacks_factor}
use Rattle.inputs.proofs.Tests.{and_split}
use Rattle.block_rules.specs.declared.Header.{Header}
use Rattle.block_rules.specs.Rules.{count_ok}
use Rattle.block_rules.specs.Reading.{is_contaminant_kind, header_in, inhalation_in, scenario_at, header_at, header_unused, contaminant_at, contaminant_unused, sound_at}
use Rattle.block_rules.specs.Reading.{header_read, contaminant_read, header_value, contaminant_value}

-- ---- a contaminant
pub record ContaminantFacts (b : List ℕ) (previous : ℕ) (r : Contaminant) : Type 0 where
  pub is : r ≡ contaminant_at b 8
  pub valid : contaminant_fits r ≡ true
  pub above : previous < r.id

pub contaminant_facts : (b : List ℕ) (place previous : ℕ) (r : Contaminant) → contaminant_read b place previous ≡ Ok r → ContaminantFacts b previous r
unfolding contaminant_read contaminant_at contaminant_of
contaminant_facts b place previous r e =
    let e₁ = (passed (not (eqb (length b) 512)) Length e).1 in
    let e₂ = (passed (not (sound_at b place)) Check e₁).1 in
    let e₃ = (passed (not (is_contaminant_kind (word_at b 0))) Kind e₂).1 in
    let e₄ = passed (not (contaminant_fits (contaminant_at b 8) && contaminant_unused b 8)) Field e₃ in
    let e₅ = passed (leb (word_at b 12) previous) Order e₄.1 in
    let same : contaminant_at b 8 ≡ r = cc e₅.1 in
    record {
      is = sym same;
      valid = ap contaminant_fits (sym same) ∙ (and_split (contaminant_fits (contaminant_at b 8)) (contaminant_unused b 8) (not-false _ e₄.0)).0;
      above = subst (λ (x : Contaminant). previous < x.id) same (leb-false (word_at b 12) previous e₅.0);
    }

-- ---- a header
-- its kind is that of what it tells
kind_of_told : (n : ℕ) → is_header_kind n ≡ true → header_kind (inhalation_of n) ≡ n
kind_of_told n = cases (eqb n 6) (eqb n 1) refl refl
  where
    cases : (a b : Bool) → eqb n 6 ≡ a → eqb n 1 ≡ b → b || a ≡ true → header_kind (cond a Concentration Intake) ≡ n
    cases true b e f h = sym (eqb-true n 6 e)
    cases false true e f h = sym (eqb-true n 1 f)
    cases false false e f h = absurd (false≢true h)

pub record HeaderFacts (b : List ℕ) (blocks : ℕ) (h : Header) : Type 0 where
  pub is : h ≡ header_in b
  pub kind : header_kind h.scenario.inhalation ≡ word_at b 0
  pub valid : scenario_fits h.scenario h.medium ≡ true
  pub count : count_ok h.count blocks ≡ true
  pub factors : lacks_factor h.scenario ≡ false

pub header_facts : (b : List ℕ) (blocks : ℕ) (h : Header) → header_read b blocks ≡ Ok h → HeaderFacts b blocks h
unfolding header_read header_at scenario_at scenario_of
header_facts b blocks h e =
    let e₁ = (passed (not (eqb (length b) 512)) Length e).1 in
    let e₂ = (passed (not (sound_at b 0)) Check e₁).1 in
    let e₃ = passed (not (is_header_kind (word_at b 0))) Kind e₂ in
    let e₄ = passed (not (scenario_fits (scenario_at (inhalation_in b) b 16) (word_at b 8) && header_unused b 8)) Field e₃.1 in
    let e₅ = passed (not (count_ok (word_at b 12) blocks)) Count e₄.1 in
    let e₆ = passed (lacks_factor (scenario_at (inhalation_in b) b 16)) Factor e₅.1 in
    let same : header_in b ≡ h = cc e₆.1 in
    record {
      is = sym same;
      kind = ap (λ (x : Header). header_kind x.scenario.inhalation) (sym same) ∙ kind_of_told (word_at b 0) (not-false _ e₃.0);
      valid =
          ap (λ (x : Header). scenario_fits x.scenario x.medium) (sym same) ∙
          (and_split (scenario_fits (scenario_at (inhalation_in b) b 16) (word_at b 8)) (header_unused b 8) (not-false _ e₄.0)).0;
      count = ap (λ (x : Header). count_ok x.count blocks) (sym same) ∙ not-false _ e₅.0;
      factors = ap (λ (x : Header). lacks_factor x.scenario) (sym same) ∙ e₆.0;
    }

-- ---- a refusal of a block: one of 1 to 7
pub record Sent (n : Refusal) : Type 0 where
  pub least : 1 ≤ refusal_number n
  pub most : refusal_number n ≤ 7

-- the refusal of the first test that holds, or one of the rest
sent_first : {A : Type 0} (t : Bool) (x : Refusal) (rest : Result A Refusal) → Sent x → ((y : Refusal) → rest ≡ Err y → Sent y) →
    (y : Refusal) → cond t (Err x) rest ≡ Err y → Sent y
sent_first true x rest n k y e = subst Sent (same_error e) n
sent_first false x rest n k y e = k y e

pub contaminant_sent : (b : List ℕ) (place previous : ℕ) (y : Refusal) → contaminant_read b place previous ≡ Err y → Sent y
unfolding contaminant_read
contaminant_sent b place previous =
    sent_first (not (eqb (length b) 512)) Length _ (record { least = omega arith; most = omega arith })
    (sent_first (not (sound_at b place)) Check _ (record { least = omega arith; most = omega arith })
    (sent_first (not (is_contaminant_kind (word_at b 0))) Kind _ (record { least = omega arith; most = omega arith })
    (sent_first (not (contaminant_fits (contaminant_at b 8) && contaminant_unused b 8)) Field _ (record { least = omega arith; most = omega arith })
    (sent_first (leb (word_at b 12) previous) Order (Ok (contaminant_at b 8)) (record { least = omega arith; most = omega arith })
    (λ y e. absurd (not_both e))))))

pub header_sent : (b : List ℕ) (blocks : ℕ) (y : Refusal) → header_read b blocks ≡ Err y → Sent y
unfolding header_read
header_sent b blocks =
    sent_first (not (eqb (length b) 512)) Length _ (record { least = omega arith; most = omega arith })
    (sent_first (not (sound_at b 0)) Check _ (record { least = omega arith; most = omega arith })
    (sent_first (not (is_header_kind (word_at b 0))) Kind _ (record { least = omega arith; most = omega arith })
    (sent_first (not (scenario_fits (scenario_at (inhalation_in b) b 16) (word_at b 8) && header_unused b 8)) Field _ (record { least = omega arith; most = omega arith })
    (sent_first (not (count_ok (word_at b 12) blocks)) Count _ (record { least = omega arith; most = omega arith })
    (sent_first (lacks_factor (scenario_at (inhalation_in b) b 16)) Factor (Ok (header_in b)) (record { least = omega arith; most = omega arith })
    (λ y e. absurd (not_both e)))))))

-- so its number is never 0
pub contaminant_refused : (b : List ℕ) (place previous : ℕ) (y : Refusal) → contaminant_read b place previous ≡ Err y → refusal_number y ≡ 0 → ⊥
contaminant_refused b place previous y e = (refusal_numbered y).some

pub header_refused : (b : List ℕ) (blocks : ℕ) (y : Refusal) → header_read b blocks ≡ Err y → refusal_number y ≡ 0 → ⊥
header_refused b blocks y e = (refusal_numbered y).some

-- ---- the facts by the number: a block with number 0 has passed every test, and its value is what it holds
pub contaminant_accepted : (b : List ℕ) (place previous : ℕ) → tests_number (contaminant_read b place previous) ≡ 0 →
    ContaminantFacts b previous (contaminant_value (contaminant_read b place previous))
contaminant_accepted b place previous = cases (contaminant_read b place previous) refl
  where
    cases : (x : Result Contaminant Refusal) → contaminant_read b place previous ≡ x → tests_number x ≡ 0 → ContaminantFacts b previous (contaminant_value x)
    cases (Ok r) e z = contaminant_facts b place previous r e
    cases (Err y) e z = absurd ((refusal_numbered y).some z)

pub header_accepted : (b : List ℕ) (blocks : ℕ) → tests_number (header_read b blocks) ≡ 0 → HeaderFacts b blocks (header_value (header_read b blocks))
header_accepted b blocks = cases (header_read b blocks) refl
  where
    cases : (x : Result Header Refusal) → header_read b blocks ≡ x → tests_number x ≡ 0 → HeaderFacts b blocks (header_value x)
    cases (Ok h) e z = header_facts b blocks h e
    cases (Err y) e z = absurd ((refusal_numbered y).some z)
