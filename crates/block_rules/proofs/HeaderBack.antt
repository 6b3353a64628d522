-- Reading what the writer of a header wrote, of either kind, gives the same header, each decimal with the same m and the same e. Assumes nothing.
use mathlib.Core.Path.{◌≡◌, refl, ap, ap₂, ◌∙◌}
use mathlib.Core.List.{List, [], ◌∷◌}
use mathlib.Core.Bool.{Bool, true, false, ◌&&◌, not}
use Prim.Native.Nat.{ℕ, ◌+◌, ◌<◌}
use native.Mathlib.Omega.{arith}
use lib.ListN.{length, get_or}
use lib.Dec.{eqb, ltb}
use borrow.Author.Tests.{eq-eqb, not-false}
use Rattle.outcome.specs.declared.Refusal.{Refusal}
use Rattle.outcome.specs.declared.Refusal.TheVariants.{Field, Factor, Room}
use Rattle.words.specs.Words.{word_at, part_of}
use Rattle.words.specs.Bytes.{over}
use Rattle.words.proofs.Written.{part_over}
use Rattle.decimal.specs.declared.Decimal.{Decimal}
use Rattle.inputs.specs.declared.kind.Inhalation.{Inhalation}
use Rattle.inputs.specs.declared.kind.Inhalation.TheVariants.{Intake, Concentration}
use Rattle.inputs.specs.Kinds.{header_kind, is_header_kind, inhalation_of}
use Rattle.inputs.specs.declared.Scenario.{Scenario}
use Rattle.inputs.specs.Inputs.{scenario_decimals, scenario_of}
use Rattle.inputs.specs.Valid.{all_valid}
use Rattle.inputs.specs.Rules.{one_to, most_medium, scenario_fits, lacks_factor}
use Rattle.inputs.proofs.Tests.{and_split, one_to_lem, scenario_of_lem}
use Rattle.fields.proofs.ReadBack.{all_fit}
use Rattle.block_rules.specs.declared.Header.{Header}
use Rattle.block_rules.specs.Rules.{in_file, count_ok}
use Rattle.block_rules.specs.Pieces.{scenario_pieces, header_pieces, words_in, decimals_in}
use Rattle.block_rules.specs.Reading.{header_in, inhalation_in, scenario_at, header_at, header_unused, sound_at, header_read}
use Rattle.outcome.proofs.Tests.{passed}
use Rattle.std.specs.Prelude.{Result, Ok, ⊤}
use Rattle.block_rules.proofs.Rules.{in_file_lem}
use Rattle.block_rules.specs.Layouts.{header_block}
use Rattle.block_rules.specs.Answers.{header_fit, header_refusal, left_by, header_left}
use Rattle.block_rules.proofs.ReadBack.{kind_back, block_length, sound_back, block_words, block_decimals, block_unused}

-- ---- the kind of a header is one of the two, and tells how inhalation is worked out
kind_small : (i : Inhalation) → header_kind i < 4294967296
kind_small Intake = omega arith
kind_small Concentration = omega arith

pub kind_is : (i : Inhalation) → is_header_kind (header_kind i) ≡ true
kind_is Intake = refl
kind_is Concentration = refl

pub kind_told : (i : Inhalation) → inhalation_of (header_kind i) ≡ i
kind_told Intake = refl
kind_told Concentration = refl

pub header_length : (h : Header) → length (header_block h) ≡ 512
unfolding header_block
header_length h = block_length (header_kind h.scenario.inhalation) 0 header_pieces (h.medium ∷ h.count ∷ []) (scenario_decimals h.scenario) refl refl

module _ (h : Header) (fit : header_fit h ≡ true) (known : lacks_factor h.scenario ≡ false) where
  abbrev hb : List ℕ
  hb = header_block h

  abbrev s : Scenario
  s = h.scenario

  -- its kind, and what the kind tells
  abbrev i : Inhalation
  i = s.inhalation

  abbrev k : ℕ
  k = header_kind i

  abbrev ws : List ℕ
  ws = h.medium ∷ h.count ∷ []

  abbrev ds : List Decimal
  ds = scenario_decimals h.scenario

  counted : in_file h.count ≡ true
  unfolding header_fit
  counted = (and_split (in_file h.count) (scenario_fits h.scenario h.medium) fit).0

  valid : scenario_fits h.scenario h.medium ≡ true
  unfolding header_fit
  valid = (and_split (in_file h.count) (scenario_fits h.scenario h.medium) fit).1

  medium_good : one_to most_medium h.medium ≡ true
  medium_good = (and_split (one_to most_medium h.medium) (all_valid ds) valid).0

  decimals_good : all_valid ds ≡ true
  decimals_good = (and_split (one_to most_medium h.medium) (all_valid ds) valid).1

  read_decimals : decimals_in scenario_pieces hb 16 ≡ ds
  unfolding header_block decimals_in
  read_decimals = block_decimals k 0 header_pieces ws ds refl refl (all_fit ds decimals_good)

  read_scenario : scenario_at i hb 16 ≡ s
  unfolding scenario_at
  read_scenario = ap (scenario_of i) read_decimals ∙ scenario_of_lem s

  read_word : (n : ℕ) → get_or ws n 0 < 4294967296 → get_or (words_in header_pieces hb 8) n 0 ≡ get_or ws n 0
  unfolding header_block
  read_word = block_words k 0 header_pieces ws ds refl refl refl

  read_count : word_at hb 12 ≡ h.count
  unfolding words_in
  read_count = read_word 1 (omega (arith, in_file_lem h.count counted))

  read_medium : word_at hb 8 ≡ h.medium
  unfolding words_in
  read_medium = read_word 0 (omega (arith, (one_to_lem most_medium h.medium medium_good).1))

  read_header_lem : header_at i hb 8 ≡ h
  unfolding header_at
  read_header_lem = λ j. record { medium = read_medium j; count = read_count j; scenario = read_scenario j }

  unused : header_unused hb 8 ≡ true
  unfolding header_unused header_block
  unused = block_unused k 0 header_pieces ws ds refl refl

  sound : sound_at hb 0 ≡ true
  unfolding header_block
  sound = sound_back k 0 header_pieces ws ds refl refl (omega arith)

  kind : word_at hb 0 ≡ k
  unfolding header_block
  kind = kind_back k 0 header_pieces ws ds (kind_small i)

  kind_good : is_header_kind (word_at hb 0) ≡ true
  kind_good = ap is_header_kind kind ∙ kind_is i

  told : inhalation_in hb ≡ i
  told = ap inhalation_of kind ∙ kind_told i

  count_good : count_ok (word_at hb 12) (h.count + 1) ≡ true
  unfolding count_ok
  count_good = ap (λ (n : ℕ). in_file n && eqb (n + 1) (h.count + 1)) read_count ∙ simp (counted, eq-eqb (h.count + 1) (h.count + 1) refl)

  factors_good : lacks_factor (scenario_at (inhalation_in hb) hb 16) ≡ false
  factors_good = ap (λ (j : Inhalation). lacks_factor (scenario_at j hb 16)) told ∙ ap lacks_factor read_scenario ∙ known

  fields_good : scenario_fits (scenario_at (inhalation_in hb) hb 16) (word_at hb 8) && header_unused hb 8 ≡ true
  unfolding header_at
  fields_good =
      ap (λ (j : Inhalation). scenario_fits (scenario_at j hb 16) (word_at hb 8) && header_unused hb 8) told ∙
      ap₂ (λ (x : Header) (y : Bool). scenario_fits x.scenario x.medium && y) read_header_lem unused ∙ ap (λ (x : Bool). x && true) valid

  header_good : header_in hb ≡ h
  header_good = ap (λ (j : Inhalation). header_at j hb 8) told ∙ read_header_lem

  pub header_back : header_read hb (h.count + 1) ≡ Ok h
  unfolding header_read
  header_back = simp (eq-eqb (length hb) 512 (header_length h), sound, kind_good, fields_good, count_good, factors_good, header_good)

  pub header_back_over : (d : List ℕ) → header_read (part_of (over hb d) 0 512) (h.count + 1) ≡ Ok h
  header_back_over d = ap (λ (l : List ℕ). header_read l (h.count + 1)) (part_over hb d 512 (header_length h)) ∙ header_back

-- ---- the same of what the call leaves, where it accepts
accepted_fits : (room : ℕ) (h : Header) → header_refusal room h ≡ Ok tt → (header_fit h ≡ true) × (lacks_factor h.scenario ≡ false)
unfolding header_refusal header_fit
accepted_fits room h e =
    let s = h.scenario in
    let e₁ = (passed (ltb room 512) Room e).1 in
    let e₂ = passed (not (in_file h.count)) Field e₁ in
    let e₃ = passed (not (scenario_fits s h.medium)) Field e₂.1 in
    let lacks = (passed (lacks_factor s) Factor e₃.1).0 in
    (rw (not-false (in_file h.count) e₂.0, not-false (scenario_fits s h.medium) e₃.0), lacks)

pub header_call_back : (out : List ℕ) (h : Header) → header_refusal (length out) h ≡ Ok tt →
    header_read (part_of (header_left out h) 0 512) (h.count + 1) ≡ Ok h
unfolding header_left left_by
header_call_back out h e =
    let f = accepted_fits (length out) h e in
    ap (λ (a : Result ⊤ Refusal). header_read (part_of (left_by a (header_block h) out) 0 512) (h.count + 1)) e ∙ header_back_over h f.0 f.1 out
