-- Reading what the writer of kind 2 wrote gives the same contaminant, each decimal with the same m and the same e. Assumes nothing.
use mathlib.Core.Path.{◌≡◌, refl, ap, ◌∙◌}
use mathlib.Core.List.{List, [], ◌∷◌}
use mathlib.Core.Bool.{true, ◌&&◌, not, cond}
use Prim.Native.Nat.{ℕ, ◌<◌}
use native.Mathlib.Omega.{arith}
use lib.ListN.{length, get_or}
use lib.Dec.{eqb, leb, ltb}
use borrow.Author.Tests.{eq-eqb, lt-leb, not-false}
use Rattle.outcome.specs.declared.Refusal.{Refusal}
use Rattle.outcome.specs.declared.Refusal.TheVariants.{Field, Order, Room}
use Rattle.words.specs.Words.{word_at, part_of}
use Rattle.words.specs.Bytes.{over}
use Rattle.words.proofs.Written.{part_over}
use Rattle.inputs.specs.declared.Contaminant.{Contaminant}
use Rattle.inputs.specs.Inputs.{contaminant_decimals, contaminant_of}
use Rattle.decimal.specs.declared.Decimal.{Decimal}
use Rattle.inputs.specs.Valid.{all_valid}
use Rattle.inputs.specs.Rules.{one_to, most_class, contaminant_fits}
use Rattle.inputs.proofs.Tests.{and_split, one_to_lem, contaminant_of_lem}
use Rattle.fields.proofs.ReadBack.{all_fit}
use Rattle.block_rules.specs.Rules.{in_file}
use Rattle.block_rules.specs.Pieces.{value_pieces, contaminant_pieces, words_in, decimals_in}
use Rattle.block_rules.specs.Reading.{contaminant_at, contaminant_unused, sound_at, contaminant_read}
use Rattle.outcome.proofs.Tests.{passed}
use Rattle.std.specs.Prelude.{Result, Ok, Err, ⊤}
use Rattle.block_rules.proofs.Rules.{in_file_lem}
use Rattle.block_rules.specs.Layouts.{contaminant_block}
use Rattle.block_rules.specs.Answers.{contaminant_fit, contaminant_refusal, left_by, contaminant_left}
use Rattle.block_rules.proofs.ReadBack.{kind_back, block_length, sound_back, block_words, block_decimals, block_unused}

pub contaminant_length : (place : ℕ) (r : Contaminant) → length (contaminant_block place r) ≡ 512
unfolding contaminant_block
contaminant_length place r = block_length 2 place contaminant_pieces (r.class ∷ r.id ∷ []) (contaminant_decimals r) refl refl

module _ (place previous : ℕ) (r : Contaminant) (fit : contaminant_fit place r ≡ true) (small : r.id < 4294967296) where
  abbrev cb : List ℕ
  cb = contaminant_block place r

  abbrev ws : List ℕ
  ws = r.class ∷ r.id ∷ []

  abbrev ds : List Decimal
  ds = contaminant_decimals r

  placed_well : in_file place ≡ true
  unfolding contaminant_fit
  placed_well = (and_split (in_file place) (contaminant_fits r) fit).0

  valid : contaminant_fits r ≡ true
  unfolding contaminant_fit
  valid = (and_split (in_file place) (contaminant_fits r) fit).1

  class_good : one_to most_class r.class ≡ true
  class_good = (and_split (one_to most_class r.class) (not (eqb r.id 0) && all_valid (contaminant_decimals r)) valid).0

  decimals_good : all_valid (contaminant_decimals r) ≡ true
  decimals_good = (and_split (not (eqb r.id 0)) (all_valid (contaminant_decimals r)) (and_split (one_to most_class r.class) (not (eqb r.id 0) && all_valid (contaminant_decimals r)) valid).1).1

  read_decimals : decimals_in value_pieces cb 16 ≡ ds
  unfolding contaminant_block decimals_in
  read_decimals = block_decimals 2 place contaminant_pieces ws ds refl refl (all_fit ds decimals_good)

  read_word : (n : ℕ) → get_or ws n 0 < 4294967296 → get_or (words_in contaminant_pieces cb 8) n 0 ≡ get_or ws n 0
  unfolding contaminant_block
  read_word = block_words 2 place contaminant_pieces ws ds refl refl refl

  read_class : word_at cb 8 ≡ r.class
  unfolding words_in
  read_class = read_word 0 (omega (arith, (one_to_lem most_class r.class class_good).1))

  read_id : word_at cb 12 ≡ r.id
  unfolding words_in
  read_id = read_word 1 small

  read_record : contaminant_at cb 8 ≡ r
  unfolding contaminant_at
  read_record = (λ i. contaminant_of (read_class i) (read_id i) (read_decimals i)) ∙ contaminant_of_lem r

  unused : contaminant_unused cb 8 ≡ true
  unfolding contaminant_unused contaminant_block
  unused = block_unused 2 place contaminant_pieces ws ds refl refl

  sound : sound_at cb place ≡ true
  unfolding contaminant_block
  sound = sound_back 2 place contaminant_pieces ws ds refl refl (omega (arith, in_file_lem place placed_well))

  kind : word_at cb 0 ≡ 2
  unfolding contaminant_block
  kind = kind_back 2 place contaminant_pieces ws ds (omega arith)

  -- only the order is left to be tested
  pub contaminant_read_back : contaminant_read cb place previous ≡ cond (leb r.id previous) (Err Order) (Ok r)
  unfolding contaminant_read
  contaminant_read_back = simp (eq-eqb (length cb) 512 (contaminant_length place r), sound, eq-eqb (word_at cb 0) 2 kind, read_id, read_record, valid, unused)

  module _ (above : previous < r.id) where
    pub contaminant_back : contaminant_read cb place previous ≡ Ok r
    contaminant_back = contaminant_read_back ∙ rw (lt-leb r.id previous above)

    pub contaminant_back_over : (d : List ℕ) → contaminant_read (part_of (over cb d) 0 512) place previous ≡ Ok r
    contaminant_back_over d = ap (λ (l : List ℕ). contaminant_read l place previous) (part_over cb d 512 (contaminant_length place r)) ∙ contaminant_back

-- ---- the same of what the call leaves, where it accepts
accepted_fits : (room place : ℕ) (r : Contaminant) → contaminant_refusal room place r ≡ Ok tt → contaminant_fit place r ≡ true
unfolding contaminant_refusal
accepted_fits room place r e =
    let e₁ = (passed (ltb room 512) Room e).1 in
    not-false _ (passed (not (contaminant_fit place r)) Field e₁).0

pub contaminant_call_back : (out : List ℕ) (place previous : ℕ) (r : Contaminant) → contaminant_refusal (length out) place r ≡ Ok tt → r.id < 4294967296 → previous < r.id
    → contaminant_read (part_of (contaminant_left out place r) 0 512) place previous ≡ Ok r
unfolding contaminant_left left_by
contaminant_call_back out place previous r e small above =
    ap (λ (a : Result ⊤ Refusal). contaminant_read (part_of (left_by a (contaminant_block place r) out) 0 512) place previous) e
    ∙ contaminant_back_over place previous r (accepted_fits (length out) place r e) small above out
