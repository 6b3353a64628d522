-- Result and summary blocks read back: the same words, and decimals with the same m and the same e. Assumes nothing.
use mathlib.Core.Path.{◌≡◌, refl, sym, subst, ◌∙◌}
use mathlib.Core.List.{List, [], ◌∷◌, append-nil}
use mathlib.Core.Bool.{true}
use Prim.Native.Nat.{ℕ, ◌<◌, ◌%◌}
use native.Mathlib.Omega.{arith}
use lib.ListN.{length, get_or}
use Rattle.words.specs.Words.{word_at, word_sum}
use Rattle.decimal.specs.declared.Decimal.{Decimal}
use Rattle.decimal.specs.Decimal.{zero_of}
use Rattle.fields.specs.Fields.{decimals_at, InField}
use Rattle.block_rules.specs.Pieces.{result_pieces, summary_pieces, words_in, decimals_in, unused_in}
use Rattle.block_rules.specs.Reading.{sound_at}
use Rattle.guideline_rules.specs.declared.SideGuidelines.{SideGuidelines}
use Rattle.sum_rules.specs.declared.SideSums.{SideSums}
use Rattle.sum_rules.specs.declared.Verdict.{Verdict}
use Rattle.sum_rules.specs.Verdict.{verdict_number}
use Rattle.sum_rules.specs.Promise.{SideSent, sent_of}
use Rattle.sum_rules.proofs.AnswerBounds.{verdict_most}
use Rattle.block_rules.specs.Layouts.{guideline_decimals, result_block, summary_words, summary_decimals, summary_block}
use Rattle.block_rules.proofs.ReadBack.{AllFit, kind_back, block_length, block_sum, sound_back, block_words, block_decimals, block_unused}

-- ---- kind 3: what stands in the block b at place p, of class q and id r. Every e is from -999 to 999. An id is a word wherever it was read
-- from bytes
pub record ResultRead (b : List ℕ) (p q r : ℕ) (risk hazard : SideGuidelines) : Type 0 where
  pub long : length b ≡ 512
  pub kind : word_at b 0 ≡ 3
  pub sound : sound_at b p ≡ true
  pub class : word_at b 8 ≡ q
  pub id : r < 4294967296 → word_at b 12 ≡ r
  pub decimals : decimals_at b 16 8 ≡ guideline_decimals risk hazard
  pub in_range_lem : (n : ℕ) → InField (get_or (decimals_at b 16 8) n zero_of)
  pub unused : unused_in result_pieces b 8 ≡ true

module _ (place class id : ℕ) (risk hazard : SideGuidelines) where
  abbrev ws : List ℕ
  ws = class ∷ id ∷ []

  abbrev gs : List Decimal
  gs = guideline_decimals risk hazard

  pub result_length : length (result_block place class id risk hazard) ≡ 512
  unfolding result_block
  result_length = block_length 3 place result_pieces ws gs refl refl

  -- the words add to zero
  pub result_sum : word_sum (result_block place class id risk hazard) 128 % 4294967296 ≡ 0
  unfolding result_block
  result_sum = block_sum 3 place result_pieces ws gs refl refl

  read_decimals : AllFit gs → decimals_at (result_block place class id risk hazard) 16 8 ≡ gs
  unfolding result_block decimals_in
  read_decimals f = sym (append-nil _) ∙ block_decimals 3 place result_pieces ws gs refl refl f

  read_word : (n : ℕ) → get_or ws n 0 < 4294967296 → get_or (words_in result_pieces (result_block place class id risk hazard) 8) n 0 ≡ get_or ws n 0
  unfolding result_block
  read_word = block_words 3 place result_pieces ws gs refl refl refl

  pub result_back : place < 4294967296 → class < 4294967296
      → ((n : ℕ) → InField (get_or (guideline_decimals risk hazard) n zero_of)) → ResultRead (result_block place class id risk hazard) place class id risk hazard
  unfolding result_block words_in
  result_back p q f = record {
    long = result_length;
    kind = kind_back 3 place result_pieces ws gs (omega arith);
    sound = sound_back 3 place result_pieces ws gs refl refl p;
    class = read_word 0 q;
    id = read_word 1;
    decimals = read_decimals f;
    in_range_lem = λ n. subst (λ (l : List Decimal). InField (get_or l n zero_of)) (sym (read_decimals f)) (f n);
    unused = block_unused 3 place result_pieces ws gs refl refl;
  }

-- ---- kind 4: what stands in the block b. Every e is from -999 to 999
pub record SummaryRead (b : List ℕ) (risk hazard : SideSent) : Type 0 where
  pub long : length b ≡ 512
  pub kind : word_at b 0 ≡ 4
  pub sound : sound_at b 0 ≡ true
  pub decimals : decimals_at b 16 4 ≡ risk.lower ∷ (risk.upper ∷ (hazard.lower ∷ (hazard.upper ∷ [])))
  pub in_range_lem : (n : ℕ) → InField (get_or (decimals_at b 16 4) n zero_of)
  pub unused : unused_in summary_pieces b 8 ≡ true
  pub risk_verdict : word_at b 48 ≡ risk.verdict
  pub hazard_verdict : word_at b 52 ≡ hazard.verdict
  pub words : (word_at b 8 ≡ 0) × (word_at b 12 ≡ 0)

-- a verdict's number is a word
verdict_word_lem : (v : Verdict) → verdict_number v < 4294967296
verdict_word_lem v = omega (arith, verdict_most v)

module _ (risk hazard : SideSums) where
  abbrev sw : List ℕ
  sw = summary_words risk hazard

  abbrev ds : List Decimal
  ds = summary_decimals risk hazard

  pub summary_length : length (summary_block risk hazard) ≡ 512
  unfolding summary_block
  summary_length = block_length 4 0 summary_pieces sw ds refl refl

  -- the words add to zero
  pub summary_sum : word_sum (summary_block risk hazard) 128 % 4294967296 ≡ 0
  unfolding summary_block
  summary_sum = block_sum 4 0 summary_pieces sw ds refl refl

  sums_read : AllFit ds → decimals_at (summary_block risk hazard) 16 4 ≡ ds
  unfolding summary_block decimals_in
  sums_read f = sym (append-nil _) ∙ block_decimals 4 0 summary_pieces sw ds refl refl f

  summary_word : (n : ℕ) → get_or sw n 0 < 4294967296 → get_or (words_in summary_pieces (summary_block risk hazard) 8) n 0 ≡ get_or sw n 0
  unfolding summary_block
  summary_word = block_words 4 0 summary_pieces sw ds refl refl refl

  pub summary_back : ((n : ℕ) → InField (get_or (summary_decimals risk hazard) n zero_of)) → SummaryRead (summary_block risk hazard) (sent_of risk) (sent_of hazard)
  unfolding summary_block words_in
  summary_back f = record {
    long = summary_length;
    kind = kind_back 4 0 summary_pieces sw ds (omega arith);
    sound = sound_back 4 0 summary_pieces sw ds refl refl (omega arith);
    decimals = sums_read f;
    in_range_lem = λ n. subst (λ (l : List Decimal). InField (get_or l n zero_of)) (sym (sums_read f)) (f n);
    unused = block_unused 4 0 summary_pieces sw ds refl refl;
    risk_verdict = summary_word 2 (verdict_word_lem risk.verdict);
    hazard_verdict = summary_word 3 (verdict_word_lem hazard.verdict);
    words = (summary_word 0 (omega arith), summary_word 1 (omega arith));
  }
