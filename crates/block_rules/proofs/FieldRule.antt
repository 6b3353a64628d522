-- The records' rule with their unused bytes zero is the rule of each field and of each unused byte, one by one: a valid decimal and two zero bytes;
-- a zero byte. Assumes nothing.
use mathlib.Core.Path.{◌≡◌, refl, sym, ap, ◌∙◌}
use mathlib.Core.List.{List}
use mathlib.Core.Bool.{Bool, ◌&&◌, not, and_assoc}
use Prim.Native.Nat.{ℕ, ◌+◌}
use lib.Dec.{eqb}
use Rattle.words.specs.Words.{word_at}
use Rattle.decimal.specs.declared.Decimal.{Decimal}
use Rattle.fields.specs.Fields.{decimals_at}
use Rattle.inputs.specs.declared.kind.Inhalation.{Inhalation}
use Rattle.inputs.specs.Inputs.{exposure_of, contact_of, targets_of, house_of, age_of, ages_of, toxicity_of, transfer_of, air_of, scenario_of, contaminant_of}
use Rattle.inputs.specs.Inputs.{scenario_decimals, contaminant_decimals}
use Rattle.inputs.specs.Valid.{all_valid}
use Rattle.inputs.specs.Rules.{one_to, most_medium, most_class, scenario_fits, contaminant_fits}
use Rattle.block_rules.specs.Pieces.{scenario_pieces, value_pieces, header_pieces, contaminant_pieces, decimals_in, pieces_keep}
use Rattle.block_rules.specs.Reading.{scenario_at, header_unused, contaminant_at, contaminant_unused}
use Rattle.block_rules.proofs.Pieces.{pieces_split}

-- the decimals of what was read are those that stand there
scenario_list : (i : Inhalation) (s : List ℕ) (at : ℕ) → scenario_decimals (scenario_at i s at) ≡ decimals_in scenario_pieces s at
unfolding scenario_at scenario_of exposure_of contact_of targets_of house_of age_of ages_of decimals_in decimals_at
scenario_list i s at = refl

contaminant_list : (s : List ℕ) (at : ℕ) → contaminant_decimals (contaminant_at s at) ≡ decimals_in value_pieces s (at + 8)
unfolding contaminant_at contaminant_of toxicity_of transfer_of air_of decimals_in decimals_at
contaminant_list s at = refl

-- words that keep the rule w, and the pieces behind them
pub header_fields : (i : Inhalation) (b : List ℕ) → scenario_fits (scenario_at i b 16) (word_at b 8) && header_unused b 8 ≡ one_to most_medium (word_at b 8) && pieces_keep header_pieces b 8
unfolding header_unused decimals_in
header_fields i b =
    let medium = one_to most_medium (word_at b 8) in
    ap (λ (l : List Decimal). (medium && all_valid l) && header_unused b 8) (scenario_list i b 16)
    ∙ and_assoc medium (all_valid (decimals_in scenario_pieces b 16)) (header_unused b 8)
    ∙ ap (λ (x : Bool). medium && x) (sym (pieces_split header_pieces b 8))

pub contaminant_fields : (b : List ℕ) → contaminant_fits (contaminant_at b 8) && contaminant_unused b 8
    ≡ (one_to most_class (word_at b 8) && not (eqb (word_at b 12) 0)) && pieces_keep contaminant_pieces b 8
unfolding contaminant_unused contaminant_at contaminant_of decimals_in
contaminant_fields b =
    let class = one_to most_class (word_at b 8) in
    let id = not (eqb (word_at b 12) 0) in
    let values = all_valid (decimals_in value_pieces b 16) in
    ap (λ (l : List Decimal). (class && (id && all_valid l)) && contaminant_unused b 8) (contaminant_list b 8)
    ∙ ap (λ (x : Bool). x && contaminant_unused b 8) (sym (and_assoc class id values))
    ∙ and_assoc (class && id) values (contaminant_unused b 8)
    ∙ ap (λ (x : Bool). (class && id) && x) (sym (pieces_split contaminant_pieces b 8))
