-- The pieces of each kind of block have 500 bytes together. They stand one behind the other from byte 8 on, so fields and unused bytes cover
-- bytes 8 to 507, each of them once; and they hold as many decimals as a scenario, a contaminant, the guidelines and the sums have. Assumes nothing.
use mathlib.Core.Path.{◌≡◌, refl}
use mathlib.Core.List.{List, [], ◌∷◌, map}
use Prim.Native.Nat.{ℕ}
use Rattle.fields.specs.Fields.{decimal_at, decimals_at}
use Rattle.inputs.specs.declared.kind.Inhalation.{Inhalation}
use Rattle.inputs.specs.Inputs.{age_of, ages_of, air_of, scenario_of, contaminant_of}
use Rattle.block_rules.specs.Reading.{scenario_at, header_at, contaminant_at}
use lib.ListN.{replicate}
use Rattle.inputs.specs.Inputs.{scenario_places, contaminant_places}
use Rattle.block_rules.specs.Rules.{struct_size}
use Rattle.block_rules.specs.Pieces.{header_pieces, contaminant_pieces, result_pieces, summary_pieces, pieces_size, decimals_held, decimals_in}

pub layouts_cover : map pieces_size (header_pieces ∷ contaminant_pieces ∷ result_pieces ∷ summary_pieces ∷ []) ≡ replicate 4 struct_size
layouts_cover = refl

pub layouts_hold : map decimals_held (header_pieces ∷ contaminant_pieces ∷ result_pieces ∷ summary_pieces ∷ []) ≡ scenario_places ∷ contaminant_places ∷ 8 ∷ 4 ∷ []
layouts_hold = refl

-- where A stands, and of a contaminant U and Q
pub air_hours_place : (i : Inhalation) (b : List ℕ) → (header_at i b 8).scenario.air_hours ≡ decimal_at b 192
unfolding header_at scenario_at scenario_of decimals_in decimals_at
air_hours_place i b = refl

pub in_air_places : (b : List ℕ) → (contaminant_at b 8).in_air ≡ record { u = decimal_at b 96; q = decimal_at b 104 }
unfolding contaminant_at contaminant_of air_of decimals_in decimals_at
in_air_places b = refl

-- where soil on skin stands: the child's four from byte 200, the adult's four from 232, AF at 264, and ABS of a contaminant at 112
pub ages_places : (i : Inhalation) (b : List ℕ) → (header_at i b 8).scenario.ages ≡ record {
  child = record { sa = decimal_at b 200; ef = decimal_at b 208; ed = decimal_at b 216; bw = decimal_at b 224 };
  adult = record { sa = decimal_at b 232; ef = decimal_at b 240; ed = decimal_at b 248; bw = decimal_at b 256 };
  af = decimal_at b 264;
}
unfolding header_at scenario_at scenario_of ages_of age_of decimals_in decimals_at
ages_places i b = refl

pub abs_place : (b : List ℕ) → (contaminant_at b 8).abs ≡ decimal_at b 112
unfolding contaminant_at contaminant_of decimals_in decimals_at
abs_place b = refl
