-- Soil saturation: the inhalation guideline of a chemical in soil is the lower of the calculated guideline, after its rounding, and the saturation,
-- by what the two decimals are worth, in working form. No other guideline looks at it.
use Rattle.std.specs.Prelude.{◌≡◌, Bool, false, not, cond, ◌&&◌, ℕ, ◌<◌, eqb}
use Rattle.decimal.specs.declared.Decimal.{Decimal}
use Rattle.decimal.specs.Decimal.{zero_of, value_of, working_of, at_most_of}
use Rattle.inputs.specs.declared.Contaminant.{Contaminant}
use Rattle.inputs.specs.declared.kind.Class.TheVariants.{Chemical}
use Rattle.inputs.specs.declared.kind.Medium.TheVariants.{Soil}
use Rattle.inputs.specs.Kinds.{medium_number, class_number}
use Rattle.inputs.specs.Rules.{is_class}
use Rattle.guideline_rules.specs.declared.SideGuidelines.{SideGuidelines}

-- the saturation counts: of a chemical in soil, where it is not zero
abbrev pub has_saturation : ℕ → Contaminant → Bool
has_saturation medium r = eqb medium (medium_number Soil) && (is_class Chemical r && not (eqb r.saturation.m 0))

-- the lower of two working decimals
abbrev pub lower_of : Decimal → Decimal → Decimal
lower_of a b = cond (at_most_of a b) a b

-- the guideline of inhalation, from what is calculated; zero, that of an absent pathway, is the lower
abbrev pub capped : ℕ → Contaminant → Decimal → Decimal
capped medium r g = cond (has_saturation medium r) (lower_of g (working_of r.saturation)) g

-- a side's guidelines: inhalation capped, the others and the total as calculated
abbrev pub capped_side : ℕ → Contaminant → SideGuidelines → SideGuidelines
capped_side medium r g = record { first = g.first; second = capped medium r g.second; third = g.third; total = g.total }

-- what is calculated is above the saturation, which then stands in its place
abbrev pub above_saturation : ℕ → Contaminant → Decimal → Bool
above_saturation medium r g = has_saturation medium r && not (at_most_of g (working_of r.saturation))

-- ---- the words of the theorems about it
-- a chemical in soil that has a saturation
pub record SaturationCounts (medium : ℕ) (r : Contaminant) : Type 0 where
  pub soil : medium ≡ medium_number Soil
  pub chemical : r.class ≡ class_number Chemical
  pub known : eqb r.saturation.m 0 ≡ false

-- the saturation stands in the place of the guideline of pathway n: of inhalation, which is 1, and of what is worth more
pub record Replaced (medium : ℕ) (r : Contaminant) (calculated : SideGuidelines) (n : ℕ) : Type 0 where
  pub inhalation : n ≡ 1
  pub counts : SaturationCounts medium r
  pub above : value_of r.saturation < value_of calculated.second

-- the record without its saturation
abbrev pub without_saturation : Contaminant → Contaminant
without_saturation r =
    record { class = r.class; id = r.id; toxicity = r.toxicity; transfer = r.transfer; c = r.c; saturation = zero_of; in_air = r.in_air; abs = r.abs }

-- g and h agree but for inhalation
pub record SameButInhalation (g h : SideGuidelines) : Type 0 where
  pub first : g.first ≡ h.first
  pub third : g.third ≡ h.third
  pub total : g.total ≡ h.total
