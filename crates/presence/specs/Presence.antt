-- Whether a pathway is there, by which decimals are zero alone: no term is worked out.
use Rattle.std.specs.Prelude.{◌≡◌, Bool, true, false, not, ◌&&◌, ◌||◌, List, [], ◌∷◌, ◌++◌, map, ℕ, eqb, get_or}
use Rattle.decimal.specs.declared.Decimal.{Decimal}
use Rattle.inputs.specs.declared.groups.Age.{Age}
use Rattle.inputs.specs.declared.kind.Inhalation.{Inhalation}
use Rattle.inputs.specs.declared.kind.Inhalation.TheVariants.{Intake, Concentration}
use Rattle.inputs.specs.declared.Scenario.{Scenario}
use Rattle.inputs.specs.declared.Contaminant.{Contaminant}
use Rattle.formulas.specs.Side.{Risk, Hazard}
use Rattle.formulas.specs.Formula.{Formula, pathways_of, derived}
use Rattle.formulas.specs.Term.{has_factors, inputs_by}

abbrev pub known_of : Decimal → Bool
known_of d = not (eqb d.m 0)

-- as `known`, `present_of` and `any_pathway`, over what is known of each name
abbrev pub all_known : List Bool → List ℕ → Bool
all_known ks [] = true
all_known ks (n ∷ ns) = get_or ks n false && all_known ks ns

abbrev pub some_known : List Bool → List Formula → Bool
some_known ks [] = false
some_known ks (f ∷ fs) = has_factors f.before && (all_known ks f.before && all_known ks f.after) || some_known ks fs

-- what is known of each name, in the order of `values_of`, by intake or by concentration: a factor that is worked out by its parts, an input by its
-- own decimal
abbrev pub known_inputs : Inhalation → Scenario → Contaminant → List Bool
known_inputs i s r = map known_of (inputs_by i s r)

abbrev pub not_yet : List Bool
not_yet = map (λ (fs : List Formula). false) derived

unfoldable pub known_values : Inhalation → Scenario → Contaminant → List Bool
known_values i s r = map (some_known (not_yet ++ known_inputs i s r)) derived ++ known_inputs i s r

-- a pathway on either side
abbrev pub either_known : Inhalation → Scenario → Contaminant → ℕ → ℕ → Bool
either_known i s r medium class = some_known (known_values i s r) (pathways_of i medium class Risk) || some_known (known_values i s r) (pathways_of i medium class Hazard)

-- the factors that no scenario lacks once refusal 6 is passed
pub record Needed (s : Scenario) : Type 0 where
  pub ef : known_of s.exposure.ef ≡ true
  pub ed : known_of s.exposure.ed ≡ true
  pub bw : known_of s.exposure.bw ≡ true
  pub at : known_of s.exposure.at ≡ true

-- an age adds to G, and soil on skin brings a chemical into the body
abbrev pub age_known : Age Decimal → Bool
age_known x = (known_of x.sa && (known_of x.ef && known_of x.ed)) && known_of x.bw

abbrev pub on_skin : Scenario → Contaminant → Bool
on_skin s r = known_of r.abs && (known_of s.ages.af && (age_known s.ages.child || age_known s.ages.adult))

-- inhalation of a chemical, by what is known of the factor from soil or water to the air
abbrev pub inhaled_of : Inhalation → Scenario → Contaminant → Bool → Bool
inhaled_of Intake s r air = (known_of s.contact.ira && air) && (known_of r.toxicity.sfi || known_of r.toxicity.rfdi)
inhaled_of Concentration s r air = (air && known_of s.air_hours) && (known_of r.in_air.u || known_of r.in_air.q)

-- a chemical, by what is known of the ways through the mouth or the skin, and of that factor
abbrev pub chemical_of : Inhalation → Scenario → Contaminant → Bool → Bool → Bool
chemical_of i s r swallowed air = swallowed && (known_of r.toxicity.sfo || known_of r.toxicity.rfdo) || inhaled_of i s r air
