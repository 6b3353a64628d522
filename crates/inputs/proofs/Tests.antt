-- Tests joined by `&&`, and what a valid decimal is. Assumes nothing.
use mathlib.Core.Path.{◌≡◌, refl, sym, ap, ◌∙◌}
use mathlib.Core.Bool.{Bool, true, ◌&&◌, and_assoc, and-eq-true_iff}
use mathlib.Core.List.{List, [], ◌∷◌, ◌++◌}
use Prim.Native.Nat.{ℕ, zero, suc, ◌≤◌, ◌<◌}
use native.Mathlib.Omega.{arith}
use lib.Dec.{leb}
use lib.ListN.{get_or, length, drop}
use borrow.Author.Tests.{leb-true}
use Rattle.decimal.specs.declared.Decimal.{Decimal}
use Rattle.decimal.specs.Exponent.{raised}
use Rattle.decimal.specs.Decimal.{zero_of}
use Rattle.inputs.specs.declared.Scenario.{Scenario}
use Rattle.inputs.specs.declared.Contaminant.{Contaminant}
use Rattle.inputs.specs.declared.kind.Inhalation.{Inhalation}
use Rattle.inputs.specs.declared.kind.Inhalation.TheVariants.{Intake, Concentration}
use Rattle.inputs.specs.Inputs.{scenario_decimals, toxicity_decimals, transfer_decimals, air_decimals, toxicity_in_air, formula_decimals, contaminant_decimals, scenario_places, contaminant_places}
use Rattle.inputs.specs.Inputs.{exposure_of, contact_of, targets_of, house_of, age_of, ages_of, toxicity_of, transfer_of, air_of, scenario_of, contaminant_of}
use Rattle.inputs.specs.Valid.{valid_of, all_valid}
use Rattle.inputs.specs.Rules.{one_to, OneTo}

pub and_split : (a b : Bool) → a && b ≡ true → (a ≡ true) × (b ≡ true)
and_split a b h = (and-eq-true_iff a b).0 h

-- ---- a valid decimal has at most nine digits and an exponent from -20 to 20
pub record Small (d : Decimal) : Type 0 where
  pub digits : d.m < 1000000000
  pub low : 2980 ≤ raised d.e
  pub high : raised d.e ≤ 3020

pub valid_small : (d : Decimal) → valid_of d ≡ true → Small d
unfolding valid_of
valid_small d h =
    let a = and_split (leb d.m 999999999) _ h in
    let b = and_split (leb 2980 (raised d.e) && leb (raised d.e) 3020) _ a.1 in
    let c = and_split (leb 2980 (raised d.e)) _ b.0 in
    record { digits = omega (arith, leb-true d.m 999999999 a.0); low = leb-true 2980 (raised d.e) c.0; high = leb-true (raised d.e) 3020 c.1 }

-- ---- lists of decimals
pub valid_at : (l : List Decimal) → all_valid l ≡ true → (n : ℕ) → valid_of (get_or l n zero_of) ≡ true
unfolding valid_of
valid_at [] v n = refl
valid_at (d ∷ ds) v zero = (and_split (valid_of d) (all_valid ds) v).0
valid_at (d ∷ ds) v (suc n) = valid_at ds (and_split (valid_of d) (all_valid ds) v).1 n

pub valid_join : (x y : List Decimal) → all_valid (x ++ y) ≡ all_valid x && all_valid y
valid_join [] y = refl
valid_join (d ∷ ds) y = ap (λ (b : Bool). valid_of d && b) (valid_join ds y) ∙ sym (and_assoc (valid_of d) (all_valid ds) (all_valid y))

-- valid decimals of two groups are valid in each
pub valid_parts : (x y : List Decimal) → all_valid (x ++ y) ≡ true → (all_valid x ≡ true) × (all_valid y ≡ true)
valid_parts x y h = and_split (all_valid x) (all_valid y) (sym (valid_join x y) ∙ h)

pub valid_append : (x y : List Decimal) → all_valid x ≡ true → all_valid y ≡ true → all_valid (x ++ y) ≡ true
valid_append [] y h k = k
valid_append (d ∷ ds) y h k = let a = and_split (valid_of d) (all_valid ds) h in rw a.0 (valid_append ds y a.1 k)

-- what the formulas name of a contaminant, C, and the saturation: each keeps its rule where all of its decimals do
pub record ValidParts (r : Contaminant) : Type 0 where
  pub formulas : (i : Inhalation) → all_valid (formula_decimals i r) ≡ true
  pub c : valid_of r.c ≡ true
  pub saturation : valid_of r.saturation ≡ true

pub contaminant_parts : (r : Contaminant) → all_valid (contaminant_decimals r) ≡ true → ValidParts r
unfolding valid_of
contaminant_parts r h =
    let all = contaminant_decimals r in
    let x = valid_parts (toxicity_decimals r.toxicity) (drop 5 all) h in
    let y = valid_parts (transfer_decimals r.transfer) (drop 7 all) x.1 in
    let z = valid_parts (r.c ∷ (r.saturation ∷ [])) (drop 9 all) y.1 in
    record {
      formulas = λ i.
          let last = air_decimals (toxicity_in_air i r.in_air) ++ (r.abs ∷ []) in
          valid_append (toxicity_decimals r.toxicity) (transfer_decimals r.transfer ++ last) x.0
          (valid_append (transfer_decimals r.transfer) last y.0 (in_air z.1 (valid_at all h 11) i));
      c = valid_at all h 7;
      saturation = valid_at all h 8;
    }
  where
    in_air : all_valid (air_decimals r.in_air ++ (r.abs ∷ [])) ≡ true → valid_of r.abs ≡ true → (i : Inhalation) →
        all_valid (air_decimals (toxicity_in_air i r.in_air) ++ (r.abs ∷ [])) ≡ true
    in_air later abs Intake = rw abs refl
    in_air later abs Concentration = later

-- the targets of a scenario
pub target_parts : (s : Scenario) → all_valid (scenario_decimals s) ≡ true → (valid_of s.targets.tr ≡ true) × (valid_of s.targets.thi ≡ true)
target_parts s h =
    (valid_at (scenario_decimals s) h 10, valid_at (scenario_decimals s) h 11)

-- ---- the conditions that were passed
pub one_to_lem : (most n : ℕ) → one_to most n ≡ true → OneTo most n
one_to_lem most n h = let a = and_split (leb 1 n) (leb n most) h in (leb-true 1 n a.0, leb-true n most a.1)

-- ---- a record comes back out of the list of its decimals
pub scenario_of_lem : (s : Scenario) → scenario_of s.inhalation (scenario_decimals s) ≡ s
unfolding scenario_of exposure_of contact_of targets_of house_of age_of ages_of
scenario_of_lem s = refl

pub contaminant_of_lem : (r : Contaminant) → contaminant_of r.class r.id (contaminant_decimals r) ≡ r
unfolding contaminant_of toxicity_of transfer_of air_of
contaminant_of_lem r = refl

pub scenario_places_lem : (s : Scenario) → length (scenario_decimals s) ≡ scenario_places
scenario_places_lem s = refl

pub contaminant_places_lem : (r : Contaminant) → length (contaminant_decimals r) ≡ contaminant_places
contaminant_places_lem r = refl
