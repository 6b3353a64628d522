-- What the list of decimals on the way to a record's terms holds: the value of each name, the term of each formula, the sum of the terms.
-- Assumes nothing.
use mathlib.Core.Path.{refl}
use mathlib.Core.List.{List, [], ◌∷◌, ◌++◌, map}
use Prim.Native.Nat.{ℕ, ◌<◌}
use lib.Dec.{lit<}
use lib.ListN.{length}
use Rattle.rounding.specs.declared.Direction.{Direction}
use Rattle.rounding.specs.Direction.{opposite}
use Rattle.decimal.specs.declared.Decimal.{Decimal}
use Rattle.decimal.specs.Decimal.{zero_of}
use Rattle.decimal.specs.Lists.{product_steps, summed, summed_steps}
use Rattle.std.specs.List.{Contains, flat_map}
use Rattle.std.proofs.lemmas.List.Elements.{Contains-append_left, Contains-append_right, Contains-get_or}
use Rattle.decimal.proofs.Steps.{flat_contains, summed_contains}
use Rattle.inputs.specs.declared.Scenario.{Scenario}
use Rattle.inputs.specs.declared.Contaminant.{Contaminant}
use Rattle.formulas.specs.Side.{Side}
use Rattle.formulas.specs.Formula.{Formula, derived}
use Rattle.formulas.specs.Term.{look, term_of, total_of, inputs_of, plain_values, formulas_for, values_for}
use Rattle.formulas.specs.Steps.{formula_steps, total_steps, steps_for}

module _ (dir : Direction) (s : Scenario) (medium : ℕ) (r : Contaminant) (side : Side) where
  abbrev values : List Decimal
  values = values_for dir s r

  abbrev pathways : List Formula
  pathways = formulas_for s medium r side

  abbrev worked : List Decimal
  worked = flat_map (total_steps (plain_values (inputs_of s r)) dir) derived

  among_totals : (d : Decimal) → Contains (total_steps values dir pathways) d → Contains (steps_for dir s medium r side) d
  unfolding steps_for
  among_totals d h =
      let last = total_steps values dir pathways in
      Contains-append_right worked (values ++ last) d (Contains-append_right values last d h)

  pub value_on_the_way : (n : ℕ) → n < length values → Contains (steps_for dir s medium r side) (look values n)
  unfolding steps_for
  value_on_the_way n l =
      let last = total_steps values dir pathways in
      Contains-append_right worked (values ++ last) (look values n) (Contains-append_left values last (look values n) (Contains-get_or values n zero_of l))

  pub term_on_the_way : (f : Formula) → Contains pathways f → Contains (steps_for dir s medium r side) (term_of values dir f)
  term_on_the_way f h =
      let before = product_steps dir (map (look values) f.before) in
      let after = product_steps (opposite dir) (map (look values) f.after) in
      let t = term_of values dir f in
      let own = Contains-append_right before (after ++ t ∷ []) t (Contains-append_right after (t ∷ []) t (0, lit< tt, refl)) in
      let sums = summed_steps dir zero_of (map (term_of values dir) pathways) in
      among_totals t (Contains-append_left (flat_map (formula_steps values dir) pathways) sums t (flat_contains (formula_steps values dir) pathways f t h own))

  pub total_on_the_way : Contains (steps_for dir s medium r side) (total_of values dir pathways)
  unfolding total_of
  total_on_the_way =
      let terms = map (term_of values dir) pathways in
      let t = summed dir zero_of terms in
      among_totals t (Contains-append_right (flat_map (formula_steps values dir) pathways) (summed_steps dir zero_of terms) t (summed_contains dir zero_of terms))
