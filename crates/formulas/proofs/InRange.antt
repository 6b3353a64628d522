-- Every decimal on the way to the terms and their sum is a working decimal with an e from -999 to 999: once for every formula of the table,
-- both sides and both directions. Assumes nothing.
use mathlib.Core.Path.{◌≡◌, refl}
use mathlib.Core.Bool.{true}
use mathlib.Core.List.{List, [], ◌∷◌, ◌++◌, map}
use Prim.Native.Nat.{ℕ}
use native.Mathlib.Omega.{arith}
use lib.Dec.{lit≤}
use lib.ListN.{length, length-map}
use Rattle.rounding.specs.declared.Direction.{Direction}
use Rattle.rounding.specs.Direction.{opposite}
use Rattle.decimal.specs.declared.Decimal.{Decimal}
use Rattle.decimal.specs.Range.{Range, operand_range, joined_range, added_range, Covers}
use Rattle.decimal.specs.Decimal.{zero_of, all_operands}
use Rattle.decimal.specs.Fraction.{Fraction}
use Rattle.decimal.specs.Lists.{multiplied_steps, product_steps, summed_steps}
use Rattle.std.specs.List.{flat_map}
use Rattle.decimal.proofs.Ranges.{covers, covers_self, covers_trans}
use Rattle.decimal.proofs.Value.{Value, fair_value}
use Rattle.decimal.proofs.Value.Value.{absent}
use Rattle.decimal.proofs.Steps.{Values, operands_append, operands_all, value_operand, value_mul, summed_operands}
use Rattle.decimal.proofs.Steps.Values.{end as no_values, next as one_value}
use Rattle.inputs.specs.declared.Scenario.{Scenario}
use Rattle.inputs.specs.declared.Contaminant.{Contaminant}
use Rattle.inputs.specs.Valid.{all_valid}
use Rattle.formulas.specs.Side.{Side}
use Rattle.formulas.specs.Limits.{part_roundings, part_range, formula_roundings, formula_range}
use Rattle.formulas.specs.Formula.{Formula, derived}
use Rattle.formulas.specs.Term.{look, term_of, inputs_of, plain_values, formulas_for, values_for}
use Rattle.formulas.specs.ExactTerm.{exact_plain, exact_for}
use Rattle.formulas.specs.Steps.{formula_steps, total_steps, steps_for}
use Rattle.formulas.proofs.Sound.{range_of, ranges, range_in, Sound, Sounds, Every, before_covered, after_covered, table_sound, three_pathways, derived_every}
use Rattle.formulas.proofs.Sound.Sounds.{end as no-formulas, next as one-formula}
use Rattle.formulas.proofs.Sound.Every.{end as no-tables, next as one_table}
use Rattle.formulas.proofs.TermBounds.{Represents, term_fair}
use Rattle.formulas.proofs.ValueBounds.{plain_stand, values_stand}

module _ (dir : Direction) (vs : List Decimal) (qs : List Fraction) (r : Represents dir vs qs) where
  -- the value of a name is zero or has nine digits, in the range of its name
  each : (n : ℕ) → Value (range_of n) (look vs n)
  each n = fair_value (r.own n)

  -- ---- the products, factor by factor
  multiplied_ranged : (way : Direction) (ns : List ℕ) {w : Range} {d : Decimal} → Covers operand_range (joined_range w (ranges ns)) → Value w d →
      all_operands (multiplied_steps way d (map (look vs) ns)) ≡ true
  multiplied_ranged way [] h f = rw (value_operand f)
  multiplied_ranged way (n ∷ ns) {w} h f =
      rw (value_operand f)
      (multiplied_ranged way ns (record { low = omega (arith, h.low); high = omega (arith, h.high) })
      (value_mul way (record { low = omega (arith, h.low); high = omega (arith, h.high) }) f (each n)))

  product_ranged : (way : Direction) (ns : List ℕ) → Covers operand_range (range_in ns) → all_operands (product_steps way (map (look vs) ns)) ≡ true
  product_ranged way [] h = refl
  product_ranged way (n ∷ ns) h = multiplied_ranged way ns h (each n)

  -- ---- formulas within the limits k and w, and their sum
  module _ {k : ℕ} {w : Range} (u : Covers operand_range w) where
    term_value : (f : Formula) → Sound k w f → Value w (term_of vs dir f)
    term_value f o = fair_value (term_fair dir vs qs r u f o)

    formula_ranged : (f : Formula) → Sound k w f → all_operands (formula_steps vs dir f) ≡ true
    formula_ranged f o =
        operands_append (product_steps dir (map (look vs) f.before)) _ (product_ranged dir f.before (covers_trans u (before_covered o)))
        (operands_append (product_steps (opposite dir) (map (look vs) f.after)) (term_of vs dir f ∷ []) (product_ranged (opposite dir) f.after (after_covered u o))
        (rw (value_operand (term_value f o))))

    formulas_ranged : (fs : List Formula) → Sounds k w fs → all_operands (flat_map (formula_steps vs dir) fs) ≡ true
    formulas_ranged [] no-formulas = refl
    formulas_ranged (f ∷ fs) (one-formula o os) = operands_append (formula_steps vs dir f) (flat_map (formula_steps vs dir) fs) (formula_ranged f o) (formulas_ranged fs os)

    term_values : (fs : List Formula) → Sounds k w fs → Values w (map (term_of vs dir) fs)
    term_values [] no-formulas = no_values
    term_values (f ∷ fs) (one-formula o os) = one_value (term_value f o) (term_values fs os)

    total_ranged : (fs : List Formula) → Sounds k w fs → Covers operand_range (added_range (length fs) w) → all_operands (total_steps vs dir fs) ≡ true
    total_ranged fs os h =
        let n = length-map fs (term_of vs dir) in
        operands_append (flat_map (formula_steps vs dir) fs) (summed_steps dir zero_of (map (term_of vs dir) fs)) (formulas_ranged fs os)
        (summed_operands dir covers_self (record { low = h.low; high = omega (arith, h.high, n) }) (absent refl) (term_values fs os))

  -- the factors that are worked out
  derived_ranged : (fss : List (List Formula)) → Every part_roundings part_range fss → all_operands (flat_map (total_steps vs dir) fss) ≡ true
  derived_ranged [] no-tables = refl
  derived_ranged (fs ∷ fss) (one_table s short e) =
      operands_append (total_steps vs dir fs) (flat_map (total_steps vs dir) fss)
      (total_ranged {k = part_roundings} {w = part_range} (covers refl) fs s (record { low = lit≤ tt; high = omega (arith, short) })) (derived_ranged fss e)

  values_ranged : all_operands vs ≡ true
  values_ranged = operands_all vs (λ n. value_operand (each n))

-- THE TERMS of inputs that keep their rules, in each direction and on each side, from the computed test of the table
pub steps_in_range : (dir : Direction) (s : Scenario) (medium : ℕ) (r : Contaminant) (side : Side) → all_valid (inputs_of s r) ≡ true → all_operands (steps_for dir s medium r side) ≡ true
unfolding steps_for
steps_in_range dir s medium r side v =
    let l = inputs_of s r in
    let vs = values_for dir s r in
    let qs = exact_for s r in
    let fs = formulas_for s medium r side in
    let reps = values_stand dir l v in
    let three = three_pathways s.inhalation medium r.class side in
    operands_append (flat_map (total_steps (plain_values l) dir) derived) (vs ++ total_steps vs dir fs)
    (derived_ranged dir (plain_values l) (exact_plain l) (plain_stand dir l v) derived derived_every)
    (operands_append vs (total_steps vs dir fs) (values_ranged dir vs qs reps)
    (total_ranged dir vs qs reps {k = formula_roundings} {w = formula_range} (covers refl) fs (table_sound s.inhalation medium r.class side) (record { low = lit≤ tt; high = omega (arith, three) })))
