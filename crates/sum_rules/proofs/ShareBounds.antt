-- A share stands for its exact value, and the running sums for the exact sum of the list: once for both directions and both sides. Assumes nothing.
use mathlib.Core.Path.{refl, ap, ◌∙◌}
use mathlib.Core.List.{List, [], ◌∷◌, map}
use Prim.Native.Nat.{ℕ, ◌+◌, ◌*◌, ◌≤◌}
use native.Mathlib.Nat.{mul-pos, zero-mul, mul-zero, le_refl}
use native.Mathlib.Omega.{arith}
use lib.Dec.{lit<, lit≤}
use lib.ListN.{length, length-map}
use Rattle.rounding.specs.declared.Direction.{Direction}
use Rattle.decimal.specs.declared.Decimal.{Decimal}
use Rattle.decimal.specs.Decimal.{zero_of, mul_of}
use Rattle.decimal.specs.Fraction.{Fraction, times}
use Rattle.decimal.specs.Lists.{added}
use Rattle.decimal.specs.Range.{Range, operand_range, product_range, Covers}
use Rattle.decimal.proofs.Ranges.{covers, covers_self}
use Rattle.decimal.proofs.Laws.{mul_zero_left, mul_zero_right}
use Rattle.decimal.proofs.Approximation.{Fair, Summands, approx_mul, fair_most, sum_fair}
use Rattle.decimal.proofs.Approximation.Fair.{none, some}
use Rattle.decimal.proofs.Approximation.Summands.{end, next as one_more}
use Rattle.inputs.specs.declared.Scenario.{Scenario}
use Rattle.inputs.specs.declared.Contaminant.{Contaminant}
use Rattle.formulas.specs.Limits.{input_range, total_roundings, total_range, share_roundings, share_range, sum_roundings, sum_range}
use Rattle.inputs.proofs.Tests.{contaminant_parts}
use Rattle.formulas.specs.Side.{Side}
use Rattle.formulas.specs.Term.{formulas_for}
use Rattle.formulas.specs.ExactTerm.{exact_total, exact_for}
use Rattle.formulas.proofs.Sound.{table_sound, three_pathways}
use Rattle.formulas.proofs.TermBounds.{fair_bottom}
use Rattle.formulas.proofs.ValueBounds.{valid_fair}
use Rattle.guideline_rules.proofs.Accepted.{Accepted, values_of_lem}
use Rattle.guideline_rules.proofs.WorkedOut.{total_bounds}
use Rattle.sum_rules.specs.Share.{term_sum, used_of, share_of, exact_used, exact_share}
use Rattle.sum_rules.specs.Promise.{exact_sum}

-- ---- a product of what stands for fractions, zeros included
fair_mul : (dir : Direction) {a b : Decimal} {p q : Fraction} {j k : ℕ} {v w : Range} → Covers operand_range (product_range v w) → Fair dir j v a p → Fair dir k w b q →
    Fair dir (1 + (j + k)) (product_range v w) (mul_of a b dir) (times p q)
fair_mul dir {a} {b} {p} {q} h (none e t n) g = none (ap (λ (d : Decimal). mul_of d b dir) e ∙ mul_zero_left dir b) (ap (λ (m : ℕ). m * q.top) t ∙ zero-mul q.top) (mul-pos n (fair_bottom g))
fair_mul dir {a} {b} {p} {q} h (some f) (none e t n) = none (ap (λ (d : Decimal). mul_of a d dir) e ∙ mul_zero_right dir a) (ap (λ (m : ℕ). p.top * m) t ∙ mul-zero p.top) (mul-pos f.bottom n)
fair_mul dir h (some f) (some g) = some (approx_mul dir f g h)

-- ---- the share of one record
module _ (s : Scenario) (medium : ℕ) (side : Side) (dir : Direction) where
  pub sum_bounds : (r : Contaminant) → Accepted s medium r → Fair dir total_roundings total_range (term_sum s medium r dir side) (exact_total (exact_for s r) (formulas_for s medium r side))
  unfolding term_sum
  sum_bounds r a = total_bounds dir _ _ (values_of_lem dir s medium r a) (formulas_for s medium r side) (table_sound s.inhalation medium r.class side) (three_pathways s.inhalation medium r.class side)

  pub concentration : (r : Contaminant) → Accepted s medium r → Fair dir 0 input_range (used_of r dir) (exact_used r)
  unfolding used_of exact_used
  concentration r a = valid_fair dir r.c (contaminant_parts r a.contaminant).c

  pub share_bounds : (r : Contaminant) → Accepted s medium r → Fair dir share_roundings share_range (share_of s medium r dir side) (exact_share s medium side r)
  unfolding share_of exact_share
  share_bounds r a = fair_mul dir (covers refl) (concentration r a) (sum_bounds r a)

-- ---- a list of accepted records
pub data AllAccepted (s : Scenario) (medium : ℕ) : List Contaminant → Type 0 where
  nobody : AllAccepted s medium []
  also : {r : Contaminant} {rs : List Contaminant} → Accepted s medium r → AllAccepted s medium rs → AllAccepted s medium (r ∷ rs)

module _ (s : Scenario) (medium : ℕ) (side : Side) (dir : Direction) where
  shares : (rs : List Contaminant) → AllAccepted s medium rs →
      Summands dir share_roundings share_range (map (λ (r : Contaminant). share_of s medium r dir side) rs) (map (exact_share s medium side) rs)
  shares [] nobody = end
  shares (r ∷ rs) (also a as') = one_more (share_bounds s medium side dir r a) (shares rs as')

  -- THE SUM of up to 120 shares: one rounding more for each
  pub list_bounds : (rs : List Contaminant) → AllAccepted s medium rs → length rs ≤ 120 →
      Fair dir sum_roundings sum_range (added dir zero_of (map (λ (r : Contaminant). share_of s medium r dir side) rs)) (exact_sum s medium side rs)
  list_bounds rs as' h =
      let n = length-map rs (λ (r : Contaminant). share_of s medium r dir side) in
      fair_most dir (omega (arith, n)) (record { low = lit≤ tt; high = omega (arith, n) })
      (sum_fair dir (le_refl share_roundings) covers_self (record { low = lit≤ tt; high = omega (arith, n) }) (none refl refl (lit< tt)) (shares rs as'))
