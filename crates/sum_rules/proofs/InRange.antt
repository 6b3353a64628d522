-- Every decimal on the way to the sums of an accepted list is a working decimal with an e from -999 to 999, on each side and in each
-- direction. Assumes nothing.
use mathlib.Core.Path.{◌≡◌, refl}
use mathlib.Core.Bool.{true}
use mathlib.Core.List.{List, [], ◌∷◌}
use Prim.Native.Nat.{ℕ, ◌+◌, ◌≤◌}
use native.Mathlib.Omega.{arith}
use lib.Dec.{lit≤}
use lib.ListN.{length}
use Rattle.rounding.specs.declared.Direction.{Direction}
use Rattle.rounding.specs.declared.Direction.TheVariants.{Down, Up}
use Rattle.decimal.specs.declared.Decimal.{Decimal}
use Rattle.decimal.specs.Range.{added_range}
use Rattle.decimal.specs.Decimal.{all_operands}
use Rattle.std.specs.List.{flat_map}
use Rattle.decimal.proofs.Value.{Value, value_most, fair_value}
use Rattle.decimal.proofs.Value.Value.{absent}
use Rattle.decimal.proofs.Steps.{operands_append, value_operand, value_add}
use Rattle.outcome.specs.Outcome.{number_of}
use Rattle.inputs.specs.declared.Scenario.{Scenario}
use Rattle.inputs.specs.declared.Contaminant.{Contaminant}
use Rattle.inputs.specs.Rules.{most_contaminants}
use Rattle.formulas.specs.Side.{Side}
use Rattle.formulas.specs.Limits.{share_range}
use Rattle.formulas.specs.Steps.{steps_for}
use Rattle.guideline_rules.proofs.Accepted.{Accepted}
use Rattle.guideline_rules.proofs.InRange.{terms_in_range}
use Rattle.sum_rules.specs.Share.{Running, run_sum, start, next, used_of, share_of}
use Rattle.sum_rules.specs.ListCall.{sums_of}
use Rattle.sum_rules.specs.Steps.{share_steps, run_steps, list_steps}
use Rattle.sum_rules.proofs.ShareBounds.{AllAccepted, concentration, share_bounds}
use Rattle.sum_rules.proofs.ShareBounds.AllAccepted.{nobody, also}
use Rattle.sum_rules.proofs.Runs.{next_sum, AcceptedList, accepted_list}
use Rattle.sum_rules.proofs.Verdicts.{scenario_valid}
use Rattle.formulas.proofs.ValueBounds.{target_fair}

-- what is worked out for each record of an accepted list
pub accepted_operands : (s : Scenario) (medium : ℕ) (f : Contaminant → List Decimal) → ((r : Contaminant) → Accepted s medium r → all_operands (f r) ≡ true) →
    (rs : List Contaminant) → AllAccepted s medium rs → all_operands (flat_map f rs) ≡ true
accepted_operands s medium f h [] nobody = refl
accepted_operands s medium f h (r ∷ rs) (also a as') = operands_append (f r) (flat_map f rs) (h r a) (accepted_operands s medium f h rs as')

module _ (dir : Direction) (s : Scenario) (medium : ℕ) (side : Side) where
  -- ---- one record
  share_value : (r : Contaminant) → Accepted s medium r → Value share_range (share_of s medium r dir side)
  share_value r a = fair_value (share_bounds s medium side dir r a)

  share_in_range : (r : Contaminant) → Accepted s medium r → all_operands (share_steps dir s medium side r) ≡ true
  share_in_range r a =
      operands_append (steps_for dir s medium r side) (used_of r dir ∷ share_of s medium r dir side ∷ []) (terms_in_range s medium r a dir side)
      (rw (value_operand (fair_value (concentration s medium side dir r a)), value_operand (share_value r a)))

  -- ---- the running sums: after n records an addition more each
  next_value : (n : ℕ) (t : Running) (r : Contaminant) → Accepted s medium r → n + 1 ≤ most_contaminants → Value (added_range n share_range) (run_sum dir t) →
      Value (added_range (n + 1) share_range) (run_sum dir (next s medium side t r))
  next_value n t r a h f =
      let share = value_most {w = added_range n share_range} (record { low = lit≤ tt; high = omega arith }) (share_value r a) in
      rw (next_sum dir s medium side t r)
      (value_most (record { low = lit≤ tt; high = omega arith }) (value_add dir (record { low = lit≤ tt; high = omega (arith, h) }) f share))

  run_in_range : (rs : List Contaminant) → AllAccepted s medium rs → (n : ℕ) (t : Running) → n + length rs ≤ most_contaminants → Value (added_range n share_range) (run_sum dir t) →
      all_operands (run_steps dir s medium side t rs) ≡ true
  run_in_range [] nobody n t h f = rw (value_operand f)
  run_in_range (r ∷ rs) (also a as') n t h f =
      let after = next s medium side t r in
      operands_append (run_sum dir t ∷ []) (run_steps dir s medium side after rs) (rw (value_operand f))
      (run_in_range rs as' (n + 1) after (omega (arith, h)) (next_value n t r a (omega (arith, h)) f))

start_value : (dir : Direction) → Value (added_range 0 share_range) (run_sum dir start)
start_value Down = absent refl
start_value Up = absent refl

module _ (s : Scenario) (medium : ℕ) (rs : List Contaminant) (z : number_of (sums_of s medium rs) ≡ 0) where
  list : AcceptedList s medium rs
  list = accepted_list s medium rs z

  -- THE LIST
  pub list_in_range : (dir : Direction) (side : Side) → all_operands (list_steps dir s medium side rs) ≡ true
  unfolding list_steps
  list_in_range dir side =
      rw (value_operand (fair_value (target_fair Up s (scenario_valid s medium rs list.all list.some) side)))
      (operands_append (flat_map (share_steps dir s medium side) rs) (run_steps dir s medium side start rs)
      (accepted_operands s medium (share_steps dir s medium side) (share_in_range dir s medium side) rs list.all)
      (run_in_range dir s medium side rs list.all 0 start (omega (arith, list.most)) (start_value dir)))
