-- What the list of decimals on the way to the sums of a list holds: the share of each record, every running sum, the reported sums; and the
-- range of these. Assumes nothing.
use mathlib.Core.Path.{◌≡◌, refl, sym, ap, subst, ◌∙◌}
use mathlib.Core.List.{List, [], ◌∷◌, ◌++◌, append-nil}
use Prim.Native.Nat.{ℕ}
use native.Mathlib.Omega.{arith}
use lib.Dec.{lit<}
use Rattle.rounding.specs.declared.Direction.{Direction}
use Rattle.rounding.specs.declared.Direction.TheVariants.{Down, Up}
use Rattle.decimal.specs.declared.Decimal.{Decimal}
use Rattle.std.specs.List.{Contains, flat_map}
use Rattle.std.proofs.lemmas.List.Elements.{Contains-append_left, Contains-append_right}
use Rattle.decimal.proofs.Value.{Value, fair_value}
use Rattle.decimal.proofs.Steps.{flat_contains}
use Rattle.outcome.specs.Outcome.{number_of}
use Rattle.inputs.specs.declared.Scenario.{Scenario}
use Rattle.inputs.specs.declared.Contaminant.{Contaminant}
use Rattle.formulas.specs.Side.{Side}
use Rattle.formulas.specs.Target.{working_target}
use Rattle.formulas.specs.Limits.{sum_range}
use Rattle.formulas.specs.Steps.{steps_for}
use Rattle.sum_rules.specs.Share.{Running, run_sum, start, next, run_all, used_of, share_of}
use Rattle.sum_rules.specs.ListCall.{side_sums, sums_of}
use Rattle.sum_rules.specs.Promise.{sent_of, side_sent}
use Rattle.sum_rules.specs.Steps.{share_steps, run_steps, reported_sum, list_steps}
use Rattle.sum_rules.proofs.ShareBounds.{list_bounds}
use Rattle.sum_rules.proofs.Runs.{run_start, AcceptedList, accepted_list}

module _ (dir : Direction) (s : Scenario) (medium : ℕ) (side : Side) where
  -- ---- every running sum is on the way: that over the first records, for every part of a list
  run_among : (xs ys : List Contaminant) (t : Running) → Contains (run_steps dir s medium side t (xs ++ ys)) (run_sum dir (run_all s medium side t xs))
  run_among [] [] t = (0, omega arith, refl)
  run_among [] (y ∷ ys) t = (0, omega arith, refl)
  run_among (x ∷ xs) ys t =
      let rest = next s medium side t x in
      Contains-append_right (run_sum dir t ∷ []) (run_steps dir s medium side rest (xs ++ ys)) (run_sum dir (run_all s medium side rest xs)) (run_among xs ys rest)

  -- the running sums stand behind the target and the shares
  behind_shares : (rs : List Contaminant) (d : Decimal) → Contains (run_steps dir s medium side start rs) d → Contains (list_steps dir s medium side rs) d
  unfolding list_steps
  behind_shares rs d a = Contains-append_right (working_target s side ∷ flat_map (share_steps dir s medium side) rs) (run_steps dir s medium side start rs) d a

-- EVERY SHARE is on the way, with what is on the way to its terms
module _ (dir : Direction) (s : Scenario) (medium : ℕ) (side : Side) (rs : List Contaminant) (r : Contaminant) (at : Contains rs r) where
  among_shares : (d : Decimal) → Contains (share_steps dir s medium side r) d → Contains (list_steps dir s medium side rs) d
  unfolding list_steps
  among_shares d h =
      let shares = flat_map (share_steps dir s medium side) rs in
      let runs = run_steps dir s medium side start rs in
      Contains-append_right (working_target s side ∷ []) (shares ++ runs) d
      (Contains-append_left shares runs d (flat_contains (share_steps dir s medium side) rs r d at h))

  pub steps_on_the_way : (d : Decimal) → Contains (steps_for dir s medium r side) d → Contains (list_steps dir s medium side rs) d
  steps_on_the_way d h =
      among_shares d (Contains-append_left (steps_for dir s medium r side) (used_of r dir ∷ share_of s medium r dir side ∷ []) d h)

  pub share_on_the_way : Contains (list_steps dir s medium side rs) (share_of s medium r dir side)
  share_on_the_way =
      let own = used_of r dir ∷ share_of s medium r dir side ∷ [] in
      among_shares (share_of s medium r dir side) (Contains-append_right (steps_for dir s medium r side) own (share_of s medium r dir side) (1, lit< tt, refl))

-- EVERY RUNNING SUM is on the way: that over the first records, for every part of the list
pub sum_on_the_way : (dir : Direction) (s : Scenario) (medium : ℕ) (side : Side) (xs ys : List Contaminant) →
    Contains (list_steps dir s medium side (xs ++ ys)) (run_sum dir (run_all s medium side start xs))
sum_on_the_way dir s medium side xs ys = behind_shares dir s medium side (xs ++ ys) (run_sum dir (run_all s medium side start xs)) (run_among dir s medium side xs ys start)

reported_is : (dir : Direction) (s : Scenario) (side : Side) (t : Running) → reported_sum dir (sent_of (side_sums s side t)) ≡ run_sum dir t
reported_is Down s side t = refl
reported_is Up s side t = refl

module _ (s : Scenario) (medium : ℕ) (rs : List Contaminant) (z : number_of (sums_of s medium rs) ≡ 0) where
  list : AcceptedList s medium rs
  list = accepted_list s medium rs z

  module _ (dir : Direction) (side : Side) where
    reported : reported_sum dir (side_sent (sums_of s medium rs) side) ≡ run_sum dir (run_all s medium side start rs)
    reported = ap (reported_sum dir) (list.sides side) ∙ reported_is dir s side (run_all s medium side start rs)

    -- THE REPORTED SUMS are on the way
    pub sums_reported : Contains (list_steps dir s medium side rs) (reported_sum dir (side_sent (sums_of s medium rs) side))
    sums_reported =
        subst (Contains (list_steps dir s medium side rs)) (sym reported)
        (subst (λ (l : List Contaminant). Contains (list_steps dir s medium side l) (run_sum dir (run_all s medium side start rs))) (append-nil rs)
        (sum_on_the_way dir s medium side rs []))

    -- each is zero, or nine digits with an e from -393 to 544
    pub sums_ranged : Value sum_range (reported_sum dir (side_sent (sums_of s medium rs) side))
    sums_ranged = subst (Value sum_range) (sym (reported ∙ run_start dir s medium side rs)) (fair_value (list_bounds s medium side dir rs list.all list.most))
