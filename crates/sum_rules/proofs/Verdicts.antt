-- Demand 3 after its first sentence: the sums enclose the exact sum, and the verdict says what is true of it. One theorem for both sides. Assumes nothing.
use mathlib.Core.Path.{◌≡◌, refl, sym, ap, subst, ◌∙◌}
use mathlib.Core.Bool.{Bool, true, false, false≢true, cond, not}
use mathlib.Core.List.{List, [], ◌∷◌, map}
use Prim.Native.Nat.{ℕ, ◌+◌, ◌*◌, ◌^◌, ◌≤◌, ◌<◌}
use native.Mathlib.Nat.{le_of_lt, mul_assoc, mul_right_comm, mul-le-mul_right, mul-lt-mul_of_pos_right, zero-mul}
use native.Mathlib.Omega.{arith}
use lib.Dec.{eqb, leb}
use lib.ListN.{length}
use borrow.Author.Tests.{eqb-true, le-leb, leb-true, leb-false}
use Rattle.rounding.specs.declared.Direction.{Direction}
use Rattle.rounding.specs.declared.Direction.TheVariants.{Down, Up}
use Rattle.rounding.specs.Direction.{opposite, Side as Ordered}
use Rattle.rounding.specs.Within.{Directed}
use Rattle.rounding.specs.Number.{one}
use Rattle.rounding.proofs.Distances.{directed_same, parts}
use Rattle.rounding.proofs.Greatest.{side_scale, side_trans}
use Rattle.decimal.specs.declared.Decimal.{Decimal}
use Rattle.decimal.specs.Decimal.{value_of}
use Rattle.decimal.specs.Fraction.{Fraction, given, times, plus, AtMost}
use Rattle.decimal.specs.Exponent.{raise}
use Rattle.decimal.specs.Lists.{plus_all}
use Rattle.decimal.specs.Range.{Range}
use Rattle.decimal.proofs.Laws.{Operable, working_value, at_most_is}
use Rattle.decimal.proofs.Approximation.{Fair, fair_operable}
use Rattle.decimal.proofs.Approximation.Fair.{none, some}
use Rattle.outcome.specs.Outcome.{number_of}
use Rattle.inputs.specs.declared.Scenario.{Scenario}
use Rattle.inputs.specs.declared.Contaminant.{Contaminant}
use Rattle.inputs.specs.Inputs.{scenario_decimals}
use Rattle.inputs.specs.Valid.{all_valid}
use Rattle.formulas.specs.Limits.{sum_roundings, sum_range}
use Rattle.inputs.proofs.Tests.{Small, and_split, valid_small}
use Rattle.formulas.specs.Side.{Side}
use Rattle.formulas.proofs.TermBounds.{fair_bottom}
use Rattle.formulas.specs.Target.{target_of, working_target}
use Rattle.formulas.proofs.ValueBounds.{target_valid, target_fair}
use Rattle.sum_rules.specs.declared.Verdict.TheVariants.{Within as WithinV, Above, Undecided, NoPathway}
use Rattle.sum_rules.specs.Share.{Running, run_sum, start, exact_used, exact_share, run_all}
use Rattle.sum_rules.specs.Verdict.{verdict_number, verdict_of}
use Rattle.sum_rules.specs.ListCall.{side_sums, sums_of}
use Rattle.sum_rules.specs.Promise.{exact_sum, some_pathway, no_concentration, sent_of, side_sent, more, less, Enclosed, MoreThan, Judged}
use Rattle.sum_rules.proofs.ShareBounds.{AllAccepted, list_bounds}
use Rattle.sum_rules.proofs.ShareBounds.AllAccepted.{nobody, also}
use Rattle.sum_rules.proofs.Runs.{run_start, run_any, AcceptedList, accepted_list}

-- ---- a sum is on its side of the exact sum, within 2/1,000,000 of it: once for both directions
-- 1 - 2/1,000,000 for a sum rounded down, 1 + 2/1,000,000 for one rounded up
abbrev millionths : Direction → ℕ
millionths Down = less.top
millionths Up = more.top

abbrev bound : Direction → Fraction
bound dir = record { top = millionths dir; bottom = 1000000 }

-- p is at most q (down), or at least q (up)
abbrev Beside : Direction → Fraction → Fraction → Type 0
Beside dir p q = Ordered dir (p.top * q.bottom) (q.top * p.bottom)

-- the sum d, rounded in the direction, and the exact sum q
record Close (dir : Direction) (d : Decimal) (q : Fraction) : Type 0 where
  side : Beside dir (given d) q
  near : Beside (opposite dir) (given d) (times q (bound dir))

-- the roundings of a sum are less than 2/1,000,000
bound_core : (dir : Direction) {r v : ℕ} → Directed dir sum_roundings r v → Ordered (opposite dir) (r * 1000000) (v * millionths dir)
bound_core Down f = let h = parts sum_roundings (sum_roundings + 1) tt f.within in record { side = omega arith }
bound_core Up f = let h = parts sum_roundings (sum_roundings + 1) tt f.within in record { side = omega arith }

-- what stands for a fraction is near it, zero included
fair_near : {dir : Direction} {k : ℕ} {w : Range} {d : Decimal} {q : Fraction} → Fair dir k w d q → Directed dir k (value_of d * q.bottom) (q.top * one)
fair_near {dir} {k} {w} {d} {q} (none e t b) =
    let z : value_of d ≡ 0 = ap value_of e ∙ zero-mul (10 ^ 3000) in
    directed_same dir k _ _ (omega (arith, ap (λ (n : ℕ). n * q.bottom) z, ap (λ (n : ℕ). n * one) t))
fair_near (some f) = f.near

-- what stands for a fraction by so many roundings is close to it
close : (dir : Direction) {w : Range} (d : Decimal) (q : Fraction) → Fair dir sum_roundings w d q → Close dir d q
unfolding given
close dir d q f =
    let h = fair_near f in
    record { side = record { side = h.within.low }; near = rw (← (mul_assoc (value_of d) q.bottom 1000000), mul_right_comm q.top (millionths dir) one) (bound_core dir h) }

-- ---- the verdict by its tests
module _ (target : Decimal) {lower upper : Decimal} {q t : Fraction} (l : Close Down lower q) (u : Close Up upper q) (pos : 0 < q.bottom) (same : t ≡ given target) where
  -- an upper sum that is at most the target
  within_true : value_of upper ≤ value_of target → AtMost q t
  unfolding given
  within_true h = rw same (omega (arith, u.side.side, mul-le-mul_right q.bottom h))

  -- a lower sum that is above the target
  above_true : value_of target < value_of lower → MoreThan q t
  unfolding given
  above_true h = rw same (λ k. omega (arith, k, l.side.side, mul-lt-mul_of_pos_right h pos))

  -- a target not below the lower sum, or not above the upper sum, keeps that sum's bound
  near_true : (dir : Direction) {d : Decimal} → Close dir d q → Ordered (opposite dir) (value_of target) (value_of d) → Beside (opposite dir) t (times q (bound dir))
  unfolding given
  near_true dir c h = rw same (side_trans (opposite dir) (side_scale (opposite dir) (q.bottom * 1000000) h) c.near)

  judged_cases : (any a b : Bool) → leb (value_of upper) (value_of target) ≡ a → leb (value_of lower) (value_of target) ≡ b →
      Judged (verdict_number (cond (not any) NoPathway (cond a WithinV (cond (not b) Above Undecided)))) any q t
  judged_cases false a b e f = record {
    none = λ h. refl;
    never_none = λ h. refl;
    within = λ h. absurd (omega (arith, h));
    above = λ h. absurd (omega (arith, h));
    undecided_low = λ h. absurd (omega (arith, h));
    undecided_high = λ h. absurd (omega (arith, h));
  }
  judged_cases true true b e f = record {
    none = λ h. absurd (omega (arith, h));
    never_none = λ h. absurd (false≢true (sym h));
    within = λ h. within_true (leb-true (value_of upper) (value_of target) e);
    above = λ h. absurd (omega (arith, h));
    undecided_low = λ h. absurd (omega (arith, h));
    undecided_high = λ h. absurd (omega (arith, h));
  }
  judged_cases true false false e f = record {
    none = λ h. absurd (omega (arith, h));
    never_none = λ h. absurd (false≢true (sym h));
    within = λ h. absurd (omega (arith, h));
    above = λ h. above_true (leb-false (value_of lower) (value_of target) f);
    undecided_low = λ h. absurd (omega (arith, h));
    undecided_high = λ h. absurd (omega (arith, h));
  }
  judged_cases true false true e f = record {
    none = λ h. absurd (omega (arith, h));
    never_none = λ h. absurd (false≢true (sym h));
    within = λ h. absurd (omega (arith, h));
    above = λ h. absurd (omega (arith, h));
    undecided_low = λ h. (near_true Down l (record { side = leb-true (value_of lower) (value_of target) f })).side;
    undecided_high = λ h. (near_true Up u (record { side = le_of_lt (leb-false (value_of upper) (value_of target) e) })).side;
  }

  judged : (any : Bool) → Operable lower → Operable upper → Operable target → Judged (verdict_number (verdict_of any lower upper target)) any q t
  unfolding verdict_of
  judged any f g h = rw (at_most_is upper target g h, at_most_is lower target f h) (judged_cases any (leb (value_of upper) (value_of target)) (leb (value_of lower) (value_of target)) refl refl)

-- ---- the targets
target_small : (s : Scenario) → all_valid (scenario_decimals s) ≡ true → (side : Side) → Small (target_of s side)
target_small s v side = valid_small (target_of s side) (target_valid s v side)

given_same : (a b : Decimal) → value_of a ≡ value_of b → given a ≡ given b
unfolding given
given_same a b e = ap (λ (n : ℕ). record { top = n; bottom = one }) e

-- ---- concentrations of zero add up to zero
zero_share : (s : Scenario) (medium : ℕ) (side : Side) (r : Contaminant) → r.c.m ≡ 0 → (exact_share s medium side r).top ≡ 0
unfolding exact_share exact_used given
zero_share s medium side r h = rw (h, zero-mul (10 ^ raise r.c.e)) (zero-mul _)

zero_sum : (s : Scenario) (medium : ℕ) (side : Side) (rs : List Contaminant) (p : Fraction) → p.top ≡ 0 → no_concentration rs ≡ true → (plus_all p (map (exact_share s medium side) rs)).top ≡ 0
zero_sum s medium side [] p e h = e
zero_sum s medium side (r ∷ rs) p e h =
    let k = and_split (eqb r.c.m 0) (no_concentration rs) h in
    let z = zero_share s medium side r (eqb-true r.c.m 0 k.0) in
    zero_sum s medium side rs (plus p (exact_share s medium side r)) (rw (e, z, zero-mul (exact_share s medium side r).bottom, zero-mul p.bottom)) k.1

upper_zero : {w : Range} {d : Decimal} {q : Fraction} → Fair Up sum_roundings w d q → q.top ≡ 0 → value_of d ≡ 0
upper_zero (none e t b) h = ap value_of e ∙ zero-mul (10 ^ 3000)
upper_zero (some f) h = absurd (omega (arith, f.top, h))

-- the scenario of a list that has a record
pub scenario_valid : (s : Scenario) (medium : ℕ) (rs : List Contaminant) → AllAccepted s medium rs → 1 ≤ length rs → all_valid (scenario_decimals s) ≡ true
scenario_valid s medium [] nobody h = absurd (omega (arith, h))
scenario_valid s medium (r ∷ rs) (also a as') h = a.scenario

module _ (s : Scenario) (medium : ℕ) (rs : List Contaminant) (h : number_of (sums_of s medium rs) ≡ 0) (side : Side) where
  p : AcceptedList s medium rs
  p = accepted_list s medium rs h

  run : Running
  run = run_all s medium side start rs

  -- the sum of a direction stands for the exact sum
  fair_run : (dir : Direction) → Fair dir sum_roundings sum_range (run_sum dir run) (exact_sum s medium side rs)
  unfolding run
  fair_run dir = subst (λ (d : Decimal). Fair dir sum_roundings sum_range d (exact_sum s medium side rs)) (sym (run_start dir s medium side rs)) (list_bounds s medium side dir rs p.all p.most)

  -- and is within 2/1,000,000 of it
  close_run : (dir : Direction) → Close dir (run_sum dir run) (exact_sum s medium side rs)
  close_run dir = close dir (run_sum dir run) (exact_sum s medium side rs) (fair_run dir)

  side_is : side_sent (sums_of s medium rs) side ≡ sent_of (side_sums s side run)
  unfolding run
  side_is = p.sides side

  any_is : run.any ≡ some_pathway s medium side rs
  unfolding run
  any_is = run_any s medium side rs p.all start

  known : all_valid (scenario_decimals s) ≡ true
  known = scenario_valid s medium rs p.all p.some

  small : Small (target_of s side)
  small = target_small s known side

  target_given : given (target_of s side) ≡ given (working_target s side)
  target_given = given_same (target_of s side) (working_target s side) (sym (working_value (target_of s side) small.digits (omega (arith, small.low))))

  target_operable : Operable (working_target s side)
  target_operable = fair_operable (target_fair Up s known side)

  -- DEMAND 3: the exact sum lies from the lower to the upper sum, and each differs from it by at most 2/1,000,000 of it
  pub sums_enclose : Enclosed (side_sent (sums_of s medium rs) side).lower (side_sent (sums_of s medium rs) side).upper (exact_sum s medium side rs)
  sums_enclose =
      let a = close_run Down in
      let b = close_run Up in
      rw side_is (record { below = a.side.side; above = b.side.side; lower_near = a.near.side; upper_near = b.near.side })

  -- with a pathway and C zero throughout the verdict is "within"
  pub zero_within : some_pathway s medium side rs ≡ true → no_concentration rs ≡ true → (side_sent (sums_of s medium rs) side).verdict ≡ 1
  unfolding verdict_of
  zero_within k z =
      let u = upper_zero (fair_run Up) (zero_sum s medium side rs _ refl z) in
      let e = at_most_is run.upper (working_target s side) (fair_operable (fair_run Up)) target_operable ∙ le-leb (value_of run.upper) (value_of (working_target s side)) (omega (arith, u)) in
      rw (side_is, any_is, k, e)

  -- DEMAND 3: "none" exactly when there is no pathway; "within" only if the exact sum is at most the target, "above" only if it is more,
  -- "undecided" only if the target differs from it by at most 2/1,000,000 of it
  pub verdict_judges : Judged ((side_sent (sums_of s medium rs) side).verdict) (some_pathway s medium side rs) (exact_sum s medium side rs) (given (target_of s side))
  verdict_judges =
      rw (side_is, ← any_is)
      (judged (working_target s side) (close_run Down) (close_run Up) (fair_bottom (fair_run Down)) target_given run.any
      (fair_operable (fair_run Down)) (fair_operable (fair_run Up)) target_operable)
