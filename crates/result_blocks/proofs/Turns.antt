-- One turn of the writing walk: the sums of a side over the records that are left from this place on stay the same. Assumes nothing.
use mathlib.Core.Path.{◌≡◌, ap}
use mathlib.Core.List.{List}
use Prim.Native.Nat.{ℕ, suc, ◌+◌, ◌-◌, ◌≤◌, ◌<◌}
use native.Mathlib.Omega.{arith}
use Rattle.inputs.specs.declared.Scenario.{Scenario}
use Rattle.formulas.specs.Side.{Side}
use Rattle.sum_rules.specs.Share.{Running, next, run_all}
use Rattle.site_rules.specs.Blocks.{record_at, records_from}

module _ (s : Scenario) (medium : ℕ) (site : List ℕ) where
  pub run_turn : (side : Side) (n k : ℕ) (t : Running) → k < n → run_all s medium side t (records_from site (n - k) (k + 1)) ≡
      run_all s medium side (next s medium side t (record_at site (k + 1))) (records_from site (n - (k + 1)) (k + 1 + 1))
  unfolding records_from
  run_turn side n k t l =
      let e : n - k ≡ suc (n - (k + 1)) = omega arith in
      ap (λ (j : ℕ). run_all s medium side t (records_from site j (k + 1))) e

  pub run_none : (side : Side) (n k : ℕ) (t : Running) → n ≤ k → run_all s medium side t (records_from site (n - k) (k + 1)) ≡ t
  unfolding records_from
  run_none side n k t l =
      let e : n - k ≡ 0 = omega arith in
      ap (λ (j : ℕ). run_all s medium side t (records_from site j (k + 1))) e
