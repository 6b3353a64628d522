-- The sums while the result blocks are written: with the records that are left they come to the sums over all records. Assumes nothing.
use mathlib.Core.Path.{◌≡◌, sym, ap, subst, ◌∙◌}
use mathlib.Core.List.{List}
use Prim.Native.Nat.{ℕ, ◌+◌, ◌-◌, ◌≤◌, ◌<◌}
use native.Mathlib.Omega.{arith}
use Rattle.shares.specs.declared.plan.Plan.{Plan}
use Rattle.shares.specs.Runs.{Runs}
use Rattle.factors.specs.Widths.{share_width}
use Rattle.formulas.specs.Side.{Side, Risk, Hazard}
use Rattle.sum_rules.specs.Share.{Running, start, next, run_all}
use Rattle.shares.specs.Plan.{running_of, no_runs}
use Rattle.sums.specs.State.{RunsReady}
use Rattle.sums.proofs.States.{none_ready}
use Rattle.site_rules.specs.Blocks.{record_at, records_from}
use Rattle.sums.specs.State.{NextRuns}
use Rattle.result_blocks.specs.Writing.{AllAdded}
use Rattle.result_blocks.proofs.Turns.{run_turn, run_none}

-- the sums x after the first k records
pub record Along (p : Plan) (site : List ℕ) (count k : ℕ) (x : Runs) : Type 0 where
  pub place : k ≤ count
  pub ready : RunsReady (share_width + (k + 1)) x
  pub risk : run_all p.scenario p.medium Risk (running_of x.risk) (records_from site (count - k) (k + 1)) ≡
      run_all p.scenario p.medium Risk start (records_from site count 1)
  pub hazard : run_all p.scenario p.medium Hazard (running_of x.hazard) (records_from site (count - k) (k + 1)) ≡
      run_all p.scenario p.medium Hazard start (records_from site count 1)

module _ (p : Plan) (site : List ℕ) (count : ℕ) where
  pub along_first : {x : Runs} → x ≡ no_runs → Along p site count 0 x
  along_first e = subst (Along p site count 0) (sym e)
      (record {
        place = omega arith;
        ready = none_ready;
        risk = let z : count - 0 ≡ count = omega arith in ap (λ (n : ℕ). run_all p.scenario p.medium Risk start (records_from site n 1)) z;
        hazard = let z : count - 0 ≡ count = omega arith in ap (λ (n : ℕ). run_all p.scenario p.medium Hazard start (records_from site n 1)) z;
      })

  -- one side of a turn
  side_next : (side : Side) (k : ℕ) → k < count → (t u goal : Running) → u ≡ next p.scenario p.medium side t (record_at site (k + 1)) →
      run_all p.scenario p.medium side t (records_from site (count - k) (k + 1)) ≡ goal →
      run_all p.scenario p.medium side u (records_from site (count - (k + 1)) (k + 1 + 1)) ≡ goal
  side_next side k l t u goal e h =
      ap (λ (v : Running). run_all p.scenario p.medium side v (records_from site (count - (k + 1)) (k + 1 + 1))) e ∙
      sym (run_turn p.scenario p.medium site side count k t l) ∙ h

  pub along_next : (k : ℕ) {x y : Runs} → k < count → Along p site count k x → NextRuns p (record_at site (k + 1)) (k + 1) x y → Along p site count (k + 1) y
  along_next k {x} {y} l h m = record {
    place = omega (arith, l);
    ready = m.ready;
    risk = side_next Risk k l (running_of x.risk) (running_of y.risk) _ m.risk h.risk;
    hazard = side_next Hazard k l (running_of x.hazard) (running_of y.hazard) _ m.hazard h.hazard;
  }

  pub along_last : (k : ℕ) {x : Runs} → k ≡ count → Along p site count k x → AllAdded p site count x
  along_last k {x} e h = record {
    ready = subst (λ (n : ℕ). RunsReady (share_width + (n + 1)) x) e h.ready;
    risk = sym (run_none p.scenario p.medium site Risk count k (running_of x.risk) (omega (arith, e))) ∙ h.risk;
    hazard = sym (run_none p.scenario p.medium site Hazard count k (running_of x.hazard) (omega (arith, e))) ∙ h.hazard;
  }
