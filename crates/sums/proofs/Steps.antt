-- What one record makes of the running sums of both sides, and the state of the list call after it. Assumes nothing.
use mathlib.Core.Path.{◌≡◌, refl, subst}
use mathlib.Core.List.{List, ◌∷◌}
use Prim.Native.Nat.{ℕ, ◌+◌, ◌≤◌}
use native.Mathlib.Omega.{arith}
use Rattle.rounding.specs.declared.Direction.TheVariants.{Down, Up}
use Rattle.rounding.specs.declared.Number.{Number}
use Rattle.rounding.specs.Operations.{sum_of}
use Rattle.std.specs.Prelude.{Ok}
use Rattle.inputs.specs.Earlier.{before_next}
use Rattle.inputs.specs.declared.Contaminant.{Contaminant}
use Rattle.inputs.specs.Rules.{most_contaminants}
use Rattle.factors.specs.Widths.{share_width, sum_width}
use Rattle.formulas.specs.Side.{Risk, Hazard}
use Rattle.formulas.specs.Term.{values_for}
use Rattle.guideline_rules.specs.Pathway.{record_refusal}
use Rattle.terms.specs.declared.pathways.PathwayTerms.{PathwayTerms}
use Rattle.terms.specs.Side.{number_values, TotalSize}
use Rattle.factors.specs.Stands.{Input}
use Rattle.factors.proofs.StandsLaws.{stands_own}
use Rattle.terms.proofs.SameValues.{values_same}
use Rattle.guideline.proofs.Steps.{sides}
use Rattle.shares.specs.declared.plan.Plan.{Plan}
use Rattle.shares.specs.declared.Worked.{Worked}
use Rattle.shares.specs.declared.SideRun.{SideRun}
use Rattle.shares.specs.Runs.{Runs}
use Rattle.sums.specs.declared.State.{State}
use Rattle.shares.specs.Plan.{Workable, WorkedFor, RunSize, Addable, Added}
use Rattle.shares.proofs.Plans.{inputs_of_lem}
use Rattle.sum_rules.specs.ListCall.{walk}
use Rattle.sums.specs.State.{answer_from, SideReady, RunsReady, Moved, Advancing, NextRuns}
use Rattle.sums.proofs.NextSums.{SideTerms, next_ready, next_is}

-- the sum of a side's upper terms
abbrev pub UpperSum : PathwayTerms → Number → Type 0
UpperSum s a = a ≡ sum_of Up (sum_of Up s.first s.second) s.third

-- sums of n records leave room for a share
pub ready_size : {n : ℕ} {x : SideRun} → n ≤ most_contaminants + 1 → SideReady (share_width + n) x → RunSize x
ready_size h k = record {
  lower = record { most = k.lower.most; low = omega (arith, k.lower.low); high = omega (arith, k.lower.high) };
  upper = record { most = k.upper.most; low = omega (arith, k.upper.low); high = omega (arith, k.upper.high) };
}

module _ {p : Plan} {r : Contaminant} {w : Worked} (h : Workable p r) (k : WorkedFor p r w) where
  pub concentration : Input w.c
  concentration = stands_own (k.c Up)

  up_same : number_values Up p.factors k.numbers ≡ values_for Up p.scenario r
  up_same = values_same Up p.scenario r p.ready.factors k.stands

  down_same : number_values Down p.factors k.numbers ≡ values_for Down p.scenario r
  down_same = values_same Down p.scenario r p.ready.factors k.stands

  module _ {a b : Number} (u : UpperSum w.above.risk a) (v : UpperSum w.above.hazard b) where
    risk_side : SideTerms p.scenario p.medium r Risk w.above.risk k.below.risk a w.risk w.c
    risk_side = record {
      accepted = inputs_of_lem h;
      above = record { terms = sides up_same k.upper_terms.risk; sum = u };
      below = record { terms = sides down_same k.lower_terms.risk; sum = k.risk };
      c = k.c;
    }

    hazard_side : SideTerms p.scenario p.medium r Hazard w.above.hazard k.below.hazard b w.hazard w.c
    hazard_side = record {
      accepted = inputs_of_lem h;
      above = record { terms = sides up_same k.upper_terms.hazard; sum = v };
      below = record { terms = sides down_same k.lower_terms.hazard; sum = k.hazard };
      c = k.c;
    }

    pub next_runs : {n : ℕ} {x y : Runs} → n ≤ most_contaminants + 1 → RunsReady (share_width + n) x → Added x w a b y → NextRuns p r n x y
    next_runs {n} {x} {y} l g e =
        let low : share_width ≤ share_width + n = omega arith in
        let high : share_width + n ≤ sum_width = omega (arith, l) in
        let one : share_width + n + 1 ≡ share_width + (n + 1) = omega arith in
        record {
          ready = record {
            risk = subst (λ (m : ℕ). SideReady m y.risk) one (next_ready risk_side low high g.risk e.risk);
            hazard = subst (λ (m : ℕ). SideReady m y.hazard) one (next_ready hazard_side low high g.hazard e.hazard);
          };
          risk = next_is risk_side low high g.risk e.risk;
          hazard = next_is hazard_side low high g.hazard e.hazard;
        }

    pub addable : {n : ℕ} {x : Runs} → n ≤ most_contaminants + 1 → RunsReady (share_width + n) x → TotalSize a → TotalSize b → Addable x w a b
    addable l g ta tb = record {
      c = concentration;
      risk_run = ready_size l g.risk;
      hazard_run = ready_size l g.hazard;
      risk_lower = k.risk_size;
      hazard_lower = k.hazard_size;
      risk_upper = ta;
      hazard_upper = tb;
    }

-- ---- the list call
pub workable : {p : Plan} {t : State} {r : Contaminant} → Advancing p t r → Workable p r
workable h = record { known = h.good.known; contaminant = h.fits }

module _ {p : Plan} {t : State} {r : Contaminant} (h : Advancing p t r) (z : record_refusal p.scenario p.medium t.before r ≡ Ok tt) {y : Runs} (n : NextRuns p r t.place t.runs y) where
  abbrev pub after : State
  after = record { place = t.place + 1; before = before_next t.before r; runs = y }

  same_answer : (rs : List Contaminant) → answer_from p t (r ∷ rs) ≡ answer_from p after rs
  unfolding answer_from walk
  same_answer rs = rw (h.fits, h.rising, z, n.risk, n.hazard) refl

  pub moved_steps : Moved p t r after
  moved_steps = record {
    good = record { known = h.good.known; place = omega (arith, h.place); runs = n.ready };
    same = λ rs l. same_answer rs;
    room = λ rs l. record { room = omega (arith, l.room) };
  }
