-- What the states of the list call keep: the first state, one that stays, and what stops at a record. Assumes nothing.
use mathlib.Core.Path.{◌≡◌, refl}
use mathlib.Core.Bool.{true, false}
use Prim.Native.Nat.{◌+◌, ◌<◌}
use native.Mathlib.Omega.{arith}
use lib.Dec.{leb, lit≤}
use Rattle.outcome.specs.declared.Refusal.{Refusal}
use Rattle.outcome.specs.declared.Refusal.TheVariants.{Field, Order}
use Rattle.std.specs.Prelude.{Result, Err, ⊤}
use Rattle.outcome.specs.declared.Refused.{Refused}
use Rattle.outcome.specs.Outcome.{concerning, located}
use Rattle.outcome.proofs.Tests.{tests_refused}
use Rattle.inputs.specs.declared.Contaminant.{Contaminant}
use Rattle.inputs.specs.Rules.{contaminant_fits}
use Rattle.factors.proofs.StandsLaws.{zero_stands, stands_most}
use Rattle.shares.specs.declared.plan.Plan.{Plan}
use Rattle.sums.specs.declared.State.{State}
use Rattle.factors.specs.Widths.{share_width}
use Rattle.guideline_rules.specs.Pathway.{record_refusal}
use Rattle.shares.specs.Plan.{no_runs}
use Rattle.sum_rules.specs.ListCall.{walk}
use Rattle.sums.specs.State.{answer_from, RunsReady, Good, Moved, Stopped}

-- ---- sums of nothing
pub none_ready : RunsReady (share_width + 1) no_runs
none_ready = record {
  risk = record { lower = stands_most (lit≤ tt) zero_stands; upper = stands_most (lit≤ tt) zero_stands };
  hazard = record { lower = stands_most (lit≤ tt) zero_stands; upper = stands_most (lit≤ tt) zero_stands };
}

-- ---- after the last place a state stays as it is
pub stays_full : {p : Plan} {t : State} {r : Contaminant} → Good p t → 120 < t.place → Moved p t r t
stays_full g l = record { good = g; same = λ rs h. absurd (omega (arith, h.room)); room = λ rs h. absurd (omega (arith, h.room)) }

-- ---- a record that is refused in its own block: 4, 7, and its own tests
module _ {p : Plan} {t : State} {r : Contaminant} {e : Refused} where
  pub stopped_field : contaminant_fits r ≡ false → e ≡ concerning Field t.place → Stopped p t r e
  unfolding answer_from walk
  stopped_field h k = record { same = λ rs. rw (h, k) refl }

  pub stopped_order : contaminant_fits r ≡ true → leb r.id t.before.id ≡ true → e ≡ concerning Order t.place → Stopped p t r e
  unfolding answer_from walk
  stopped_order h k q = record { same = λ rs. rw (h, k, q) refl }

  pub stopped_record : contaminant_fits r ≡ true → leb r.id t.before.id ≡ false → {y : Result ⊤ Refusal} → y ≡ record_refusal p.scenario p.medium t.before r →
      located y t.place ≡ Err e → Stopped p t r e
  unfolding answer_from walk
  stopped_record h k q l = record { same = λ rs. rw (h, k) (tests_refused q t.place _ l) }
