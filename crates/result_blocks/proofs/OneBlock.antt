-- One block of the writing walk: its columns are the guidelines of the single guideline, and its shares make the next sums. Assumes nothing.
use mathlib.Core.Path.{◌≡◌, sym, ap, subst, ◌∙◌}
use mathlib.Core.List.{List}
use Prim.Native.Nat.{ℕ, ◌+◌, ◌*◌, ◌-◌, ◌≤◌}
use lib.ListN.{take, drop}
use Rattle.std.specs.Prelude.{Result, Ok, false}
use Rattle.outcome.specs.declared.Refused.{Refused}
use Rattle.inputs.specs.declared.Scenario.{Scenario}
use Rattle.inputs.specs.declared.Contaminant.{Contaminant}
use Rattle.block_rules.specs.Reading.{contaminant_at}
use Rattle.blocks.proofs.Answers.{contaminant_here}
use Rattle.guideline_rules.specs.Answer.{Guidelines}
use Rattle.block_rules.specs.Layouts.{result_block}
use Rattle.terms.specs.Side.{Wide, WideSide}
use Rattle.guideline.specs.declared.Column.{Column}
use Rattle.guideline.specs.Column.{ColumnFor, PrintableColumn, guidelines_from}
use Rattle.inputs.specs.Rules.{scenario_refusal, most_contaminants, lacks_factor}
use Rattle.factors.specs.Widths.{share_width}
use Rattle.guideline_rules.specs.Guideline.{guidelines_sent, guideline_of}
use Rattle.guideline.proofs.Steps.{TermsOf, ColumnsOf, wide, both_printable, both_are}
use Rattle.shares.specs.declared.plan.Plan.{Plan}
use Rattle.shares.specs.declared.Worked.{Worked}
use Rattle.shares.specs.Runs.{Runs}
use Rattle.shares.specs.Plan.{Workable, WorkedFor, Addable, Added}
use Rattle.sums.specs.State.{RunsReady}
use Rattle.shares.proofs.Plans.{inputs_of_lem}
use Rattle.sums.proofs.Steps.{next_runs, addable}
use Rattle.site_rules.specs.Blocks.{block_at, record_at}
use Rattle.site_rules.specs.Results.{result_at}
use Rattle.site_rules.specs.Passed.{RecordOk}
use Rattle.sums.specs.State.{NextRuns}

-- the contaminant that is read from the middle of a block is its record
pub read_is : (site : List ℕ) (place : ℕ) (r : Contaminant) →
    r ≡ contaminant_at (take (512 * place + 508 - (512 * place + 4)) (drop (512 * place + 4) site)) 4 → r ≡ record_at site place
unfolding record_at block_at
read_is site place r e = contaminant_here site (512 * place) r e

pub read_ok : {s : Scenario} {medium : ℕ} (site : List ℕ) (place : ℕ) {r : Contaminant} → RecordOk s medium (record_at site place) →
    r ≡ contaminant_at (take (512 * place + 508 - (512 * place + 4)) (drop (512 * place + 4) site)) 4 → RecordOk s medium r
read_ok {s} {medium} site place {r} ok e = subst (RecordOk s medium) (sym (read_is site place r e)) ok

-- the result block of a place, from its guidelines
pub block_is : (s : Scenario) (medium : ℕ) (site : List ℕ) (place : ℕ) (r : Contaminant) (a : Guidelines) → r ≡ record_at site place →
    guideline_of s medium r ≡ Ok a → result_block place r.class r.id a.risk a.hazard ≡ result_at s medium site place
unfolding result_at
block_is s medium site place r a e g =
    ap (λ (z : Result Guidelines Refused). result_block place r.class r.id (guidelines_sent z).risk (guidelines_sent z).hazard) (sym g) ∙
    ap (λ (q : Contaminant). result_block place q.class q.id (guidelines_sent (guideline_of s medium q)).risk (guidelines_sent (guideline_of s medium q)).hazard) e

module _ {p : Plan} {r : Contaminant} {w : Worked} (known : lacks_factor p.scenario ≡ false) (ok : RecordOk p.scenario p.medium r) (k : WorkedFor p r w) where
  can : Workable p r
  can = record { known = known; contaminant = ok.fits }

  terms_of_lem : TermsOf p.scenario p.medium r p.factors k.numbers w.above
  terms_of_lem = record { inputs = inputs_of_lem can; factors = p.ready.factors; numbers = k.stands; terms = k.upper_terms }

  pub block_wide : (Wide p.factors.targets.tr × WideSide w.above.risk) × (Wide p.factors.targets.thi × WideSide w.above.hazard)
  block_wide = wide terms_of_lem

  module _ {x y : Column} (u : ColumnFor p.factors.targets.tr w.above.risk x) (v : ColumnFor p.factors.targets.thi w.above.hazard y) where
    columns_of : ColumnsOf p.scenario p.medium r p.factors k.numbers w.above x y
    columns_of = record { terms = terms_of_lem; risk = u; hazard = v }

    pub block_printable : PrintableColumn x × PrintableColumn y
    block_printable = both_printable columns_of

    -- the decimals of the block are those of the single guideline
    pub guideline_is : guideline_of p.scenario p.medium r ≡ Ok (guidelines_from (record { risk = x; hazard = y }) p.medium r)
    unfolding guideline_of scenario_refusal
    guideline_is = rw (p.ready.fits, known, ok.fits, ok.passed) (ap Ok (sym (both_are columns_of)))

    -- and its shares can be added
    pub shares_fit : {n : ℕ} {z : Runs} → n ≤ most_contaminants + 1 → RunsReady (share_width + n) z → Addable z w x.sum y.sum
    shares_fit l g = addable can k u.sum v.sum l g u.size v.size

    pub one_more : {n : ℕ} {z z' : Runs} → n ≤ most_contaminants + 1 → RunsReady (share_width + n) z → Added z w x.sum y.sum z' → NextRuns p r n z z'
    one_more l g e = next_runs can k u.sum v.sum l g e
