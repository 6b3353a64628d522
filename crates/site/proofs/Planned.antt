-- A site whose blocks were all found: its records can be written, and what is written is the answer. Assumes nothing.
use mathlib.Core.Path.{◌≡◌, sym, ap₂, ◌∙◌}
use mathlib.Core.List.{List}
use Prim.Native.Nat.{ℕ, ◌≤◌}
use lib.ListN.{length}
use Rattle.inputs.specs.Earlier.{none_before}
use Rattle.std.specs.Prelude.{Ok}
use Rattle.inputs.specs.declared.Scenario.{Scenario}
use Rattle.words.specs.Bytes.{over}
use Rattle.block_rules.specs.declared.Header.{Header}
use Rattle.shares.specs.declared.plan.Plan.{Plan}
use Rattle.sum_rules.specs.Answer.{Sums}
use Rattle.sum_rules.specs.ListCall.{first_refusal}
use Rattle.shares.specs.Plan.{Planned}
use Rattle.sums.proofs.Started.{plan_known}
use Rattle.site_rules.specs.Blocks.{records_from, all_sums}
use Rattle.site_rules.specs.Site.{site_answer}
use Rattle.site_rules.specs.Results.{site_left}
use Rattle.site_rules.proofs.Walk.{check_blocks}
use Rattle.result_blocks.specs.Writing.{Writing, blocks_of}
use Rattle.site_rules.specs.Passed.{Opened}
use Rattle.site.proofs.Answers.{checking, checked_records, answer_sums, left_accepted}
use Rattle.site_rules.proofs.Opened.{count_some, count_most}
use Rattle.site_rules.proofs.SameSums.{first_accepted}

-- of the tests before the first record none holds
pub first_found : {site : List ℕ} {h : Header} → Opened site h → first_refusal h.scenario h.medium h.count ≡ Ok tt
first_found {site} {h} o = first_accepted h.scenario h.medium h.count (count_some o) (count_most o) (checking o).fits (checking o).known

module _ {site : List ℕ} {h : Header} {p : Plan} (o : Opened site h) (z : check_blocks h.scenario h.medium site h.count 1 none_before ≡ Ok tt)
    (b : Planned h.scenario h.medium p) where
  pub writing : Writing p site h.count
  writing = record {
    known = plan_known h.count b (first_found o);
    long = (checking o).long;
    most = count_most o;
    records = λ k l u. rw (b.scenario, b.media) (checked_records o z k l u);
  }

  module _ {a : Sums} (d : List ℕ) {out : List ℕ} (e : Ok a ≡ all_sums p.scenario p.medium (records_from site h.count 1))
      (w : out ≡ over (blocks_of p.scenario p.medium site h.count a) d) (room : length site ≤ length d) where
    sums_are : Ok a ≡ all_sums h.scenario h.medium (records_from site h.count 1)
    sums_are = e ∙ ap₂ (λ (s : Scenario) (m : ℕ). all_sums s m (records_from site h.count 1)) b.scenario b.media

    pub planned_sums : (Ok a ≡ site_answer site (length d)) × (out ≡ site_left site d)
    planned_sums = (
      sums_are ∙ sym (answer_sums o z (length d) room),
      w ∙ ap₂ (λ (s : Scenario) (m : ℕ). over (blocks_of s m site h.count a) d) b.scenario b.media ∙ sym (left_accepted o z d a sums_are room),
    )
