-- What the functions that write the result blocks of a site ask and promise.
use Rattle.std.specs.Prelude.{◌≡◌, false, List, ◌++◌, ℕ, ◌+◌, ◌*◌, ◌≤◌, ◌<◌, length}
use Rattle.block_rules.specs.Rules.{block_size}
use Rattle.inputs.specs.declared.Scenario.{Scenario}
use Rattle.inputs.specs.Rules.{most_contaminants, lacks_factor}
use Rattle.factors.specs.Widths.{share_width}
use Rattle.formulas.specs.Side.{Risk, Hazard}
use Rattle.shares.specs.declared.plan.Plan.{Plan}
use Rattle.shares.specs.Runs.{Runs}
use Rattle.sum_rules.specs.Answer.{Sums}
use Rattle.sum_rules.specs.Share.{start, run_all}
use Rattle.shares.specs.Plan.{running_of}
use Rattle.sums.specs.State.{RunsReady}
use Rattle.block_rules.specs.Layouts.{summary_block}
use Rattle.site_rules.specs.Blocks.{record_at, records_from}
use Rattle.site_rules.specs.Results.{results_to}
use Rattle.site_rules.specs.Passed.{RecordOk}

-- a plan for the records of a site, all of them so
pub record Writing (p : Plan) (site : List ℕ) (count : ℕ) : Type 0 where
  pub known : lacks_factor p.scenario ≡ false
  pub long : block_size * count + block_size ≤ length site
  pub most : count ≤ most_contaminants
  pub records : (k : ℕ) → 1 ≤ k → k < 1 + count → RecordOk p.scenario p.medium (record_at site k)

-- one block of them
pub record WritingOne (p : Plan) (site : List ℕ) (place : ℕ) (x : Runs) : Type 0 where
  pub known : lacks_factor p.scenario ≡ false
  pub long : block_size * place + block_size ≤ length site
  pub most : place ≤ most_contaminants
  pub ok : RecordOk p.scenario p.medium (record_at site place)
  pub runs : RunsReady (share_width + place) x

-- ---- what they promise
-- the sums over all records
pub record AllAdded (p : Plan) (site : List ℕ) (count : ℕ) (y : Runs) : Type 0 where
  pub ready : RunsReady (share_width + (count + 1)) y
  pub risk : running_of y.risk ≡ run_all p.scenario p.medium Risk start (records_from site count 1)
  pub hazard : running_of y.hazard ≡ run_all p.scenario p.medium Hazard start (records_from site count 1)

-- the summary and the result blocks
abbrev pub blocks_of : Scenario → ℕ → List ℕ → ℕ → Sums → List ℕ
blocks_of s medium site count a = summary_block a.risk a.hazard ++ results_to s medium site count
