-- `result_blocks::put_results`: the sums over all records, and the summary before the result blocks.
use Rattle.std.proofs.Common.{Ok, ◌≡◌, ℕ, ◌+◌, ◌*◌, ◌≤◌, List, ◌++◌, length, take, drop, ap, ap₂, ◌∙◌, arith, length-append}
use lib.Seq.{length-take-le}
use Rattle.words.specs.Bytes.{over}
use Rattle.words.proofs.Written.{over_length}
use Rattle.block_rules.specs.Layouts.{summary_block}
use Rattle.sum_rules.specs.ListCall.{accepted}
use Rattle.sum_rules.specs.declared.SideSums.{SideSums}
use Rattle.sums.proofs.Comparisons.{runs_comparable}
use Rattle.shares.specs.declared.plan.Plan.{Plan}
use Rattle.site_rules.specs.Results.{results_to}
use Rattle.site_rules.proofs.OutputBlocks.{results_long}
use Rattle.result_blocks.proofs.Output.{summary_lent}
use Rattle.result_blocks.proofs.put_results.Goals as goal

-- the output after the result blocks, and after the summary
module _ (p : Plan) (site : List ℕ) (count : ℕ) (d : List ℕ) {out : List ℕ} (was : out ≡ over (take 512 d ++ results_to p.scenario p.medium site count) d)
    (room : 512 * count + 512 ≤ length d) where
  abbrev results : List ℕ
  results = results_to p.scenario p.medium site count

  long-out : length out ≡ length d
  long-out =
      let n = length-append (take 512 d) results in
      let t = length-take-le 512 d (omega (arith, room)) in
      let l = results_long p.scenario p.medium site count in
      ap length was ∙ over_length (take 512 d ++ results) d (omega (arith, n, t, l, room))

  written : (risk hazard : SideSums) {y : List ℕ} → y ≡ over (summary_block risk hazard) (take 512 out) → y ++ drop 512 out ≡ over (summary_block risk hazard ++ results) d
  written risk hazard {y} e = summary_lent d out y results risk hazard (omega (arith, room)) long-out was e

pub reported-a-requires : goal.reported-a-requires
reported-a-requires c =
    runs_comparable (omega (arith, c.requires.0.most)) c.put_blocks-runs.ensures.0.ready

pub slice_bounds-put_summary-end : goal.slice_bounds-put_summary-end
slice_bounds-put_summary-end c =
    let a = c.args in
    let n = long-out a.p.now a.site.now a.count a.out.now c.put_blocks-runs.ensures.1 c.requires.1 in
    omega (arith, n, c.requires.1)

pub put_summary-requires : goal.put_summary-requires
put_summary-requires c =
    let a = c.args in
    let n = long-out a.p.now a.site.now a.count a.out.now c.put_blocks-runs.ensures.1 c.requires.1 in
    let q = length-take-le 512 c.put_blocks-runs.new.out (omega (arith, n, c.requires.1)) in
    omega (arith, q)

pub returns : goal.returns
returns c =
    let a = c.args in
    let added = c.put_blocks-runs.ensures.0 in (
      ap Ok c.reported-a.ensures ∙ ap₂ (accepted a.p.now.scenario) added.risk added.hazard,
      written a.p.now a.site.now a.count a.out.now c.put_blocks-runs.ensures.1 c.requires.1 _ _ c.put_summary.ensures,
    )
