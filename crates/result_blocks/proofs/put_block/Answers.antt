-- `result_blocks::put_block`: what is read is the record of the block, and what is written and added is of that record.
use Rattle.std.proofs.Common.{◌≡◌, ℕ, List, ap, subst, ◌∙◌, arith}
use Rattle.inputs.specs.declared.Contaminant.{Contaminant}
use Rattle.guideline_rules.specs.Answer.{Guidelines}
use Rattle.words.specs.Bytes.{over}
use Rattle.block_rules.specs.Layouts.{result_block}
use Rattle.sums.specs.State.{NextRuns}
use Rattle.result_blocks.proofs.OneBlock.{read_is, read_ok, block_is, block_wide, block_printable, guideline_is, shares_fit, one_more}
use Rattle.result_blocks.proofs.put_block.Goals as goal

pub work-w-requires : goal.work-w-requires
work-w-requires c =
    let p = c.requires.0 in
    let read = read_ok c.args.site.now c.args.place p.ok c.get_contaminant-r.ensures in
    record { known = p.known; contaminant = read.fits }

pub columns_of-c-requires : goal.columns_of-c-requires
columns_of-c-requires c =
    let p = c.requires.0 in
    let read = read_ok c.args.site.now c.args.place p.ok c.get_contaminant-r.ensures in
    block_wide p.known read c.work-w.ensures

pub decimals-g-requires : goal.decimals-g-requires
decimals-g-requires c =
    let p = c.requires.0 in
    let read = read_ok c.args.site.now c.args.place p.ok c.get_contaminant-r.ensures in
    block_printable p.known read c.work-w.ensures c.columns_of-c.ensures.0 c.columns_of-c.ensures.1

pub add_shares-requires : goal.add_shares-requires
add_shares-requires c =
    let p = c.requires.0 in
    let read = read_ok c.args.site.now c.args.place p.ok c.get_contaminant-r.ensures in
    let g = c.columns_of-c.ensures in
    shares_fit p.known read c.work-w.ensures g.0 g.1 (omega (arith, p.most)) p.runs

pub returns : goal.returns
returns c =
    let site = c.args.site.now in
    let place = c.args.place in
    let p = c.args.p.now in
    let out = c.args.out.now in
    let pre = c.requires.0 in
    let r = c.get_contaminant-r.result in
    let read = read_ok site place pre.ok c.get_contaminant-r.ensures in
    let k = c.work-w.ensures in
    let u = c.columns_of-c.ensures.0 in
    let v = c.columns_of-c.ensures.1 in
    let q : ◌≡◌ {A = Contaminant} r _ = read_is site place r c.get_contaminant-r.ensures in
    let g = guideline_is pre.known read k u v in
    let m = one_more pre.known read k u v (omega (arith, pre.most)) pre.runs c.add_shares.ensures in (
      subst (λ (x : Contaminant). NextRuns p x place c.args.runs.now c.add_shares.new.runs) q m,
      c.put_result.ensures ∙
          ap (λ (a : Guidelines). over (result_block place r.class r.id a.risk a.hazard) out) c.decimals-g.ensures ∙
          ap (λ (b : List ℕ). over b out) (block_is p.scenario p.medium site place r _ q g),
    )
