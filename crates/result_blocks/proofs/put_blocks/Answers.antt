-- `result_blocks::put_blocks`: each part of the output comes back with its block, and the sums go one record on.
use Rattle.std.proofs.Common.{◌≡◌, ℕ, ◌+◌, ◌-◌, ◌*◌, [], ◌++◌, length, take, drop, refl, ap, ◌∙◌, arith, length-drop}
use lib.Seq.{length-take-le}
use Rattle.words.specs.Bytes.{over}
use Rattle.site_rules.specs.Results.{results_to}
use Rattle.result_blocks.proofs.Output.{none_written, out_long, block_lent}
use Rattle.result_blocks.proofs.Running.{along_first, along_next, along_last}
use Rattle.result_blocks.proofs.put_blocks.Goals as goal

pub loop-k-init : goal.loop-k-init
loop-k-init c =
    let a = c.args in record {
      sums = along_first a.p.now a.site.now a.count c.no_runs-runs.ensures;
      written = none_written a.p.now.scenario a.p.now.medium a.site.now a.out.now (omega (arith, c.requires.1));
    }

pub slice_bounds-put_block-end : goal.slice_bounds-put_block-end
slice_bounds-put_block-end c =
    let a = c.args in
    let m : length c.loop-k.out ≡ length a.out.now =
    out_long a.p.now.scenario a.p.now.medium a.site.now a.out.now c.loop-k.out [] c.loop-k.k
    (omega (arith, c.loop-k-test.true, c.requires.1)) c.loop-k.invariant.written in
    omega (arith, m, c.requires.1, c.loop-k-test.true)

pub put_block-requires : goal.put_block-requires
put_block-requires c =
    let p = c.requires.0 in
    let k = c.loop-k.k in
    let below = c.loop-k-test.true in
    let args = c.args in
    let m : length c.loop-k.out ≡ length args.out.now =
    out_long args.p.now.scenario args.p.now.medium args.site.now args.out.now c.loop-k.out [] k (omega (arith, below, c.requires.1)) c.loop-k.invariant.written in
    let a : ℕ = 512 * (k + 1) in
    let rest = drop a c.loop-k.out in
    let q : length (take (a + 512 - a) rest) ≡ a + 512 - a = length-take-le (a + 512 - a) rest (simp length-drop (omega (arith, m, c.requires.1, below))) in (
      record {
        known = p.known;
        long = omega (arith, p.long, below);
        most = omega (arith, p.most, below);
        ok = p.records (k + 1) (omega arith) (omega (arith, below));
        runs = c.loop-k.invariant.sums.ready;
      },
      omega (arith, q),
    )

pub loop-k-preserved : goal.loop-k-preserved
loop-k-preserved c =
    let a = c.args in
    let site = a.site.now in
    let k = c.loop-k.k in
    let below = c.loop-k-test.true in record {
      sums = along_next a.p.now site a.count k below c.loop-k.invariant.sums c.put_block.ensures.0;
      written = block_lent a.p.now.scenario a.p.now.medium site a.out.now c.loop-k.out c.put_block.new.out k
          (omega (arith, below, c.requires.1)) c.loop-k.invariant.written (512 * (k + 1)) (512 * (k + 1) + 512) refl refl c.put_block.ensures.1;
    }

pub returns : goal.returns
returns c =
    let a = c.args in
    let site = a.site.now in
    let out = a.out.now in
    let e : c.loop-k.k ≡ a.count = omega (arith, c.loop-k.invariant.sums.place, c.loop-k-test.false) in (
      along_last a.p.now site a.count c.loop-k.k e c.loop-k.invariant.sums,
      c.loop-k.invariant.written ∙ ap (λ (k : ℕ). over (take 512 out ++ results_to a.p.now.scenario a.p.now.medium site k) out) e,
    )
