-- Each chunk is the next result block, and there is room for its lines. Assumes nothing.
use Rattle.std.proofs.Common.{◌≡◌, ◌+◌, ◌∷◌, ◌++◌, [], length, length-append, length-drop, add-zero, ◌∙◌, arith}
use Rattle.std.proofs.lemmas.List.{take_all}
use Rattle.text.proofs.Puts.{puts, put_put, put_none}
use Rattle.listing.proofs.BlockLines.{blocks_most, blocks_none, blocks_next, next_block, left_more}
use Rattle.listing.proofs.put_places.Goals as goal

pub loop-block-init : goal.loop-block-init
loop-block-init c =
    let e = c.into_iter-block-iterator.ensures.into_iter_gives in
    let t = c.take-block-items.ensures in
    record {
      size = rw (e, t.source) c.chunks_exact.ensures.size;
      count = rw (e, add-zero) t.count;
      left = rw (e, t.source) (c.chunks_exact.ensures.rest ∙ take_all _ _ (simp length-drop (omega arith)));
      so_far = rw (blocks_none, put_none);
    }

pub put_place-requires : goal.put_place-requires
put_place-requires c =
    let v = c.loop-block.invariant in
    let s = c.in-Some.ensures.steps in
    (omega (arith, v.size, s.0.1.1), grind (arith, puts, blocks_most))

pub loop-block-preserved : goal.loop-block-preserved
loop-block-preserved c =
    let v = c.loop-block.invariant in
    let s = c.in-Some.ensures.steps in
    let k = length c.loop-block.yielded in
    let n : length (c.loop-block.yielded ++ c.in-Some.block ∷ []) ≡ k + 1 = length-append _ _ in
    let long : length c.in-Some.block.now ≡ 512 = s.0.1.1 ∙ v.size in
    let next = next_block c.args.results.now k _ _ v.left s.0.1.0 long in
    rw n record {
      size = s.0.0 ∙ v.size;
      count = omega (arith, v.count, s.1);
      left = left_more c.args.results.now k _ _ v.left s.0.1.0 long;
      so_far = rw (c.put_place.ensures, v.so_far, put_put, next, blocks_next);
    }
