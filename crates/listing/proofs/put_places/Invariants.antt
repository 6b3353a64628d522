-- The blocks put so far, and those that are left. Assumes nothing.
use Rattle.std.proofs.Common.{◌≡◌, ◌+◌, ◌*◌, length, drop}
use Rattle.text.specs.Text.{put}
use Rattle.listing.specs.Asked.{block_lines_to}
use Rattle.listing.proofs.put_places.Given as goal

abbrev pub invariant-loop-block : goal.invariant-loop-block
invariant-loop-block l = record {
  size : l.block-iterator.iter.size ≡ 512;
  count : l.block-iterator.n + length l.yielded ≡ l.count;
  left : l.block-iterator.iter.rest.now ≡ drop (512 * (length l.yielded + 1)) l.results;
  so_far : l.text ≡ put l.fn.text (block_lines_to l.results (length l.yielded));
}
