-- `block_output::put_first_words`: each word behind the one before.
use Rattle.std.proofs.Common.{arith}
use Rattle.words.specs.Bytes.{le4}
use Rattle.words.proofs.Words.{le4_length}
use Rattle.words.proofs.Written.{Placed, placed_next}
use Rattle.block_output.proofs.put_first_words.Goals as goal

pub returns : goal.returns
returns c =
    let x = c.args in
    let one : Placed c.put.new.out x.out.now (le4 x.kind) 0 4 = record { now = c.put.ensures; end = omega (arith, le4_length x.kind); room = omega arith } in
    let two = placed_next c.put-2.new.out (le4 x.place) 8 one c.put-2.ensures (omega (arith, le4_length x.place)) in
    let three = placed_next c.put-3.new.out (le4 x.a) 12 two c.put-3.ensures (omega (arith, le4_length x.a)) in
    (placed_next c.put-4.new.out (le4 x.b) 16 three c.put-4.ensures (omega (arith, le4_length x.b))).now
