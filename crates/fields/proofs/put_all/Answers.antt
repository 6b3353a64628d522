-- `fields::put_all`: one more field behind those that were written.
use Rattle.std.proofs.Common.{arith}
use Rattle.words.proofs.Written.{placed_none}
use Rattle.fields.specs.Fields.{field_bytes}
use Rattle.fields.proofs.ReadBack.{placed_more}
use Rattle.fields.proofs.put_all.Goals as goal

pub loop-i-init : goal.loop-i-init
unfolding field_bytes
loop-i-init g c = placed_none c.args.out.now c.args.at (omega arith)

pub loop-i-preserved : goal.loop-i-preserved
loop-i-preserved g c =
    let l = c.loop-i in
    placed_more c.args.out.now l.out c.put.new.out c.args.at l.i c.args.ds (omega arith) l.invariant (omega arith) c.put.ensures
