-- One byte set is the byte placed.
use Rattle.std.proofs.Common.{arith}
use Rattle.text.specs.Text.{put}
use Rattle.text.proofs.Puts.{set_one}
use Rattle.text.proofs.Text.put_byte.Goals as goal

pub returns : goal.returns
unfolding put
returns c = rw (set_one c.args.self.now.out.now c.args.self.now.at c.args.b (omega arith))
