-- Four bytes set are the four digits placed.
use Rattle.std.proofs.Common.{refl, arith}
use Rattle.words.proofs.Written.{set_four}
use Rattle.text.specs.Text.{put}
use Rattle.text.proofs.Numbers.{four_are}
use Rattle.text.proofs.Text.put_four.Goals as goal

pub returns : goal.returns
unfolding put
returns c =
    let t = c.args.self.now in
    rw (four_are c.args.n, set_four t.out.now t.at _ _ _ _ (omega arith), c.last_digit.ensures, c.last_digit-2.ensures, c.last_digit-3.ensures, c.last_digit-4.ensures) refl
