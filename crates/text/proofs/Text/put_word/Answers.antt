-- The part that is lent comes back as the word.
use Rattle.std.proofs.Common.{◌≡◌, ◌+◌, ◌-◌, length, drop-drop, arith}
use Rattle.words.specs.Bytes.{placed}
use Rattle.text.specs.Text.{put}
use Rattle.text.proofs.Text.put_word.Goals as goal

pub returns : goal.returns
unfolding put placed
returns c =
    let at = c.args.self.now.at in
    let n : at + length c.args.word.now - at ≡ length c.args.word.now = omega arith in
    rw (c.copy_from_slice.ensures.after, n, drop-drop)
