-- A refused writer leaves every byte as it was; an accepted one leaves all but the first 512. Assumes nothing.
use Rattle.std.proofs.Common.{◌≡◌, List, ℕ, length, drop, refl}
use Rattle.std.specs.Prelude.{Result, Ok, Err, ⊤}
use lib.Seq.{drop_at}
use Rattle.words.specs.Bytes.{over}
use Rattle.block_rules.specs.Rules.{block_size}
use Rattle.block_rules.specs.Answers.{left_by}

pub refused_left : {E : Type 0} {x : Result ⊤ E} {e : E} (block out : List ℕ) → x ≡ Err e → left_by x block out ≡ out
unfolding left_by
refused_left block out h = rw h refl

pub later_left : {E : Type 0} {x : Result ⊤ E} (block out : List ℕ) → x ≡ Ok tt → length block ≡ block_size → drop block_size (left_by x block out) ≡ drop block_size out
unfolding left_by over
later_left block out z e = rw (z, drop_at block (drop (length block) out) block_size e, e)
