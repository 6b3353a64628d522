-- A turn of the loop reads n bytes into the part of the buffer that begins at `done`: they follow those that stand there.
use Rattle.std.proofs.Common.{◌≡◌, ℕ, ◌+◌, ◌-◌, ◌≤◌, List, ◌++◌, rules, length, take, drop, sym, ap, ◌∙◌, subst, le_refl, drop_at, length-take-le}
use Rattle.std.proofs.lemmas.Slice.{take-put_mid_below}
use Rattle.std.proofs.lemmas.List.{take-append-le}
use Rattle.std.specs.Io.KnownBytes.{Consumes}
use Rattle.std.proofs.KnownBytes.{Consumes-trans}
use borrow.Rule.Slice.PartMut.{put_mid, post_of}
use lib.Seq.{take-add}
use Rattle.input_bytes.proofs.read_full.Goals as goal

-- what stands from place a on in the buffer whose part at a is now ys, and its first n bytes
part-front : (a k n : ℕ) (xs ys : List ℕ) → a ≤ length xs → n ≤ length ys → take n (drop a (put_mid a k xs ys)) ≡ take n ys
part-front a k n xs ys within fits =
    let after = post_of a k xs in
    ap (take n) (drop_at (take a xs) (ys ++ after) a (length-take-le a xs within)) ∙ take-append-le n ys after fits

-- what was read before, and then the n bytes of this turn
grown : (a k n : ℕ) (xs ys : List ℕ) → a ≤ length xs → n ≤ length ys → take a xs ++ take n ys ≡ take (a + n) (put_mid a k xs ys)
grown a k n xs ys within fits =
    let front = take-put_mid_below _ _ _ _ _ (le_refl _) within in
    let part = part-front a k n xs ys within fits in
    ap (λ l. take a xs ++ l) (sym part) ∙ ap (λ l. l ++ take n (drop a (put_mid a k xs ys))) (sym front) ∙ sym (take-add a n (put_mid a k xs ys))

pub loop-done-preserved : goal.loop-done-preserved
loop-done-preserved g c =
    let joined = grown c.loop-done.done (length c.loop-done.buf - c.loop-done.done) c.in_ok-n.n c.loop-done.buf c.read.new.buf c.loop-done.invariant.1 c.in_ok-n.ensures.bound.0 in
    (search rules, search rules, subst (Consumes _ _) joined (Consumes-trans _ _ _ _ _ c.loop-done.invariant.2 c.in_ok-n.ensures.bytes.0))
