-- `fields::put`: the word of m, and behind it the word of e's code: two bytes and two zeros.
use Rattle.std.proofs.Common.{◌≡◌, ℕ, ◌+◌, List, ◌++◌, ap, ◌∙◌, arith, rules}
use mir.Syntax.{w32}
use mir.Facts.{to_z-of_z}
use Rattle.words.specs.Bytes.{placed, le4}
use Rattle.words.proofs.Words.{le4_length}
use Rattle.words.proofs.Written.{Placed, placed_next}
use Rattle.fields.specs.Fields.{code_of, field}
use Rattle.fields.proofs.Exponents.{code_lt, le4_code}
use Rattle.fields.proofs.put.Goals as goal

pub returns : goal.returns
unfolding field
returns c =
    let l = c.args.out.now in
    let at = c.args.at in
    let d = c.args.d in
    let k = c.code.result in
    let e : k ≡ code_of d.e = c.code.ensures ∙ ap code_of (to_z-of_z {w = w32} {z = d.e} (search rules)) in
    let w = ap le4 e ∙ le4_code (code_of d.e) (code_lt d.e) in
    let m : Placed c.put.new.out l (le4 d.m) at (at + 4) = record { now = c.put.ensures; end = ap (λ (n : ℕ). at + n) (le4_length d.m); room = omega arith } in
    (placed_next c.put-2.new.out (le4 k) (at + 8) m c.put-2.ensures (omega (arith, le4_length k))).now
    ∙ ap (λ (t : List ℕ). placed l at (le4 d.m ++ t)) w
