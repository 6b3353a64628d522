-- `list_sums::sums_of_list`: a step takes the first of the records that are left.
use Rattle.std.proofs.Common.{◌≡◌, ℕ, ◌+◌, ◌<◌, List, ◌∷◌, length, slice_index_or, drop, refl, sym, ap, subst, ◌∙◌, add-one}
use Rattle.std.proofs.Math.Seq.{drop-cons}
use Rattle.inputs.specs.declared.Contaminant.{Contaminant}
use Rattle.outcome.proofs.Tests.{handed_back}
use Rattle.sums.specs.State.{Room, answer_from}
use Rattle.sums.proofs.Started.{refused_first, started_good, started_room, started_answer}
use Rattle.list_sums.proofs.sums_of_list.Goals as goal

-- the records from i on: the i-th and those after it
from_here : (ys : List Contaminant) (i : ℕ) (d : Contaminant) → i < length ys → drop i ys ≡ slice_index_or ys i d ∷ drop (i + 1) ys
from_here ys i d l = drop-cons ys i d l ∙ ap (λ (k : ℕ). slice_index_or ys i d ∷ drop k ys) (sym (add-one i))

pub returns-in_err-p : goal.returns-in_err-p
returns-in_err-p c = handed_back c.from_residual.result c.from_residual.ensures.1 ∙ sym (refused_first c.args.s c.args.medium c.args.list.now c.in_err-p.ensures)

pub loop-r-init : goal.loop-r-init
loop-r-init c =
    let ys = c.args.list.now in
    let b = c.in_ok-p.ensures in
    record {
      good = rw c.first-t.ensures (started_good (length ys) b.0 b.1);
      room = rw c.first-t.ensures (started_room (length ys) b.0 b.1 ys refl);
      left = rw c.first-t.ensures (started_answer (length ys) b.0 b.1 ys refl);
    }

pub returns-in_err-t : goal.returns-in_err-t
returns-in_err-t c =
    let ys = c.args.list.now in
    let i = c.loop-r.r-index in
    handed_back c.from_residual-in_err-t.result c.from_residual-in_err-t.ensures.1 ∙ sym (c.in_err-t.ensures.same (drop (i + 1) ys)) ∙
    ap (answer_from c.in_ok-p.p c.loop-r.t) (sym (from_here ys i _ c.loop-r-test.true)) ∙ c.loop-r.invariant.left

pub loop-r-preserved : goal.loop-r-preserved
loop-r-preserved c =
    let ys = c.args.list.now in
    let i = c.loop-r.r-index in
    let e = c.in_ok-t.ensures in
    let here = from_here ys i _ c.loop-r-test.true in
    let room = subst (Room c.loop-r.t) here c.loop-r.invariant.room in
    record {
      good = e.good;
      room = e.room (drop (i + 1) ys) room;
      left = sym (e.same (drop (i + 1) ys) room) ∙ ap (answer_from c.in_ok-p.p c.loop-r.t) (sym here) ∙ c.loop-r.invariant.left;
    }
