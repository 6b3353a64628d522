-- `gv::gv_guideline`: the word and the bytes are those of the single guideline.
use Rattle.std.proofs.Common.{length, refl, ap, ◌∙◌}
use Rattle.std.specs.Prelude.{Result}
use Rattle.outcome.specs.declared.Refused.{Refused}
use Rattle.guideline_rules.specs.Answer.{Guidelines}
use Rattle.gv_rules.specs.Exports.{with_room, guideline_sent, guideline_word, guideline_put}
use Rattle.gv.proofs.Guidelines.{own_is}
use Rattle.gv.proofs.gv_guideline.Goals as goal

pub returns : goal.returns
unfolding guideline_sent guideline_word
returns c =
    let a = c.args in
    let own = own_is a.kind a.header.now a.contaminant.now c.header_from-h.ensures c.contaminant_from-r.ensures.0 c.single.ensures in
    let sent = c.put_answer-a.ensures.0 ∙ ap (with_room (length a.out.now)) own in (
      rw (c.word_of.ensures, c.number.ensures, c.block.ensures, sent) refl,
      c.put_answer-a.ensures.1 ∙ ap (λ (x : Result Guidelines Refused). guideline_put x a.out.now) sent,
    )
