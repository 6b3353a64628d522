-- `fields::read_all`: one more decimal behind those that were read.
use Rattle.std.proofs.Common.{List, [], ◌∷◌, ◌++◌, length-set, ap₂, sym, ◌∙◌, refl, arith}
use Rattle.std.proofs.lemmas.List.{length-replicate, take_more_set}
use Rattle.decimal.specs.declared.Decimal.{Decimal}
use Rattle.fields.specs.Fields.{decimals_at}
use Rattle.fields.proofs.Fields.{decimals_more}
use Rattle.fields.proofs.read_all.Goals as goal

pub loop-i-init : goal.loop-i-init
unfolding decimals_at
loop-i-init g c = (simp length-replicate, refl)

pub loop-i-preserved : goal.loop-i-preserved
loop-i-preserved g c =
    let l = c.loop-i in (
      omega (arith, l.invariant.0, length-set l.ds l.i c.read.result),
      take_more_set l.ds l.i c.read.result (omega (arith, l.invariant.0))
          ∙ ap₂ (λ (ds : List Decimal) (d : Decimal). ds ++ d ∷ []) l.invariant.1 c.read.ensures
          ∙ sym (decimals_more c.args.s.now c.args.at l.i),
    )
