-- `c_structs::contaminant_from`: the form is tested first; an id read from bytes is below the bound of a word.
use Rattle.std.proofs.Common.{length, sym, ap, ◌∙◌, arith}
use borrow.Author.Tests.{eq-eqb, ne_eqb}
use Rattle.inputs.specs.declared.Contaminant.{Contaminant}
use Rattle.inputs.specs.Inputs.{contaminant_of, toxicity_of, transfer_of, air_of}
use Rattle.block_rules.specs.Rules.{struct_size}
use Rattle.block_rules.specs.Reading.{contaminant_at}
use Rattle.words.proofs.Words.{word_most}
use Rattle.gv_rules.specs.Exports.{contaminant_form, contaminant_from}
use Rattle.c_structs.proofs.contaminant_from.Goals as goal

pub returns-then-contaminant-ne-STRUCT_SIZE : goal.returns-then-contaminant-ne-STRUCT_SIZE
unfolding contaminant_from contaminant_form contaminant_of toxicity_of transfer_of air_of
returns-then-contaminant-ne-STRUCT_SIZE c = (rw (ne_eqb (length c.args.contaminant.now) struct_size c.if-contaminant-ne-STRUCT_SIZE.true), omega arith)

pub returns-then-not-contaminant_unused : goal.returns-then-not-contaminant_unused
unfolding contaminant_from contaminant_form contaminant_of toxicity_of transfer_of air_of
returns-then-not-contaminant_unused c =
    let unused = sym c.contaminant_unused.ensures ∙ c.if-not-contaminant_unused.true in
    (rw (eq-eqb (length c.args.contaminant.now) struct_size c.if-contaminant-ne-STRUCT_SIZE.false, unused), omega arith)

pub returns : goal.returns
unfolding contaminant_from contaminant_form contaminant_at contaminant_of
returns c =
    let l = c.args.contaminant.now in
    let unused = sym c.contaminant_unused.ensures ∙ c.if-not-contaminant_unused.false in
    let e = c.get_contaminant.ensures in (
      rw (eq-eqb (length l) struct_size c.if-contaminant-ne-STRUCT_SIZE.false, unused) e,
      rw (ap (λ (r : Contaminant). r.id) e) (word_most l (λ i. omega (arith, c.type_inv.contaminant i)) 4),
    )
