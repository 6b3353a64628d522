-- `c_structs::header_from`: the kind and the form are tested first.
use Rattle.std.proofs.Common.{length, sym, ap, ◌∙◌}
use borrow.Author.Tests.{eq-eqb, ne_eqb}
use Rattle.inputs.specs.declared.kind.Inhalation.{Inhalation}
use Rattle.inputs.specs.Inputs.{scenario_of, exposure_of, contact_of, targets_of, house_of, age_of, ages_of}
use Rattle.block_rules.specs.Reading.{header_at}
use Rattle.block_rules.specs.Rules.{struct_size}
use Rattle.gv_rules.specs.Exports.{header_form, header_from}
use Rattle.c_structs.proofs.header_from.Goals as goal

pub returns-then-not-is_header_kind : goal.returns-then-not-is_header_kind
unfolding header_from header_form scenario_of exposure_of contact_of targets_of house_of age_of ages_of
returns-then-not-is_header_kind c = rw (sym c.is_header_kind.ensures ∙ c.if-not-is_header_kind.true)

pub returns-then-header-ne-STRUCT_SIZE : goal.returns-then-header-ne-STRUCT_SIZE
unfolding header_from header_form scenario_of exposure_of contact_of targets_of house_of age_of ages_of
returns-then-header-ne-STRUCT_SIZE c = rw (sym c.is_header_kind.ensures ∙ c.if-not-is_header_kind.false, ne_eqb (length c.args.header.now) struct_size c.if-header-ne-STRUCT_SIZE.true)

pub returns-then-not-header_unused : goal.returns-then-not-header_unused
unfolding header_from header_form scenario_of exposure_of contact_of targets_of house_of age_of ages_of
returns-then-not-header_unused c =
    let kind = sym c.is_header_kind.ensures ∙ c.if-not-is_header_kind.false in
    rw (kind, eq-eqb (length c.args.header.now) struct_size c.if-header-ne-STRUCT_SIZE.false, sym c.header_unused.ensures ∙ c.if-not-header_unused.true)

pub returns : goal.returns
unfolding header_from header_form
returns c =
    let kind = sym c.is_header_kind.ensures ∙ c.if-not-is_header_kind.false in
    rw (kind, eq-eqb (length c.args.header.now) struct_size c.if-header-ne-STRUCT_SIZE.false, sym c.header_unused.ensures ∙ c.if-not-header_unused.false)
    (c.get_header.ensures ∙ ap (λ (i : Inhalation). header_at i c.args.header.now 0) c.of.ensures)
