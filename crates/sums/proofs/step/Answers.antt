-- `sums::step`: a state that stays, a refusal of the fields or the order, or the state that `advance` makes.
use Rattle.std.proofs.Common.{sym, ◌∙◌, le-leb}
use borrow.Author.Tests.{lt-leb}
use Rattle.sums.proofs.States.{stays_full, stopped_field, stopped_order}
use Rattle.sums.proofs.step.Goals as goal

pub returns-then-t-gt-MOST_CONTAMINANTS : goal.returns-then-t-gt-MOST_CONTAMINANTS
returns-then-t-gt-MOST_CONTAMINANTS c = stays_full c.requires c.if-t-gt-MOST_CONTAMINANTS.true

pub returns-then-not-contaminant_fits : goal.returns-then-not-contaminant_fits
returns-then-not-contaminant_fits c = stopped_field (sym c.contaminant_fits.ensures ∙ c.if-not-contaminant_fits.true) c.in_block.ensures

pub returns-then-r-t : goal.returns-then-r-t
returns-then-r-t c =
    stopped_order (sym c.contaminant_fits.ensures ∙ c.if-not-contaminant_fits.false) (le-leb c.args.r.id c.args.t.before.id c.if-r-t.true)
    c.in_block-then-r-t.ensures

pub advance-requires : goal.advance-requires
advance-requires c = record {
  good = c.requires;
  place = c.if-t-gt-MOST_CONTAMINANTS.false;
  fits = sym c.contaminant_fits.ensures ∙ c.if-not-contaminant_fits.false;
  rising = lt-leb c.args.r.id c.args.t.before.id c.if-r-t.false;
}
