-- `writers::contaminant_fit`: the two tests are the definition's.
use Rattle.block_rules.specs.Answers.{contaminant_fit}
use Rattle.writers.proofs.contaminant_fit.Goals as goal

pub returns : goal.returns
unfolding contaminant_fit
returns c = rw (c.in_file.ensures, c.contaminant_fits.ensures)
