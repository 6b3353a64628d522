-- `writers::write_built_in`: a number that is no scenario's is refused; of another the header is written.
use Rattle.std.proofs.Common.{refl, sym}
use Rattle.outcome.proofs.Tests.{handed_back}
use Rattle.gv_rules.specs.Exports.{built_in_sent, built_in_put}
use Rattle.writers.proofs.write_built_in.Goals as goal

pub returns-in_err-scenario : goal.returns-in_err-scenario
unfolding built_in_sent built_in_put
returns-in_err-scenario c = rw (sym c.in_err-scenario.ensures) (handed_back c.from_residual.result c.from_residual.ensures.1, refl)

pub returns : goal.returns
unfolding built_in_sent built_in_put
returns c = rw (sym c.in_ok-scenario.ensures) c.write_header.ensures
