-- `presence::tritium`: the row of tritium in water is what the table says.
use Rattle.presence.proofs.KnownValues.{water_tritium_lem}
use Rattle.presence.proofs.tritium.Goals as goal

pub returns : goal.returns
returns c = water_tritium_lem c.args.s c.args.r c.requires c.args.s.inhalation
