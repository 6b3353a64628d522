-- The side that a number names in the listing: 0 risk, any other hazard.
use Rattle.std.specs.Prelude.{ℕ, zero, suc}
use Rattle.listing_rules.specs.declared.Side.{Side}
use Rattle.listing_rules.specs.declared.Side.TheVariants.{Risk, Hazard}

abbrev pub side_numbered : ℕ → Side
side_numbered zero = Risk
side_numbered (suc n) = Hazard
