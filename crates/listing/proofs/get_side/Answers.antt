-- `listing::get_side`: each decimal of the four is the one of its place. Assumes nothing.
use native.Mathlib.Nat.{add_assoc}
use Rattle.fields.specs.Fields.{decimals_at}
use Rattle.listing.specs.Asked.{side_read}
use Rattle.listing.proofs.get_side.Goals as goal

pub returns : goal.returns
unfolding side_read decimals_at
returns c = simp (add_assoc, c.read_all.ensures)
