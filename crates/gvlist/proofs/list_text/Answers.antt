-- A text with room for every listing holds this one, all of it.
use Rattle.std.proofs.Common.{rules, sym, length-take-le}
use Rattle.listing.proofs.Listings.{whole}
use Rattle.gvlist.proofs.list_text.Goals as goal

pub returns : goal.returns
returns c =
    let listed = c.list_site-listed.ensures in
    let w = whole _ _ _ listed.1.0 listed.1.1.1 (search rules) in
    record { prefix_len = w.0; whole_prefix = sym (length-take-le _ _ w.0); text_after = w.1 }
