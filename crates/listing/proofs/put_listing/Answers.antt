-- A refusal's line alone, or the lines of the result blocks that were written. Assumes nothing.
use Rattle.std.proofs.Common.{length, ap, arith}
use Rattle.outcome.specs.Outcome.{number_of}
use Rattle.site_rules.proofs.RightLength.{right_length}
use Rattle.site_rules.proofs.Opened.{site_long, count_most}
use Rattle.listing.proofs.Listings.{accepted_parts, count_is, text_refused, text_accepted}
use Rattle.listing.proofs.put_listing.Goals as goal

pub returns-in-Err : goal.returns-in-Err
returns-in-Err c = rw (← text_refused c.args.site.now c.in-Err.is c.from.ensures) c.put_refusal.ensures

pub overflow_cast-count : goal.overflow_cast-count
overflow_cast-count c = omega (arith, (right_length (length c.args.site.now) (c.requires.0.written (ap number_of c.in-Ok.is)).opened.right).most)

pub overflow_sub-count : goal.overflow_sub-count
overflow_sub-count c = omega (arith, (right_length (length c.args.site.now) (c.requires.0.written (ap number_of c.in-Ok.is)).opened.right).least)

pub put_accepted-requires : goal.put_accepted-requires
put_accepted-requires c =
    let w = c.requires.0.written (ap number_of c.in-Ok.is) in
    record { long = omega (arith, site_long w.opened, count_is w, w.long); most = omega (arith, count_is w, count_most w.opened); room = c.requires.1 }

pub returns-in-Ok : goal.returns-in-Ok
returns-in-Ok c =
    let w = c.requires.0.written (ap number_of c.in-Ok.is) in
    rw (← text_accepted c.args.site.now c.in-Ok.is, ← accepted_parts c.in-Ok.sums w) c.put_accepted.ensures
